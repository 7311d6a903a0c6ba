-- Request 2026-03. "A shift belongs to the day it begins": a week term holds exactly in the shifts that begin on a weekday from a to b. And what
-- the request left as it was: document 01's sentence before it, "The weekday is that of the moment", stands in this file alone.
-- Assumes nothing.
use mathlib.Core.Path.{◌≡◌, refl, ap}
use mathlib.Core.Bool.{Bool, true, false, ◌&&◌}
use mathlib.Core.Logic.{◌↔◌, ◌⊎◌, inl, inr, ⊎_elim}
use Prim.Native.Nat.{ℕ, ◌+◌, ◌*◌, ◌<◌, ◌≤◌}
use native.Mathlib.Nat.{eq-or-lt_of_le}
use native.Mathlib.Omega.{arith}
use borrow.Author.Tests.{le-leb}
use lib.Dec.{leb}
use Rattle.calendar.specs.Days.{day_of, minute_of, weekday_of}
use Rattle.calendar.specs.Terms.{from_to, minute_from_to, minute_at, counted_weekday, at_moment, term_in_range, term_sound, term_holds}
use Rattle.calendar.specs.Statements.{FromTo, MinuteFromTo, WeekdayBefore, CountedWeekday, InWeek, InShift, RangedTerm, AcceptedTerm}
use Rattle.calendar.specs.declared.terms.Term.TheVariants.{Week}
use Rattle.calendar.proofs.Weekdays.{weekday-range, weekday-before-means, weekday-before-next}
use Rattle.calendar.proofs.Meaning.{counted-weekday-means}
use Rattle.calendar.proofs.TermMeaning.{term-range-means, week-means}

-- ---- the day it begins

-- The weekday before today's is that of any day whose next has today's.
day-before-means : (day today : ℕ) → weekday_of (day + 1) ≡ weekday_of today → WeekdayBefore (weekday_of today) (weekday_of day)
day-before-means day today next =
    (weekday-before-means (weekday_of today) (weekday_of day) (weekday-range today).0).0 (rw next at (weekday-before-next day))

-- Over minutes of the day: h below 1440, k up to it, and not the same.
module _ (a b h k t : ℕ) (starts : h ≤ 1439) (ends : k ≤ 1440) (differ : h ≡ k → ⊥) where
  abbrev Counted : ℕ → Type 0
  Counted counted = CountedWeekday h k (minute_of t) (weekday_of (day_of t)) counted

  -- the shift that began on the day of t, and the one that began on the day before
  began-today : (counted : ℕ) → counted ≡ weekday_of (day_of t) → FromTo a b counted → h ≤ minute_of t → ((h < k) × (minute_of t < k)) ⊎ (k < h) → InShift a b h k t
  began-today counted own inside begun end =
      let same : counted ≡ weekday_of (7 + day_of t) = omega (arith, own) in (
        7 + day_of t,
        rw same at inside,
        omega (arith, begun),
        ⊎_elim (λ within. inl (within.0, omega (arith, within.1))) (λ past. inr (past, omega (arith, past))) end,
      )

  began-before : (counted : ℕ) → WeekdayBefore (weekday_of (day_of t)) counted → FromTo a b counted → k < h → minute_of t < k → InShift a b h k t
  began-before counted before inside past early =
      let same : counted ≡ weekday_of (6 + day_of t) = ⊎_elim (λ monday. omega (arith, monday.0, monday.1)) (λ later. omega (arith, later.1)) before in
      (6 + day_of t, rw same at inside, omega (arith, starts), inr (past, omega (arith, early)))

  in_shift : (counted : ℕ) → Counted counted → FromTo a b counted → MinuteFromTo h k (minute_of t) → InShift a b h k t
  in_shift counted (inl day) inside minutes = began-before counted day.2 inside day.0 day.1
  in_shift counted (inr day) inside (inl minutes) =
      began-today counted day.1 inside minutes.1 (inl (omega (arith, minutes.0, differ), minutes.2))
  in_shift counted (inr day) inside (inr minutes) =
      let not-early : minute_of t < k → ⊥ = λ early. ⊎_elim (λ ordered. omega (arith, ordered, minutes.0)) (λ late. omega (arith, late, early)) day.0 in
      began-today counted day.1 inside (⊎_elim (λ begun. begun) (λ early. absurd (not-early early)) minutes.1) (inr minutes.0)

  -- where a shift began on the day of t, t counts for that day; where it began earlier, for the day before
  of_shift : InShift a b h k t → InWeek a b h k (weekday_of (day_of t)) (minute_of t)
  of_shift (day, inside, begun, inl end) =
      let same : day ≡ 7 + day_of t = omega (arith, begun, end.1, ends) in (
        (weekday_of day, inr (inl (omega (arith, end.0)), omega (arith, same)), inside),
        inl (omega (arith, end.0), omega (arith, begun, same), omega (arith, end.1, same)),
      )
  of_shift (day, inside, begun, inr end) = ⊎_elim on-day day-after (eq-or-lt_of_le (omega (arith, begun)))
    where
      on-day : day ≡ 7 + day_of t → InWeek a b h k (weekday_of (day_of t)) (minute_of t)
      on-day same =
          let from : h ≤ minute_of t = omega (arith, begun, same) in
          ((weekday_of day, inr (inr (omega (arith, from, end.0)), omega (arith, same)), inside), inr (end.0, inl from))

      day-after : day < 7 + day_of t → InWeek a b h k (weekday_of (day_of t)) (minute_of t)
      day-after earlier =
          let next : day + 1 ≡ 7 + day_of t = omega (arith, earlier, end.1, ends) in
          let early : minute_of t < k = omega (arith, end.1, next) in
          ((weekday_of day, inl (end.0, early, day-before-means day (day_of t) (omega (arith, next))), inside), inr (end.0, inr early))

-- A week term holds exactly where it is accepted and the moment is in a shift that begins on a weekday from a to b: h and k as hours and minutes.
pub shift-means : (a b hour minute end_hour end_minute t : ℕ) → minute ≤ 59 → end_minute ≤ 59 →
    (term_holds (Week a b (hour * 100 + minute) (end_hour * 100 + end_minute)) t ≡ true) ↔
    (AcceptedTerm (Week a b (hour * 100 + minute) (end_hour * 100 + end_minute)) × (t ≤ 3155759999) ×
    InShift a b (hour * 60 + minute) (end_hour * 60 + end_minute) t)
shift-means a b hour minute end_hour end_minute t short end_short =
    let means = week-means a b hour minute end_hour end_minute t short end_short in
    (λ e. let parts = means.0 e in (parts.0, parts.1, (shifts parts.0).0 parts.2), λ found. means.1 (found.0, found.1, (shifts found.0).1 found.2))
  where
    shifts : AcceptedTerm (Week a b (hour * 100 + minute) (end_hour * 100 + end_minute)) →
        InWeek a b (hour * 60 + minute) (end_hour * 60 + end_minute) (weekday_of (day_of t)) (minute_of t) ↔ InShift a b (hour * 60 + minute) (end_hour * 60 + end_minute) t
    shifts accepted =
        let starts : hour * 60 + minute ≤ 1439 = omega (arith, accepted.0.1.0.0.1, short) in
        let ends : end_hour * 60 + end_minute ≤ 1440 = omega (arith, accepted.0.1.1.0.1, end_short) in
        let differ : hour * 60 + minute ≡ end_hour * 60 + end_minute → ⊥ = λ same. accepted.1 (omega (arith, same, short, end_short)) in (
          λ tested. in_shift a b (hour * 60 + minute) (end_hour * 60 + end_minute) t starts ends differ tested.0.0 tested.0.1 tested.0.2 tested.1,
          of_shift a b (hour * 60 + minute) (end_hour * 60 + end_minute) t starts ends differ,
        )

-- ---- what stayed

-- the whole test of a week term before the request: "The weekday is that of the moment."
unfoldable pub held_before : (a b h k t : ℕ) → Bool
held_before a b h k t =
    term_in_range (Week a b h k)
    && (term_sound (Week a b h k) && (leb t 3155759999 && (from_to a b (weekday_of (day_of t)) && minute_from_to (minute_at h) (minute_at k) (minute_of t))))

-- The term holds at t just when it held at u, where both are in the range of times or neither is, have the same minute of the day, and the
-- weekday that t counts for is that of u.
as_before : (a b h k t u : ℕ) → leb t 3155759999 ≡ leb u 3155759999 → minute_of t ≡ minute_of u →
    (RangedTerm (Week a b h k) → counted_weekday (minute_at h) (minute_at k) t ≡ weekday_of (day_of u)) → term_holds (Week a b h k) t ≡ held_before a b h k u
unfolding term_holds at_moment held_before
as_before a b h k t u times minutes weekdays = by-range (term_in_range (Week a b h k)) refl
  where
    by-range : (ranged : Bool) → term_in_range (Week a b h k) ≡ ranged → term_holds (Week a b h k) t ≡ held_before a b h k u
    by-range true known = simp (known, times, minutes, weekdays ((term-range-means (Week a b h k)).0 known))
    by-range false known = simp known

own-weekday : (h k t : ℕ) → (h ≤ k) ⊎ (k ≤ minute_of t) → counted_weekday h k t ≡ weekday_of (day_of t)
own-weekday h k t own = (counted-weekday-means h k t (weekday_of (day_of t))).1 (inr (own, refl))

-- 2026-03: "Terms with h < k are untouched": at every moment such a term holds just when it held before,
pub week-stays : (a b h k t : ℕ) → h < k → term_holds (Week a b h k) t ≡ held_before a b h k t
week-stays a b h k t ordered =
    as_before a b h k t t refl refl
    (λ ranged. own-weekday (minute_at h) (minute_at k) t (inl (omega (arith, ordered, ranged.1.0.1, ranged.1.1.1))))

-- so does every term from minute k of the day on,
pub week-stays-from-end : (a b h k t : ℕ) → minute_at k ≤ minute_of t → term_holds (Week a b h k) t ≡ held_before a b h k t
week-stays-from-end a b h k t late = as_before a b h k t t refl refl (λ ranged. own-weekday (minute_at h) (minute_at k) t (inr late))

-- and where h > k a minute before k has the answer that it had a day earlier.
pub week-day-later : (a b h k t : ℕ) → k < h → minute_of t < minute_at k → t + 86400 ≤ 3155759999 → term_holds (Week a b h k) (t + 86400) ≡ held_before a b h k t
week-day-later a b h k t past early time =
    let minutes : minute_of (t + 86400) ≡ minute_of t = omega arith in
    let next : day_of t + 1 ≡ day_of (t + 86400) = omega arith in
    as_before a b h k (t + 86400) t (simp (le-leb (t + 86400) 3155759999 time, le-leb t 3155759999 (omega (arith, time)))) minutes
    (λ ranged.
    (counted-weekday-means (minute_at h) (minute_at k) (t + 86400) (weekday_of (day_of t))).1
    (inl (omega (arith, past, ranged.1.0.1, ranged.1.1.1), rw minutes early, day-before-means (day_of t) (day_of (t + 86400)) (ap weekday_of next))))
