-- What the tests of terms say in plain words, both ways.
-- Assumes nothing.
use mathlib.Core.Path.{◌≡◌, refl, sym}
use mathlib.Core.Bool.{Bool, true, false, cond, not, ◌&&◌, ◌||◌, true≢false, false≢true, and-eq-true_iff}
use mathlib.Core.Logic.Iff
use mathlib.Core.Logic.{◌↔◌, ◌⊎◌, inl, inr, ⊎_map, ⊎_elim}
use Prim.Native.Nat.{ℕ, ◌+◌, ◌-◌, ◌*◌, ◌/◌, ◌%◌, ◌<◌, ◌≤◌}
use native.Mathlib.Nat.{div-add-mod', mul-mod_left}
use native.Mathlib.Omega.{arith}
use borrow.Author.Tests.{leb-true, leb-false, le-leb, lt-leb, ltb-true, ltb-false, lt-ltb, le-ltb, eqb-true, eqb-false, eq-eqb, ne_eqb, not-true}
use lib.Dec.{leb, ltb, eqb}
use Rattle.calendar.specs.Days.{day_of, minute_of, weekday_of}
use Rattle.calendar.specs.Terms.{from_to, minute_from_to, weekday_before, counted_weekday, multiple_from, at_moment, term_in_range, term_sound, term_holds}
use Rattle.calendar.specs.Statements.{FromTo, MinuteFromTo, WeekdayBefore, CountedWeekday}
use Rattle.calendar.specs.declared.terms.Term.{Term}
use Rattle.sets.proofs.Booleans.{both, of_or, left_or, right_or}
use Rattle.calendar.proofs.Weekdays.{weekday-range, weekday-before-means}

pub le-means : (a b : ℕ) → (leb a b ≡ true) ↔ (a ≤ b)
le-means a b = (leb-true a b, le-leb a b)

pub lt-means : (a b : ℕ) → (ltb a b ≡ true) ↔ (a < b)
lt-means a b = (ltb-true a b, lt-ltb a b)

pub not-lt-means : (a b : ℕ) → (ltb a b ≡ false) ↔ (b ≤ a)
not-lt-means a b = (ltb-false a b, le-ltb a b)

pub eq-means : (a b : ℕ) → (eqb a b ≡ true) ↔ (a ≡ b)
eq-means a b = (eqb-true a b, eq-eqb a b)

pub ne-means : (a b : ℕ) → (not (eqb a b) ≡ true) ↔ (a ≡ b → ⊥)
ne-means a b = (λ e. eqb-false a b (not-true (eqb a b) e), λ n. rw (ne_eqb a b n))

pub both-mean : {A B : Type 0} (a b : Bool) → (a ≡ true) ↔ A → (b ≡ true) ↔ B → (a && b ≡ true) ↔ (A × B)
both-mean a b h k = Iff.trans (and-eq-true_iff a b) (Iff.and h k)

pub fails-means : {A : Type 0} (a : Bool) → (a ≡ true) ↔ A → (a ≡ false) ↔ (A → ⊥)
fails-means true h = (λ e. absurd (true≢false e), λ n. absurd (n (h.0 refl)))
fails-means false h = (λ e x. false≢true (h.1 x), λ n. refl)

pub one-fails : {A B : Type 0} (a b : Bool) → (a ≡ false) ↔ A → (b ≡ false) ↔ B → (a && b ≡ false) ↔ (A ⊎ B)
one-fails true b h k = (λ e. inr (k.0 e), ⊎_elim (λ l. absurd (true≢false (h.1 l))) (λ r. k.1 r))
one-fails false b h k = (λ e. inl (h.0 refl), λ e. refl)

-- A range from a to b that goes past the end where a > b: both of its bounds keep a number in, or one of them.
module _ {From To : Type 0} (a b : ℕ) (from to : Bool) (from-means : (from ≡ true) ↔ From) (to-means : (to ≡ true) ↔ To) where
  kept : (ordered : Bool) → leb a b ≡ ordered → cond ordered (from && to) (from || to) ≡ true → ((a ≤ b) × From × To) ⊎ ((b < a) × (From ⊎ To))
  kept true order tested =
      let parts = both from to tested in
      inl (leb-true a b order, from-means.0 parts.0, to-means.0 parts.1)
  kept false order tested = inr (leb-false a b order, ⊎_map from-means.0 to-means.0 (of_or from to tested))

  keeps : ((a ≤ b) × From × To) ⊎ ((b < a) × (From ⊎ To)) → cond (leb a b) (from && to) (from || to) ≡ true
  keeps (inl inside) = simp (le-leb a b inside.0, from-means.1 inside.1, to-means.1 inside.2)
  keeps (inr inside) = simp (lt-leb a b inside.0) (⊎_elim (λ h. left_or from to (from-means.1 h)) (λ h. right_or from to (to-means.1 h)) inside.1)

  past-end-means : (cond (leb a b) (from && to) (from || to) ≡ true) ↔ (((a ≤ b) × From × To) ⊎ ((b < a) × (From ⊎ To)))
  past-end-means = (kept (leb a b) refl, keeps)

-- From a to b, both included; where a > b from a on or up to b.
pub from-to-means : (a b x : ℕ) → (from_to a b x ≡ true) ↔ FromTo a b x
unfolding from_to
from-to-means a b x = past-end-means a b (leb a x) (leb x b) (le-means a x) (le-means x b)

-- From minute h up to but not k; where h > k from h on or below k.
pub minute-from-to-means : (h k minute : ℕ) → (minute_from_to h k minute ≡ true) ↔ MinuteFromTo h k minute
unfolding minute_from_to
minute-from-to-means h k minute = past-end-means h k (leb h minute) (ltb minute k) (le-means h minute) (lt-means minute k)

-- The weekday that a moment counts for: where h > k and the minute is before k the weekday before, else that of the moment.
pub counted-weekday-means : (h k t counted : ℕ) → (counted_weekday h k t ≡ counted) ↔ CountedWeekday h k (minute_of t) (weekday_of (day_of t)) counted
unfolding counted_weekday
counted-weekday-means h k t counted =
    by-test (ltb k h && ltb (minute_of t) k)
    (both-mean (ltb k h) (ltb (minute_of t) k) (lt-means k h) (lt-means (minute_of t) k))
    (one-fails (ltb k h) (ltb (minute_of t) k) (not-lt-means k h) (not-lt-means (minute_of t) k))
  where
    weekday : ℕ
    weekday = weekday_of (day_of t)

    before-means : (weekday_before weekday ≡ counted) ↔ WeekdayBefore weekday counted
    before-means = weekday-before-means weekday counted (weekday-range (day_of t)).0

    by-test : (early : Bool) → (early ≡ true) ↔ ((k < h) × (minute_of t < k)) → (early ≡ false) ↔ ((h ≤ k) ⊎ (k ≤ minute_of t)) →
        (cond early (weekday_before weekday) weekday ≡ counted) ↔ CountedWeekday h k (minute_of t) weekday counted
    by-test true holds fails = (
      λ same. inl ((holds.0 refl).0, (holds.0 refl).1, before-means.0 same),
      ⊎_elim (λ found. before-means.1 found.2) (λ found. absurd (true≢false (fails.1 found.0))),
    )
    by-test false holds fails = (
      λ same. inr (fails.0 refl, sym same),
      ⊎_elim (λ found. absurd (false≢true (holds.1 (found.0, found.1)))) (λ found. sym found.1),
    )

-- The day is the first or some whole number of intervals after it.
pub multiple-from-means : (n first day : ℕ) → 1 ≤ n → (multiple_from n first day ≡ true) ↔ ((k : ℕ) × (day ≡ first + k * n))
unfolding multiple_from
multiple-from-means n first day positive = (counted, from-count)
  where
    counted : (leb first day && eqb ((day - first) % n) 0) ≡ true → (k : ℕ) × (day ≡ first + k * n)
    counted tested =
        let after-and = both (leb first day) _ tested in
        let after = leb-true first day after-and.0 in
        let exact = eqb-true ((day - first) % n) 0 after-and.1 in
        ((day - first) / n, omega (arith, div-add-mod' (day - first) n))

    from-count : (k : ℕ) × (day ≡ first + k * n) → (leb first day && eqb ((day - first) % n) 0) ≡ true
    from-count count =
        let rest : day - first ≡ count.0 * n = omega (arith, count.1) in
        let after : first ≤ day = omega (arith, count.1) in
        simp (le-leb first day after, rest, mul-mod_left)

-- A term holds where it is in range and sound, the moment is in the range of times, and the term says so of the moment.
pub holds-means : (term : Term) (t : ℕ) → (term_holds term t ≡ true) ↔ ((term_in_range term ≡ true) × (term_sound term ≡ true) × (t ≤ 3155759999) × (at_moment term t ≡ true))
unfolding term_holds
holds-means term t = (taken-apart, λ all. simp (all.0, all.1, le-leb t 3155759999 all.2, all.3))
  where
    taken-apart : (term_in_range term && (term_sound term && (leb t 3155759999 && at_moment term t))) ≡ true → (term_in_range term ≡ true) × (term_sound term ≡ true) × (t ≤ 3155759999) × (at_moment term t ≡ true)
    taken-apart tested =
        let range-and = both (term_in_range term) _ tested in
        let sound-and = both (term_sound term) _ range-and.1 in
        let time-and = both (leb t 3155759999) _ sound-and.1 in
        (range-and.0, sound-and.0, leb-true t 3155759999 time-and.0, time-and.1)
