-- What each of the five terms says: document 01's sentences over numbers, both ways, for every term and moment.
-- Assumes nothing.
use mathlib.Core.Path.{◌≡◌, refl}
use mathlib.Core.Bool.{true, false, ◌&&◌}
use mathlib.Core.Logic.Iff
use mathlib.Core.Logic.{◌↔◌, ◌⊎◌}
use Prim.Native.Nat.{ℕ, ◌+◌, ◌*◌, ◌/◌, ◌%◌, ◌<◌, ◌≤◌}
use native.Mathlib.Omega.{arith}
use borrow.Author.Tests.{leb-false, lt-leb, eqb-true, eq-eqb, not-false}
use lib.Dec.{leb, eqb}
use Rattle.calendar.specs.Days.{day_of, minute_of, weekday_of, date_of, date_number, day_number, is_date}
use Rattle.calendar.specs.Terms.{from_to, minute_from_to, minute_at, counted_weekday, ordinal_of, at_moment, between, is_year, is_time_of_day, term_in_range, term_sound, term_holds}
use Rattle.calendar.specs.Statements.{SuchDate, FromTo, InWeek, Between, TimeOfDay, RangedTerm, SoundTerm, AcceptedTerm}
use Rattle.calendar.specs.declared.terms.Term.{Term}
use Rattle.calendar.specs.declared.terms.Term.TheVariants.{Dates, Week, Months, Nth, Every}
use Rattle.calendar.proofs.Meaning.{le-means, eq-means, ne-means, both-mean, fails-means, one-fails, from-to-means, minute-from-to-means, counted-weekday-means, multiple-from-means, holds-means}
use Rattle.calendar.proofs.Inverse.{number-of-day, day-of-number, order-means}
use Rattle.calendar.proofs.DateMeaning.{date-means, date-of-means}

-- ---- what 11 and 14 look for

between-means : (low high x : ℕ) → (between low high x ≡ true) ↔ Between low high x
between-means low high x = both-mean (leb low x) (leb x high) (le-means low x) (le-means x high)

time-of-day-means : (low high hhmm : ℕ) → (is_time_of_day low high hhmm ≡ true) ↔ TimeOfDay low high hhmm
time-of-day-means low high hhmm =
    both-mean (between low high hhmm) (leb (hhmm % 100) 59) (between-means low high hhmm) (le-means (hhmm % 100) 59)

-- 11 does not refuse a term exactly where each of its numbers is in its range.
pub term-range-means : (term : Term) → (term_in_range term ≡ true) ↔ RangedTerm term
unfolding term_in_range
term-range-means (Dates A B) =
    both-mean (is_year (A / 10000)) (is_year (B / 10000)) (between-means 2000 2099 (A / 10000)) (between-means 2000 2099 (B / 10000))
term-range-means (Week a b h k) =
    both-mean (between 1 7 a && between 1 7 b) (is_time_of_day 0 2359 h && is_time_of_day 1 2400 k) (both-mean (between 1 7 a) (between 1 7 b) (between-means 1 7 a) (between-means 1 7 b)) (both-mean (is_time_of_day 0 2359 h) (is_time_of_day 1 2400 k) (time-of-day-means 0 2359 h) (time-of-day-means 1 2400 k))
term-range-means (Months a b) = both-mean (between 1 12 a) (between 1 12 b) (between-means 1 12 a) (between-means 1 12 b)
term-range-means (Nth k d) = both-mean (between 1 5 k) (between 1 7 d) (between-means 1 5 k) (between-means 1 7 d)
term-range-means (Every n A) =
    both-mean (between 1 1000 n) (is_year (A / 10000)) (between-means 1 1000 n) (between-means 2000 2099 (A / 10000))

-- 14 does not refuse a term exactly where its dates exist, the second not before the first, and its times of day differ.
pub term-sound-means : (term : Term) → (term_sound term ≡ true) ↔ SoundTerm term
unfolding term_sound
term-sound-means (Dates A B) =
    both-mean (is_date A) (is_date B && leb A B) (date-means A) (both-mean (is_date B) (leb A B) (date-means B) (le-means A B))
term-sound-means (Week a b h k) = ne-means h k
term-sound-means (Months a b) = (λ e. tt, λ h. refl)
term-sound-means (Nth k d) = (λ e. tt, λ h. refl)
term-sound-means (Every n A) = date-means A

-- 14 refuses `dates A B` exactly where there is no date A, no date B, or A is after B,
pub dates-refused-means : (A B : ℕ) → (term_sound (Dates A B) ≡ false) ↔ ((SuchDate A → ⊥) ⊎ ((SuchDate B → ⊥) ⊎ (B < A)))
unfolding term_sound
dates-refused-means A B =
    one-fails (is_date A) (is_date B && leb A B) (fails-means (is_date A) (date-means A))
    (one-fails (is_date B) (leb A B) (fails-means (is_date B) (date-means B)) (leb-false A B, lt-leb A B))

-- `week a b h k` exactly where h = k,
pub week-refused-means : (a b h k : ℕ) → (term_sound (Week a b h k) ≡ false) ↔ (h ≡ k)
unfolding term_sound
week-refused-means a b h k = (λ e. eqb-true h k (not-false (eqb h k) e), λ same. rw (eq-eqb h k same))

-- and `every n A` exactly where there is no date A. It refuses no other term: `term-sound-means`.
pub every-refused-means : (n A : ℕ) → (term_sound (Every n A) ≡ false) ↔ (SuchDate A → ⊥)
unfolding term_sound
every-refused-means n A = fails-means (is_date A) (date-means A)

-- ---- the five terms

-- A term that 11 or 14 refuses never holds, and none does past the range of times; else it is as the term says.
module _ (term : Term) (t : ℕ) (Says : Type 0) (says : AcceptedTerm term → t ≤ 3155759999 → (at_moment term t ≡ true) ↔ Says) where
  term-means : (term_holds term t ≡ true) ↔ (AcceptedTerm term × (t ≤ 3155759999) × Says)
  term-means = (
    λ e. let parts = (holds-means term t).0 e in
        let accepted : AcceptedTerm term = ((term-range-means term).0 parts.0, (term-sound-means term).0 parts.1) in
        (accepted, parts.2, (says accepted parts.2).0 parts.3),
    λ h. (holds-means term t).1 ((term-range-means term).1 h.0.0, (term-sound-means term).1 h.0.1, h.1, (says h.0 h.1).1 h.2),
  )

in-years : (t : ℕ) → t ≤ 3155759999 → t / 86400 < 36525
in-years t time = omega arith

-- "`dates A B`: day from A to B, both included": yyyymmdd of the day is at least A and at most B.
pub dates-means : (A B t : ℕ) →
    (term_holds (Dates A B) t ≡ true) ↔
    (AcceptedTerm (Dates A B) × (t ≤ 3155759999) × ((A ≤ date_number (date_of (t / 86400))) × (date_number (date_of (t / 86400)) ≤ B)))
unfolding at_moment
dates-means A B t =
    term-means (Dates A B) t _
    (λ accepted time.
    let number = date_number (date_of (t / 86400)) in
    let known = number-of-day (t / 86400) (in-years t time) in
    let first = (date-means A).1 accepted.1.0 in
    let last = (date-means B).1 accepted.1.1.0 in
    both-mean (leb (day_number A) (day_of t)) (leb (day_of t) (day_number B))
    (Iff.trans (le-means (day_number A) (day_of t)) (rw known.1 at (order-means A number first known.0)))
    (Iff.trans (le-means (day_of t) (day_number B)) (rw known.1 at (order-means number B known.0 last))))

-- the two tests of a week term, in minutes of the day
in-week-means : (a b h k t : ℕ) →
    (from_to a b (counted_weekday h k t) && minute_from_to h k (minute_of t) ≡ true) ↔ InWeek a b h k (weekday_of (day_of t)) (minute_of t)
in-week-means a b h k t =
    both-mean (from_to a b (counted_weekday h k t)) (minute_from_to h k (minute_of t)) (
      λ e. (counted_weekday h k t, (counted-weekday-means h k t _).0 refl, (from-to-means a b _).0 e),
      λ found. (from-to-means a b _).1 (rw ((counted-weekday-means h k t found.0).1 found.1) found.2),
    ) (minute-from-to-means h k (minute_of t))

-- hhmm is hh times 60 plus mm
minute-at : (hour minute : ℕ) → minute ≤ 59 → minute_at (hour * 100 + minute) ≡ hour * 60 + minute
minute-at hour minute short = omega arith

-- "`week a b h k`: weekday from a to b, going past 7 where a > b, and minute of the day from h up to but not k": h and k as hours and minutes.
-- 2026-03: "minutes before k are tested against the weekday before" where h > k.
pub week-means : (a b hour minute end_hour end_minute t : ℕ) → minute ≤ 59 → end_minute ≤ 59 →
    (term_holds (Week a b (hour * 100 + minute) (end_hour * 100 + end_minute)) t ≡ true) ↔
    (AcceptedTerm (Week a b (hour * 100 + minute) (end_hour * 100 + end_minute)) × (t ≤ 3155759999) ×
    InWeek a b (hour * 60 + minute) (end_hour * 60 + end_minute) ((t / 86400 + 5) % 7 + 1) (t % 86400 / 60))
unfolding at_moment
week-means a b hour minute end_hour end_minute t short end_short =
    term-means (Week a b (hour * 100 + minute) (end_hour * 100 + end_minute)) t _
    (λ accepted time.
    rw (minute-at hour minute short, minute-at end_hour end_minute end_short)
    (in-week-means a b (hour * 60 + minute) (end_hour * 60 + end_minute) t))

-- "`months a b`: month (1 to 12) from a to b, going past 12 where a > b".
pub months-means : (a b t : ℕ) →
    (term_holds (Months a b) t ≡ true) ↔ (AcceptedTerm (Months a b) × (t ≤ 3155759999) × FromTo a b (date_of (t / 86400)).month)
unfolding at_moment
months-means a b t =
    term-means (Months a b) t _ (λ accepted time. from-to-means a b (date_of (t / 86400)).month)

-- "`nth k d`: weekday d and (day of month - 1) / 7 rounded down + 1 = k": the day of the month is one of the k-th seven.
pub nth-means : (k d t : ℕ) →
    (term_holds (Nth k d) t ≡ true) ↔
    (AcceptedTerm (Nth k d) × (t ≤ 3155759999) ×
    (((t / 86400 + 5) % 7 + 1 ≡ d) × ((7 * k < (date_of (t / 86400)).day + 7) × ((date_of (t / 86400)).day ≤ 7 * k))))
unfolding at_moment
nth-means k d t =
    term-means (Nth k d) t _
    (λ accepted time.
    let day = (date_of (t / 86400)).day in
    let one = ((date-of-means (t / 86400) (date_of (t / 86400)) (in-years t time)).0 refl).0.first in
    both-mean (eqb (weekday_of (day_of t)) d) (eqb (ordinal_of day) k) (eq-means (weekday_of (day_of t)) d)
    (Iff.trans (eq-means (ordinal_of day) k) (λ same. (omega arith, omega arith), λ seven. omega arith)))

-- "`every n A`: day at least A and (day - A) a multiple of n": some whole number of times n days after the day whose yyyymmdd is A.
pub every-means : (n A t : ℕ) →
    (term_holds (Every n A) t ≡ true) ↔
    (AcceptedTerm (Every n A) × (t ≤ 3155759999) ×
    ((first times : ℕ) × (first < 36525) × (date_number (date_of first) ≡ A) × (t / 86400 ≡ first + times * n)))
unfolding at_moment
every-means n A t =
    term-means (Every n A) t _
    (λ accepted time.
    let known = day-of-number A ((date-means A).1 accepted.1) in
    Iff.trans (multiple-from-means n (day_number A) (t / 86400) accepted.0.0.0) (
      λ counted. (day_number A, counted.0, known.0, known.1, counted.1),
      λ counted. (counted.1, rw (← counted.3, (number-of-day counted.0 counted.2).1) counted.4),
    ))
