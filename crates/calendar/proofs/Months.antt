-- The months of a year: they follow on each other, each of at most 31 days, and the last ends with the year.
-- Assumes nothing.
use mathlib.Core.Path.{◌≡◌, refl, ◌∙◌, ap}
use mathlib.Core.Bool.{Bool, true, false, cond, ◌&&◌}
use Prim.Native.Nat.{ℕ, zero, suc, ◌+◌, ◌-◌, ◌%◌, ◌<◌, ◌≤◌}
use native.Mathlib.Omega.{arith}
use borrow.Author.Tests.{leb-true, ltb-true, lt-ltb}
use lib.Dec.{leb, ltb}
use Rattle.calendar.specs.Days.{year_length, month_from_march, days_from_march, from_march_before, common_start, month_start, month_end, month_of, last_started}
use Rattle.sets.proofs.Booleans.{both}
use Rattle.sets.specs.Sets.{all}
use Rattle.sets.proofs.Bounded.{of-all}
use Rattle.calendar.proofs.Last.{Contains, Adjoin, later, found, only, last-skip, last-stop}

-- What the starts of the months say of each month.
pub record MonthSpan (leap : Bool) (month : ℕ) : Type 0 where
  pub grows : month_start leap month ≤ month_end leap month
  pub short : month_end leap month ≤ month_start leap month + 31
  pub in_year : month_end leap month ≤ year_length leap

span_test : Bool → ℕ → Bool
span_test leap month =
    leb (month_start leap month) (month_end leap month)
    && (leb (month_end leap month) (month_start leap month + 31) && leb (month_end leap month) (year_length leap))

each-tested : (leap : Bool) → all 13 (span_test leap) ≡ true
unfolding all span_test month_end month_start common_start
each-tested true = refl
each-tested false = refl

-- Each month starts before it ends, has at most 31 days, and ends in its year.
pub month-span : (leap : Bool) (month : ℕ) → month ≤ 12 → MonthSpan leap month
unfolding span_test
month-span leap month high =
    let tested = of-all 13 (span_test leap) (each-tested leap) month (omega arith) in
    let grows-and = both (leb (month_start leap month) (month_end leap month)) _ tested in
    let short-and = both (leb (month_end leap month) (month_start leap month + 31)) _ grows-and.1 in
    record { grows = leb-true _ _ grows-and.0; short = leb-true _ _ short-and.0; in_year = leb-true _ _ short-and.1 }

-- A year has at most 366 days, so no sum over a month's start can wrap.
pub start_small : (leap : Bool) (month : ℕ) → month ≤ 12 → month_start leap month ≤ 366
start_small true month high = let span = month-span true month high in omega arith
start_small false month high = let span = month-span false month high in omega arith

pub common_small : (month : ℕ) → month ≤ 12 → common_start month ≤ 366
unfolding month_start
common_small month high = omega (arith, start_small false month high)

-- No month of a year is before its January.
pub january-first : (month : ℕ) → 1 ≤ month → from_march_before 1 ≤ from_march_before month
january-first month low = by-year (ltb month 3) refl
  where
    by-year : (before : Bool) → ltb month 3 ≡ before → 306 ≤ cond before 0 365 + days_from_march (month_from_march month)
    by-year true tested =
        let early = ltb-true month 3 tested in
        let m : (month + 9) % 12 ≡ month + 9 = omega arith in
        rw m (omega arith)
    by-year false tested = omega arith

-- The definition counts months from 0.
abbrev pub starts_from_zero : Bool → ℕ → ℕ
starts_from_zero leap m = month_start leap (m + 1)

abbrev ends_from_zero : Bool → ℕ → ℕ
ends_from_zero leap m = month_end leap (m + 1)

-- A month before the last ends where the next starts,
pub month-next : (leap : Bool) (month : ℕ) → month < 12 → month_end leap month ≡ month_start leap (month + 1)
unfolding month_end
month-next leap month less = simp (lt-ltb month 12 less)

from_one : (month : ℕ) → 1 ≤ month → month - 1 + 1 ≡ month
from_one month low = omega arith

-- Each month ends where the next starts.
months : (leap : Bool) → Adjoin (starts_from_zero leap) (ends_from_zero leap) 11
months leap =
    record {
      next = λ m less. let same : m + 1 + 1 ≡ suc m + 1 = omega arith in month-next leap (m + 1) (omega arith) ∙ ap (month_start leap) same;
      grows = λ m high. (month-span leap (m + 1) (omega arith)).grows;
    }

-- A month ends before a later one starts.
pub month-later : (leap : Bool) (month other : ℕ) → 1 ≤ month → month < other → other ≤ 12 → month_end leap month ≤ month_start leap other
month-later leap month other low less high =
    rw (from_one month low, from_one other (omega arith)) at (later (months leap) (month - 1) (other - 1) (omega arith) (omega arith))

-- The month is one of 1 to 12, and the day of the year is one of its days.
pub record MonthOf (leap : Bool) (rest month : ℕ) : Type 0 where
  pub low : 1 ≤ month
  pub high : month ≤ 12
  pub started : month_start leap month ≤ rest
  pub ended : rest < month_end leap month

-- the first starts with the year,
pub first-start : (leap : Bool) → month_start leap 1 ≡ 0
unfolding month_start common_start
first-start true = refl
first-start false = refl

-- and the last ends with it.
pub last_end : (leap : Bool) → month_end leap 12 ≡ year_length leap
unfolding month_end
last_end leap = refl

-- A day of the year is one of its month's days.
pub month-of : (leap : Bool) (rest : ℕ) → rest < year_length leap → MonthOf leap rest (month_of leap rest)
unfolding month_of
month-of leap rest less =
    let month = found (months leap) rest (rw (first-start leap) (omega arith)) (rw (last_end leap) less) in
    record { low = omega arith; high = omega (arith, month.high); started = month.started; ended = month.ended }

-- And of no other month's.
pub month-is : (leap : Bool) (rest month : ℕ) → MonthOf leap rest month → month_of leap rest ≡ month
unfolding month_of
month-is leap rest month has =
    let same = from_one month has.low in
    let before : Contains (starts_from_zero leap) (ends_from_zero leap) 11 rest (month - 1) =
    record { high = omega arith; started = rw same has.started; ended = rw same has.ended } in
    rw (only (months leap) rest (month - 1) before) same

-- Of the months up to this one the last that has started.
abbrev pub month_up_to : Bool → ℕ → ℕ → ℕ
month_up_to leap rest month = last_started (starts_from_zero leap) rest (month - 1) + 1

-- A month that has not started is passed over, and it is not the first.
pub month-skip : (leap : Bool) (rest month : ℕ) → 1 ≤ month → rest < month_start leap month → (2 ≤ month) × (month_up_to leap rest (month - 1) ≡ month_up_to leap rest month)
month-skip leap rest zero low later = absurd (omega arith)
month-skip leap rest (suc zero) low later = absurd (omega (arith, first-start leap))
month-skip leap rest (suc (suc m)) low later =
    let passed = last-skip (starts_from_zero leap) rest (suc (suc m) - 1) (omega arith) (rw (from_one (suc (suc m)) low) later) in
    (omega arith, ap (λ (m : ℕ). m + 1) passed)

-- One that has started is the last.
pub month-stop : (leap : Bool) (rest month : ℕ) → 1 ≤ month → month_start leap month ≤ rest → month_up_to leap rest month ≡ month
month-stop leap rest month low started =
    let same = from_one month low in
    rw (last-stop (starts_from_zero leap) rest (month - 1) (rw same started)) same

pub ruleset month_turns = (month-stop)
