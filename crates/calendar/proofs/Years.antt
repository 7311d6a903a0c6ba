-- The years 2000 to 2099: each fourth is a leap year, so that start and year of a day have a formula.
-- Assumes nothing.
use mathlib.Core.Path.{◌≡◌, refl}
use mathlib.Core.Bool.{Bool, true, false, cond, not, ◌&&◌, ◌||◌}
use Prim.Native.Nat.{ℕ, zero, suc, ◌+◌, ◌-◌, ◌*◌, ◌/◌, ◌%◌, ◌<◌, ◌≤◌}
use native.Mathlib.Omega.{arith}
use borrow.Author.Tests.{eqb-true, eqb-false}
use lib.Dec.{eqb}
use Rattle.calendar.specs.Days.{leap_year, year_length, year_start, year_of}
use Rattle.calendar.proofs.Last.{Contains, Adjoin, found, only}

-- Of the hundreds only 2000 is in the range, and it is a leap year.
hundreds : (fourth first : Bool) → (fourth && (not first || first)) ≡ fourth
hundreds true true = refl
hundreds true false = refl
hundreds false first = refl

-- In the range each fourth year is a leap year.
pub gregorian : (since : ℕ) → since < 100 → leap_year (2000 + since) ≡ eqb (since % 4) 0
unfolding leap_year
gregorian since high =
    let four : (2000 + since) % 4 ≡ since % 4 = omega arith in
    let hundred : (2000 + since) % 100 ≡ since = omega arith in
    let four-hundred : (2000 + since) % 400 ≡ since = omega arith in
    rw (four, hundred, four-hundred) (hundreds (eqb (since % 4) 0) (eqb since 0))

one-year : (since : ℕ) (fourth : Bool) → eqb (since % 4) 0 ≡ fourth → 365 * since + (since + 3) / 4 + cond fourth 366 365 ≡ 365 * suc since + (suc since + 3) / 4
one-year since true tested = omega (arith, eqb-true (since % 4) 0 tested)
one-year since false tested = let other = eqb-false (since % 4) 0 tested in omega arith

-- The start of a year by a formula: 365 days a year, and a leap day for each fourth.
pub year-start : (since : ℕ) → since ≤ 100 → year_start since ≡ 365 * since + (since + 3) / 4
unfolding year_start
year-start zero high = refl
year-start (suc since) high =
    rw (year-start since (omega arith), gregorian since high) (one-year since (eqb (since % 4) 0) refl)

-- Each year ends where the next starts.
pub years : Adjoin year_start (λ since. year_start (suc since)) 99
unfolding year_start
years = record { next = λ since less. refl; grows = λ since high. omega arith }

-- The year, counted from 2000, has the day.
abbrev pub YearOf : ℕ → ℕ → Type 0
YearOf day since = Contains year_start (λ since. year_start (suc since)) 99 day since

-- A day of the range is one of its year's days.
pub year-of : (day : ℕ) → day < 36525 → YearOf day (year_of day)
unfolding year_of
year-of day high = found years day (omega (arith, year-start 0 (omega arith))) (omega (arith, year-start 100 (omega arith)))

-- And of no other year's.
pub year-is : (day since : ℕ) → YearOf day since → year_of day ≡ since
unfolding year_of
year-is day since has = only years day since has

-- The year of a day by a formula: 1461 days are four years, the first of them a leap year.
pub year-formula : (day : ℕ) → day < 36525 → year_of day ≡ 4 * (day / 1461) + (day % 1461 - 1) / 365
year-formula day high =
    let since : ℕ = 4 * (day / 1461) + (day % 1461 - 1) / 365 in
    year-is day since (record {
      high = omega arith;
      started = omega (arith, year-start since (omega arith));
      ended = omega (arith, year-start (suc since) (omega arith));
    })

pub ruleset year_formulas = (year-start, year-formula)

-- A year has 365 days, or 366 where it is a leap year.
pub year-next : (since : ℕ) → year_start (suc since) ≡ year_start since + year_length (leap_year (2000 + since))
unfolding year_start
year-next since = refl

-- Counted from the start of its year a day is one of that year's 365 or 366.
pub year-rest : (day since : ℕ) → YearOf day since → day - year_start since < year_length (leap_year (2000 + since))
year-rest day since has = omega (arith, has.started, year-next since, has.ended)
