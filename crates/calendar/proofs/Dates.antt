-- What makes a number yyyymmdd a date, as facts of its year, month and day.
-- Assumes nothing.
use mathlib.Core.Path.{◌≡◌}
use mathlib.Core.Bool.{Bool, true}
use Prim.Native.Nat.{ℕ, ◌+◌, ◌/◌, ◌%◌, ◌≤◌}
use borrow.Author.Tests.{leb-true, le-leb}
use lib.Dec.{leb}
use Rattle.calendar.specs.Days.{leap_year, month_start, month_end, is_day_of_month, is_date}
use Rattle.sets.proofs.Booleans.{both}
use Rattle.calendar.proofs.Years.{year-start, year-of, year-rest}
use Rattle.calendar.proofs.Months.{start_small, month-of}

-- There is such a month, and it has such a day.
pub record DayOfMonth (leap : Bool) (month day : ℕ) : Type 0 where
  pub low : 1 ≤ month
  pub high : month ≤ 12
  pub first : 1 ≤ day
  pub last : month_start leap month + day ≤ month_end leap month

-- The date is one of the years 2000 to 2099.
pub record ValidDate (year month day : ℕ) : Type 0 where
  pub from : 2000 ≤ year
  pub to : year ≤ 2099
  pub within : DayOfMonth (leap_year year) month day

-- What the test of a month and a day says.
pub day-of-month : (leap : Bool) (month day : ℕ) → is_day_of_month leap month day ≡ true → DayOfMonth leap month day
unfolding is_day_of_month
day-of-month leap month day tested =
    let low_and = both (leb 1 month) _ tested in
    let high-and = both (leb month 12) _ low_and.1 in
    let first-and = both (leb 1 day) _ high-and.1 in
    record {
      low = leb-true _ _ low_and.0;
      high = leb-true _ _ high-and.0;
      first = leb-true _ _ first-and.0;
      last = leb-true _ _ first-and.1;
    }

-- And a day of a month passes its test.
pub is-day-of-month : (leap : Bool) (month day : ℕ) → DayOfMonth leap month day → is_day_of_month leap month day ≡ true
unfolding is_day_of_month
is-day-of-month leap month day valid =
    simp (le-leb 1 month valid.low, le-leb month 12 valid.high, le-leb 1 day valid.first, le-leb _ _ valid.last)

-- What the test of a date says of its parts.
pub valid-date : (yyyymmdd : ℕ) → is_date yyyymmdd ≡ true → ValidDate (yyyymmdd / 10000) (yyyymmdd / 100 % 100) (yyyymmdd % 100)
unfolding is_date
valid-date yyyymmdd tested =
    let from-and = both (leb 2000 (yyyymmdd / 10000)) _ tested in
    let to-and = both (leb (yyyymmdd / 10000) 2099) _ from-and.1 in
    record { from = leb-true _ _ from-and.0; to = leb-true _ _ to-and.0; within = day-of-month _ _ _ to-and.1 }

pub ruleset date_facts = (valid-date, year-start, start_small)

pub ruleset day_facts = (year-of, year-rest, month-of)
