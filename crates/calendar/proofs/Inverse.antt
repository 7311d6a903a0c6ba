-- A day's date and a date's day are inverse to each other, and days are in the order of their dates.
-- Assumes nothing.
use mathlib.Core.Path.{◌≡◌, refl, ◌∙◌, ap}
use mathlib.Core.Bool.{Bool, true, false}
use Prim.Native.Nat.{ℕ, suc, ◌+◌, ◌-◌, ◌*◌, ◌/◌, ◌%◌, ◌<◌, ◌≤◌}
use native.Mathlib.Decide.{ℕ_discrete}
use native.Mathlib.Omega.{arith}
use mathlib.Core.Logic.{◌↔◌}
use borrow.Author.Tests.{le-leb, leb-true, leb-false}
use lib.Dec.{leb}
use Rattle.calendar.specs.Days.{leap_year, year_start, year_of, month_start, month_of, date_in, date_of, date_number, is_date, day_number, day_of_date}
use Rattle.std.specs.Prelude.{Some}
use Rattle.calendar.proofs.Last.{later}
use Rattle.calendar.proofs.Years.{YearOf, years, year-start, year-next, year-of, year-is, year-rest}
use Rattle.calendar.proofs.Months.{MonthOf, month-later, month-span, month-of, month-is}
use Rattle.calendar.proofs.Dates.{DayOfMonth, valid-date, is-day-of-month}

-- ---- from a day to its date and back

-- The three parts of a number yyyymmdd.
pub record Digits (number year month day : ℕ) : Type 0 where
  pub year_digits : number / 10000 ≡ year
  pub month_digits : number / 100 % 100 ≡ month
  pub day_digits : number % 100 ≡ day

pub digits : (year month day : ℕ) → month < 100 → day < 100 → Digits (year * 10000 + month * 100 + day) year month day
digits year month day month-short day-short =
    let hundreds : (year * 10000 + month * 100 + day) / 100 ≡ year * 100 + month = omega arith in
    record { year_digits = omega arith; month_digits = omega arith; day_digits = omega arith }

day-of-parts : (since month day : ℕ) → since ≤ 99 → DayOfMonth (leap_year (2000 + since)) month day → day_of_date ((2000 + since) * 10000 + month * 100 + day) ≡ Some (year_start since + month_start (leap_year (2000 + since)) month + (day - 1))
unfolding day_of_date is_date day_number
day-of-parts since month day high valid =
    let span = month-span (leap_year (2000 + since)) month valid.high in
    let parts = digits (2000 + since) month day (omega arith) (omega arith) in
    let less : 2000 + since - 2000 ≡ since = omega arith in
    simp (
      parts.year_digits,
      parts.month_digits,
      parts.day_digits,
      less,
      le-leb 2000 (2000 + since) (omega arith),
      le-leb (2000 + since) 2099 (omega arith),
      is-day-of-month (leap_year (2000 + since)) month day valid,
    )

-- The date of a day of the range is a date, and its day is that day.
pub day-date-day : (day : ℕ) → day < 36525 → day_of_date (date_number (date_of day)) ≡ Some day
unfolding date_of date_in
day-date-day day high =
    let since = year_of day in
    let leap = leap_year (2000 + since) in
    let rest = day - year_start since in
    let month = month_of leap rest in
    let year-known = year-of day high in
    let known = month-of leap rest (year-rest day since year-known) in
    let valid : DayOfMonth leap month (rest - month_start leap month + 1) =
    record { low = known.low; high = known.high; first = omega arith; last = omega arith } in
    let whole : year_start since + month_start leap month + (rest - month_start leap month + 1 - 1) ≡ day = omega arith in
    day-of-parts since month (rest - month_start leap month + 1) year-known.high valid ∙ ap Some whole

-- ---- from a date to its day and back

hundreds-again : (a : ℕ) → a / 100 / 100 ≡ a / 10000
hundreds-again a = omega arith

module _ (a : ℕ) (date : is_date a ≡ true) where
  month-of-number : MonthOf (leap_year (a / 10000)) (month_start (leap_year (a / 10000)) (a / 100 % 100) + (a % 100 - 1)) (a / 100 % 100)
  month-of-number =
      let valid = valid-date a date in
      record { low = valid.within.low; high = valid.within.high; started = omega arith; ended = omega arith }

  year-of-number : YearOf (day_number a) (a / 10000 - 2000)
  unfolding day_number
  year-of-number =
      let valid = valid-date a date in
      let whole : 2000 + (a / 10000 - 2000) ≡ a / 10000 = omega arith in
      let span = month-span (leap_year (a / 10000)) (a / 100 % 100) valid.within.high in
      let next = rw whole at (year-next (a / 10000 - 2000)) in
      record { high = omega arith; started = omega arith; ended = omega arith }

  rest-of-number : day_number a - year_start (a / 10000 - 2000) ≡ month_start (leap_year (a / 10000)) (a / 100 % 100) + (a % 100 - 1)
  unfolding day_number
  rest-of-number = omega arith

  number-again : date_number (date_of (day_number a)) ≡ a
  unfolding date_of date_in
  number-again =
      let valid = valid-date a date in
      let year = year-is (day_number a) (a / 10000 - 2000) year-of-number in
      let whole : 2000 + (a / 10000 - 2000) ≡ a / 10000 = omega arith in
      let month = month-is (leap_year (a / 10000)) _ (a / 100 % 100) month-of-number in
      let hundreds = hundreds-again a in
      simp (year, rest-of-number, whole, month) (omega arith)

date-found : (a day : ℕ) (test : Bool) → is_date a ≡ test → day_of_date a ≡ Some day → (is_date a ≡ true) × (day_number a ≡ day)
unfolding day_of_date
date-found a day true tested same = (tested, cc)
date-found a day false tested same = (cc, cc)

-- The number yyyymmdd of a day of the range is a date, and it is that day's.
pub number-of-day : (day : ℕ) → day < 36525 → (is_date (date_number (date_of day)) ≡ true) × (day_number (date_number (date_of day)) ≡ day)
number-of-day day high = date-found (date_number (date_of day)) day (is_date (date_number (date_of day))) refl (day-date-day day high)

-- The day of a date is in the range, and its date is that date.
pub date-day-date : (a day : ℕ) → day_of_date a ≡ Some day → (day < 36525) × (date_number (date_of day) ≡ a)
date-day-date a day same =
    let found = date-found a day (is_date a) refl same in
    let year = year-of-number a found.0 in
    let end = year-start (suc (a / 10000 - 2000)) (omega arith) in
    (omega (arith, found.1), rw found.1 at (number-again a found.0))

-- The day of a number that is a date is in the range, and the number is that day's.
pub day-of-number : (a : ℕ) → is_date a ≡ true → (day_number a < 36525) × (date_number (date_of (day_number a)) ≡ a)
unfolding day_of_date
day-of-number a date = date-day-date a (day_number a) (rw date)

-- ---- order

module _ (a b : ℕ) (date-a : is_date a ≡ true) (date-b : is_date b ≡ true) (less : a < b) where
  year-before : a / 10000 < b / 10000 → day_number a < day_number b
  year-before earlier =
      let year-a = year-of-number a date-a in
      let year-b = year-of-number b date-b in
      let from-a = (valid-date a date-a).from in
      omega (arith, later years (a / 10000 - 2000) (b / 10000 - 2000) (omega arith) year-b.high)

  module _ (year : a / 10000 ≡ b / 10000) where
    month-before : a / 100 % 100 < b / 100 % 100 → day_number a < day_number b
    unfolding day_number
    month-before earlier =
        let month-a = rw year at (month-of-number a date-a) in
        let month-b = month-of-number b date-b in
        let apart = month-later (leap_year (b / 10000)) (a / 100 % 100) (b / 100 % 100) month-a.low earlier month-b.high in
        rw year (omega arith)

    day-before : a / 100 % 100 ≡ b / 100 % 100 → day_number a < day_number b
    unfolding day_number
    day-before month =
        let first-a = (valid-date a date-a).within.first in
        let hundreds-a = hundreds-again a in
        let hundreds-b = hundreds-again b in
        let earlier : a % 100 < b % 100 = omega arith in
        rw (year, month) (omega arith)

    same-year-before : Dec (a / 100 % 100 ≡ b / 100 % 100) → day_number a < day_number b
    same-year-before (yes month) = day-before month
    same-year-before (no other) =
        month-before (omega (arith, hundreds-again a, hundreds-again b))

  before : Dec (a / 10000 ≡ b / 10000) → day_number a < day_number b
  before (yes year) = same-year-before year (ℕ_discrete (a / 100 % 100) (b / 100 % 100))
  before (no other) = year-before (omega arith)

-- The day of an earlier date is an earlier day.
pub days-in-order : (a b : ℕ) → is_date a ≡ true → is_date b ≡ true → a < b → day_number a < day_number b
days-in-order a b date-a date-b less = before a b date-a date-b less (ℕ_discrete (a / 10000) (b / 10000))

-- So dates are in order exactly where their days are.
pub order-means : (a b : ℕ) → is_date a ≡ true → is_date b ≡ true → (day_number a ≤ day_number b) ↔ (a ≤ b)
order-means a b date-a date-b = (by_number (leb a b) refl, by-day (ℕ_discrete a b))
  where
    by_number : (test : Bool) → leb a b ≡ test → day_number a ≤ day_number b → a ≤ b
    by_number true tested days = leb-true a b tested
    by_number false tested days = absurd (omega (arith, days-in-order b a date-b date-a (leb-false a b tested)))

    by-day : Dec (a ≡ b) → a ≤ b → day_number a ≤ day_number b
    by-day (yes same) numbers = rw same (omega arith)
    by-day (no other) numbers = omega (arith, days-in-order a b date-a date-b (omega arith))
