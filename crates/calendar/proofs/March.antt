-- 2026-02: "months counted from March .. January and February count with the year before", said of whole dates.
-- Assumes nothing.
use mathlib.Core.Path.{◌≡◌, refl}
use mathlib.Core.Bool.{Bool, true, false, cond, ◌&&◌}
use Prim.Native.Nat.{ℕ, suc, ◌+◌, ◌-◌, ◌*◌, ◌/◌, ◌%◌, ◌<◌, ◌≤◌}
use native.Mathlib.Omega.{arith}
use borrow.Author.Tests.{ltb-true, ltb-false, lt-ltb, le-ltb}
use lib.Dec.{ltb}
use Rattle.calendar.specs.Days.{leap_year, year_length, year_start, month_from_march, days_from_march, from_march_before, common_start, month_start, day_number}
use Rattle.calendar.specs.Statements.{SuchDate, counted_from}
use Rattle.calendar.proofs.Years.{year-next}
use Rattle.calendar.proofs.Months.{january-first}
use Rattle.calendar.proofs.Inverse.{digits}

-- a leap day or none
abbrev leap_day : Bool → ℕ
leap_day leap = cond leap 1 0

year-days : (leap : Bool) → year_length leap ≡ 365 + leap_day leap
year-days true = refl
year-days false = refl

before-march : (leap : Bool) → month_start leap 3 ≡ 59 + leap_day leap
unfolding month_start common_start
before-march true = refl
before-march false = refl

-- the day number of the first of March
march : (year : ℕ) → day_number (year * 10000 + 3 * 100 + 1) ≡ year_start (year - 2000) + 59 + leap_day (leap_year year)
unfolding day_number
march year =
    let parts = digits year 3 1 (omega arith) (omega arith) in
    rw (parts.year_digits, parts.month_digits, parts.day_digits, before-march (leap_year year)) (omega arith)

-- January and February come after the March of the year before,
early-start : (leap : Bool) (month : ℕ) → 1 ≤ month → month < 3 → month_start leap month + 306 ≡ days_from_march (month_from_march month)
unfolding month_start common_start
early-start leap month low early = by-leap leap
  where
    january : 306 ≤ 0 + days_from_march (month_from_march month)
    january = simp (lt-ltb month 3 early) at (january-first month low)

    by-leap : (leap : Bool) → from_march_before month - 306 + cond (leap && ltb 2 month) 1 0 + 306 ≡ days_from_march (month_from_march month)
    by-leap true = simp (lt-ltb month 3 early, le-ltb 2 month (omega arith)) (omega (arith, january))
    by-leap false = simp (lt-ltb month 3 early) (omega (arith, january))

-- and the other months after that of their own.
late-start : (leap : Bool) (month : ℕ) → 3 ≤ month → month_start leap month ≡ 59 + leap_day leap + days_from_march (month_from_march month)
unfolding month_start common_start
late-start true month late = simp (le-ltb month 3 late, lt-ltb 2 month late) (omega arith)
late-start false month late = simp (le-ltb month 3 late) (omega arith)

-- Every date from 2000-03-01 on is as many days after the first of March of the year that it counts with as the months and days since have.
pub counted-from-march : (yyyymmdd : ℕ) → SuchDate yyyymmdd → 20000301 ≤ yyyymmdd → day_number yyyymmdd ≡ day_number (counted_from yyyymmdd) + days_from_march (month_from_march (yyyymmdd / 100 % 100)) + (yyyymmdd % 100 - 1)
unfolding day_number
counted-from-march yyyymmdd date since = by-month (ltb month 3) refl
  where
    year : ℕ
    year = yyyymmdd / 10000

    month : ℕ
    month = yyyymmdd / 100 % 100

    by-month : (early : Bool) → ltb month 3 ≡ early → day_number yyyymmdd ≡ day_number (cond early (year - 1) year * 10000 + 3 * 100 + 1) + days_from_march (month_from_march month) + (yyyymmdd % 100 - 1)
    by-month true tested =
        let early = ltb-true month 3 tested in
        let later : 2001 ≤ year = omega arith in
        let own : suc (year - 1 - 2000) ≡ year - 2000 = omega arith in
        let before : 2000 + (year - 1 - 2000) ≡ year - 1 = omega arith in
        let next = rw (own, before) at (year-next (year - 1 - 2000)) in
        omega (arith, march (year - 1), next, year-days (leap_year (year - 1)), early-start (leap_year year) month date.low early)
    by-month false tested =
        let late = ltb-false month 3 tested in
        omega (arith, march year, late-start (leap_year year) month late)
