-- 2026-02: "Every date has the day number it had." Of all crates, the twelve numbers of document 01 stand in this file alone.
-- Assumes nothing.
use mathlib.Core.Path.{◌≡◌, refl, sym, ◌∙◌}
use mathlib.Core.Bool.{Bool, true, cond, ◌&&◌}
use mathlib.Core.List.{List, [], ◌∷◌}
use mathlib.Core.Logic.{◌↔◌}
use Prim.Native.Nat.{ℕ, ◌+◌, ◌-◌, ◌/◌, ◌%◌, ◌<◌, ◌≤◌}
use native.Mathlib.Omega.{arith}
use borrow.Author.Tests.{eqb-true}
use lib.Dec.{ltb, eqb}
use lib.ListN.{get_or}
use Rattle.sets.specs.Sets.{all}
use Rattle.sets.proofs.Bounded.{of-all}
use Rattle.calendar.specs.Days.{leap_year, year_start, common_start, month_start, day_number, day_of_date, date_of, date_number}
use Rattle.calendar.specs.Statements.{SuchDate}
use Rattle.std.specs.Prelude.{Some}
use Rattle.calendar.proofs.Inverse.{number-of-day, date-day-date}
use Rattle.calendar.proofs.DateMeaning.{date-means}

-- "Days before each month in a common year"
abbrev pub listed_starts : List ℕ
listed_starts = 0 ∷ 31 ∷ 59 ∷ 90 ∷ 120 ∷ 151 ∷ 181 ∷ 212 ∷ 243 ∷ 273 ∷ 304 ∷ 334 ∷ []

-- the day number of a date by them
abbrev pub listed_day_number : ℕ → ℕ
listed_day_number yyyymmdd =
    let year = yyyymmdd / 10000 in
    let month = yyyymmdd / 100 % 100 in
    year_start (year - 2000) + (get_or listed_starts (month - 1) 0 + cond (leap_year year && ltb 2 month) 1 0) + (yyyymmdd % 100 - 1)

start_test : ℕ → Bool
start_test m = eqb (common_start (m + 1)) (get_or listed_starts m 0)

each_start : all 12 start_test ≡ true
unfolding all start_test common_start
each_start = refl

start-stays : (month : ℕ) → 1 ≤ month → month ≤ 12 → common_start month ≡ get_or listed_starts (month - 1) 0
unfolding start_test
start-stays month low high =
    let same : month - 1 + 1 ≡ month = omega arith in
    eqb-true (common_start month) (get_or listed_starts (month - 1) 0) (rw same at (of-all 12 start_test each_start (month - 1) (omega arith)))

number-stays : (yyyymmdd : ℕ) → SuchDate yyyymmdd → day_number yyyymmdd ≡ listed_day_number yyyymmdd
unfolding day_number month_start
number-stays yyyymmdd date = rw (start-stays (yyyymmdd / 100 % 100) date.low date.high) refl

-- Every date has the day number it had, and no other number has one.
pub day-number-stays : (yyyymmdd day : ℕ) → (day_of_date yyyymmdd ≡ Some day) ↔ (SuchDate yyyymmdd × (day ≡ listed_day_number yyyymmdd))
unfolding day_of_date
day-number-stays yyyymmdd day = (had, has)
  where
    had : day_of_date yyyymmdd ≡ Some day → SuchDate yyyymmdd × (day ≡ listed_day_number yyyymmdd)
    had same =
        let back = date-day-date yyyymmdd day same in
        let known = rw back.1 at (number-of-day day back.0) in
        let date = (date-means yyyymmdd).0 known.0 in
        (date, sym known.1 ∙ number-stays yyyymmdd date)

    has : SuchDate yyyymmdd × (day ≡ listed_day_number yyyymmdd) → day_of_date yyyymmdd ≡ Some day
    has of = simp ((date-means yyyymmdd).1 of.0, number-stays yyyymmdd of.0, of.1)

-- So every day has the date it had.
pub date-stays : (day : ℕ) → day < 36525 → SuchDate (date_number (date_of day)) × (day ≡ listed_day_number (date_number (date_of day)))
date-stays day high =
    let known = number-of-day day high in
    let date = (date-means (date_number (date_of day))).0 known.0 in
    (date, sym known.1 ∙ number-stays (date_number (date_of day)) date)
