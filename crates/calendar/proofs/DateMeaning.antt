-- What makes a number a date, and which date a day has: document 01's calendar by the lengths of the months, both ways.
-- Assumes nothing.
use mathlib.Core.Path.{◌≡◌, refl, sym, ◌∙◌, ap}
use mathlib.Core.Bool.{Bool, true, false, ◌&&◌}
use mathlib.Core.Logic.{◌↔◌, inl, inr}
use Prim.Native.Nat.{ℕ, suc, ◌+◌, ◌-◌, ◌/◌, ◌%◌, ◌<◌, ◌≤◌}
use native.Mathlib.Decide.{ℕ_discrete}
use native.Mathlib.Omega.{arith}
use borrow.Author.Tests.{le-leb, leb-true, eqb-true}
use lib.Dec.{leb, eqb}
use Rattle.sets.specs.Sets.{all}
use Rattle.sets.proofs.Booleans.{both}
use Rattle.sets.proofs.Bounded.{of-all}
use Rattle.calendar.specs.Days.{leap_year, year_length, year_start, year_of, common_start, month_start, month_end, month_of, last_started, is_date, day_number, date_in, date_of, date_number}
use Rattle.calendar.specs.Statements.{month_length, GregorianDate, SuchDate, days_before, Follows}
use Rattle.calendar.specs.declared.days.Date.{Date}
use Rattle.calendar.proofs.Years.{year-of, year-rest, year-next, year-start}
use Rattle.calendar.proofs.Months.{month-of, month-span, month-next, first-start, last_end}
use Rattle.calendar.proofs.Dates.{DayOfMonth, valid-date, is-day-of-month}
use Rattle.calendar.proofs.Inverse.{digits, day-of-number}

-- ---- the lengths of the months

length_test : Bool → ℕ → Bool
length_test leap m =
    eqb (month_end leap (m + 1)) (month_start leap (m + 1) + month_length leap (m + 1)) && leb 1 (month_length leap (m + 1))

each-length : (leap : Bool) → all 12 (length_test leap) ≡ true
unfolding all length_test month_end month_start common_start month_length
each-length true = refl
each-length false = refl

tested-length : (leap : Bool) (month : ℕ) → 1 ≤ month → month ≤ 12 → (month_end leap month ≡ month_start leap month + month_length leap month) × (1 ≤ month_length leap month)
unfolding length_test
tested-length leap month low high =
    let same : month - 1 + 1 ≡ month = omega arith in
    let tested = rw same at (of-all 12 (length_test leap) (each-length leap) (month - 1) (omega arith)) in
    let parts = both (eqb (month_end leap month) (month_start leap month + month_length leap month)) (leb 1 (month_length leap month)) tested in
    (eqb-true (month_end leap month) (month_start leap month + month_length leap month) parts.0, leb-true 1 (month_length leap month) parts.1)

-- A month's days are those from its start to its end,
pub month-length : (leap : Bool) (month : ℕ) → 1 ≤ month → month ≤ 12 → month_end leap month ≡ month_start leap month + month_length leap month
month-length leap month low high = (tested-length leap month low high).0

-- and it has a first one.
pub month-some : (leap : Bool) (month : ℕ) → 1 ≤ month → month ≤ 12 → 1 ≤ month_length leap month
month-some leap month low high = (tested-length leap month low high).1

-- ---- what makes a number a date

-- The test of a number yyyymmdd: there is such a date.
pub date-means : (yyyymmdd : ℕ) → (is_date yyyymmdd ≡ true) ↔ SuchDate yyyymmdd
unfolding is_date
date-means yyyymmdd = (exists, is_one)
  where
    exists : is_date yyyymmdd ≡ true → SuchDate yyyymmdd
    exists tested =
        let valid = valid-date yyyymmdd tested in
        let length = month-length (leap_year (yyyymmdd / 10000)) (yyyymmdd / 100 % 100) valid.within.low valid.within.high in
        record { from = valid.from; to = valid.to; low = valid.within.low; high = valid.within.high; first = valid.within.first; last = omega arith }

    is_one : SuchDate yyyymmdd → is_date yyyymmdd ≡ true
    is_one date =
        let length = month-length (leap_year (yyyymmdd / 10000)) (yyyymmdd / 100 % 100) date.low date.high in
        let valid : DayOfMonth (leap_year (yyyymmdd / 10000)) (yyyymmdd / 100 % 100) (yyyymmdd % 100) = record { low = date.low; high = date.high; first = date.first; last = omega arith } in
        simp (le-leb 2000 (yyyymmdd / 10000) date.from, le-leb (yyyymmdd / 10000) 2099 date.to, is-day-of-month (leap_year (yyyymmdd / 10000)) (yyyymmdd / 100 % 100) (yyyymmdd % 100) valid)

-- ---- which date a day has

abbrev Of : ℕ → Date → Type 0
Of day date = GregorianDate date.year date.month date.day × (day ≡ days_before date)

has-date : (day : ℕ) → day < 36525 → Of day (date_of day)
unfolding date_of date_in
has-date day high =
    let since = year_of day in
    let leap = leap_year (2000 + since) in
    let rest = day - year_start since in
    let month = month_of leap rest in
    let year-known = year-of day high in
    let known = month-of leap rest (year-rest day since year-known) in
    let length = month-length leap month known.low known.high in
    let whole : 2000 + since - 2000 ≡ since = omega arith in
    (record { from = omega arith; to = omega (arith, year-known.high); low = known.low; high = known.high; first = omega arith; last = omega arith }, rw whole (omega arith))

day-short : (year month day : ℕ) → GregorianDate year month day → day ≤ 31
day-short year month day date =
    let span = month-span (leap_year year) month date.high in
    let length = month-length (leap_year year) month date.low date.high in
    omega (arith, date.last)

-- two dates that exist and are the same number are the same
same-date : (a b : Date) → GregorianDate a.year a.month a.day → GregorianDate b.year b.month b.day → date_number a ≡ date_number b → a ≡ b
same-date a b date-a date-b same =
    let short-a = day-short a.year a.month a.day date-a in
    let short-b = day-short b.year b.month b.day date-b in
    let year : a.year ≡ b.year = omega arith in
    let month : a.month ≡ b.month = omega arith in
    let day : a.day ≡ b.day = omega arith in
    λ i. record { year = year i; month = month i; day = day i }

date-only : (day : ℕ) (date : Date) → day < 36525 → Of day date → date_of day ≡ date
unfolding day_number
date-only day date high is =
    let number = date_number date in
    let short = day-short date.year date.month date.day is.0 in
    let parts = digits date.year date.month date.day (omega (arith, is.0.high)) (omega arith) in
    let such : is_date number ≡ true = (date-means number).1 (rw (parts.year_digits, parts.month_digits, parts.day_digits) is.0) in
    let numbered : day_number number ≡ day = rw (parts.year_digits, parts.month_digits, parts.day_digits) (sym is.1) in
    same-date (date_of day) date (has-date day high).0 is.0 (rw numbered at (day-of-number number such).1)

-- The date of a day is the one that exists and has that many days before it: month 1 to 12, day 1 to the month's length.
pub date-of-means : (day : ℕ) (date : Date) → day < 36525 → (date_of day ≡ date) ↔ (GregorianDate date.year date.month date.day × (day ≡ days_before date))
date-of-means day date high = (λ same. rw (← same) (has-date day high), date-only day date high)

-- ---- the next day

-- Day 0 is 2000-01-01.
pub date-first : ((date_of 0).year ≡ 2000) × ((date_of 0).month ≡ 1) × ((date_of 0).day ≡ 1)
unfolding leap_year year_start common_start month_start last_started year_of month_of date_in date_of
date-first = (refl, refl, refl)

december-length : (leap : Bool) → month_length leap 12 ≡ 31
unfolding month_length
december-length true = refl
december-length false = refl

module _ (day : ℕ) (date : Date) (is : Of day date) where
  same-month : date.day < month_length (leap_year date.year) date.month → Of (day + 1) (record { year = date.year; month = date.month; day = date.day + 1 })
  same-month less = (
    record { from = is.0.from; to = is.0.to; low = is.0.low; high = is.0.high; first = omega arith; last = omega arith },
    omega (arith, is.1, is.0.first),
  )

  next-month : date.day ≡ month_length (leap_year date.year) date.month → date.month < 12 → Of (day + 1) (record { year = date.year; month = date.month + 1; day = 1 })
  next-month last less =
      let leap = leap_year date.year in
      (record { from = is.0.from; to = is.0.to; low = omega arith; high = omega arith; first = omega arith; last = month-some leap (date.month + 1) (omega arith) (omega arith) }, omega (arith, is.1, is.0.first, month-length leap date.month is.0.low is.0.high, month-next leap date.month less))

  next-year : date.day ≡ 31 → date.month ≡ 12 → day + 1 < 36525 → Of (day + 1) (record { year = date.year + 1; month = 1; day = 1 })
  next-year last december high =
      let leap = leap_year date.year in
      let since = date.year - 2000 in
      let whole : 2000 + since ≡ date.year = omega (arith, is.0.from) in
      let after : date.year + 1 - 2000 ≡ suc since = omega (arith, is.0.from) in
      let year : year_start (suc since) ≡ year_start since + year_length leap = rw whole at (year-next since) in
      let counted : day ≡ year_start since + month_start leap 12 + (31 - 1) = rw (december, last) at is.1 in
      let length : month_end leap 12 ≡ month_start leap 12 + month_length leap 12 = month-length leap 12 (omega arith) (omega arith) in
      let next : day + 1 ≡ year_start (suc since) = omega (arith, december-length leap, last_end leap) in
      let formula = year-start (suc since) (omega (arith, is.0.to)) in
      (record { from = omega (arith, is.0.from); to = omega arith; low = omega arith; high = omega arith; first = omega arith; last = month-some (leap_year (date.year + 1)) 1 (omega arith) (omega arith) }, rw (after, first-start (leap_year (date.year + 1))) (omega arith))

-- The date of the next day is the next date.
pub date-next : (day : ℕ) → day + 1 < 36525 → Follows (date_of day) (date_of (day + 1))
date-next day high = by-date (ℕ_discrete (date_of day).day (month_length (leap_year (date_of day).year) (date_of day).month)) (ℕ_discrete (date_of day).month 12)
  where
    is : Of day (date_of day)
    is = has-date day (omega arith)

    next-is : (next : Date) → Of (day + 1) next → ((date_of (day + 1)).year ≡ next.year) × ((date_of (day + 1)).month ≡ next.month) × ((date_of (day + 1)).day ≡ next.day)
    next-is next of = let same = date-only (day + 1) next high of in (ap (λ (d : Date). d.year) same, ap (λ (d : Date). d.month) same, ap (λ (d : Date). d.day) same)

    by-date : Dec ((date_of day).day ≡ month_length (leap_year (date_of day).year) (date_of day).month) → Dec ((date_of day).month ≡ 12) → Follows (date_of day) (date_of (day + 1))
    by-date (no other) month =
        let less : (date_of day).day < month_length (leap_year (date_of day).year) (date_of day).month = omega (arith, is.0.last) in
        let next = next-is _ (same-month day (date_of day) is less) in
        inl (less, next.0, next.1, next.2)
    by-date (yes last) (no other) =
        let less : (date_of day).month < 12 = omega (arith, is.0.high) in
        let next = next-is _ (next-month day (date_of day) is last less) in
        inr (inl (last, less, next.0, next.1, next.2))
    by-date (yes last) (yes december) =
        let end : (date_of day).day ≡ 31 = last ∙ (rw december (december-length (leap_year (date_of day).year))) in
        let next = next-is _ (next-year day (date_of day) is end december high) in
        inr (inr (end, december, next.0, next.1, next.2))
