-- Document 01, 'Calendar', with request 2026-02: days, times of day and dates. That dates and days are inverse to each other is proved in
-- proofs/Inverse.antt, that each next day has the next date in proofs/DateMeaning.antt, and that every date has the day number it had before
-- the request in proofs/DayNumbers.antt.
-- Assumes nothing.
use Rattle.std.specs.Prelude.{ℕ, zero, suc, ◌+◌, ◌-◌, ◌*◌, ◌/◌, ◌%◌, Bool, cond, not, ◌&&◌, ◌||◌, leb, ltb, eqb, Option, Some, None}
use Rattle.calendar.specs.declared.days.Date.{Date}

-- "day = t / 86,400 rounded down"
abbrev pub day_of : ℕ → ℕ
day_of t = t / 86400

-- "minute of the day"
abbrev pub minute_of : ℕ → ℕ
minute_of t = t % 86400 / 60

-- "Weekday 1 (Monday) to 7 (ISO 8601) is (day + 5) mod 7 + 1"
abbrev pub weekday_of : ℕ → ℕ
weekday_of day = (day + 5) % 7 + 1

-- "Gregorian": each fourth year is a leap year, of the hundreds each fourth
unfoldable pub leap_year : ℕ → Bool
leap_year year = eqb (year % 4) 0 && (not (eqb (year % 100) 0) || eqb (year % 400) 0)

abbrev pub year_length : Bool → ℕ
year_length leap = cond leap 366 365

-- the days from 2000-01-01 to the first day of the year 2000 + since
unfoldable pub year_start : ℕ → ℕ
year_start zero = 0
year_start (suc since) = year_start since + year_length (leap_year (2000 + since))

-- 2026-02: "months counted from March .. m from 0 to 11"
abbrev pub month_from_march : ℕ → ℕ
month_from_march month = (month + 9) % 12

-- 2026-02: "(153 × m + 2) / 5 rounded down": the days from the first of March to the first of month m
abbrev pub days_from_march : ℕ → ℕ
days_from_march m = (153 * m + 2) / 5

-- 2026-02: "January and February count with the year before": the days from the March of the year before to a month; a common year's own
-- March comes 365 days later
abbrev pub from_march_before : ℕ → ℕ
from_march_before month = cond (ltb month 3) 0 365 + days_from_march (month_from_march month)

-- the days of a common year before month 1 to 12: those from its January
unfoldable pub common_start : ℕ → ℕ
common_start month = from_march_before month - from_march_before 1

-- the days of a year before month 1 to 12: a leap year's February has one more
unfoldable pub month_start : Bool → ℕ → ℕ
month_start leap month = common_start month + cond (leap && ltb 2 month) 1 0

-- the days of a year up to the end of month 1 to 12
unfoldable pub month_end : Bool → ℕ → ℕ
month_end leap month = cond (ltb month 12) (month_start leap (month + 1)) (year_length leap)

-- there is such a month, and it has such a day
unfoldable pub is_day_of_month : Bool → ℕ → ℕ → Bool
is_day_of_month leap month day = leb 1 month && (leb month 12 && (leb 1 day && leb (month_start leap month + day) (month_end leap month)))

-- "yyyymmdd, eight digits, year 2000 to 2099": the number is a date
unfoldable pub is_date : ℕ → Bool
is_date yyyymmdd =
    leb 2000 (yyyymmdd / 10000)
    && (leb (yyyymmdd / 10000) 2099 && is_day_of_month (leap_year (yyyymmdd / 10000)) (yyyymmdd / 100 % 100) (yyyymmdd % 100))

-- the day of a date
unfoldable pub day_number : ℕ → ℕ
day_number yyyymmdd = year_start (yyyymmdd / 10000 - 2000) + month_start (leap_year (yyyymmdd / 10000)) (yyyymmdd / 100 % 100) + (yyyymmdd % 100 - 1)

unfoldable pub day_of_date : ℕ → Option ℕ
day_of_date yyyymmdd = cond (is_date yyyymmdd) (Some (day_number yyyymmdd)) None

-- the last number from 0 to k that starts on or before the day
unfoldable pub last_started : (ℕ → ℕ) → ℕ → ℕ → ℕ
last_started start day zero = 0
last_started start day (suc k) = cond (leb (start (suc k)) day) (suc k) (last_started start day k)

-- the year of a day, counted from 2000
unfoldable pub year_of : ℕ → ℕ
year_of day = last_started year_start day 99

-- the month of a day of a year, which is counted from 0
unfoldable pub month_of : Bool → ℕ → ℕ
month_of leap rest = last_started (λ m. month_start leap (m + 1)) rest 11 + 1

-- the date of a day of a year, both counted from 0
unfoldable pub date_in : ℕ → ℕ → Date
date_in since rest =
    record {
      year = 2000 + since;
      month = month_of (leap_year (2000 + since)) rest;
      day = rest - month_start (leap_year (2000 + since)) (month_of (leap_year (2000 + since)) rest) + 1;
    }

-- the date of a day
unfoldable pub date_of : ℕ → Date
date_of day = date_in (year_of day) (day - year_start (year_of day))

unfoldable pub date_found : ℕ → Option Date
date_found day = cond (ltb day 36525) (Some (date_of day)) None

-- a date as yyyymmdd
abbrev pub date_number : Date → ℕ
date_number date = date.year * 10000 + date.month * 100 + date.day
