-- Document 01, 'Calendar', as statements over numbers. proofs/DateMeaning.antt, proofs/March.antt and proofs/TermMeaning.antt show that the
-- dates of Days.antt and the tests of Terms.antt say the same.
-- Assumes nothing.
use Rattle.std.specs.Prelude.{ℕ, ◌+◌, ◌-◌, ◌*◌, ◌/◌, ◌%◌, ◌≤◌, ◌<◌, ◌≡◌, Bool, cond, ◌&&◌, List, [], ◌∷◌, ◌⊎◌, ltb, eqb, get_or}
use Rattle.calendar.specs.Days.{leap_year, year_start, month_start}
use Rattle.calendar.specs.declared.days.Date.{Date}
use Rattle.calendar.specs.declared.terms.Term.{Term}
use Rattle.calendar.specs.declared.terms.Term.TheVariants.{Dates, Week, Months, Nth, Every}

-- ---- dates

-- "Gregorian": the days of each month in a common year
abbrev pub month_lengths : List ℕ
month_lengths = 31 ∷ 28 ∷ 31 ∷ 30 ∷ 31 ∷ 30 ∷ 31 ∷ 31 ∷ 30 ∷ 31 ∷ 30 ∷ 31 ∷ []

-- the same, of month 1 to 12: a leap year's February has one more
unfoldable pub month_length : Bool → ℕ → ℕ
month_length leap month = get_or month_lengths (month - 1) 0 + cond (leap && eqb month 2) 1 0

-- "year 2000 to 2099", month 1 to 12, day 1 to the month's length
pub record GregorianDate (year month day : ℕ) : Type 0 where
  pub from : 2000 ≤ year
  pub to : year ≤ 2099
  pub low : 1 ≤ month
  pub high : month ≤ 12
  pub first : 1 ≤ day
  pub last : day ≤ month_length (leap_year year) month

-- "no such date" is 14: the number yyyymmdd is a date
abbrev pub SuchDate : ℕ → Type 0
SuchDate yyyymmdd = GregorianDate (yyyymmdd / 10000) (yyyymmdd / 100 % 100) (yyyymmdd % 100)

-- the days before a date: those of the years before it, of the months before it, and of its month
abbrev pub days_before : Date → ℕ
days_before date = year_start (date.year - 2000) + month_start (leap_year date.year) date.month + (date.day - 1)

-- 2026-02: "January and February count with the year before"
abbrev pub counted_year : ℕ → ℕ → ℕ
counted_year year month = cond (ltb month 3) (year - 1) year

-- the first of March of the year that a date counts with
abbrev pub counted_from : ℕ → ℕ
counted_from yyyymmdd = counted_year (yyyymmdd / 10000) (yyyymmdd / 100 % 100) * 10000 + 3 * 100 + 1

-- the date after a date: the next day of the month; after its last, the first of the next month; after the year's last, the next year's first
abbrev pub Follows : Date → Date → Type 0
Follows date next =
    ((date.day < month_length (leap_year date.year) date.month) × (next.year ≡ date.year) × (next.month ≡ date.month) × (next.day ≡ date.day + 1))
    ⊎ (((date.day ≡ month_length (leap_year date.year) date.month) × (date.month < 12) × (next.year ≡ date.year) × (next.month ≡ date.month + 1) × (next.day ≡ 1))
    ⊎ ((date.day ≡ 31) × (date.month ≡ 12) × (next.year ≡ date.year + 1) × (next.month ≡ 1) × (next.day ≡ 1)))

-- ---- when a term holds

-- "from a to b, going past 7 where a > b", and past 12
abbrev pub FromTo : ℕ → ℕ → ℕ → Type 0
FromTo a b x = ((a ≤ b) × (a ≤ x) × (x ≤ b)) ⊎ ((b < a) × ((a ≤ x) ⊎ (x ≤ b)))

-- "minute of the day from h up to but not k"; "Where h > k: minute at least h, or below k."
abbrev pub MinuteFromTo : ℕ → ℕ → ℕ → Type 0
MinuteFromTo h k minute = ((h ≤ k) × (h ≤ minute) × (minute < k)) ⊎ ((k < h) × ((h ≤ minute) ⊎ (minute < k)))

-- 2026-03: "the weekday before", of "Weekday 1 (Monday) to 7"
abbrev pub WeekdayBefore : ℕ → ℕ → Type 0
WeekdayBefore weekday before = ((weekday ≡ 1) × (before ≡ 7)) ⊎ ((1 < weekday) × (before + 1 ≡ weekday))

-- 2026-03: "In `week a b h k` with h > k, minutes before k are tested against the weekday before", all others against that of the moment
abbrev pub CountedWeekday : (h k minute weekday counted : ℕ) → Type 0
CountedWeekday h k minute weekday counted =
    ((k < h) × (minute < k) × WeekdayBefore weekday counted) ⊎ (((h ≤ k) ⊎ (k ≤ minute)) × (counted ≡ weekday))

-- "weekday from a to b .., and minute of the day from h up to but not k"
abbrev pub InWeek : (a b h k weekday minute : ℕ) → Type 0
InWeek a b h k weekday minute = ((counted : ℕ) × CountedWeekday h k minute weekday counted × FromTo a b counted) × MinuteFromTo h k minute

-- 2026-03: "a shift belongs to the day it begins": on some day, which has a weekday from a to b, a shift begins at minute h, and t is in it, from
-- then up to but not the next minute k. Days are counted from seven days before 2000-01-01, as a shift may have begun on the day before that
-- date; the weekdays are the same.
abbrev pub InShift : (a b h k t : ℕ) → Type 0
InShift a b h k t =
    (day : ℕ) × FromTo a b ((day + 5) % 7 + 1) × (day * 86400 + h * 60 ≤ t + 7 * 86400)
    × (((h < k) × (t + 7 * 86400 < day * 86400 + k * 60)) ⊎ ((k < h) × (t + 7 * 86400 < (day + 1) * 86400 + k * 60)))

-- ---- what a term must be

abbrev pub Between : ℕ → ℕ → ℕ → Type 0
Between low high x = (low ≤ x) × (x ≤ high)

-- "hhmm, four digits, minutes to 59"
abbrev pub TimeOfDay : ℕ → ℕ → ℕ → Type 0
TimeOfDay low high hhmm = Between low high hhmm × (hhmm % 100 ≤ 59)

-- "number outside its range" is 11: "year 2000 to 2099", "h 0000 to 2359, k 0001 to 2400", "k 1 to 5", "n 1 to 1000"
abbrev pub RangedTerm : Term → Type 0
RangedTerm (Dates A B) = Between 2000 2099 (A / 10000) × Between 2000 2099 (B / 10000)
RangedTerm (Week a b h k) = (Between 1 7 a × Between 1 7 b) × (TimeOfDay 0 2359 h × TimeOfDay 1 2400 k)
RangedTerm (Months a b) = Between 1 12 a × Between 1 12 b
RangedTerm (Nth k d) = Between 1 5 k × Between 1 7 d
RangedTerm (Every n A) = Between 1 1000 n × Between 2000 2099 (A / 10000)

-- "no such date, A after B, h = k" is 14
abbrev pub SoundTerm : Term → Type 0
SoundTerm (Dates A B) = SuchDate A × (SuchDate B × (A ≤ B))
SoundTerm (Week a b h k) = h ≡ k → ⊥
SoundTerm (Months a b) = Unit {0}
SoundTerm (Nth k d) = Unit {0}
SoundTerm (Every n A) = SuchDate A

-- neither 11 nor 14 refuses the term
abbrev pub AcceptedTerm : Term → Type 0
AcceptedTerm term = RangedTerm term × SoundTerm term
