-- Document 01, 'Calendar', with request 2026-03: the five terms, when each holds, and what 11 and 14 look for in one. What each says over
-- numbers is proved in proofs/TermMeaning.antt; that a shift belongs to the day it begins, and what the request left as it was, in
-- proofs/Shifts.antt.
-- Assumes nothing.
use Rattle.std.specs.Prelude.{ℕ, ◌+◌, ◌-◌, ◌*◌, ◌/◌, ◌%◌, Bool, true, cond, not, ◌&&◌, ◌||◌, leb, ltb, eqb}
use Rattle.calendar.specs.Days.{day_of, minute_of, weekday_of, date_of, day_number, is_date}
use Rattle.calendar.specs.declared.terms.Term.{Term}
use Rattle.calendar.specs.declared.terms.Term.TheVariants.{Dates, Week, Months, Nth, Every}

-- ---- when a term holds

-- "from a to b, going past 7 where a > b", and past 12
unfoldable pub from_to : ℕ → ℕ → ℕ → Bool
from_to a b x = cond (leb a b) (leb a x && leb x b) (leb a x || leb x b)

-- "minute of the day from h up to but not k"; "Where h > k: minute at least h, or below k."
unfoldable pub minute_from_to : ℕ → ℕ → ℕ → Bool
minute_from_to h k minute = cond (leb h k) (leb h minute && ltb minute k) (leb h minute || ltb minute k)

-- the minute of the day that hhmm writes
abbrev pub minute_at : ℕ → ℕ
minute_at hhmm = hhmm / 100 * 60 + hhmm % 100

-- 2026-03: "the weekday before": Sunday, 7, is before Monday, 1
abbrev pub weekday_before : ℕ → ℕ
weekday_before weekday = cond (eqb weekday 1) 7 (weekday - 1)

-- 2026-03: "In `week a b h k` with h > k, minutes before k are tested against the weekday before", all others against that of the moment
unfoldable pub counted_weekday : ℕ → ℕ → ℕ → ℕ
counted_weekday h k t = cond (ltb k h && ltb (minute_of t) k) (weekday_before (weekday_of (day_of t))) (weekday_of (day_of t))

-- "(day of month - 1) / 7 rounded down + 1"
abbrev pub ordinal_of : ℕ → ℕ
ordinal_of day = (day - 1) / 7 + 1

-- "day at least A and (day - A) a multiple of n"
unfoldable pub multiple_from : ℕ → ℕ → ℕ → Bool
multiple_from n first day = leb first day && eqb ((day - first) % n) 0

-- what each term says of the moment t
unfoldable pub at_moment : Term → ℕ → Bool
-- "`dates A B`: day from A to B, both included"
at_moment (Dates A B) t = leb (day_number A) (day_of t) && leb (day_of t) (day_number B)
-- "`week a b h k`: weekday from a to b .., and minute of the day from h up to but not k"
at_moment (Week a b h k) t = from_to a b (counted_weekday (minute_at h) (minute_at k) t) && minute_from_to (minute_at h) (minute_at k) (minute_of t)
-- "`months a b`: month (1 to 12) from a to b"
at_moment (Months a b) t = from_to a b (date_of (day_of t)).month
-- "`nth k d`: weekday d and (day of month - 1) / 7 rounded down + 1 = k"
at_moment (Nth k d) t = eqb (weekday_of (day_of t)) d && eqb (ordinal_of (date_of (day_of t)).day) k
-- "`every n A`: day at least A and (day - A) a multiple of n"
at_moment (Every n A) t = multiple_from n (day_number A) (day_of t)

-- ---- what a term must be

abbrev pub between : ℕ → ℕ → ℕ → Bool
between low high x = leb low x && leb x high

-- "year 2000 to 2099"
abbrev pub is_year : ℕ → Bool
is_year year = between 2000 2099 year

-- "hhmm, four digits, minutes to 59"
abbrev pub is_time_of_day : ℕ → ℕ → ℕ → Bool
is_time_of_day low high hhmm = between low high hhmm && leb (hhmm % 100) 59

-- "number outside its range" is 11: each number of the term is in its range
unfoldable pub term_in_range : Term → Bool
term_in_range (Dates A B) = is_year (A / 10000) && is_year (B / 10000)
-- "h 0000 to 2359, k 0001 to 2400"
term_in_range (Week a b h k) = (between 1 7 a && between 1 7 b) && (is_time_of_day 0 2359 h && is_time_of_day 1 2400 k)
term_in_range (Months a b) = between 1 12 a && between 1 12 b
-- "k 1 to 5"
term_in_range (Nth k d) = between 1 5 k && between 1 7 d
-- "n 1 to 1000"
term_in_range (Every n A) = between 1 1000 n && is_year (A / 10000)

-- "no such date, A after B, h = k" is 14: its dates exist and are in order, and its times of day differ
unfoldable pub term_sound : Term → Bool
term_sound (Dates A B) = is_date A && (is_date B && leb A B)
term_sound (Week a b h k) = not (eqb h k)
term_sound (Months a b) = true
term_sound (Nth k d) = true
term_sound (Every n A) = is_date A

-- a term holds at a moment of the range where it is accepted and says so; else it does not
unfoldable pub term_holds : Term → ℕ → Bool
term_holds term t = term_in_range term && (term_sound term && (leb t 3155759999 && at_moment term t))
