-- Document 01, 'Edges', with requests 2026-03 and 2026-04: the starred ones, as one table. That each row holds is `edges-hold` of proofs/Edges.antt.
-- Assumes nothing.
use Rattle.std.specs.Prelude.{◌≡◌, Bool, true, false, List, [], ◌∷◌, ℕ, ◌+◌, ◌*◌, pos, Some}
use Rattle.calendar.specs.Days.{day_of, weekday_of, day_of_date}
use Rattle.calendar.specs.Terms.{term_holds}
use Rattle.calendar.specs.declared.terms.Term.{Term}
use Rattle.calendar.specs.declared.terms.Term.TheVariants.{Week, Nth}
use Rattle.places.specs.Places.{locate}
use Rattle.places.specs.declared.Shape.{Shape}
use Rattle.places.specs.declared.Shape.TheVariants.{Circle, Box}
use Rattle.places.specs.declared.Point.{Point}
use Rattle.places.specs.declared.Position.TheVariants.{Known}
use Rattle.places.specs.declared.Outcome.{Outcome}
use Rattle.places.specs.declared.Outcome.TheVariants.{Inside, Outside, Unsure}

pub data Edge : Type 0 where
  weekday : (day value : ℕ) → Edge
  date : (yyyymmdd day : ℕ) → Edge
  term : Term → (t : ℕ) → Bool → Edge
  place : Shape → Point → Outcome → Edge

-- what a row says
abbrev pub Says : Edge → Type 0
Says (weekday day value) = weekday_of day ≡ value
Says (date yyyymmdd day) = day_of_date yyyymmdd ≡ Some day
Says (term k t value) = term_holds k t ≡ value
Says (place shape point value) = locate shape (Known point) ≡ value

-- hh:mm of a day, in seconds
abbrev pub moment : ℕ → ℕ → ℕ → ℕ
moment day hour minute = day * 86400 + hour * 3600 + minute * 60

abbrev pub at : ℕ → ℕ → Point
at x y = record { x = pos x; y = pos y; error = 0 }

-- a point known to e metres
abbrev pub around : ℕ → ℕ → ℕ → Point
around x y e = record { x = pos x; y = pos y; error = e }

abbrev pub edges : List Edge
edges =
    -- "Day 0 is weekday 6."
    weekday 0 6
    -- "2000-02-29 is day 59, weekday 2."
    ∷ date 20000229 59
    ∷ weekday 59 2
    -- "2026-06-08 is day 9655, `nth 2 1` holds."
    ∷ date 20260608 9655
    ∷ term (Nth 2 1) (moment 9655 0 0) true
    -- "t 3,155,759,999 is weekday 4."
    ∷ weekday (day_of 3155759999) 4
    -- "Circle 0 0 5: (3,4) inside, (4,4) outside."
    ∷ place (Circle (pos 0) (pos 0) 5) (at 3 4) Inside
    ∷ place (Circle (pos 0) (pos 0) 5) (at 4 4) Outside
    -- 2026-04: "inside where e ≤ q and d² ≤ (q - e)², outside where d² > (q + e)², else unsure"
    ∷ place (Circle (pos 0) (pos 0) 5) (around 4 0 1) Inside
    ∷ place (Circle (pos 0) (pos 0) 5) (around 5 0 1) Unsure
    ∷ place (Circle (pos 0) (pos 0) 5) (around 6 0 1) Unsure
    ∷ place (Circle (pos 0) (pos 0) 5) (around 7 0 1) Outside
    ∷ place (Circle (pos 0) (pos 0) 5) (around 3 4 1) Unsure
    -- an error as large as the radius, and one larger
    ∷ place (Circle (pos 0) (pos 0) 5) (around 0 0 5) Inside
    ∷ place (Circle (pos 0) (pos 0) 5) (around 1 0 5) Unsure
    ∷ place (Circle (pos 0) (pos 0) 5) (around 0 0 6) Unsure
    ∷ place (Circle (pos 0) (pos 0) 5) (around 1 0 7) Unsure
    -- 2026-04: "e or more within all four sides"; a box of 10 by 10, with room for an error of 5 and not of 6
    ∷ place (Box (pos 0) (pos 0) (pos 10) (pos 10)) (around 1 9 1) Inside
    ∷ place (Box (pos 0) (pos 0) (pos 10) (pos 10)) (around 1 10 1) Unsure
    ∷ place (Box (pos 0) (pos 0) (pos 10) (pos 10)) (around 5 5 5) Inside
    ∷ place (Box (pos 0) (pos 0) (pos 10) (pos 10)) (around 5 5 6) Unsure
    -- 2026-04: "outside where the squared distance to the box exceeds e²": at a side, and at a corner, from which (13, 14) is 5 away
    ∷ place (Box (pos 0) (pos 0) (pos 10) (pos 10)) (around 11 5 1) Unsure
    ∷ place (Box (pos 0) (pos 0) (pos 10) (pos 10)) (around 12 5 1) Outside
    ∷ place (Box (pos 0) (pos 0) (pos 10) (pos 10)) (around 13 14 5) Unsure
    ∷ place (Box (pos 0) (pos 0) (pos 10) (pos 10)) (around 14 14 5) Outside
    ∷ place (Box (pos 0) (pos 0) (pos 10) (pos 10)) (around 13 14 4) Outside
    -- "`week 1 5 0700 1900` on a Monday: 06:59 no, 07:00 yes, 19:00 no."; day 9655 is one
    ∷ weekday 9655 1
    ∷ term (Week 1 5 700 1900) (moment 9655 6 59) false
    ∷ term (Week 1 5 700 1900) (moment 9655 7 0) true
    ∷ term (Week 1 5 700 1900) (moment 9655 19 0) false
    -- 2026-03: "`week 5 5 2200 0600` thus holds on Saturday at 01:00 and fails on Friday at 01:00"; days 9660 and 9659 are such
    ∷ weekday 9660 6
    ∷ term (Week 5 5 2200 600) (moment 9660 1 0) true
    ∷ weekday 9659 5
    ∷ term (Week 5 5 2200 600) (moment 9659 1 0) false
    -- the shift's ends: it begins on Friday at 22:00 and ends on Saturday at 06:00, and none begins on Saturday
    ∷ term (Week 5 5 2200 600) (moment 9659 21 59) false
    ∷ term (Week 5 5 2200 600) (moment 9659 22 0) true
    ∷ term (Week 5 5 2200 600) (moment 9660 5 59) true
    ∷ term (Week 5 5 2200 600) (moment 9660 6 0) false
    ∷ term (Week 5 5 2200 600) (moment 9660 22 0) false
    -- past 7 (a > b) and past midnight at once: the shifts of Saturday, Sunday and Monday, days 9660 to 9662
    ∷ weekday 9662 1
    ∷ term (Week 6 1 2200 600) (moment 9660 1 0) false
    ∷ term (Week 6 1 2200 600) (moment 9660 22 0) true
    ∷ term (Week 6 1 2200 600) (moment 9662 1 0) true
    ∷ term (Week 6 1 2200 600) (moment 9662 22 0) true
    ∷ term (Week 6 1 2200 600) (moment 9663 1 0) true
    ∷ term (Week 6 1 2200 600) (moment 9663 22 0) false
    -- Sunday to Monday: the weekday before 1 is 7
    ∷ weekday 9661 7
    ∷ term (Week 7 7 2200 600) (moment 9661 1 0) false
    ∷ term (Week 7 7 2200 600) (moment 9661 22 0) true
    ∷ term (Week 7 7 2200 600) (moment 9662 1 0) true
    ∷ term (Week 1 1 2200 600) (moment 9662 1 0) false
    -- t below one day: day 0 is a Saturday, and the weekday before it is Friday
    ∷ term (Week 5 5 2200 600) 0 true
    ∷ term (Week 5 5 2200 600) (moment 0 5 59) true
    ∷ term (Week 5 5 2200 600) (moment 0 6 0) false
    ∷ term (Week 6 6 2200 600) (moment 0 1 0) false
    -- 2026-03: "Terms with h < k are untouched": the weekday is that of the moment
    ∷ term (Week 5 5 0 600) (moment 9659 1 0) true
    ∷ term (Week 5 5 0 600) (moment 9660 1 0) false
    ∷ []

-- every row of a table holds
abbrev pub EachHolds : List Edge → Type 0
EachHolds [] = Unit {0}
EachHolds (edge ∷ rest) = Says edge × EachHolds rest
