-- The starred edges of document 01 hold: one test, computed over the table, and one law that turns it into what each row says.
-- Assumes nothing.
use mathlib.Core.Path.{◌≡◌, refl, ap}
use mathlib.Core.Bool.{Bool, true, false, ◌&&◌, not, false≢true}
use mathlib.Core.List.{List, [], ◌∷◌}
use Prim.Native.Nat.{ℕ}
use lib.Dec.{eqb}
use borrow.Author.Tests.{eqb-true}
use Rattle.sets.proofs.Booleans.{both}
use Rattle.calendar.specs.Days.{weekday_of, leap_year, year_start, common_start, month_start, month_end, is_day_of_month, is_date, day_number, day_of_date, last_started, year_of, month_of, date_in, date_of}
use Rattle.calendar.specs.Terms.{from_to, minute_from_to, counted_weekday, at_moment, term_in_range, term_sound, term_holds}
use Rattle.std.specs.Prelude.{Option, Some, None}
use Rattle.places.specs.Places.{inside_circle, outside_circle, within_by, inside_box, beyond, outside_box, surely_inside, surely_outside, point_in_range, shape_in_range, shape_sound, locate}
use Rattle.places.specs.declared.Position.TheVariants.{Known}
use Rattle.places.specs.declared.Outcome.{Outcome}
use Rattle.places.specs.declared.Outcome.TheVariants.{Inside, Outside, Unsure, Neither}
use Rattle.rules.specs.Edges.{Edge, weekday, date, term, place, Says, edges, EachHolds}

-- ---- what a row says, as a test

same_bool : Bool → Bool → Bool
same_bool true b = b
same_bool false b = not b

same_bool_lem : (a b : Bool) → same_bool a b ≡ true → a ≡ b
unfolding same_bool
same_bool_lem true true e = refl
same_bool_lem true false e = absurd (false≢true e)
same_bool_lem false true e = absurd (false≢true e)
same_bool_lem false false e = refl

is_day : Option ℕ → ℕ → Bool
is_day (Some n) day = eqb n day
is_day None day = false

is-day : (found : Option ℕ) (day : ℕ) → is_day found day ≡ true → found ≡ Some day
unfolding is_day
is-day (Some n) day e = ap Some (eqb-true n day e)
is-day None day e = absurd (false≢true e)

code : Outcome → ℕ
code Inside = 0
code Outside = 1
code Unsure = 2
code Neither = 3

same_outcome : (a b : Outcome) → eqb (code a) (code b) ≡ true → a ≡ b
unfolding code
same_outcome Inside Inside e = refl
same_outcome Inside Outside e = absurd (false≢true e)
same_outcome Inside Unsure e = absurd (false≢true e)
same_outcome Inside Neither e = absurd (false≢true e)
same_outcome Outside Inside e = absurd (false≢true e)
same_outcome Outside Outside e = refl
same_outcome Outside Unsure e = absurd (false≢true e)
same_outcome Outside Neither e = absurd (false≢true e)
same_outcome Unsure Inside e = absurd (false≢true e)
same_outcome Unsure Outside e = absurd (false≢true e)
same_outcome Unsure Unsure e = refl
same_outcome Unsure Neither e = absurd (false≢true e)
same_outcome Neither Inside e = absurd (false≢true e)
same_outcome Neither Outside e = absurd (false≢true e)
same_outcome Neither Unsure e = absurd (false≢true e)
same_outcome Neither Neither e = refl

passes : Edge → Bool
passes (weekday day value) = eqb (weekday_of day) value
passes (date yyyymmdd day) = is_day (day_of_date yyyymmdd) day
passes (term k t value) = same_bool (term_holds k t) value
passes (place shape point value) = eqb (code (locate shape (Known point))) (code value)

says : (edge : Edge) → passes edge ≡ true → Says edge
unfolding passes
says (weekday day value) e = eqb-true (weekday_of day) value e
says (date yyyymmdd day) e = is-day (day_of_date yyyymmdd) day e
says (term k t value) e = same_bool_lem (term_holds k t) value e
says (place shape point value) e = same_outcome (locate shape (Known point)) value e

-- ---- the table

all_pass : List Edge → Bool
all_pass [] = true
all_pass (edge ∷ rest) = passes edge && all_pass rest

each_holds : (table : List Edge) → all_pass table ≡ true → EachHolds table
unfolding all_pass
each_holds [] e = tt
each_holds (edge ∷ rest) e = let parts = both (passes edge) (all_pass rest) e in (says edge parts.0, each_holds rest parts.1)

-- all starred edges hold
pub edges-hold : EachHolds edges
unfolding all_pass passes same_bool is_day code leap_year year_start common_start month_start month_end is_day_of_month is_date day_number day_of_date last_started year_of month_of date_in date_of from_to minute_from_to counted_weekday at_moment term_in_range term_sound term_holds inside_circle outside_circle within_by inside_box beyond outside_box surely_inside surely_outside point_in_range shape_in_range shape_sound locate
edges-hold = each_holds edges refl
