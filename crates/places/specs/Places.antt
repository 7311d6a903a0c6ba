-- Document 01, 'Places', and request 2026-04: where a position lies with respect to a shape, and what 11 and 14 look for in a shape. What
-- that says over the integers is proved in proofs/Meaning.antt, and of every point of the error circle in proofs/Sureness.antt.
-- Assumes nothing.
use Rattle.std.specs.Prelude.{ℕ, ◌+◌, ◌-◌, ◌*◌, Bool, true, false, cond, ◌&&◌, leb, ltb, ℤ, pos, nat_abs, ◌+ℤ◌, ◌-ℤ◌}
use Rattle.std.specs.Int.Signed.{le_z}
use Rattle.places.specs.declared.Point.{Point}
use Rattle.places.specs.declared.Position.{Position}
use Rattle.places.specs.declared.Position.TheVariants.{Unknown, Known}
use Rattle.places.specs.declared.Shape.{Shape}
use Rattle.places.specs.declared.Shape.TheVariants.{Circle, Box}
use Rattle.places.specs.declared.Side.{Side}
use Rattle.places.specs.declared.Side.TheVariants as side
use Rattle.places.specs.declared.Outcome.{Outcome}
use Rattle.places.specs.declared.Outcome.TheVariants.{Inside, Outside, Unsure, Neither}

-- ---- surely inside a shape and surely outside it, of a point whose error e is 0 where none is reported

abbrev pub square : ℤ → ℕ
square z = nat_abs z * nat_abs z

-- 2026-04: "d² being dx² + dy²"
abbrev pub squared_distance : ℤ → ℤ → Point → ℕ
squared_distance x y point = square (point.x -ℤ x) + square (point.y -ℤ y)

-- 2026-04: "In a circle: inside where e ≤ q and d² ≤ (q - e)²"
unfoldable pub inside_circle : ℤ → ℤ → ℕ → Point → Bool
inside_circle x y q point = leb point.error q && leb (squared_distance x y point) ((q - point.error) * (q - point.error))

-- 2026-04: "outside where d² > (q + e)²"
unfoldable pub outside_circle : ℤ → ℤ → ℕ → Point → Bool
outside_circle x y q point = ltb ((q + point.error) * (q + point.error)) (squared_distance x y point)

-- e or more within two sides
unfoldable pub within_by : ℕ → ℤ → ℤ → ℤ → Bool
within_by e low high z = le_z (low +ℤ pos e) z && le_z (z +ℤ pos e) high

-- 2026-04: "In a box: inside where it is e or more within all four sides"
unfoldable pub inside_box : ℤ → ℤ → ℤ → ℤ → Point → Bool
inside_box a b c d point = within_by point.error a c point.x && within_by point.error b d point.y

-- how far a coordinate lies beyond two sides: 0 between them
unfoldable pub beyond : ℤ → ℤ → ℤ → ℕ
beyond low high z = cond (le_z low z) (cond (le_z z high) 0 (nat_abs (z -ℤ high))) (nat_abs (low -ℤ z))

-- 2026-04: "outside where the squared distance to the box exceeds e² (with e = 0: where the position is not within)"
unfoldable pub outside_box : ℤ → ℤ → ℤ → ℤ → Point → Bool
outside_box a b c d point =
    ltb (point.error * point.error) (beyond a c point.x * beyond a c point.x + beyond b d point.y * beyond b d point.y)

unfoldable pub surely_inside : Shape → Point → Bool
surely_inside (Circle x y q) point = inside_circle x y q point
surely_inside (Box a b c d) point = inside_box a b c d point

unfoldable pub surely_outside : Shape → Point → Bool
surely_outside (Circle x y q) point = outside_circle x y q point
surely_outside (Box a b c d) point = outside_box a b c d point

-- ---- what a position and a shape must be

-- "x, y: whole metres on the farm grid, -1,000,000 to 1,000,000"
abbrev pub on_grid : ℤ → Bool
on_grid z = leb (nat_abs z) 1000000

-- 2026-04: "a fourth number e, 1 to 1000; left out means 0"
unfoldable pub point_in_range : Point → Bool
point_in_range point = (on_grid point.x && on_grid point.y) && leb point.error 1000

unfoldable pub position_in_range : Position → Bool
position_in_range Unknown = true
position_in_range (Known point) = point_in_range point

-- "number outside its range" is 11; "q 1 to 100,000"
unfoldable pub shape_in_range : Shape → Bool
shape_in_range (Circle x y q) = (on_grid x && on_grid y) && (leb 1 q && leb q 100000)
shape_in_range (Box a b c d) = (on_grid a && on_grid b) && (on_grid c && on_grid d)

-- "box a > c or b > d" is 14
unfoldable pub shape_sound : Shape → Bool
shape_sound (Circle x y q) = true
shape_sound (Box a b c d) = le_z a c && le_z b d

-- ---- where a position lies

-- 2026-04: "The place test now has three outcomes": inside, outside, "else unsure"
abbrev pub outcome_of : Bool → Bool → Outcome
outcome_of true outside = Inside
outcome_of false true = Outside
outcome_of false false = Unsure

-- "An unknown position is neither." Nor is one with a number out of range, or one set against a shape that 11 or 14 refuses.
unfoldable pub locate : Shape → Position → Outcome
locate shape Unknown = Neither
locate shape (Known point) =
    cond ((shape_in_range shape && shape_sound shape) && point_in_range point) (outcome_of (surely_inside shape point) (surely_outside shape point)) Neither

abbrev pub is_inside : Outcome → Bool
is_inside Inside = true
is_inside Outside = false
is_inside Unsure = false
is_inside Neither = false

abbrev pub is_outside : Outcome → Bool
is_outside Inside = false
is_outside Outside = true
is_outside Unsure = false
is_outside Neither = false

-- "`at r (inside (shape))` or `outside`: .. sessions positioned so"; 2026-04: "An unsure position satisfies neither side of an `at` rule."
unfoldable pub side_holds : Side → Position → Bool
side_holds (side.Inside shape) position = is_inside (locate shape position)
side_holds (side.Outside shape) position = is_outside (locate shape position)

abbrev pub shape_of : Side → Shape
shape_of (side.Inside shape) = shape
shape_of (side.Outside shape) = shape
