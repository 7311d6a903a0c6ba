-- Document 01, 'Places', and request 2026-04 as statements over the integers. proofs/Meaning.antt shows that the tests of Places.antt say
-- the same, proofs/Sureness.antt that a sure outcome is that of every point of the error circle.
-- Assumes nothing.
use Rattle.std.specs.Prelude.{ℕ, ◌+◌, ◌-◌, ◌*◌, ◌≤◌, ℤ, pos, neg_ℤ, ◌+ℤ◌, ◌-ℤ◌, ◌*ℤ◌, ◌≤ℤ◌, ◌<ℤ◌}
use Rattle.places.specs.declared.Point.{Point}
use Rattle.places.specs.declared.Shape.{Shape}
use Rattle.places.specs.declared.Shape.TheVariants.{Circle, Box}
use Rattle.places.specs.declared.Side.{Side}
use Rattle.places.specs.declared.Side.TheVariants as side

-- "whole metres on the farm grid, -1,000,000 to 1,000,000"
abbrev pub Coordinate : ℤ → Type 0
Coordinate z = (neg_ℤ (pos 1000000) ≤ℤ z) × (z ≤ℤ pos 1000000)

-- 2026-04: "a fourth number e, 1 to 1000; left out means 0"
abbrev pub RangedPoint : Point → Type 0
RangedPoint point = (Coordinate point.x × Coordinate point.y) × (point.error ≤ 1000)

-- "number outside its range" is 11; "q 1 to 100,000"
abbrev pub RangedShape : Shape → Type 0
RangedShape (Circle x y q) = (Coordinate x × Coordinate y) × ((1 ≤ q) × (q ≤ 100000))
RangedShape (Box a b c d) = (Coordinate a × Coordinate b) × (Coordinate c × Coordinate d)

-- "box a > c or b > d" is 14
abbrev pub SoundShape : Shape → Type 0
SoundShape (Circle x y q) = Unit {0}
SoundShape (Box a b c d) = (a ≤ℤ c) × (b ≤ℤ d)

-- neither 11 nor 14 refuses the shape
abbrev pub AcceptedShape : Shape → Type 0
AcceptedShape shape = RangedShape shape × SoundShape shape

abbrev pub square_ℤ : ℤ → ℤ
square_ℤ z = z *ℤ z

-- the squared distance of two points
abbrev pub squared_distance_ℤ : ℤ → ℤ → ℤ → ℤ → ℤ
squared_distance_ℤ x y x' y' = square_ℤ (x -ℤ x') +ℤ square_ℤ (y -ℤ y')

-- "`circle x y q`: inside where dx² + dy² ≤ q². `box a b c d`: a ≤ x ≤ c and b ≤ y ≤ d."
abbrev pub Within : Shape → ℤ → ℤ → Type 0
Within (Circle x y q) x' y' = squared_distance_ℤ x' y' x y ≤ℤ square_ℤ (pos q)
Within (Box a b c d) x' y' = ((a ≤ℤ x') × (x' ≤ℤ c)) × ((b ≤ℤ y') × (y' ≤ℤ d))

-- ---- 2026-04: what the request says of a point (x, y) with the error e

-- "In a circle: inside where e ≤ q and d² ≤ (q - e)²"; "In a box: inside where it is e or more within all four sides"
abbrev pub SurelyInside : Shape → Point → Type 0
SurelyInside (Circle x y q) point = (point.error ≤ q) × (squared_distance_ℤ point.x point.y x y ≤ℤ square_ℤ (pos (q - point.error)))
SurelyInside (Box a b c d) point =
    (((a +ℤ pos point.error) ≤ℤ point.x) × ((point.x +ℤ pos point.error) ≤ℤ c))
    × (((b +ℤ pos point.error) ≤ℤ point.y) × ((point.y +ℤ pos point.error) ≤ℤ d))

-- "outside where d² > (q + e)²"; "outside where the squared distance to the box exceeds e²": each point of the box is further than e away
abbrev pub SurelyOutside : Shape → Point → Type 0
SurelyOutside (Circle x y q) point = square_ℤ (pos (q + point.error)) <ℤ squared_distance_ℤ point.x point.y x y
SurelyOutside (Box a b c d) point =
    (x' y' : ℤ) → Within (Box a b c d) x' y' → square_ℤ (pos point.error) <ℤ squared_distance_ℤ point.x point.y x' y'

-- ---- 2026-04: "Every point of the error circle": those with rational coordinates, each as whole numbers at a scale k

-- (x' / k, y' / k) is at most e from (x, y)
abbrev pub InErrorCircle : Point → ℕ → ℤ → ℤ → Type 0
InErrorCircle point k x' y' = squared_distance_ℤ x' y' (pos k *ℤ point.x) (pos k *ℤ point.y) ≤ℤ square_ℤ (pos (k * point.error))

-- the shape with each of its numbers times k
abbrev pub scaled : ℕ → Shape → Shape
scaled k (Circle x y q) = Circle (pos k *ℤ x) (pos k *ℤ y) (k * q)
scaled k (Box a b c d) = Box (pos k *ℤ a) (pos k *ℤ b) (pos k *ℤ c) (pos k *ℤ d)

-- the point is within the shape, and it is not
abbrev pub WithinAt : Shape → ℕ → ℤ → ℤ → Type 0
WithinAt shape k x' y' = Within (scaled k shape) x' y'

abbrev pub BeyondAt : Shape → ℕ → ℤ → ℤ → Type 0
BeyondAt shape k x' y' = Within (scaled k shape) x' y' → ⊥

-- the point is on the side of an `at` rule
abbrev pub OnSide : Side → ℕ → ℤ → ℤ → Type 0
OnSide (side.Inside shape) = WithinAt shape
OnSide (side.Outside shape) = BeyondAt shape

-- of every point of the error circle
abbrev pub EveryPoint : Point → (ℕ → ℤ → ℤ → Type 0) → Type 0
EveryPoint point Says = (k : ℕ) (x' y' : ℤ) → 1 ≤ k → InErrorCircle point k x' y' → Says k x' y'

-- of some point of it
pub record SomePoint (point : Point) (Says : ℕ → ℤ → ℤ → Type 0) : Type 0 where
  pub scale : ℕ
  pub x' : ℤ
  pub y' : ℤ
  pub positive : 1 ≤ scale
  pub near : InErrorCircle point scale x' y'
  pub says : Says scale x' y'
