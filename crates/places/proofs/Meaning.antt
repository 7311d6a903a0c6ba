-- What the tests of places mean: document 01, 'Places', and request 2026-04 over the integers.
-- Assumes nothing.
use mathlib.Core.Path.{◌≡◌, refl, sym, ◌∙◌, ap}
use mathlib.Core.Bool.{Bool, true, false, cond, ◌&&◌, true≢false, false≢true}
use mathlib.Core.Logic.Iff
use mathlib.Core.Logic.{◌↔◌, ◌⊎◌, inl, inr, ⊎_elim}
use Prim.Native.Nat.{ℕ, suc, ◌+◌, ◌-◌, ◌*◌, ◌≤◌, ◌<◌}
use native.Mathlib.Nat.{mul-le-mul}
use native.Mathlib.Omega.{arith}
use borrow.Author.Tests.{le-leb, leb-true, lt-ltb, ltb-true}
use lib.Dec.{leb, ltb, leb→le, le→leb, ltb→lt, lt→ltb}
use lib.IntN.{ℤ, pos, negsuc, ◌+ℤ◌, ◌-ℤ◌, ◌*ℤ◌}
use lib.Signed.{le_z, ◌≤ℤ◌, ◌<ℤ◌}
use Rattle.places.specs.Places.{square, inside_circle, outside_circle, within_by, inside_box, beyond, outside_box, surely_inside, surely_outside, on_grid, point_in_range, shape_in_range, shape_sound, outcome_of, locate, is_inside, is_outside, side_holds}
use Rattle.places.specs.Statements.{Coordinate, RangedPoint, RangedShape, SoundShape, AcceptedShape, square_ℤ, SurelyInside, SurelyOutside}
use Rattle.places.proofs.Orders.{at_most, is_true, at-most_ℤ, both-mean, one-fails, above_ℤ}
use Rattle.places.proofs.Boxes.{Nearest, nearest, beyond-nearest}
use Rattle.places.specs.declared.Point.{Point}
use Rattle.places.specs.declared.Position.{Position}
use Rattle.places.specs.declared.Position.TheVariants.{Unknown, Known}
use Rattle.places.specs.declared.Shape.{Shape}
use Rattle.places.specs.declared.Shape.TheVariants.{Circle, Box}
use Rattle.places.specs.declared.Side.{Side}
use Rattle.places.specs.declared.Side.TheVariants as side
use Rattle.places.specs.declared.Outcome.{Outcome}
use Rattle.places.specs.declared.Outcome.TheVariants.{Inside, Outside, Unsure, Neither}

-- ---- what 11 and 14 look for

-- A coordinate is on the grid exactly where it lies from -1,000,000 to 1,000,000.
pub grid-means : (z : ℤ) → (on_grid z ≡ true) ↔ Coordinate z
grid-means (pos n) = (λ e. (record { le = tt }, record { le = rw e tt }), λ h. is_true (leb n 1000000) h.1.le)
grid-means (negsuc n) =
    (λ e. (record { le = le→leb n 999999 (let l = leb-true (suc n) 1000000 e in omega arith) }, record { le = tt }), λ h. le-leb (suc n) 1000000 (let l = leb→le n 999999 h.0.le in omega arith))

-- Both coordinates of a point are, and its error is at most 1000.
pub point-means : (point : Point) → (point_in_range point ≡ true) ↔ RangedPoint point
unfolding point_in_range
point-means point =
    both-mean (on_grid point.x && on_grid point.y) (leb point.error 1000) (both-mean (on_grid point.x) (on_grid point.y) (grid-means point.x) (grid-means point.y)) (at_most point.error 1000)

-- 11 does not refuse a shape exactly where each of its numbers is in its range.
pub shape-range-means : (shape : Shape) → (shape_in_range shape ≡ true) ↔ RangedShape shape
unfolding shape_in_range
shape-range-means (Circle x y q) =
    both-mean (on_grid x && on_grid y) (leb 1 q && leb q 100000) (both-mean (on_grid x) (on_grid y) (grid-means x) (grid-means y)) (both-mean (leb 1 q) (leb q 100000) (at_most 1 q) (at_most q 100000))
shape-range-means (Box a b c d) =
    both-mean (on_grid a && on_grid b) (on_grid c && on_grid d) (both-mean (on_grid a) (on_grid b) (grid-means a) (grid-means b)) (both-mean (on_grid c) (on_grid d) (grid-means c) (grid-means d))

-- 14 does not refuse a circle, and a box exactly where a ≤ c and b ≤ d.
pub shape-sound-means : (shape : Shape) → (shape_sound shape ≡ true) ↔ SoundShape shape
unfolding shape_sound
shape-sound-means (Circle x y q) = (λ e. tt, λ h. refl)
shape-sound-means (Box a b c d) = both-mean (le_z a c) (le_z b d) (at-most_ℤ a c) (at-most_ℤ b d)

-- 14 refuses a box exactly where a > c or b > d.
pub box-refused-means : (a b c d : ℤ) → (shape_sound (Box a b c d) ≡ false) ↔ ((c <ℤ a) ⊎ (d <ℤ b))
unfolding shape_sound
box-refused-means a b c d = one-fails (le_z a c) (le_z b d) (above_ℤ a c) (above_ℤ b d)

-- ---- surely inside and surely outside a shape

-- The square of an integer is its product with itself.
pub square-means : (z : ℤ) → pos (square z) ≡ z *ℤ z
square-means (pos n) = refl
square-means (negsuc n) = refl

-- Two squares together, compared with a third.
squares : (u v : ℤ) → square_ℤ u +ℤ square_ℤ v ≡ pos (square u + square v)
squares u v = rw (← (square-means u), ← (square-means v))

pub squares-most : (u v : ℤ) (r : ℕ) → ((square_ℤ u +ℤ square_ℤ v) ≤ℤ square_ℤ (pos r)) ↔ (square u + square v ≤ r * r)
squares-most u v r =
    rw (squares u v) (λ h. leb→le (square u + square v) (r * r) h.le, λ h. record { le = le→leb (square u + square v) (r * r) h })

pub squares-over : (u v : ℤ) (r : ℕ) → (square_ℤ (pos r) <ℤ (square_ℤ u +ℤ square_ℤ v)) ↔ (r * r < square u + square v)
squares-over u v r =
    rw (squares u v) (λ h. ltb→lt (r * r) (square u + square v) h.lt, λ h. record { lt = lt→ltb (r * r) (square u + square v) h })

flip : {A B : Type 0} → A ↔ B → B ↔ A
flip h = (h.1, h.0)

-- A point is surely inside a circle exactly where e ≤ q and d² ≤ (q - e)², and a box exactly where it is e or more within all four sides.
pub surely-inside-means : (shape : Shape) (point : Point) → (surely_inside shape point ≡ true) ↔ SurelyInside shape point
unfolding surely_inside inside_circle inside_box within_by
surely-inside-means (Circle x y q) point =
    let e = point.error in
    let dx = point.x -ℤ x in
    let dy = point.y -ℤ y in
    both-mean (leb e q) (leb (square dx + square dy) ((q - e) * (q - e))) (at_most e q) (Iff.trans (at_most (square dx + square dy) ((q - e) * (q - e))) (flip (squares-most dx dy (q - e))))
surely-inside-means (Box a b c d) point =
    both-mean (within_by point.error a c point.x) (within_by point.error b d point.y) (by-sides a c point.x) (by-sides b d point.y)
  where
    by-sides : (low high z : ℤ) → (within_by point.error low high z ≡ true) ↔ (((low +ℤ pos point.error) ≤ℤ z) × ((z +ℤ pos point.error) ≤ℤ high))
    by-sides low high z =
        both-mean (le_z (low +ℤ pos point.error) z) (le_z (z +ℤ pos point.error) high) (at-most_ℤ (low +ℤ pos point.error) z) (at-most_ℤ (z +ℤ pos point.error) high)

-- It is surely outside a circle exactly where d² > (q + e)², and a box, whose sides are in order, exactly where each of its points is more
-- than e away.
pub surely-outside-means : (shape : Shape) (point : Point) → SoundShape shape → (surely_outside shape point ≡ true) ↔ SurelyOutside shape point
unfolding surely_outside outside_circle outside_box
surely-outside-means (Circle x y q) point sound =
    let r = q + point.error in
    let dx = point.x -ℤ x in
    let dy = point.y -ℤ y in
    Iff.trans (ltb-true (r * r) (square dx + square dy), lt-ltb (r * r) (square dx + square dy)) (flip (squares-over dx dy r))
surely-outside-means (Box a b c d) point sound = (to, from)
  where
    across : Nearest a c point.x
    across = nearest a c point.x sound.0

    up : Nearest b d point.y
    up = nearest b d point.y sound.1

    to : ltb (point.error * point.error) (beyond a c point.x * beyond a c point.x + beyond b d point.y * beyond b d point.y) ≡ true → SurelyOutside (Box a b c d) point
    to test x' y' within =
        (squares-over (point.x -ℤ x') (point.y -ℤ y') point.error).1
        (let less = ltb-true (point.error * point.error) (beyond a c point.x * beyond a c point.x + beyond b d point.y * beyond b d point.y) test in
        let dx = beyond-nearest a c point.x x' within.0.0 within.0.1 in
        let dy = beyond-nearest b d point.y y' within.1.0 within.1.1 in
        omega (arith, mul-le-mul dx dx, mul-le-mul dy dy))

    from : SurelyOutside (Box a b c d) point → ltb (point.error * point.error) (beyond a c point.x * beyond a c point.x + beyond b d point.y * beyond b d point.y) ≡ true
    from outside =
        lt-ltb (point.error * point.error) (beyond a c point.x * beyond a c point.x + beyond b d point.y * beyond b d point.y)
        (rw (across.far, up.far) at ((squares-over (point.x -ℤ across.z') (point.y -ℤ up.z') point.error).0 (outside across.z' up.z' ((across.from, across.to), (up.from, up.to)))))

-- ---- an accepted shape and a point in range

module _ (shape : Shape) (point : Point) (accepted : AcceptedShape shape) (ranged : RangedPoint point) where
  decided : locate shape (Known point) ≡ outcome_of (surely_inside shape point) (surely_outside shape point)
  unfolding locate
  decided =
      simp ((shape-range-means shape).1 accepted.0, (shape-sound-means shape).1 accepted.1, (point-means point).1 ranged)

  -- The three outcomes, each with what the request says of it.
  pub three-outcomes :
      ((locate shape (Known point) ≡ Inside) × SurelyInside shape point)
      ⊎ (((locate shape (Known point) ≡ Outside) × SurelyOutside shape point)
      ⊎ ((locate shape (Known point) ≡ Unsure) × ((SurelyInside shape point → ⊥) × (SurelyOutside shape point → ⊥))))
  three-outcomes = by_tests (surely_inside shape point) (surely_outside shape point) refl refl
    where
      inside : (surely_inside shape point ≡ true) ↔ SurelyInside shape point
      inside = surely-inside-means shape point

      outside : (surely_outside shape point ≡ true) ↔ SurelyOutside shape point
      outside = surely-outside-means shape point accepted.1

      by_tests : (i o : Bool) → surely_inside shape point ≡ i → surely_outside shape point ≡ o →
          ((locate shape (Known point) ≡ Inside) × SurelyInside shape point)
          ⊎ (((locate shape (Known point) ≡ Outside) × SurelyOutside shape point)
          ⊎ ((locate shape (Known point) ≡ Unsure) × ((SurelyInside shape point → ⊥) × (SurelyOutside shape point → ⊥))))
      by_tests true o ei eo = inl (decided ∙ rw ei, inside.0 ei)
      by_tests false true ei eo = inr (inl (decided ∙ rw (ei, eo), outside.0 eo))
      by_tests false false ei eo =
          inr (inr (decided ∙ rw (ei, eo), (λ h. true≢false (sym (inside.1 h) ∙ ei), λ h. true≢false (sym (outside.1 h) ∙ eo))))

-- ---- every shape and position

-- A position is on the inner side of a shape exactly where it is located inside,
pub inside-located : (shape : Shape) (position : Position) → (side_holds (side.Inside shape) position ≡ true) ↔ (locate shape position ≡ Inside)
unfolding side_holds
inside-located shape position = by-outcome (locate shape position)
  where
    by-outcome : (outcome : Outcome) → (is_inside outcome ≡ true) ↔ (outcome ≡ Inside)
    by-outcome Inside = (λ e. refl, λ e. refl)
    by-outcome Outside = (λ e. absurd (false≢true e), λ e. cc)
    by-outcome Unsure = (λ e. absurd (false≢true e), λ e. cc)
    by-outcome Neither = (λ e. absurd (false≢true e), λ e. cc)

-- and on the outer side exactly where it is located outside.
pub outside-located : (shape : Shape) (position : Position) → (side_holds (side.Outside shape) position ≡ true) ↔ (locate shape position ≡ Outside)
unfolding side_holds
outside-located shape position = by-outcome (locate shape position)
  where
    by-outcome : (outcome : Outcome) → (is_outside outcome ≡ true) ↔ (outcome ≡ Outside)
    by-outcome Inside = (λ e. absurd (false≢true e), λ e. cc)
    by-outcome Outside = (λ e. refl, λ e. refl)
    by-outcome Unsure = (λ e. absurd (false≢true e), λ e. cc)
    by-outcome Neither = (λ e. absurd (false≢true e), λ e. cc)

-- No position is on both sides of a shape.
pub not-both : (shape : Shape) (position : Position) → side_holds (side.Inside shape) position ≡ true → side_holds (side.Outside shape) position ≡ true → ⊥
not-both shape position i o =
    true≢false (ap is_inside (sym ((inside-located shape position).0 i) ∙ (outside-located shape position).0 o))

-- An unknown position is on neither side of a shape.
pub unknown-neither : (which : Side) → side_holds which Unknown ≡ false
unfolding side_holds locate
unknown-neither (side.Inside shape) = refl
unknown-neither (side.Outside shape) = refl

-- A position that is unsure is on neither side.
pub unsure-neither : (shape : Shape) (position : Position) → locate shape position ≡ Unsure → (side_holds (side.Inside shape) position ≡ false) × (side_holds (side.Outside shape) position ≡ false)
unfolding side_holds
unsure-neither shape position e = (rw e, rw e)

usable-means : (shape : Shape) (point : Point) → ((shape_in_range shape && shape_sound shape) && point_in_range point ≡ true) ↔ (AcceptedShape shape × RangedPoint point)
usable-means shape point =
    both-mean (shape_in_range shape && shape_sound shape) (point_in_range point) (both-mean (shape_in_range shape) (shape_sound shape) (shape-range-means shape) (shape-sound-means shape)) (point-means point)

never-neither : (inside outside : Bool) → outcome_of inside outside ≡ Neither → ⊥
never-neither true outside e = let z : ◌≡◌ {A = ℕ} 0 1 = cc in omega arith
never-neither false true e = let z : ◌≡◌ {A = ℕ} 0 1 = cc in omega arith
never-neither false false e = let z : ◌≡◌ {A = ℕ} 0 1 = cc in omega arith

refused : (shape : Shape) (point : Point) → (locate shape (Known point) ≡ Neither) ↔ (AcceptedShape shape × RangedPoint point → ⊥)
unfolding locate
refused shape point = (
  λ e h. never-neither (surely_inside shape point) (surely_outside shape point) (sym (decided shape point h.0 h.1) ∙ e),
  λ n. unless ((shape_in_range shape && shape_sound shape) && point_in_range point) (outcome_of (surely_inside shape point) (surely_outside shape point)) (λ h. n ((usable-means shape point).0 h)),
)
  where
    unless : (usable : Bool) (outcome : Outcome) → (usable ≡ true → ⊥) → cond usable outcome Neither ≡ Neither
    unless true outcome n = absurd (n refl)
    unless false outcome n = refl

-- Neither inside nor outside nor unsure: exactly an unknown position, one with a number out of range, and any position of a refused shape.
pub neither-means : (shape : Shape) (position : Position) → (locate shape position ≡ Neither) ↔ ((position ≡ Unknown) ⊎ ((point : Point) × (position ≡ Known point) × (AcceptedShape shape × RangedPoint point → ⊥)))
unfolding locate
neither-means shape Unknown = (λ e. inl refl, λ h. refl)
neither-means shape (Known point) =
    (λ e. inr (point, refl, (refused shape point).0 e), ⊎_elim (λ e. absurd (true≢false (cc))) (λ h. ap (locate shape) h.1 ∙ (refused shape h.0).1 h.2))

-- A known point has another outcome exactly where the shape is accepted, the point in range, and that outcome's own.
pub known-means : (shape : Shape) (point : Point) (outcome : Outcome) (Says : Type 0) → (outcome ≡ Neither → ⊥) →
    (AcceptedShape shape → RangedPoint point → (locate shape (Known point) ≡ outcome) ↔ Says) →
    (locate shape (Known point) ≡ outcome) ↔ ((AcceptedShape shape × RangedPoint point) × Says)
unfolding locate
known-means shape point outcome Says other means =
    (λ e. by-test ((shape_in_range shape && shape_sound shape) && point_in_range point) refl e, λ h. (means h.0.0 h.0.1).1 h.1)
  where
    by-test : (usable : Bool) → ((shape_in_range shape && shape_sound shape) && point_in_range point) ≡ usable → locate shape (Known point) ≡ outcome → (AcceptedShape shape × RangedPoint point) × Says
    by-test true test e = let both = (usable-means shape point).0 test in (both, (means both.0 both.1).0 e)
    by-test false test e = absurd (other (sym e ∙ rw test))

-- What holds of a position on a side: it is a known point of which the side says so.
pub known-point : (which : Side) (Says : Point → Type 0) → ((point : Point) → (side_holds which (Known point) ≡ true) ↔ Says point) → (position : Position) → (side_holds which position ≡ true) ↔ ((point : Point) × (position ≡ Known point) × Says point)
known-point which Says at-point Unknown =
    (λ e. absurd (false≢true (sym (unknown-neither which) ∙ e)), λ h. let e : Unknown ≡ Known h.0 = h.1 in cc)
known-point which Says at-point (Known point) =
    (λ e. (point, refl, (at-point point).0 e), λ h. ap (side_holds which) h.1 ∙ (at-point h.0).1 h.2)
