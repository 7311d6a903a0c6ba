-- 2026-04: "Every point of the error circle must agree with a sure outcome", and where a position is unsure they do not agree. Of every
-- point with rational coordinates, as whole numbers at a scale.
-- Assumes nothing.
use mathlib.Core.Path.{◌≡◌, refl, sym, ◌∙◌, ap}
use mathlib.Core.Bool.{Bool, true, false, true≢false}
use mathlib.Core.Logic.Iff
use mathlib.Core.Logic.{◌↔◌, ⊎_elim}
use Prim.Native.Nat.{ℕ, ◌+◌, ◌-◌, ◌*◌, ◌<◌, ◌≤◌}
use native.Mathlib.Nat.{mul-le-mul}
use native.Mathlib.Omega.{arith}
use borrow.Author.Tests.{leb-true, leb-false}
use lib.Dec.{leb}
use lib.IntN.{ℤ, pos, negsuc, nat_abs, ◌+ℤ◌, ◌-ℤ◌, ◌*ℤ◌}
use lib.Signed.{le_z}
use Rattle.places.specs.Places.{square, beyond, locate, is_inside, is_outside, side_holds}
use Rattle.places.specs.Statements.{RangedPoint, SoundShape, AcceptedShape, SurelyInside, SurelyOutside, InErrorCircle, WithinAt, BeyondAt, OnSide, EveryPoint, SomePoint}
use Rattle.places.proofs.Integers.{size_none, size-swapped}
use Rattle.places.proofs.Squares.{root-most, unscale-squares}
use Rattle.places.proofs.Roots.{Outward, outward}
use Rattle.places.proofs.Orders.{at-most_ℤ}
use Rattle.places.proofs.Circles as circle
use Rattle.places.proofs.Circles.{moved, moved_by}
use Rattle.places.proofs.Boxes.{low-every, high-every, low-passed, high-passed, beyond-least, one-times, nearest, beyond-nearest}
use Rattle.places.proofs.Meaning.{squares-most, squares-over, three-outcomes, inside-located, outside-located, known-means, known-point}
use Rattle.places.specs.declared.Point.{Point}
use Rattle.places.specs.declared.Position.{Position}
use Rattle.places.specs.declared.Position.TheVariants.{Known}
use Rattle.places.specs.declared.Shape.{Shape}
use Rattle.places.specs.declared.Shape.TheVariants.{Circle, Box}
use Rattle.places.specs.declared.Side.{Side}
use Rattle.places.specs.declared.Side.TheVariants as side
use Rattle.places.specs.declared.Outcome.{Outcome}
use Rattle.places.specs.declared.Outcome.TheVariants.{Inside, Outside, Unsure, Neither}

-- ---- the points of an error circle

-- how far a point of the error circle is along one coordinate
near-x : (u v : ℤ) (r : ℕ) → square u + square v ≤ r * r → nat_abs u ≤ r
near-x u v r h = root-most (nat_abs u) r (omega arith)

near-y : (u v : ℤ) (r : ℕ) → square u + square v ≤ r * r → nat_abs v ≤ r
near-y u v r h = root-most (nat_abs v) r (omega arith)

-- the reported point is one
itself : (point : Point) → InErrorCircle point 1 (pos 1 *ℤ point.x) (pos 1 *ℤ point.y)
itself point =
    (squares-most (pos 1 *ℤ point.x -ℤ pos 1 *ℤ point.x) (pos 1 *ℤ point.y -ℤ pos 1 *ℤ point.y) (1 * point.error)).1
    (rw (size_none (pos 1 *ℤ point.x), size_none (pos 1 *ℤ point.y)) (omega arith))

-- ---- a sure outcome is that of every point

every-within : (shape : Shape) (point : Point) → SurelyInside shape point → EveryPoint point (WithinAt shape)
every-within (Circle x y q) point h k x' y' some near =
    (squares-most (x' -ℤ pos k *ℤ x) (y' -ℤ pos k *ℤ y) (k * q)).1
    (circle.inside-every point.x point.y x y q point.error k x' y' h.0 ((squares-most (point.x -ℤ x) (point.y -ℤ y) (q - point.error)).0 h.1) ((squares-most (x' -ℤ pos k *ℤ point.x) (y' -ℤ pos k *ℤ point.y) (k * point.error)).0 near))
every-within (Box a b c d) point h k x' y' some near =
    let dx = x' -ℤ pos k *ℤ point.x in
    let dy = y' -ℤ pos k *ℤ point.y in
    let close = (squares-most dx dy (k * point.error)).0 near in
    let across = near-x dx dy (k * point.error) close in
    let up = near-y dx dy (k * point.error) close in (
      (low-every a point.x x' point.error k h.0.0 across, high-every point.x c x' point.error k h.0.1 across),
      (low-every b point.y y' point.error k h.1.0 up, high-every point.y d y' point.error k h.1.1 up),
    )

every-beyond : (shape : Shape) (point : Point) → SoundShape shape → SurelyOutside shape point → EveryPoint point (BeyondAt shape)
every-beyond (Circle x y q) point sound h k x' y' some near within =
    circle.outside-every point.x point.y x y q point.error k x' y' some ((squares-over (point.x -ℤ x) (point.y -ℤ y) (q + point.error)).0 h) ((squares-most (x' -ℤ pos k *ℤ point.x) (y' -ℤ pos k *ℤ point.y) (k * point.error)).0 near) ((squares-most (x' -ℤ pos k *ℤ x) (y' -ℤ pos k *ℤ y) (k * q)).0 within)
every-beyond (Box a b c d) point sound h k x' y' some near within =
    let across = nearest a c point.x sound.0 in
    let up = nearest b d point.y sound.1 in
    let far = rw (across.far, up.far) at ((squares-over (point.x -ℤ across.z') (point.y -ℤ up.z') point.error).0 (h across.z' up.z' ((across.from, across.to), (up.from, up.to)))) in
    let close = (squares-most (x' -ℤ pos k *ℤ point.x) (y' -ℤ pos k *ℤ point.y) (k * point.error)).0 near in
    let dx = beyond-least a c point.x x' k within.0.0 within.0.1 in
    let dy = beyond-least b d point.y y' k within.1.0 within.1.1 in
    let met = unscale-squares k (beyond a c point.x) (beyond b d point.y) point.error some (omega (arith, mul-le-mul dx dx, mul-le-mul dy dy)) in
    omega arith

-- ---- where a position is not surely outside, some point is within; where it is not surely inside, some point is beyond

at-most-unless : (a b : ℕ) → (a < b → ⊥) → b ≤ a
at-most-unless a b n = omega arith

some-within : (shape : Shape) (point : Point) → AcceptedShape shape → (SurelyOutside shape point → ⊥) → SomePoint point (WithinAt shape)
some-within (Circle x y q) point accepted n =
    let r = q + point.error in
    let x' = moved r point.x point.error (x -ℤ point.x) in
    let y' = moved r point.y point.error (y -ℤ point.y) in
    let d² = square (point.x -ℤ x) + square (point.y -ℤ y) in
    let most = at-most-unless (r * r) d² (λ l. n ((squares-over (point.x -ℤ x) (point.y -ℤ y) r).1 l)) in
    let found = circle.some-inside point.x point.y x y q point.error most in
    record {
      scale = r;
      x' = x';
      y' = y';
      positive = omega (arith, accepted.0.1.0);
      near = (squares-most (x' -ℤ pos r *ℤ point.x) (y' -ℤ pos r *ℤ point.y) (r * point.error)).1 found.0;
      says = (squares-most (x' -ℤ pos r *ℤ x) (y' -ℤ pos r *ℤ y) (r * q)).1 found.1;
    }
some-within (Box a b c d) point accepted n =
    let across = nearest a c point.x accepted.1.0 in
    let up = nearest b d point.y accepted.1.1 in
    let g² = beyond a c point.x * beyond a c point.x + beyond b d point.y * beyond b d point.y in
    let most = at-most-unless (point.error * point.error) g² (λ l. n (further l)) in
    record {
      scale = 1;
      x' = across.z';
      y' = up.z';
      positive = omega arith;
      near =
          (squares-most (across.z' -ℤ pos 1 *ℤ point.x) (up.z' -ℤ pos 1 *ℤ point.y) (1 * point.error)).1
          (rw (one-times point.x, one-times point.y, size-swapped across.z' point.x, size-swapped up.z' point.y, across.far, up.far) (omega (arith, most)));
      says = rw (one-times a, one-times b, one-times c, one-times d) ((across.from, across.to), (up.from, up.to));
    }
  where
    further : point.error * point.error < beyond a c point.x * beyond a c point.x + beyond b d point.y * beyond b d point.y → SurelyOutside (Box a b c d) point
    further l x' y' within =
        (squares-over (point.x -ℤ x') (point.y -ℤ y') point.error).1
        (let dx = beyond-nearest a c point.x x' within.0.0 within.0.1 in
        let dy = beyond-nearest b d point.y y' within.1.0 within.1.1 in
        omega (arith, mul-le-mul dx dx, mul-le-mul dy dy))

-- the point moved by m along x and by n along y, which together are no more than its error
moved-point : (point : Point) (Says : ℕ → ℤ → ℤ → Type 0) (w : ℤ) (m n : ℕ) → nat_abs w ≡ 1 → m * m + n * n ≤ point.error * point.error → Says 1 (moved 1 point.x m w) (moved 1 point.y n w) → SomePoint point Says
moved-point point Says w m n one near says =
    record {
      scale = 1;
      x' = moved 1 point.x m w;
      y' = moved 1 point.y n w;
      positive = omega arith;
      near =
          (squares-most (moved 1 point.x m w -ℤ pos 1 *ℤ point.x) (moved 1 point.y n w -ℤ pos 1 *ℤ point.y) (1 * point.error)).1
          (rw (moved_by 1 point.x m w, moved_by 1 point.y n w, one) (omega arith));
      says = says;
    }

less-unless : (a b : ℕ) → (b ≤ a → ⊥) → a < b
less-unless a b n = omega arith

some-beyond : (shape : Shape) (point : Point) → AcceptedShape shape → (SurelyInside shape point → ⊥) → SomePoint point (BeyondAt shape)
some-beyond (Circle x y q) point accepted n = by-error (leb point.error q) refl
  where
    on-the-way : Outward q point.error (square (point.x -ℤ x) + square (point.y -ℤ y)) → SomePoint point (BeyondAt (Circle x y q))
    on-the-way out =
        let x' = moved out.n point.x out.m (point.x -ℤ x) in
        let y' = moved out.n point.y out.m (point.y -ℤ y) in
        let found = circle.some-outside point.x point.y x y q point.error out in
        record {
          scale = out.n;
          x' = x';
          y' = y';
          positive = out.some;
          near = (squares-most (x' -ℤ pos out.n *ℤ point.x) (y' -ℤ pos out.n *ℤ point.y) (out.n * point.error)).1 found.0;
          says = λ within. found.1 ((squares-most (x' -ℤ pos out.n *ℤ x) (y' -ℤ pos out.n *ℤ y) (out.n * q)).0 within);
        }

    above-all : q < point.error → SomePoint point (BeyondAt (Circle x y q))
    above-all less =
        let found = circle.larger-error point.x point.y x y q point.error less in
        moved-point point (BeyondAt (Circle x y q)) found.0 point.error 0 found.1 (omega arith)
        (λ within. found.2 ((squares-most (moved 1 point.x point.error found.0 -ℤ pos 1 *ℤ x) (moved 1 point.y 0 found.0 -ℤ pos 1 *ℤ y) (1 * q)).0 within))

    by-error : (t : Bool) → leb point.error q ≡ t → SomePoint point (BeyondAt (Circle x y q))
    by-error true test =
        let e = point.error in
        let d² = square (point.x -ℤ x) + square (point.y -ℤ y) in
        let low = leb-true e q test in
        let whole : q - e + e ≡ q = omega arith in
        let far = less-unless ((q - e) * (q - e)) d² (λ l. n (low, (squares-most (point.x -ℤ x) (point.y -ℤ y) (q - e)).1 l)) in
        on-the-way (rw whole at (outward (q - e) e d² (omega (arith, accepted.0.1.0)) far))
    by-error false test = above-all (leb-false point.error q test)
some-beyond (Box a b c d) point accepted n =
    by-sides (le_z (a +ℤ pos point.error) point.x) (le_z (point.x +ℤ pos point.error) c) (le_z (b +ℤ pos point.error) point.y) (le_z (point.y +ℤ pos point.error) d) refl refl refl refl
  where
    by-sides : (left right bottom top : Bool) → le_z (a +ℤ pos point.error) point.x ≡ left → le_z (point.x +ℤ pos point.error) c ≡ right → le_z (b +ℤ pos point.error) point.y ≡ bottom → le_z (point.y +ℤ pos point.error) d ≡ top → SomePoint point (BeyondAt (Box a b c d))
    by-sides false right bottom top l r u t = moved-point point (BeyondAt (Box a b c d)) (negsuc 0) point.error 0 refl (omega arith) (λ within. low-passed a point.x point.error l within.0.0)
    by-sides true false bottom top l r u t = moved-point point (BeyondAt (Box a b c d)) (pos 1) point.error 0 refl (omega arith) (λ within. high-passed point.x c point.error r within.0.1)
    by-sides true true false top l r u t = moved-point point (BeyondAt (Box a b c d)) (negsuc 0) 0 point.error refl (omega arith) (λ within. low-passed b point.y point.error u within.1.0)
    by-sides true true true false l r u t = moved-point point (BeyondAt (Box a b c d)) (pos 1) 0 point.error refl (omega arith) (λ within. high-passed point.y d point.error t within.1.1)
    by-sides true true true true l r u t =
        absurd (n (((at-most_ℤ (a +ℤ pos point.error) point.x).0 l, (at-most_ℤ (point.x +ℤ pos point.error) c).0 r), ((at-most_ℤ (b +ℤ pos point.error) point.y).0 u, (at-most_ℤ (point.y +ℤ pos point.error) d).0 t)))

-- ---- an accepted shape and a point in range

pub differ : (f : Outcome → Bool) {outcome a b : Outcome} → outcome ≡ a → outcome ≡ b → f a ≡ true → f b ≡ false → ⊥
differ f ea eb at_a at_b = true≢false (sym at_a ∙ (ap f (sym ea ∙ eb) ∙ at_b))

module _ (shape : Shape) (point : Point) (accepted : AcceptedShape shape) (ranged : RangedPoint point) where
  one : 1 ≤ 1
  one = omega arith

  not-both-sure : SurelyInside shape point → SurelyOutside shape point → ⊥
  not-both-sure inside outside =
      every-beyond shape point accepted.1 outside 1 (pos 1 *ℤ point.x) (pos 1 *ℤ point.y) one (itself point)
      (every-within shape point inside 1 (pos 1 *ℤ point.x) (pos 1 *ℤ point.y) one (itself point))

  -- Each outcome is given exactly where the request says so.
  pub located-inside : (locate shape (Known point) ≡ Inside) ↔ SurelyInside shape point
  located-inside = (
    λ e.
        ⊎_elim (λ p. p.1)
        (⊎_elim (λ p. absurd (differ is_inside e p.0 refl refl)) (λ p. absurd (differ is_inside e p.0 refl refl)))
        (three-outcomes shape point accepted ranged),
    λ h.
        ⊎_elim (λ p. p.0) (⊎_elim (λ p. absurd (not-both-sure h p.1)) (λ p. absurd (p.1.0 h)))
        (three-outcomes shape point accepted ranged),
  )

  pub located-outside : (locate shape (Known point) ≡ Outside) ↔ SurelyOutside shape point
  located-outside = (
    λ e.
        ⊎_elim (λ p. absurd (differ is_outside e p.0 refl refl))
        (⊎_elim (λ p. p.1) (λ p. absurd (differ is_outside e p.0 refl refl)))
        (three-outcomes shape point accepted ranged),
    λ h.
        ⊎_elim (λ p. absurd (not-both-sure p.1 h)) (⊎_elim (λ p. p.0) (λ p. absurd (p.1.1 h)))
        (three-outcomes shape point accepted ranged),
  )

  pub located-unsure : (locate shape (Known point) ≡ Unsure) ↔ ((SurelyInside shape point → ⊥) × (SurelyOutside shape point → ⊥))
  located-unsure = (
    λ e.
        ⊎_elim (λ p. absurd (differ is_inside p.0 e refl refl))
        (⊎_elim (λ p. absurd (differ is_outside p.0 e refl refl)) (λ p. p.1))
        (three-outcomes shape point accepted ranged),
    λ h.
        ⊎_elim (λ p. absurd (h.0 p.1)) (⊎_elim (λ p. absurd (h.1 p.1)) (λ p. p.0))
        (three-outcomes shape point accepted ranged),
  )

  -- Inside exactly where every point of the error circle is within the shape,
  pub inside-every-point : (locate shape (Known point) ≡ Inside) ↔ EveryPoint point (WithinAt shape)
  inside-every-point = (
    λ e. every-within shape point (located-inside.0 e),
    λ all.
        ⊎_elim (λ p. p.0)
        (⊎_elim
        (λ p. absurd (every-beyond shape point accepted.1 p.1 1 (pos 1 *ℤ point.x) (pos 1 *ℤ point.y) one (itself point) (all 1 (pos 1 *ℤ point.x) (pos 1 *ℤ point.y) one (itself point))))
        (λ p. absurd (let found = some-beyond shape point accepted p.1.0 in found.says (all found.scale found.x' found.y' found.positive found.near))))
        (three-outcomes shape point accepted ranged),
  )

  -- outside exactly where none is,
  pub outside-every-point : (locate shape (Known point) ≡ Outside) ↔ EveryPoint point (BeyondAt shape)
  outside-every-point = (
    λ e. every-beyond shape point accepted.1 (located-outside.0 e),
    λ none.
        ⊎_elim
        (λ p. absurd (none 1 (pos 1 *ℤ point.x) (pos 1 *ℤ point.y) one (itself point) (every-within shape point p.1 1 (pos 1 *ℤ point.x) (pos 1 *ℤ point.y) one (itself point))))
        (⊎_elim (λ p. p.0)
        (λ p. absurd (let found = some-within shape point accepted p.1.1 in none found.scale found.x' found.y' found.positive found.near found.says)))
        (three-outcomes shape point accepted ranged),
  )

  -- and unsure exactly where one is within and one is not.
  pub unsure-some-points : (locate shape (Known point) ≡ Unsure) ↔ (SomePoint point (WithinAt shape) × SomePoint point (BeyondAt shape))
  unsure-some-points = (
    λ e.
        let neither = located-unsure.0 e in
        (some-within shape point accepted neither.1, some-beyond shape point accepted neither.0),
    λ h.
        located-unsure.1 (
          λ inside. h.1.says (every-within shape point inside h.1.scale h.1.x' h.1.y' h.1.positive h.1.near),
          λ outside. every-beyond shape point accepted.1 outside h.0.scale h.0.x' h.0.y' h.0.positive h.0.near h.0.says,
        ),
  )

-- ---- the sides of an `at` rule

some-outcome : (f : Outcome → Bool) (outcome : Outcome) → f outcome ≡ true → f Neither ≡ false → outcome ≡ Neither → ⊥
some-outcome f outcome here there e = true≢false (sym here ∙ (ap f e ∙ there))

-- `inside (shape)` holds of a position exactly where it is a known point in range that is surely inside the shape, which 11 and 14 do not
-- refuse,
pub inside-means : (shape : Shape) (position : Position) →
    (side_holds (side.Inside shape) position ≡ true) ↔
    ((point : Point) × (position ≡ Known point) × ((AcceptedShape shape × RangedPoint point) × SurelyInside shape point))
inside-means shape =
    known-point (side.Inside shape) (λ point. (AcceptedShape shape × RangedPoint point) × SurelyInside shape point)
    (λ point. Iff.trans (inside-located shape (Known point)) (known-means shape point Inside (SurelyInside shape point) (some-outcome is_inside Inside refl refl) (located-inside shape point)))

-- and `outside (shape)` exactly where it is such a point that is surely outside.
pub outside-means : (shape : Shape) (position : Position) →
    (side_holds (side.Outside shape) position ≡ true) ↔
    ((point : Point) × (position ≡ Known point) × ((AcceptedShape shape × RangedPoint point) × SurelyOutside shape point))
outside-means shape =
    known-point (side.Outside shape) (λ point. (AcceptedShape shape × RangedPoint point) × SurelyOutside shape point)
    (λ point. Iff.trans (outside-located shape (Known point)) (known-means shape point Outside (SurelyOutside shape point) (some-outcome is_outside Outside refl refl) (located-outside shape point)))

-- The same by the points of the error circle: `inside (shape)` holds exactly where every one is within,
pub inside-agrees : (shape : Shape) (position : Position) →
    (side_holds (side.Inside shape) position ≡ true) ↔
    ((point : Point) × (position ≡ Known point) × ((AcceptedShape shape × RangedPoint point) × EveryPoint point (WithinAt shape)))
inside-agrees shape =
    known-point (side.Inside shape) (λ point. (AcceptedShape shape × RangedPoint point) × EveryPoint point (WithinAt shape))
    (λ point. Iff.trans (inside-located shape (Known point)) (known-means shape point Inside (EveryPoint point (WithinAt shape)) (some-outcome is_inside Inside refl refl) (inside-every-point shape point)))

-- and `outside (shape)` exactly where none is.
pub outside-agrees : (shape : Shape) (position : Position) →
    (side_holds (side.Outside shape) position ≡ true) ↔
    ((point : Point) × (position ≡ Known point) × ((AcceptedShape shape × RangedPoint point) × EveryPoint point (BeyondAt shape)))
outside-agrees shape =
    known-point (side.Outside shape) (λ point. (AcceptedShape shape × RangedPoint point) × EveryPoint point (BeyondAt shape))
    (λ point. Iff.trans (outside-located shape (Known point)) (known-means shape point Outside (EveryPoint point (BeyondAt shape)) (some-outcome is_outside Outside refl refl) (outside-every-point shape point)))

-- A position on a side is a known point, and every point of its error circle is on that side.
pub side-agrees : (which : Side) (position : Position) → side_holds which position ≡ true → (point : Point) × (position ≡ Known point) × EveryPoint point (OnSide which)
side-agrees (side.Inside shape) position h = let there = (inside-agrees shape position).0 h in (there.0, there.1, there.2.1)
side-agrees (side.Outside shape) position h = let there = (outside-agrees shape position).0 h in (there.0, there.1, there.2.1)
