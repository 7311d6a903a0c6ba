-- 2026-04: an error of 0, with which the place test is document 01's, and a larger error, which makes nothing sure.
-- Assumes nothing.
use mathlib.Core.Path.{◌≡◌, refl}
use mathlib.Core.Logic.Iff
use mathlib.Core.Logic.{◌↔◌, ⊎_elim}
use Prim.Native.Nat.{ℕ, zero, suc, ◌+◌, ◌-◌, ◌*◌, ◌<◌, ◌≤◌}
use native.Mathlib.Nat.{mul-le-mul, le_refl}
use native.Mathlib.Omega.{arith}
use lib.IntN.{ℤ, pos, nat_abs, ◌-ℤ◌, ◌*ℤ◌, +ℤ_idr}
use Rattle.places.specs.Places.{square, locate, is_inside, is_outside}
use Rattle.places.specs.Statements.{RangedPoint, AcceptedShape, Within, SurelyInside, SurelyOutside, InErrorCircle}
use Rattle.places.proofs.Integers.{same, size_none}
use Rattle.places.proofs.Meaning.{squares-most, squares-over, three-outcomes}
use Rattle.places.proofs.Sureness.{differ, located-inside, located-outside, inside-every-point, outside-every-point}
use Rattle.places.specs.declared.Point.{Point}
use Rattle.places.specs.declared.Position.TheVariants.{Known}
use Rattle.places.specs.declared.Shape.{Shape}
use Rattle.places.specs.declared.Shape.TheVariants.{Circle, Box}
use Rattle.places.specs.declared.Outcome.TheVariants.{Inside, Outside, Unsure}

-- ---- an error of 0

surely-within : (shape : Shape) (point : Point) → point.error ≡ 0 → SurelyInside shape point ↔ Within shape point.x point.y
surely-within (Circle x y q) point none =
    let whole : q - point.error ≡ q = omega arith in
    (λ h. rw whole at h.1, λ w. (omega arith, rw whole w))
surely-within (Box a b c d) point none = (λ h. simp (none, +ℤ_idr) at h, λ w. simp (none, +ℤ_idr) w)

surely-not-within : (shape : Shape) (point : Point) → point.error ≡ 0 → SurelyOutside shape point ↔ (Within shape point.x point.y → ⊥)
surely-not-within (Circle x y q) point none =
    let whole : q + point.error ≡ q = omega arith in
    let dx = point.x -ℤ x in
    let dy = point.y -ℤ y in (
      λ h w. (let far = (squares-over dx dy q).0 (rw whole at h) in omega (arith, (squares-most dx dy q).0 w)),
      λ n. rw whole ((squares-over dx dy q).1 (over (q * q) (square dx + square dy) (λ l. n ((squares-most dx dy q).1 l)))),
    )
  where
    over : (a b : ℕ) → (b ≤ a → ⊥) → a < b
    over a b n = omega arith
surely-not-within (Box a b c d) point none = (
  λ h w.
      (let far = (squares-over (point.x -ℤ point.x) (point.y -ℤ point.y) point.error).0 (h point.x point.y w) in
      let nothing = rw (size_none point.x, size_none point.y) at far in
      omega arith),
  λ n x' y' w.
      (squares-over (point.x -ℤ x') (point.y -ℤ y') point.error).1
      (rw none (some (nat_abs (point.x -ℤ x')) (nat_abs (point.y -ℤ y')) (λ ex ey. n (rw (same point.x x' ex, same point.y y' ey) w)))),
)
  where
    some : (u v : ℕ) → (u ≡ 0 → v ≡ 0 → ⊥) → 0 * 0 < u * u + v * v
    some zero zero n = absurd (n refl refl)
    some zero (suc v) n = omega arith
    some (suc u) v n = omega arith

module _ (shape : Shape) (point : Point) (accepted : AcceptedShape shape) (ranged : RangedPoint point) (none : point.error ≡ 0) where
  -- Without an error a point is inside exactly where it is within the circle or the box,
  pub exact-inside : (locate shape (Known point) ≡ Inside) ↔ Within shape point.x point.y
  exact-inside = Iff.trans (located-inside shape point accepted ranged) (surely-within shape point none)

  -- and outside is the opposite: it is never unsure.
  pub exact-outside : (locate shape (Known point) ≡ Outside) ↔ (Within shape point.x point.y → ⊥)
  exact-outside = Iff.trans (located-outside shape point accepted ranged) (surely-not-within shape point none)

  pub exact-sure : locate shape (Known point) ≡ Unsure → ⊥
  exact-sure e =
      let outside = exact-outside.1 (λ within. differ is_inside (exact-inside.1 within) e refl refl) in
      differ is_outside outside e refl refl

-- ---- a larger error

module _ (shape : Shape) (point wider : Point) (accepted : AcceptedShape shape) (ranged : RangedPoint point) (still : RangedPoint wider) (same-x : wider.x ≡ point.x) (same-y : wider.y ≡ point.y) (more : point.error ≤ wider.error) where
  -- its error circle has every point of the smaller one
  contains : (k : ℕ) (x' y' : ℤ) → InErrorCircle point k x' y' → InErrorCircle wider k x' y'
  contains k x' y' near =
      rw (same-x, same-y)
      ((squares-most (x' -ℤ pos k *ℤ point.x) (y' -ℤ pos k *ℤ point.y) (k * wider.error)).1
      (let close = (squares-most (x' -ℤ pos k *ℤ point.x) (y' -ℤ pos k *ℤ point.y) (k * point.error)).0 near in
      let longer = mul-le-mul (le_refl k) more in
      omega (arith, mul-le-mul longer longer)))

  -- What is sure with a larger error is sure with the smaller one, in the same way;
  pub larger-inside : locate shape (Known wider) ≡ Inside → locate shape (Known point) ≡ Inside
  larger-inside e =
      (inside-every-point shape point accepted ranged).1
      (λ k x' y' some near. (inside-every-point shape wider accepted still).0 e k x' y' some (contains k x' y' near))

  pub larger-outside : locate shape (Known wider) ≡ Outside → locate shape (Known point) ≡ Outside
  larger-outside e =
      (outside-every-point shape point accepted ranged).1
      (λ k x' y' some near. (outside-every-point shape wider accepted still).0 e k x' y' some (contains k x' y' near))

  -- so that it never makes an unsure position sure,
  pub larger-unsure : locate shape (Known point) ≡ Unsure → locate shape (Known wider) ≡ Unsure
  larger-unsure e =
      ⊎_elim (λ p. absurd (differ is_inside (larger-inside p.0) e refl refl))
      (⊎_elim (λ p. absurd (differ is_outside (larger-outside p.0) e refl refl)) (λ p. p.0))
      (three-outcomes shape wider accepted still)

  -- nor turns inside into outside or outside into inside.
  pub larger-never-turns : locate shape (Known point) ≡ Inside → locate shape (Known wider) ≡ Outside → ⊥
  larger-never-turns i o = differ is_inside i (larger-outside o) refl refl

  pub larger-never-turns-back : locate shape (Known point) ≡ Outside → locate shape (Known wider) ≡ Inside → ⊥
  larger-never-turns-back o i = differ is_outside o (larger-inside i) refl refl
