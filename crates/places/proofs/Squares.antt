-- Squares: what the order of two says of their roots, and what a triangle's sides say of each other.
-- Assumes nothing.
use mathlib.Core.Path.{◌≡◌, refl}
use mathlib.Core.Bool.{Bool, true, false}
use Prim.Native.Nat.{ℕ, suc, ◌+◌, ◌-◌, ◌*◌, ◌<◌, ◌≤◌}
use native.Mathlib.Nat.{mul-le-mul, mul-suc, suc-mul, le_refl}
use native.Mathlib.Omega.{arith}
use lib.Dec.{leb}
use borrow.Author.Tests.{lt-leb, leb-true, leb-false}

pub square-less : (r n : ℕ) → r < n → r * r < n * n
square-less r n h =
    let next : r * r < suc r * suc r = simp (mul-suc, suc-mul) (omega arith) in
    omega (arith, next, mul-le-mul h h)

-- a sum that has the square of a number above r in it is above the square of r
pub sum_over : (n r s : ℕ) → r < n → n * n ≤ s → leb s (r * r) ≡ false
sum_over n r s h part = let less = square-less r n h in lt-leb s (r * r) (omega arith)

-- ---- roots and factors

pub root-most : (a b : ℕ) → a * a ≤ b * b → a ≤ b
root-most a b h = by_order (leb a b) refl
  where
    by_order : (t : Bool) → leb a b ≡ t → a ≤ b
    by_order true e = leb-true a b e
    by_order false e = absurd (let less = square-less b a (leb-false a b e) in omega arith)

pub root-less : (a b : ℕ) → a * a < b * b → a < b
root-less a b h = by_order (leb b a) refl
  where
    by_order : (t : Bool) → leb b a ≡ t → a < b
    by_order true e = absurd (let l = leb-true b a e in omega (arith, mul-le-mul l l))
    by_order false e = leb-false b a e

pub factor-most : (m a b : ℕ) → 1 ≤ m → m * a ≤ m * b → a ≤ b
factor-most m a b some h = by_order (leb a b) refl
  where
    by_order : (t : Bool) → leb a b ≡ t → a ≤ b
    by_order true e = leb-true a b e
    by_order false e = absurd (omega (arith, mul-le-mul (le_refl m) (leb-false a b e)))

pub factor-less : (m a b : ℕ) → m * a < m * b → a < b
factor-less m a b h = by_order (leb b a) refl
  where
    by_order : (t : Bool) → leb b a ≡ t → a < b
    by_order true e = absurd (omega (arith, mul-le-mul (le_refl m) (leb-true b a e)))
    by_order false e = leb-false b a e

-- ---- the triangle: two sides at most r and s make a third at most r + s

twice-product : (x y : ℕ) → x * y + x * y ≤ x * x + y * y
twice-product x y = by_order (leb x y) refl
  where
    further : (a b : ℕ) → a * (a + b) + a * (a + b) ≤ a * a + (a + b) * (a + b)
    further a b = omega arith

    by_order : (t : Bool) → leb x y ≡ t → x * y + x * y ≤ x * x + y * y
    by_order true e = let l = leb-true x y e in let whole : y ≡ x + (y - x) = omega arith in rw whole (further x (y - x))
    by_order false e =
        let l = leb-false x y e in
        let whole : x ≡ y + (x - y) = omega arith in
        let turned = further y (x - y) in
        let back : y * x + y * x ≤ y * y + x * x = rw (← whole) at turned in
        omega arith

cross : (a b c d r s : ℕ) → a * a + b * b ≤ r * r → c * c + d * d ≤ s * s → a * c + b * d ≤ r * s
cross a b c d r s h k =
    root-most (a * c + b * d) (r * s) (omega (arith, twice-product (a * d) (b * c), mul-le-mul h k))

pub triangle : (a b c d r s : ℕ) → a * a + b * b ≤ r * r → c * c + d * d ≤ s * s → (a + c) * (a + c) + (b + d) * (b + d) ≤ (r + s) * (r + s)
triangle a b c d r s h k = omega (arith, cross a b c d r s h k)

-- the same of what is at most the two sides together
pub third-side : (u v a b c d r s t : ℕ) → u ≤ a + c → v ≤ b + d → a * a + b * b ≤ r * r → c * c + d * d ≤ s * s → r + s ≡ t → u * u + v * v ≤ t * t
third-side u v a b c d r s t hu hv h k e =
    rw (← e) (omega (arith, mul-le-mul hu hu, mul-le-mul hv hv, triangle a b c d r s h k))

-- ---- a scale

pub scale-squares : (k a b r : ℕ) → a * a + b * b ≤ r * r → (k * a) * (k * a) + (k * b) * (k * b) ≤ (k * r) * (k * r)
scale-squares k a b r h = omega (arith, mul-le-mul (le_refl (k * k)) h)

pub unscale-squares : (k a b r : ℕ) → 1 ≤ k → (k * a) * (k * a) + (k * b) * (k * b) ≤ (k * r) * (k * r) → a * a + b * b ≤ r * r
unscale-squares k a b r some h =
    factor-most (k * k) (a * a + b * b) (r * r) (omega (arith, mul-le-mul some some)) (omega arith)
