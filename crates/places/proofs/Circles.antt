-- A circle and a point known to an error: what holds of the points of the error circle, each at a scale k, by the sizes of differences.
-- Assumes nothing.
use mathlib.Core.Path.{◌≡◌, refl, ap}
use mathlib.Core.Logic.{⊎_elim}
use Prim.Native.Nat.{ℕ, ◌+◌, ◌-◌, ◌*◌, ◌<◌, ◌≤◌}
use native.Mathlib.Nat.{mul-le-mul}
use native.Mathlib.Omega.{arith}
use lib.IntN.{ℤ, pos, negsuc, nat_abs, ◌+ℤ◌, ◌-ℤ◌, ◌*ℤ◌}
use Rattle.places.specs.Places.{square}
use Rattle.places.proofs.Integers.{above, below, one_side, size, difference, difference-scaled, sum-scaled, size-times, size-most, size-between, size-swapped}
use Rattle.places.proofs.Squares.{third-side, scale-squares, unscale-squares, square-less}
use Rattle.places.proofs.Roots.{Outward}

-- ---- one coordinate: of the reported point (x), of the circle's centre (c), and of a point of the error circle (x')

-- x' - k c is x' - k x and k times x - c
parts : (x' x c : ℤ) (k : ℕ) →
    above (x' -ℤ pos k *ℤ c) + (below (x' -ℤ pos k *ℤ x) + k * below (x -ℤ c))
    ≡ (above (x' -ℤ pos k *ℤ x) + k * above (x -ℤ c)) + below (x' -ℤ pos k *ℤ c)
parts x' x c k = omega (arith, difference-scaled x' c k, difference-scaled x' x k, ap (λ (n : ℕ). k * n) (difference x c))

from-centre : (x' x c : ℤ) (k : ℕ) → nat_abs (x' -ℤ pos k *ℤ c) ≤ nat_abs (x' -ℤ pos k *ℤ x) + k * nat_abs (x -ℤ c)
from-centre x' x c k = size-most (x' -ℤ pos k *ℤ c) (x' -ℤ pos k *ℤ x) (x -ℤ c) k (parts x' x c k)

to-centre : (x' x c : ℤ) (k : ℕ) → k * nat_abs (x -ℤ c) ≤ nat_abs (x' -ℤ pos k *ℤ x) + nat_abs (x' -ℤ pos k *ℤ c)
to-centre x' x c k = size-between (x' -ℤ pos k *ℤ c) (x' -ℤ pos k *ℤ x) (x -ℤ c) k (parts x' x c k)

-- x at scale k, moved by m times w
abbrev pub moved : ℕ → ℤ → ℕ → ℤ → ℤ
moved k x m w = pos k *ℤ x +ℤ pos m *ℤ w

pub moved_by : (k : ℕ) (x : ℤ) (m : ℕ) (w : ℤ) → nat_abs (moved k x m w -ℤ pos k *ℤ x) ≡ m * nat_abs w
moved_by k x m w =
    size-times (moved k x m w -ℤ pos k *ℤ x) w m (omega (arith, sum-scaled x w k m, difference-scaled (moved k x m w) x k))

-- towards the centre by e of q + e parts: q parts are left
moved-towards : (x c : ℤ) (q e : ℕ) → nat_abs (moved (q + e) x e (c -ℤ x) -ℤ pos (q + e) *ℤ c) ≡ q * nat_abs (x -ℤ c)
moved-towards x c q e =
    size-times (moved (q + e) x e (c -ℤ x) -ℤ pos (q + e) *ℤ c) (x -ℤ c) q
    (omega (arith, sum-scaled x (c -ℤ x) (q + e) e, difference-scaled (moved (q + e) x e (c -ℤ x)) c (q + e), ap (λ (n : ℕ). e * n) (difference c x), ap (λ (n : ℕ). q * n) (difference x c)))

-- away from it by m of n parts
moved-away : (x c : ℤ) (n m : ℕ) → nat_abs (moved n x m (x -ℤ c) -ℤ pos n *ℤ c) ≡ (n + m) * nat_abs (x -ℤ c)
moved-away x c n m =
    size-times (moved n x m (x -ℤ c) -ℤ pos n *ℤ c) (x -ℤ c) (n + m)
    (omega (arith, sum-scaled x (x -ℤ c) n m, difference-scaled (moved n x m (x -ℤ c)) c n, ap (λ (i : ℕ). n * i) (difference x c)))

-- ---- both coordinates: a point (x, y) with the error e, and a circle with the radius q around (c, d)

module _ (x y c d : ℤ) (q e : ℕ) where
  -- (x', y') at scale k is in the error circle, and in the circle
  abbrev Near : ℕ → ℤ → ℤ → Type 0
  Near k x' y' = square (x' -ℤ pos k *ℤ x) + square (y' -ℤ pos k *ℤ y) ≤ (k * e) * (k * e)

  abbrev In : ℕ → ℤ → ℤ → Type 0
  In k x' y' = square (x' -ℤ pos k *ℤ c) + square (y' -ℤ pos k *ℤ d) ≤ (k * q) * (k * q)

  pub inside-every : (k : ℕ) (x' y' : ℤ) → e ≤ q → square (x -ℤ c) + square (y -ℤ d) ≤ (q - e) * (q - e) → Near k x' y' → In k x' y'
  inside-every k x' y' h deep near =
      third-side (nat_abs (x' -ℤ pos k *ℤ c)) (nat_abs (y' -ℤ pos k *ℤ d)) (nat_abs (x' -ℤ pos k *ℤ x)) (nat_abs (y' -ℤ pos k *ℤ y)) (k * nat_abs (x -ℤ c)) (k * nat_abs (y -ℤ d)) (k * e) (k * (q - e)) (k * q) (from-centre x' x c k) (from-centre y' y d k) near (scale-squares k (nat_abs (x -ℤ c)) (nat_abs (y -ℤ d)) (q - e) deep) whole
    where
      whole : k * e + k * (q - e) ≡ k * q
      whole = let sum : e + (q - e) ≡ q = omega arith in omega (arith, ap (λ (n : ℕ). k * n) sum)

  pub outside-every : (k : ℕ) (x' y' : ℤ) → 1 ≤ k → (q + e) * (q + e) < square (x -ℤ c) + square (y -ℤ d) → Near k x' y' → In k x' y' → ⊥
  outside-every k x' y' some far near inside =
      let met = third-side (k * nat_abs (x -ℤ c)) (k * nat_abs (y -ℤ d)) (nat_abs (x' -ℤ pos k *ℤ x)) (nat_abs (y' -ℤ pos k *ℤ y)) (nat_abs (x' -ℤ pos k *ℤ c)) (nat_abs (y' -ℤ pos k *ℤ d)) (k * e) (k * q) (k * (q + e)) (to-centre x' x c k) (to-centre y' y d k) near inside (omega arith) in
      let within = unscale-squares k (nat_abs (x -ℤ c)) (nat_abs (y -ℤ d)) (q + e) some met in
      omega arith

  -- the point on the way to the centre
  pub some-inside : square (x -ℤ c) + square (y -ℤ d) ≤ (q + e) * (q + e) → Near (q + e) (moved (q + e) x e (c -ℤ x)) (moved (q + e) y e (d -ℤ y)) × In (q + e) (moved (q + e) x e (c -ℤ x)) (moved (q + e) y e (d -ℤ y))
  some-inside h = (
    rw (moved_by (q + e) x e (c -ℤ x), moved_by (q + e) y e (d -ℤ y), size-swapped c x, size-swapped d y) (omega (arith, scale-squares e (nat_abs (x -ℤ c)) (nat_abs (y -ℤ d)) (q + e) h)),
    rw (moved-towards x c q e, moved-towards y d q e) (omega (arith, scale-squares q (nat_abs (x -ℤ c)) (nat_abs (y -ℤ d)) (q + e) h)),
  )

  -- the point on the way from it
  pub some-outside : (out : Outward q e (square (x -ℤ c) + square (y -ℤ d))) →
      let x' = moved out.n x out.m (x -ℤ c) in
      let y' = moved out.n y out.m (y -ℤ d) in
      Near out.n x' y' × (In out.n x' y' → ⊥)
  some-outside out = (
    rw (moved_by out.n x out.m (x -ℤ c), moved_by out.n y out.m (y -ℤ d)) (omega (arith, out.near)),
    λ inside. (let far = rw (moved-away x c out.n out.m, moved-away y d out.n out.m) at inside in omega (arith, out.far)),
  )

  -- an error above the radius: the point moved by all of it along x, away from the centre
  away : (w : ℤ) × (nat_abs w ≡ 1) × (e ≤ nat_abs (moved 1 x e w -ℤ pos 1 *ℤ c))
  away = ⊎_elim (λ s. (pos 1, refl, right s)) (λ s. (negsuc 0, refl, left s)) (one_side (x -ℤ c))
    where
      right : below (x -ℤ c) ≡ 0 → e ≤ nat_abs (moved 1 x e (pos 1) -ℤ pos 1 *ℤ c)
      right s =
          omega (arith, size (moved 1 x e (pos 1) -ℤ pos 1 *ℤ c), sum-scaled x (pos 1) 1 e, difference-scaled (moved 1 x e (pos 1)) c 1, difference x c)

      left : above (x -ℤ c) ≡ 0 → e ≤ nat_abs (moved 1 x e (negsuc 0) -ℤ pos 1 *ℤ c)
      left s =
          omega (arith, size (moved 1 x e (negsuc 0) -ℤ pos 1 *ℤ c), sum-scaled x (negsuc 0) 1 e, difference-scaled (moved 1 x e (negsuc 0)) c 1, difference x c)

  pub larger-error : q < e → (w : ℤ) × (nat_abs w ≡ 1) × (In 1 (moved 1 x e w) (moved 1 y 0 w) → ⊥)
  larger-error less = (away.0, away.1, λ inside. omega (arith, mul-le-mul away.2 away.2, square-less q e less, inside))
