-- A box and a point known to an error: what holds of the points of the error circle, each at a scale k, for the two sides of one direction.
-- Assumes nothing.
use mathlib.Core.Path.{◌≡◌, refl, ap}
use mathlib.Core.Bool.{Bool, true, false, cond}
use mathlib.Core.Logic.{⊎_elim}
use Prim.Native.Nat.{ℕ, suc, ◌+◌, ◌*◌, ◌≤◌}
use native.Mathlib.Nat.{mul-le-mul, le_refl}
use native.Mathlib.Omega.{arith}
use lib.IntN.{ℤ, pos, negsuc, neg_ℤ, nat_abs, ◌+ℤ◌, ◌-ℤ◌, ◌*ℤ◌}
use lib.Signed.{le_z, ◌≤ℤ◌, ◌<ℤ◌, ≤ℤ_refl}
use Rattle.places.specs.Places.{beyond}
use Rattle.places.proofs.Integers.{above, below, one_side, size, ordered, to-order, ordered-strictly, sum, difference, above-times, below-times, difference-scaled, sum-scaled, size_none, size-swapped}
use Rattle.places.proofs.Orders.{above_ℤ, at-most_ℤ}
use Rattle.places.proofs.Circles.{moved}

-- ---- e or more within a side

-- low + e ≤ z
room : (low z : ℤ) (e : ℕ) → (low +ℤ pos e) ≤ℤ z → above low + (e + below z) ≤ above z + below low
room low z e h = omega (arith, ordered (low +ℤ pos e) z h, sum low (pos e))

-- no point of the error circle is past the side
pub low-every : (low z z' : ℤ) (e k : ℕ) → (low +ℤ pos e) ≤ℤ z → nat_abs (z' -ℤ pos k *ℤ z) ≤ k * e → (pos k *ℤ low) ≤ℤ z'
low-every low z z' e k h near =
    to-order (pos k *ℤ low) z'
    (omega (arith, mul-le-mul (le_refl k) (room low z e h), size (z' -ℤ pos k *ℤ z), difference-scaled z' z k, above-times k low, below-times k low))

pub high-every : (z high z' : ℤ) (e k : ℕ) → (z +ℤ pos e) ≤ℤ high → nat_abs (z' -ℤ pos k *ℤ z) ≤ k * e → z' ≤ℤ (pos k *ℤ high)
high-every z high z' e k h near =
    to-order z' (pos k *ℤ high)
    (omega (arith, mul-le-mul (le_refl k) (room z high e h), size (z' -ℤ pos k *ℤ z), difference-scaled z' z k, above-times k high, below-times k high))

-- else the point moved by its error towards the side is
pub low-passed : (low z : ℤ) (e : ℕ) → le_z (low +ℤ pos e) z ≡ false → (pos 1 *ℤ low) ≤ℤ moved 1 z e (negsuc 0) → ⊥
low-passed low z e short h =
    omega (arith, ordered-strictly z (low +ℤ pos e) ((above_ℤ (low +ℤ pos e) z).0 short), sum low (pos e), ordered (pos 1 *ℤ low) (moved 1 z e (negsuc 0)) h, above-times 1 low, below-times 1 low, sum-scaled z (negsuc 0) 1 e)

pub high-passed : (z high : ℤ) (e : ℕ) → le_z (z +ℤ pos e) high ≡ false → moved 1 z e (pos 1) ≤ℤ (pos 1 *ℤ high) → ⊥
high-passed z high e short h =
    omega (arith, ordered-strictly high (z +ℤ pos e) ((above_ℤ (z +ℤ pos e) high).0 short), sum z (pos e), ordered (moved 1 z e (pos 1)) (pos 1 *ℤ high) h, above-times 1 high, below-times 1 high, sum-scaled z (pos 1) 1 e)

-- ---- how far beyond two sides

-- no point between the sides is nearer
pub beyond-least : (low high z z' : ℤ) (k : ℕ) → (pos k *ℤ low) ≤ℤ z' → z' ≤ℤ (pos k *ℤ high) → k * beyond low high z ≤ nat_abs (z' -ℤ pos k *ℤ z)
unfolding beyond
beyond-least low high z z' k from to = by-sides (le_z low z) (le_z z high) refl refl
  where
    past-high : high <ℤ z → k * nat_abs (z -ℤ high) ≤ nat_abs (z' -ℤ pos k *ℤ z)
    past-high h =
        ⊎_elim
        (λ s. omega (arith, size (z' -ℤ pos k *ℤ z), difference-scaled z' z k, ap (λ (n : ℕ). k * n) (size (z -ℤ high)), ap (λ (n : ℕ). k * n) (difference z high), ap (λ (n : ℕ). k * n) s, ordered z' (pos k *ℤ high) to, above-times k high, below-times k high))
        (λ s. absurd (omega (arith, difference z high, ordered-strictly high z h)))
        (one_side (z -ℤ high))

    past-low : z <ℤ low → k * nat_abs (low -ℤ z) ≤ nat_abs (z' -ℤ pos k *ℤ z)
    past-low h =
        ⊎_elim
        (λ s. omega (arith, size (z' -ℤ pos k *ℤ z), difference-scaled z' z k, ap (λ (n : ℕ). k * n) (size (low -ℤ z)), ap (λ (n : ℕ). k * n) (difference low z), ap (λ (n : ℕ). k * n) s, ordered (pos k *ℤ low) z' from, above-times k low, below-times k low))
        (λ s. absurd (omega (arith, difference low z, ordered-strictly z low h)))
        (one_side (low -ℤ z))

    by-sides : (s t : Bool) → le_z low z ≡ s → le_z z high ≡ t → k * cond s (cond t 0 (nat_abs (z -ℤ high))) (nat_abs (low -ℤ z)) ≤ nat_abs (z' -ℤ pos k *ℤ z)
    by-sides true true es et = omega arith
    by-sides true false es et = past-high ((above_ℤ z high).0 et)
    by-sides false t es et = past-low ((above_ℤ low z).0 es)

pub one-times : (z : ℤ) → pos 1 *ℤ z ≡ z
one-times (pos n) = ap pos (omega arith)
one-times (negsuc n) = let e : 1 * suc n ≡ suc n = omega arith in ap (λ (m : ℕ). neg_ℤ (pos m)) e

pub beyond-nearest : (low high z z' : ℤ) → low ≤ℤ z' → z' ≤ℤ high → beyond low high z ≤ nat_abs (z -ℤ z')
beyond-nearest low high z z' from to =
    let least = rw (one-times z) at (beyond-least low high z z' 1 (rw (one-times low) from) (rw (one-times high) to)) in
    omega (arith, size-swapped z z')

-- the nearest point between the sides is that far
pub record Nearest (low high z : ℤ) : Type 0 where
  pub z' : ℤ
  pub from : low ≤ℤ z'
  pub to : z' ≤ℤ high
  pub far : nat_abs (z -ℤ z') ≡ beyond low high z

pub nearest : (low high z : ℤ) → low ≤ℤ high → Nearest low high z
unfolding beyond
nearest low high z sides = by-sides (le_z low z) (le_z z high) refl refl
  where
    by-sides : (s t : Bool) → le_z low z ≡ s → le_z z high ≡ t → Nearest low high z
    by-sides true true es et =
        record { z' = z; from = (at-most_ℤ low z).0 es; to = (at-most_ℤ z high).0 et; far = rw (es, et) (size_none z) }
    by-sides true false es et =
        record { z' = high; from = sides; to = ≤ℤ_refl high; far = rw (es, et) }
    by-sides false t es et =
        record { z' = low; from = ≤ℤ_refl low; to = sides; far = rw es (size-swapped z low) }
