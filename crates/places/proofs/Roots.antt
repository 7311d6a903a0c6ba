-- A rational number m / n near e / √D from below: where D is above the square of q - e, a point at the distance √D from a centre, moved on
-- by m / n of that distance, is moved by no more than e and comes to lie more than q away.
-- Assumes nothing.
use mathlib.Core.Path.{◌≡◌, refl}
use mathlib.Core.Bool.{Bool, true, false}
use Prim.Native.Nat.{ℕ, zero, suc, ◌+◌, ◌*◌, ◌<◌, ◌≤◌}
use native.Mathlib.Nat.{mul-le-mul, le_refl}
use native.Mathlib.Omega.{arith}
use lib.Dec.{leb}
use borrow.Author.Tests.{leb-true, leb-false}
use Rattle.places.proofs.Squares.{square-less, root-less, factor-less}

-- m is the largest number whose square, times D, is at most N
record Root (D N : ℕ) : Type 0 where
  m : ℕ
  low : m * m * D ≤ N
  high : N < suc m * suc m * D

next : {D N : ℕ} → 1 ≤ D → (before : Root D N) (t : Bool) → leb (suc before.m * suc before.m * D) (suc N) ≡ t → Root D (suc N)
next {D} {N} some before true e =
    record {
      m = suc before.m;
      low = leb-true (suc before.m * suc before.m * D) (suc N) e;
      high = omega (arith, before.high);
    }
next {D} {N} some before false e =
    record {
      m = before.m;
      low = omega (arith, before.low);
      high = leb-false (suc before.m * suc before.m * D) (suc N) e;
    }

root : (D N : ℕ) → 1 ≤ D → Root D N
root D zero some = record { m = 0; low = omega arith; high = omega arith }
root D (suc N) some = next some (root D N some) (leb (suc (root D N some).m * suc (root D N some).m * D) (suc N)) refl

-- ---- what follows if the moved point were at most q away: N is n + m

ratio : (N n m q e D : ℕ) → 1 ≤ q → N * N * D ≤ (n * q) * (n * q) → (n * e) * (n * e) < suc m * suc m * D → N * e < q * suc m
ratio N n m q e D some h k =
    root-less (N * e) (q * suc m)
    (factor-less D ((N * e) * (N * e)) ((q * suc m) * (q * suc m))
    (omega (arith, mul-le-mul h (le_refl (e * e)), mul-le-mul k (le_refl (q * q)), mul-le-mul some some)))

left_over : (n m s e : ℕ) → (suc n + m) * e < (s + e) * suc m → (s + e) * n < s * (suc n + m)
left_over n m s e h = omega arith

close : (N n k q s D : ℕ) → 1 ≤ D → q * k < s * N → N * N * D ≤ (n * q) * (n * q) → k * k * D < s * s * (n * n)
close N n k q s D some less h =
    factor-less (q * q) (k * k * D) (s * s * (n * n))
    (omega (arith, mul-le-mul (square-less (q * k) (s * N) less) (le_refl D), mul-le-mul (le_refl (s * s)) h))

too-close : (t D : ℕ) → t < D → (t + t + 1) * (t + t + 1) * D < t * ((t + t + 2) * (t + t + 2)) → ⊥
too-close t D more h = omega (arith, mul-le-mul (le_refl ((t + t + 1) * (t + t + 1))) more)

-- ---- m / n

pub record Outward (q e D : ℕ) : Type 0 where
  pub n : ℕ
  pub m : ℕ
  pub some : 1 ≤ n
  pub near : m * m * D ≤ (n * e) * (n * e)
  pub far : (n * q) * (n * q) < (n + m) * (n + m) * D

-- the scale: one more than k
abbrev parts : ℕ → ℕ
parts s = s * s + s * s + 1

never : (s e D : ℕ) (found : Root D ((suc (parts s) * e) * (suc (parts s) * e))) → 1 ≤ s + e → s * s < D →
    (suc (parts s) + found.m) * (suc (parts s) + found.m) * D ≤ (suc (parts s) * (s + e)) * (suc (parts s) * (s + e)) → ⊥
never s e D found some more h =
    let n = suc (parts s) in
    let less = left_over (parts s) found.m s e (ratio (n + found.m) n found.m (s + e) e D some h found.high) in
    let last = close (n + found.m) n (parts s) (s + e) s D (omega arith) less h in
    too-close (s * s) D more (omega (arith, last))

over : (a b : ℕ) → (b ≤ a → ⊥) → a < b
over a b n = omega arith

pub outward : (s e D : ℕ) → 1 ≤ s + e → s * s < D → Outward (s + e) e D
outward s e D some more = by_order (root D ((suc (parts s) * e) * (suc (parts s) * e)) (omega arith))
  where
    by_order : Root D ((suc (parts s) * e) * (suc (parts s) * e)) → Outward (s + e) e D
    by_order found =
        record {
          n = suc (parts s);
          m = found.m;
          some = omega arith;
          near = found.low;
          far = over ((suc (parts s) * (s + e)) * (suc (parts s) * (s + e))) ((suc (parts s) + found.m) * (suc (parts s) + found.m) * D) (never s e D found some more);
        }
