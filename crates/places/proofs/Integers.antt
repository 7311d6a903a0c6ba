-- Integers by what of them lies above 0 and what below it, so that linear facts about them are shown by arithmetic over numbers.
-- Assumes nothing.
use mathlib.Core.Path.{◌≡◌, refl, ◌∙◌, ap}
use mathlib.Core.Bool.{Bool, true, false, cond}
use mathlib.Core.Logic.{◌⊎◌, inl, inr, ⊎_elim}
use Prim.Native.Nat.{ℕ, zero, suc, ◌+◌, ◌-◌, ◌*◌, ◌<◌, ◌≤◌}
use native.Mathlib.Omega.{arith}
use borrow.Author.Tests.{ltb-true, ltb-false}
use lib.Dec.{ltb, leb→le, le→leb, ltb→lt}
use lib.IntN.{ℤ, pos, negsuc, neg_ℤ, nat_abs, sub_ℕ, ◌+ℤ◌, ◌-ℤ◌, ◌*ℤ◌}
use lib.Signed.{◌≤ℤ◌, ◌<ℤ◌}

abbrev pub above : ℤ → ℕ
above (pos n) = n
above (negsuc n) = 0

abbrev pub below : ℤ → ℕ
below (pos n) = 0
below (negsuc n) = suc n

pub size : (z : ℤ) → nat_abs z ≡ above z + below z
size (pos n) = omega arith
size (negsuc n) = omega arith

pub one_side : (z : ℤ) → (below z ≡ 0) ⊎ (above z ≡ 0)
one_side (pos n) = inl refl
one_side (negsuc n) = inr refl

-- ---- order

pub ordered : (a b : ℤ) → a ≤ℤ b → above a + below b ≤ above b + below a
ordered (pos a) (pos b) h = let l = leb→le a b h.le in omega arith
ordered (pos a) (negsuc b) h = absurd h.le
ordered (negsuc a) (pos b) h = omega arith
ordered (negsuc a) (negsuc b) h = let l = leb→le b a h.le in omega arith

pub to-order : (a b : ℤ) → above a + below b ≤ above b + below a → a ≤ℤ b
to-order (pos a) (pos b) h = record { le = le→leb a b (omega arith) }
to-order (pos a) (negsuc b) h = absurd (omega arith)
to-order (negsuc a) (pos b) h = record { le = tt }
to-order (negsuc a) (negsuc b) h = record { le = le→leb b a (omega arith) }

pub ordered-strictly : (a b : ℤ) → a <ℤ b → above a + below b < above b + below a
ordered-strictly (pos a) (pos b) h = let l = ltb→lt a b h.lt in omega arith
ordered-strictly (pos a) (negsuc b) h = absurd h.lt
ordered-strictly (negsuc a) (pos b) h = omega arith
ordered-strictly (negsuc a) (negsuc b) h = let l = ltb→lt b a h.lt in omega arith

-- ---- sum, difference, a number times an integer

above-negated : (z : ℤ) → above (neg_ℤ z) ≡ below z
above-negated (pos zero) = refl
above-negated (pos (suc n)) = refl
above-negated (negsuc n) = refl

below-negated : (z : ℤ) → below (neg_ℤ z) ≡ above z
below-negated (pos zero) = refl
below-negated (pos (suc n)) = refl
below-negated (negsuc n) = refl

of-numbers : (a b : ℕ) → above (sub_ℕ a b) + b ≡ a + below (sub_ℕ a b)
of-numbers a b = by_order (ltb a b) refl
  where
    by_order : (t : Bool) → ltb a b ≡ t → above (cond t (negsuc (b - suc a)) (pos (a - b))) + b ≡ a + below (cond t (negsuc (b - suc a)) (pos (a - b)))
    by_order true e = let less = ltb-true a b e in omega arith
    by_order false e = let most = ltb-false a b e in omega arith

pub sum : (a b : ℤ) → above (a +ℤ b) + (below a + below b) ≡ (above a + above b) + below (a +ℤ b)
sum (pos a) (pos b) = omega arith
sum (pos a) (negsuc b) = omega (arith, of-numbers a (suc b))
sum (negsuc a) (pos b) = omega (arith, of-numbers b (suc a))
sum (negsuc a) (negsuc b) = omega arith

pub difference : (a b : ℤ) → above (a -ℤ b) + (below a + above b) ≡ (above a + below b) + below (a -ℤ b)
difference a b = omega (arith, sum a (neg_ℤ b), above-negated b, below-negated b)

pub above-times : (k : ℕ) (z : ℤ) → above (pos k *ℤ z) ≡ k * above z
above-times k (pos n) = refl
above-times k (negsuc n) = above-negated (pos (k * suc n)) ∙ omega arith

pub below-times : (k : ℕ) (z : ℤ) → below (pos k *ℤ z) ≡ k * below z
below-times k (pos n) = omega arith
below-times k (negsuc n) = below-negated (pos (k * suc n))

pub difference-scaled : (x c : ℤ) (k : ℕ) → above (x -ℤ pos k *ℤ c) + (below x + k * above c) ≡ (above x + k * below c) + below (x -ℤ pos k *ℤ c)
difference-scaled x c k = omega (arith, difference x (pos k *ℤ c), above-times k c, below-times k c)

-- k times x and m times w
pub sum-scaled : (x w : ℤ) (k m : ℕ) → above (pos k *ℤ x +ℤ pos m *ℤ w) + (k * below x + m * below w) ≡ (k * above x + m * above w) + below (pos k *ℤ x +ℤ pos m *ℤ w)
sum-scaled x w k m =
    omega (arith, sum (pos k *ℤ x) (pos m *ℤ w), above-times k x, below-times k x, above-times m w, below-times m w)

-- ---- sizes

size-scaled : (k : ℕ) (w : ℤ) → k * nat_abs w ≡ k * above w + k * below w
size-scaled k w = omega (arith, ap (λ (n : ℕ). k * n) (size w))

-- u is m times w
pub size-times : (u w : ℤ) (m : ℕ) → above u + m * below w ≡ m * above w + below u → nat_abs u ≡ m * nat_abs w
size-times (pos u) (pos w) m e = omega arith
size-times (pos u) (negsuc w) m e = omega arith
size-times (negsuc u) (pos w) m e = absurd (omega arith)
size-times (negsuc u) (negsuc w) m e = omega arith

-- u is v and k times w
pub size-most : (u v w : ℤ) (k : ℕ) → above u + (below v + k * below w) ≡ (above v + k * above w) + below u → nat_abs u ≤ nat_abs v + k * nat_abs w
size-most u v w k e =
    ⊎_elim (λ s. omega (arith, size u, size v, size-scaled k w)) (λ s. omega (arith, size u, size v, size-scaled k w)) (one_side u)

-- k times w is u without v
pub size-between : (u v w : ℤ) (k : ℕ) → above u + (below v + k * below w) ≡ (above v + k * above w) + below u → k * nat_abs w ≤ nat_abs v + nat_abs u
size-between u v w k e =
    ⊎_elim
    (λ s. omega (arith, size u, size v, size-scaled k w, ap (λ (n : ℕ). k * n) s))
    (λ s. omega (arith, size u, size v, size-scaled k w, ap (λ (n : ℕ). k * n) s))
    (one_side w)

pub size_none : (z : ℤ) → nat_abs (z -ℤ z) ≡ 0
size_none z = ⊎_elim (λ s. omega (arith, size (z -ℤ z), difference z z)) (λ s. omega (arith, size (z -ℤ z), difference z z)) (one_side (z -ℤ z))

-- u is w the other way round
size-opposite : (u w : ℤ) → above u + above w ≡ below u + below w → nat_abs u ≡ nat_abs w
size-opposite (pos u) (pos w) e = omega arith
size-opposite (pos u) (negsuc w) e = omega arith
size-opposite (negsuc u) (pos w) e = omega arith
size-opposite (negsuc u) (negsuc w) e = absurd (omega arith)

pub size-swapped : (a b : ℤ) → nat_abs (a -ℤ b) ≡ nat_abs (b -ℤ a)
size-swapped a b = size-opposite (a -ℤ b) (b -ℤ a) (omega (arith, difference a b, difference b a))

-- an integer of size 0 is the difference of equals
pub same : (a b : ℤ) → nat_abs (a -ℤ b) ≡ 0 → a ≡ b
same (pos a) (pos b) e = ap pos (omega (arith, size (pos a -ℤ pos b), difference (pos a) (pos b)))
same (pos a) (negsuc b) e = absurd (omega (arith, size (pos a -ℤ negsuc b), difference (pos a) (negsuc b)))
same (negsuc a) (pos b) e = absurd (omega (arith, size (negsuc a -ℤ pos b), difference (negsuc a) (pos b)))
same (negsuc a) (negsuc b) e = ap negsuc (omega (arith, size (negsuc a -ℤ negsuc b), difference (negsuc a) (negsuc b)))
