-- What the tests of every number and of some number below a bound say.
-- Assumes nothing.
use mathlib.Core.Path.{◌≡◌, refl, sym, ap, ap₂, ◌∙◌}
use mathlib.Core.Bool.{Bool, true, false, ◌&&◌, ◌||◌, false≢true}
use mathlib.Core.Logic.{◌↔◌, ⊎_elim}
use Prim.Native.Nat.{ℕ, zero, suc, ◌+◌, ◌<◌}
use native.Mathlib.Numerals.{add-one}
use native.Mathlib.Nat.{le_refl, le_trans, le-suc, le_of_suc-le-suc, not-suc-le-zero, eq-or-lt_of_le}
use Rattle.sets.specs.Sets.{all, any}
use Rattle.sets.proofs.Booleans.{clash, both_true, left-true, right-true, of-and-false, left_or, right_or, not_so}

pub all_of : (k : ℕ) (p : ℕ → Bool) → ((i : ℕ) → i < k → p i ≡ true) → all k p ≡ true
unfolding all
all_of zero p h = refl
all_of (suc k) p h = both_true (all k p) (p k) (all_of k p (λ i l. h i (le_trans l (le-suc k)))) (h k (le_refl (suc k)))

pub of-all : (k : ℕ) (p : ℕ → Bool) → all k p ≡ true → (i : ℕ) → i < k → p i ≡ true
unfolding all
of-all zero p h i l = absurd (not-suc-le-zero l)
of-all (suc k) p h i l =
    ⊎_elim
    (λ e. ap p e ∙ right-true (all k p) (p k) h)
    (λ m. of-all k p (left-true (all k p) (p k) h) i m) (eq-or-lt_of_le (le_of_suc-le-suc l))

-- where not all numbers below k pass, one fails
pub of-all-false : (k : ℕ) (p : ℕ → Bool) → all k p ≡ false → (i : ℕ) × (i < k) × (p i ≡ false)
unfolding all
of-all-false zero p h = clash refl h
of-all-false (suc k) p h =
    ⊎_elim (λ e. let t = of-all-false k p e in (t.0, le_trans t.1 (le-suc k), t.2)) (λ e. (k, le_refl (suc k), e)) (of-and-false (all k p) (p k) h)

-- all k p: each number below k passes
pub all-means : (k : ℕ) (p : ℕ → Bool) → (all k p ≡ true) ↔ ((i : ℕ) → i < k → p i ≡ true)
all-means k p = (of-all k p, all_of k p)

pub all_same : (k : ℕ) (p q : ℕ → Bool) → ((i : ℕ) → i < k → p i ≡ q i) → all k p ≡ all k q
unfolding all
all_same zero p q e = refl
all_same (suc k) p q e = ap₂ ◌&&◌ (all_same k p q (λ i l. e i (le_trans l (le-suc k)))) (e k (le_refl (suc k)))

pub any_of : (k i : ℕ) (p : ℕ → Bool) → i < k → p i ≡ true → any k p ≡ true
unfolding any
any_of zero i p l e = absurd (not-suc-le-zero l)
any_of (suc k) i p l e =
    ⊎_elim
    (λ q. right_or (any k p) (p k) (ap p (sym q) ∙ e))
    (λ m. left_or (any k p) (p k) (any_of k i p m e)) (eq-or-lt_of_le (le_of_suc-le-suc l))

-- the number that passes
pub of-any : (k : ℕ) (p : ℕ → Bool) → any k p ≡ true → (i : ℕ) × (i < k) × (p i ≡ true)
unfolding any
of-any zero p h = absurd (false≢true h)
of-any (suc k) p h = go (any k p) refl (of-any k p) h
  where
    go : (b : Bool) → any k p ≡ b → (any k p ≡ true → (i : ℕ) × (i < k) × (p i ≡ true)) → (b || p k) ≡ true → (i : ℕ) × (i < suc k) × (p i ≡ true)
    go true e ih h = let t = ih e in (t.0, le_trans t.1 (le-suc k), t.2)
    go false e ih h = (k, le_refl (suc k), h)

-- any k p: some number below k passes
pub any-means : (k : ℕ) (p : ℕ → Bool) → (any k p ≡ true) ↔ ((i : ℕ) × (i < k) × (p i ≡ true))
any-means k p = (of-any k p, λ t. any_of k t.0 p t.1 t.2)

pub any_same : (k : ℕ) (p q : ℕ → Bool) → ((i : ℕ) → i < k → p i ≡ q i) → any k p ≡ any k q
unfolding any
any_same zero p q e = refl
any_same (suc k) p q e = ap₂ ◌||◌ (any_same k p q (λ i l. e i (le_trans l (le-suc k)))) (e k (le_refl (suc k)))

-- ---- a loop over the numbers below a bound

-- that tests each: one more passes, or the first that fails ends it
pub all-next : (k : ℕ) (p : ℕ → Bool) → all k p ≡ true → p k ≡ true → all (k + 1) p ≡ true
unfolding all
all-next k p before here = rw add-one (both_true (all k p) (p k) before here)

pub all-stop : (k : ℕ) (p : ℕ → Bool) (i : ℕ) → i < k → p i ≡ false → all k p ≡ false
all-stop k p i below fails = not_so (all k p) (λ h. clash (of-all k p h i below) fails)

-- that looks for one that passes
pub any_next : (k : ℕ) (p : ℕ → Bool) → any k p ≡ false → p k ≡ false → any (k + 1) p ≡ false
unfolding any
any_next k p e h = ap (λ (n : ℕ). any n p) (add-one k) ∙ ap₂ ◌||◌ e h
