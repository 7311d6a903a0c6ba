-- Tests of order as statements.
-- Assumes nothing.
use mathlib.Core.Path.{◌≡◌, refl, sym}
use mathlib.Core.Bool.{Bool, true, false, ◌&&◌, not, true≢false, and-eq-true_iff}
use mathlib.Core.Logic.Iff
use mathlib.Core.Logic.{◌↔◌, ◌⊎◌, inl, inr, ⊎_elim}
use Prim.Native.Nat.{ℕ, ◌≤◌, ◌<◌}
use borrow.Author.Tests.{le-leb, lt-leb, leb-true, leb-false, lt-ltb, le-ltb, ltb-true}
use lib.Dec.{T, leb, ltb}
use lib.IntN.{ℤ, pos, negsuc}
use lib.Signed.{le_z, lt_z, ◌≤ℤ◌, ◌<ℤ◌}
use Rattle.places.proofs.Signed.{read_back}

pub at_most : (a b : ℕ) → (leb a b ≡ true) ↔ (a ≤ b)
at_most a b = (leb-true a b, le-leb a b)

pub is_true : (b : Bool) → T b → b ≡ true
is_true true t = refl
is_true false t = absurd t

pub at-most_ℤ : (a b : ℤ) → (le_z a b ≡ true) ↔ (a ≤ℤ b)
at-most_ℤ a b = (λ e. record { le = rw e tt }, λ h. is_true (le_z a b) h.le)

pub both-mean : {A B : Type 0} (a b : Bool) → (a ≡ true) ↔ A → (b ≡ true) ↔ B → (a && b ≡ true) ↔ (A × B)
both-mean a b h k = Iff.trans (and-eq-true_iff a b) (Iff.and h k)

pub one-fails : {A B : Type 0} (a b : Bool) → (a ≡ false) ↔ A → (b ≡ false) ↔ B → (a && b ≡ false) ↔ (A ⊎ B)
one-fails true b h k = (λ e. inr (k.0 e), ⊎_elim (λ l. absurd (true≢false (h.1 l))) (λ r. k.1 r))
one-fails false b h k = (λ e. inl (h.0 refl), λ e. refl)

pub above_ℤ : (a b : ℤ) → (le_z a b ≡ false) ↔ (b <ℤ a)
above_ℤ (pos a) (pos b) =
    (λ e. record { lt = rw (lt-ltb b a (leb-false a b e)) tt }, λ h. lt-leb a b (ltb-true b a (is_true (ltb b a) h.lt)))
above_ℤ (pos a) (negsuc b) = (λ e. record { lt = tt }, λ h. refl)
above_ℤ (negsuc a) (pos b) = (λ e. absurd (true≢false e), λ h. absurd h.lt)
above_ℤ (negsuc a) (negsuc b) =
    (λ e. record { lt = rw (lt-ltb a b (leb-false b a e)) tt }, λ h. lt-leb b a (ltb-true a b (is_true (ltb a b) h.lt)))

pub less : (a b : ℕ) → (ltb a b ≡ true) ↔ (a < b)
less a b = (ltb-true a b, lt-ltb a b)

pub less_ℤ : (a b : ℤ) → (lt_z a b ≡ true) ↔ (a <ℤ b)
less_ℤ a b = (λ e. record { lt = rw e tt }, λ h. is_true (lt_z a b) h.lt)

-- ---- tests that say the same

pub same_test : (a b : Bool) → (a ≡ true → b ≡ true) → (b ≡ true → a ≡ true) → a ≡ b
same_test true b to from = sym (to refl)
same_test false true to from = from refl
same_test false false to from = refl

pub more-not-at-most : (a b : ℕ) → not (leb a b) ≡ ltb b a
more-not-at-most a b = by-test (leb a b) refl
  where
    by-test : (t : Bool) → leb a b ≡ t → not t ≡ ltb b a
    by-test true e = let l = leb-true a b e in sym (le-ltb b a l)
    by-test false e = sym (lt-ltb b a (leb-false a b e))

pub ruleset order_tests = (more-not-at-most, read_back)
