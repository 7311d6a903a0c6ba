-- What is wrong with loans that 40 refuses.
-- Assumes nothing.
use mathlib.Core.Path.{◌≡◌}
use mathlib.Core.Bool.{true, false, ◌&&◌, true≢false}
use mathlib.Core.Logic.{◌⊎◌, inl, inr, ⊎_elim}
use mathlib.Core.List.{List, [], ◌∷◌, Memᴰ}
use mathlib.Core.Path.{refl}
use Prim.Native.Nat.{ℕ, zero, suc, ◌≤◌, ◌<◌}
use native.Mathlib.Omega.{arith}
use lib.Dec.{ltb, leb}
use lib.ListN.{length, get_or}
use borrow.Author.Tests.{ltb-false, leb-false}
use Rattle.sets.proofs.Booleans.{of-and-false}
use Rattle.steps.specs.Steps.{is_time}
use Rattle.loans.specs.Loans.{key, no_loan, loan_in_range, accepted_from}
use Rattle.loans.specs.declared.Loan.{Loan}
use Rattle.loans.proofs.Order.{accepted-first}

-- a number of a loan is outside its range
abbrev pub Past : Loan → Type 0
Past loan = (64 ≤ loan.lender) ⊎ ((64 ≤ loan.borrower) ⊎ ((32 ≤ loan.role) ⊎ (3155759999 < loan.until)))

past_of : (loan : Loan) → loan_in_range loan ≡ false → Past loan
unfolding loan_in_range
past_of loan h =
    ⊎_elim (λ e. inl (ltb-false loan.lender 64 e))
    (λ rest. inr (⊎_elim (λ e. inl (ltb-false loan.borrower 64 e))
    (λ more. inr (⊎_elim (λ e. inl (ltb-false loan.role 32 e)) (λ e. inr (leb-false loan.until 3155759999 e))
    (of-and-false (ltb loan.role 32) (is_time loan.until) more)))
    (of-and-false (ltb loan.borrower 64) (ltb loan.role 32 && is_time loan.until) rest)))
    (of-and-false (ltb loan.lender 64) (ltb loan.borrower 64 && (ltb loan.role 32 && is_time loan.until)) h)

-- a loan has no greater key than the one before it
abbrev pub Falls : List Loan → ℕ → Type 0
Falls l k = (suc k < length l) × (key (get_or l (suc k) no_loan) ≤ key (get_or l k no_loan))

-- the first has too low a key
abbrev Low : ℕ → List Loan → Type 0
Low least l = (0 < length l) × (key (get_or l 0 no_loan) < least)

abbrev Wrong : ℕ → List Loan → Type 0
Wrong least l = ((loan : Loan) × Memᴰ loan l × Past loan) ⊎ (Low least l ⊎ ((k : ℕ) × Falls l k))

wrong-of : (least : ℕ) (l : List Loan) → accepted_from least l ≡ false → Wrong least l
unfolding accepted_from
wrong-of least [] h = absurd (true≢false h)
wrong-of least (loan ∷ l) h =
    ⊎_elim
    (λ here.
    ⊎_elim (λ e. inl (loan, Memᴰ.head refl, past_of loan e)) (λ e. inr (inl (omega arith, leb-false least (key loan) e)))
    (of-and-false (loan_in_range loan) (leb least (key loan)) here))
    (λ rest. later (wrong-of (suc (key loan)) l rest))
    (of-and-false (loan_in_range loan && leb least (key loan)) (accepted_from (suc (key loan)) l) h)
  where
    later : Wrong (suc (key loan)) l → Wrong least (loan ∷ l)
    later (inl t) = inl (t.0, Memᴰ.tail t.1, t.2)
    later (inr (inl t)) = inr (inr (0, (omega (arith, t.0), omega (arith, t.1))))
    later (inr (inr t)) = inr (inr (suc t.0, (omega (arith, t.1.0), t.1.1)))

-- one is past its range, or not above the one before it
pub unaccepted-loans : (l : List Loan) → accepted_from 0 l ≡ false → ((loan : Loan) × Memᴰ loan l × Past loan) ⊎ ((k : ℕ) × Falls l k)
unaccepted-loans l h = go (wrong-of 0 l h)
  where
    go : Wrong 0 l → ((loan : Loan) × Memᴰ loan l × Past loan) ⊎ ((k : ℕ) × Falls l k)
    go (inl t) = inl t
    go (inr (inl t)) = absurd (omega (arith, t.1))
    go (inr (inr t)) = inr t

-- accepted loans rise
pub accepted-rises : (least : ℕ) (l : List Loan) → accepted_from least l ≡ true → (k : ℕ) → suc k < length l → key (get_or l k no_loan) < key (get_or l (suc k) no_loan)
accepted-rises least [] e k h = absurd (omega arith)
accepted-rises least (a ∷ []) e k h = absurd (omega arith)
accepted-rises least (a ∷ (b ∷ l)) e zero h = (accepted-first (suc (key a)) b l (accepted-first least a (b ∷ l) e).2).1
accepted-rises least (a ∷ (b ∷ l)) e (suc k) h = accepted-rises (suc (key a)) (b ∷ l) (accepted-first least a (b ∷ l) e).2 k (omega arith)
