-- Loans in an array: those that are put in are those that are read, and one more after the last.
-- Assumes nothing.
use mathlib.Core.Path.{◌≡◌, refl, sym, ap, ap₂, ◌∙◌}
use mathlib.Core.List.{List, [], ◌∷◌, ◌++◌, append-nil, append_assoc}
use Prim.Native.Nat.{ℕ, zero, suc, ◌≤◌}
use native.Mathlib.Omega.{arith}
use lib.ListN.{length, take, set, replicate, length-append}
use mathlib.Core.Bool.{Bool}
use native.Mathlib.Nat.{le_trans}
use Rattle.loans.specs.Loans.{running, no_loan, no_loans, kept_loans, stored}
use Rattle.loans.proofs.Keeping.{kept-length, running-length}
use Rattle.loans.specs.Meant.{pushed, pushed_all}
use Rattle.loans.specs.declared.Loan.{Loan}
use Rattle.loans.specs.declared.Loans.{Loans}

-- ---- the entries

-- n entries: the loans of the list, and the filler after them
unfoldable filled : ℕ → List Loan → List Loan
filled zero l = []
filled (suc n) [] = no_loan ∷ filled n []
filled (suc n) (loan ∷ l) = loan ∷ filled n l

take-filled : (n m : ℕ) (l : List Loan) → n ≤ m → take n (l ++ replicate m no_loan) ≡ filled n l
unfolding filled
take-filled zero m l h = refl
take-filled (suc n) zero [] h = absurd (omega arith)
take-filled (suc n) (suc m) [] h = ap {B = List Loan} (λ r. no_loan ∷ r) (take-filled n m [] (omega arith))
take-filled (suc n) m (loan ∷ l) h = ap {B = List Loan} (λ r. loan ∷ r) (take-filled n m l (omega arith))

length-filled : (n : ℕ) (l : List Loan) → length (filled n l) ≡ n
unfolding filled
length-filled zero l = refl
length-filled (suc n) [] = ap suc (length-filled n [])
length-filled (suc n) (loan ∷ l) = ap suc (length-filled n l)

filled-read : (n : ℕ) (l : List Loan) → length l ≤ n → take (length l) (filled n l) ≡ l
unfolding filled
filled-read n [] h = refl
filled-read zero (loan ∷ l) h = absurd (omega arith)
filled-read (suc n) (loan ∷ l) h = ap {B = List Loan} (λ r. loan ∷ r) (filled-read n l (omega arith))

filled_more : (n : ℕ) (l : List Loan) (loan : Loan) → set (filled n l) (length l) loan ≡ filled n (l ++ (loan ∷ []))
unfolding filled
filled_more zero l loan = refl
filled_more (suc n) [] loan = refl
filled_more (suc n) (first ∷ l) loan = ap {B = List Loan} (λ r. first ∷ r) (filled_more n l loan)

-- ---- the array

entries-filled : (l : List Loan) → (stored l).entries ≡ filled 32 l
unfolding stored
entries-filled l = take-filled 32 32 l (omega arith)

pub length-stored : (l : List Loan) → length (stored l).entries ≡ 32
length-stored l = ap (λ (e : List Loan). length e) (entries-filled l) ∙ length-filled 32 l

pub count-stored : (l : List Loan) → (stored l).count ≡ length l
unfolding stored
count-stored l = refl

-- those of an array's that pass a test are not more than its entries
pub kept-few : (test : Loan → Bool) (loans : Loans) → (stored (kept_loans test (running loans))).count ≤ length loans.entries
unfolding stored
kept-few test loans = le_trans (kept-length test (running loans)) (running-length loans)

-- up to 32 loans are read as they were put in
pub running-stored : (l : List Loan) → length l ≤ 32 → running (stored l) ≡ l
running-stored l h = ap₂ (λ (n : ℕ) (e : List Loan). take n e) (count-stored l) (entries-filled l) ∙ filled-read 32 l h

-- and put in again are the same array
pub stored-again : (l : List Loan) → length l ≤ 32 → stored (running (stored l)) ≡ stored l
stored-again l h = ap stored (running-stored l h)

pub stored-none : no_loans ≡ stored []
unfolding stored
stored-none = refl

-- ---- one more after the last

pub pushed-stored : (l : List Loan) (loan : Loan) → pushed (stored l) loan ≡ stored (l ++ (loan ∷ []))
unfolding pushed stored
pushed-stored l loan = ap₂ (λ (e : List Loan) (n : ℕ). record { entries = e; count = n }) more-entries (sym (length-append l (loan ∷ [])))
  where
    more-entries : set (take 32 (l ++ replicate 32 no_loan)) (length l) loan ≡ take 32 ((l ++ (loan ∷ [])) ++ replicate 32 no_loan)
    more-entries =
        ap (λ (e : List Loan). set e (length l) loan) (take-filled 32 32 l (omega arith)) ∙ filled_more 32 l loan ∙ sym (take-filled 32 32 (l ++ (loan ∷ [])) (omega arith))

pub pushed-all-stored : (l more : List Loan) → pushed_all (stored l) more ≡ stored (l ++ more)
unfolding pushed_all
pushed-all-stored l [] = ap stored (sym (append-nil l))
pushed-all-stored l (loan ∷ more) =
    ap (λ (loans : Loans). pushed_all loans more) (pushed-stored l loan) ∙ pushed-all-stored (l ++ (loan ∷ [])) more ∙ ap stored (append_assoc l (loan ∷ []) more)

pub ruleset stored_rules = (stored-none, pushed-stored, pushed-all-stored, kept-few, running-length, count-stored)
