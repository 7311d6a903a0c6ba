-- Accepted loans: each in range and in ascending order of their keys, so at most one for the same lender, borrower and role.
-- Assumes nothing.
use mathlib.Core.Path.{◌≡◌, refl, sym, ap, ◌∙◌}
use mathlib.Core.Bool.{Bool, true, false, cond, ◌&&◌}
use mathlib.Core.List.Memᴰ
use mathlib.Core.List.{List, [], ◌∷◌, Memᴰ}
use mathlib.Core.Logic.{◌⊎◌, inl, inr}
use Prim.Native.Nat.{ℕ, suc, ◌≤◌}
use native.Mathlib.Nat.{le_trans}
use native.Mathlib.Omega.{arith}
use borrow.Author.Tests.{leb-true, le-leb}
use lib.Dec.{leb}
use Rattle.sets.proofs.Booleans.{both, both_true}
use Rattle.loans.specs.Loans.{key, loan_in_range, accepted_from, kept_loans}
use Rattle.loans.specs.declared.Loan.{Loan}

-- ---- the first and the others

abbrev pub First : ℕ → Loan → List Loan → Type 0
First least loan l = (loan_in_range loan ≡ true) × (least ≤ key loan) × (accepted_from (suc (key loan)) l ≡ true)

pub accepted-first : (least : ℕ) (loan : Loan) (l : List Loan) → accepted_from least (loan ∷ l) ≡ true → First least loan l
unfolding accepted_from
accepted-first least loan l e =
    let parts = both (loan_in_range loan && leb least (key loan)) (accepted_from (suc (key loan)) l) e in
    let first = both (loan_in_range loan) (leb least (key loan)) parts.0 in
    (first.0, leb-true least (key loan) first.1, parts.1)

pub first-accepted : (least : ℕ) (loan : Loan) (l : List Loan) → First least loan l → accepted_from least (loan ∷ l) ≡ true
unfolding accepted_from
first-accepted least loan l h =
    both_true (loan_in_range loan && leb least (key loan)) (accepted_from (suc (key loan)) l)
    (both_true (loan_in_range loan) (leb least (key loan)) h.0 (le-leb least (key loan) h.1)) h.2

-- a lower least key accepts no fewer
pub accepted-lower : (lower least : ℕ) (l : List Loan) → lower ≤ least → accepted_from least l ≡ true → accepted_from lower l ≡ true
unfolding accepted_from
accepted-lower lower least [] h e = refl
accepted-lower lower least (loan ∷ l) h e =
    let first = accepted-first least loan l e in first-accepted lower loan l (first.0, le_trans h first.1, first.2)

-- ---- each of them

pub accepted-least : (least : ℕ) (loan : Loan) (l : List Loan) → accepted_from least l ≡ true → Memᴰ loan l → least ≤ key loan
accepted-least least loan [] e m = absurd (Memᴰ.not-nil m)
accepted-least least loan (first ∷ l) e m = go (accepted-first least first l e) (Memᴰ.cases_cons m) (accepted-least (suc (key first)) loan l)
  where
    go : First least first l → (loan ≡ first) ⊎ Memᴰ loan l → (accepted_from (suc (key first)) l ≡ true → Memᴰ loan l → suc (key first) ≤ key loan) → least ≤ key loan
    go h (inl same) later = rw same h.1
    go h (inr m) later = omega (arith, h.1, later h.2 m)

pub accepted-in-range : (least : ℕ) (loan : Loan) (l : List Loan) → accepted_from least l ≡ true → Memᴰ loan l → loan_in_range loan ≡ true
accepted-in-range least loan [] e m = absurd (Memᴰ.not-nil m)
accepted-in-range least loan (first ∷ l) e m = go (accepted-first least first l e) (Memᴰ.cases_cons m) (accepted-in-range (suc (key first)) loan l)
  where
    go : First least first l → (loan ≡ first) ⊎ Memᴰ loan l → (accepted_from (suc (key first)) l ≡ true → Memᴰ loan l → loan_in_range loan ≡ true) → loan_in_range loan ≡ true
    go h (inl same) later = rw same h.0
    go h (inr m) later = later h.2 m

-- two of them with one key are one
one_key : (least : ℕ) (a b : Loan) (l : List Loan) → accepted_from least l ≡ true → Memᴰ a l → Memᴰ b l → key a ≡ key b → a ≡ b
one_key least a b [] e ma mb same = absurd (Memᴰ.not-nil ma)
one_key least a b (first ∷ l) e ma mb same =
    go (accepted-first least first l e) (Memᴰ.cases_cons ma) (Memᴰ.cases_cons mb) (one_key (suc (key first)) a b l)
  where
    go : First least first l → (a ≡ first) ⊎ Memᴰ a l → (b ≡ first) ⊎ Memᴰ b l →
        (accepted_from (suc (key first)) l ≡ true → Memᴰ a l → Memᴰ b l → key a ≡ key b → a ≡ b) → a ≡ b
    go h (inl ea) (inl eb) later = ea ∙ sym eb
    go h (inl ea) (inr mb) later = absurd (omega (arith, ap key ea, same, accepted-least (suc (key first)) b l h.2 mb))
    go h (inr ma) (inl eb) later = absurd (omega (arith, ap key eb, same, accepted-least (suc (key first)) a l h.2 ma))
    go h (inr ma) (inr mb) later = later h.2 ma mb same

-- "at most one for the same u, v and r"
pub accepted-one : (least : ℕ) (a b : Loan) (l : List Loan) → accepted_from least l ≡ true → Memᴰ a l → Memᴰ b l →
    a.lender ≡ b.lender → a.borrower ≡ b.borrower → a.role ≡ b.role → a ≡ b
unfolding key
accepted-one least a b l e ma mb lender borrower role = one_key least a b l e ma mb (omega (arith, lender, borrower, role))

-- ---- those of them that pass a test

pub kept-accepted : (test : Loan → Bool) (least : ℕ) (l : List Loan) → accepted_from least l ≡ true → accepted_from least (kept_loans test l) ≡ true
unfolding kept_loans
kept-accepted test least [] e = e
kept-accepted test least (loan ∷ l) e = go (test loan) (accepted-first least loan l e) (kept-accepted test (suc (key loan)) l)
  where
    go : (b : Bool) → First least loan l → (accepted_from (suc (key loan)) l ≡ true → accepted_from (suc (key loan)) (kept_loans test l) ≡ true) →
        accepted_from least (cond b (loan ∷ kept_loans test l) (kept_loans test l)) ≡ true
    go true h later = first-accepted least loan (kept_loans test l) (h.0, h.1, later h.2)
    go false h later = accepted-lower least (suc (key loan)) (kept_loans test l) (omega (arith, h.1)) (later h.2)
