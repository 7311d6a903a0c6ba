-- One loan more among those that are there, in its place: which loans these are then, and that they stay accepted.
-- Assumes nothing.
use mathlib.Core.Path.{◌≡◌, refl, sym, ap, ◌∙◌}
use mathlib.Core.Bool.{Bool, true, false, ◌&&◌, ◌||◌}
use mathlib.Core.List.Memᴰ
use mathlib.Core.List.{List, [], ◌∷◌, ◌++◌, Memᴰ}
use mathlib.Core.Logic.{◌↔◌, ◌⊎◌, inl, inr, ⊎_elim}
use Prim.Native.Nat.{ℕ, suc, ◌+◌, ◌≤◌, ◌<◌, zero-le}
use native.Mathlib.Decide.{ℕ_discrete, dec_lt}
use native.Mathlib.Omega.{arith}
use borrow.Author.Tests.{lt-ltb, le-ltb, eq-eqb}
use lib.Dec.{eqb, ltb}
use lib.ListN.{length, length-append}
use Rattle.sets.proofs.Booleans.{clash, both_true, left_or, right_or, of_or, same_test}
use Rattle.loans.specs.Loans.{key, loan_in_range, is_named, some_loan, kept_loans, inserted, accepted_from}
use Rattle.loans.specs.declared.Loan.{Loan}
use Rattle.loans.proofs.Ranges.{same_key}
use Rattle.loans.proofs.Keeping.{some-means, kept-means, none_of}
use Rattle.loans.proofs.Order.{First, accepted-first, first-accepted, accepted-in-range, kept-accepted}

abbrev below : Loan → Loan → Bool
below loan other = ltb (key other) (key loan)

abbrev above : Loan → Loan → Bool
above loan other = ltb (key loan) (key other)

-- no loan of the list has the key of the loan
abbrev pub Absent : Loan → List Loan → Type 0
Absent loan l = (other : Loan) → Memᴰ other l → key other ≡ key loan → ⊥

-- among accepted loans: where none is of the same role by the same lender to the same borrower
pub absent-of : (least : ℕ) (loan : Loan) (l : List Loan) → accepted_from least l ≡ true → loan_in_range loan ≡ true →
    some_loan (is_named loan.lender loan.borrower loan.role) l ≡ false → Absent loan l
absent-of least loan l accepted ranged none other m e =
    let same = (same_key other loan (accepted-in-range least other l accepted m) ranged).0 e in
    clash
    (both_true (eqb other.lender loan.lender) (eqb other.borrower loan.borrower && eqb other.role loan.role) (eq-eqb other.lender loan.lender same.0)
    (both_true (eqb other.borrower loan.borrower) (eqb other.role loan.role) (eq-eqb other.borrower loan.borrower same.1) (eq-eqb other.role loan.role same.2)))
    (none_of (is_named loan.lender loan.borrower loan.role) other l none m)

-- a key is lower, the same or higher
abbrev Ordered : ℕ → ℕ → Type 0
Ordered a b = (a < b) ⊎ ((a ≡ b) ⊎ (b < a))

ordered : (a b : ℕ) → Ordered a b
ordered a b = go (dec_lt a b) (ℕ_discrete a b)
  where
    go : Dec (a < b) → Dec (a ≡ b) → Ordered a b
    go (yes low) same = inl low
    go (no low) (yes same) = inr (inl same)
    go (no low) (no same) = inr (inr (omega (arith, low, same)))

-- ---- which loans they are

module _ (loan : Loan) where
  -- what is put together
  of-inserted : (other : Loan) (l : List Loan) → Memᴰ other (inserted loan l) → (other ≡ loan) ⊎ Memᴰ other l
  unfolding inserted
  of-inserted other l m =
      ⊎_elim
      (λ m. inr ((kept-means (below loan) other l).0 m).0)
      (λ m. ⊎_elim (λ e. inl e) (λ m. inr ((kept-means (above loan) other l).0 m).0) (Memᴰ.cases_cons m))
      (Memᴰ.append_cases (kept_loans (below loan) l) m)

  has-inserted : (other : Loan) (l : List Loan) → Absent loan l → (other ≡ loan) ⊎ Memᴰ other l → Memᴰ other (inserted loan l)
  unfolding inserted
  has-inserted other l absent (inl e) = Memᴰ.append_right (kept_loans (below loan) l) (Memᴰ.head e)
  has-inserted other l absent (inr m) = go (ordered (key other) (key loan))
    where
      go : Ordered (key other) (key loan) → Memᴰ other (kept_loans (below loan) l ++ (loan ∷ kept_loans (above loan) l))
      go (inl low) = Memᴰ.append_left (loan ∷ kept_loans (above loan) l) ((kept-means (below loan) other l).1 (m, lt-ltb (key other) (key loan) low))
      go (inr (inl same)) = absurd (absent other m same)
      go (inr (inr high)) = Memᴰ.append_right (kept_loans (below loan) l) (Memᴰ.tail ((kept-means (above loan) other l).1 (m, lt-ltb (key loan) (key other) high)))

  pub inserted-means : (other : Loan) (l : List Loan) → Absent loan l → Memᴰ other (inserted loan l) ↔ ((other ≡ loan) ⊎ Memᴰ other l)
  inserted-means other l absent = (of-inserted other l, has-inserted other l absent)

  pub some-inserted : (p : Loan → Bool) (l : List Loan) → Absent loan l → some_loan p (inserted loan l) ≡ (p loan || some_loan p l)
  some-inserted p l absent = same_test (some_loan p (inserted loan l)) (p loan || some_loan p l) to from
    where
      to : some_loan p (inserted loan l) ≡ true → (p loan || some_loan p l) ≡ true
      to e =
          let found = (some-means p (inserted loan l)).0 e in
          ⊎_elim
          (λ same. left_or (p loan) (some_loan p l) (ap p (sym same) ∙ found.2))
          (λ m. right_or (p loan) (some_loan p l) ((some-means p l).1 (found.0, m, found.2)))
          (of-inserted found.0 l found.1)

      from : (p loan || some_loan p l) ≡ true → some_loan p (inserted loan l) ≡ true
      from e =
          ⊎_elim
          (λ e. (some-means p (inserted loan l)).1 (loan, has-inserted loan l absent (inl refl), e))
          (λ e. let found = (some-means p l).0 e in (some-means p (inserted loan l)).1 (found.0, has-inserted found.0 l absent (inr found.1), found.2))
          (of_or (p loan) (some_loan p l) e)

  -- ---- how many

  counted : (l : List Loan) → Absent loan l → length (kept_loans (below loan) l) + length (kept_loans (above loan) l) ≡ length l
  unfolding kept_loans
  counted [] absent = refl
  counted (first ∷ l) absent = go (ordered (key first) (key loan)) (counted l (λ other m. absent other (Memᴰ.tail m)))
    where
      go : Ordered (key first) (key loan) → length (kept_loans (below loan) l) + length (kept_loans (above loan) l) ≡ length l →
          length (kept_loans (below loan) (first ∷ l)) + length (kept_loans (above loan) (first ∷ l)) ≡ suc (length l)
      go (inl low) rest = rw (lt-ltb (key first) (key loan) low, le-ltb (key loan) (key first) (omega (arith, low))) (omega (arith, rest))
      go (inr (inl same)) rest = absurd (absent first (Memᴰ.head refl) same)
      go (inr (inr high)) rest = rw (lt-ltb (key loan) (key first) high, le-ltb (key first) (key loan) (omega (arith, high))) (omega (arith, rest))

  pub length_inserted : (l : List Loan) → Absent loan l → length (inserted loan l) ≡ suc (length l)
  unfolding inserted
  length_inserted l absent =
      let split : length (inserted loan l) ≡ length (kept_loans (below loan) l) + suc (length (kept_loans (above loan) l)) = length-append (kept_loans (below loan) l) (loan ∷ kept_loans (above loan) l) in
      omega (arith, split, counted l absent)

  -- ---- that they stay accepted

  -- none is below where all are above
  none_below : (least : ℕ) (l : List Loan) → key loan ≤ least → accepted_from least l ≡ true → kept_loans (below loan) l ≡ []
  unfolding kept_loans
  none_below least [] h e = refl
  none_below least (first ∷ l) h e =
      let start = accepted-first least first l e in
      rw (le-ltb (key first) (key loan) (omega (arith, h, start.1))) (none_below (suc (key first)) l (omega (arith, h, start.1)) start.2)

  inserted-from : (least : ℕ) (l : List Loan) → loan_in_range loan ≡ true → Absent loan l → least ≤ key loan → accepted_from least l ≡ true → accepted_from least (inserted loan l) ≡ true
  unfolding inserted kept_loans accepted_from
  inserted-from least [] ranged absent h e = first-accepted least loan [] (ranged, h, refl)
  inserted-from least (first ∷ l) ranged absent h e =
      go (accepted-first least first l e) (ordered (key first) (key loan)) (inserted-from (suc (key first)) l ranged (λ other m. absent other (Memᴰ.tail m)))
    where
      go : First least first l →
          Ordered (key first) (key loan) →
          (suc (key first) ≤ key loan → accepted_from (suc (key first)) l ≡ true → accepted_from (suc (key first)) (inserted loan l) ≡ true) →
          accepted_from least (inserted loan (first ∷ l)) ≡ true
      go start (inl low) later =
          rw (lt-ltb (key first) (key loan) low, le-ltb (key loan) (key first) (omega (arith, low)))
          (first-accepted least first (kept_loans (below loan) l ++ (loan ∷ kept_loans (above loan) l)) (start.0, start.1, later low start.2))
      go start (inr (inl same)) later = absurd (absent first (Memᴰ.head refl) same)
      go start (inr (inr high)) later =
          rw (lt-ltb (key loan) (key first) high, le-ltb (key first) (key loan) (omega (arith, high)), none_below (suc (key first)) l (omega (arith, high)) start.2)
          (first-accepted least loan (first ∷ kept_loans (above loan) l) (
            ranged,
            h,
            first-accepted (suc (key loan)) first (kept_loans (above loan) l) (start.0, high, kept-accepted (above loan) (suc (key first)) l start.2),
          ))

  pub inserted-accepted : (l : List Loan) → accepted_from 0 l ≡ true → loan_in_range loan ≡ true →
      some_loan (is_named loan.lender loan.borrower loan.role) l ≡ false → accepted_from 0 (inserted loan l) ≡ true
  inserted-accepted l accepted ranged none = inserted-from 0 l ranged (absent-of 0 loan l accepted ranged none) zero-le accepted
