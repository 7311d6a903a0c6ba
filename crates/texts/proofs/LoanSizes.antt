-- How many bytes the lines of assigned roles and of loans have together. The borrower of a loan is not assigned the role, so its line stands
-- where a line of an assigned role cannot. Assumes nothing.
use mathlib.Core.Path.{◌≡◌, refl, ap}
use mathlib.Core.Bool.{Bool, true, false, ◌&&◌}
use mathlib.Core.List.{List, [], ◌∷◌, map, Memᴰ}
use Prim.Native.Nat.{ℕ, suc, ◌+◌, ◌*◌, ◌≤◌}
use native.Mathlib.Omega.{arith}
use lib.Dec.{eqb}
use lib.ListN.{length}
use borrow.Author.Tests.{eqb-true}
use Rattle.sets.proofs.Booleans.{both, not_so}
use Rattle.loans.specs.Loans.{key, loan_in_range, accepted_from}
use Rattle.loans.specs.declared.Loan.{Loan}
use Rattle.loans.proofs.Ranges.{in-range-means}
use Rattle.loans.proofs.Order.{accepted-first, accepted-least}
use Rattle.forms.proofs.Puts.{digits-length}
use Rattle.state_text.specs.Entries.{line_text}
use Rattle.state_text.specs.Saving.{loan_line}
use Rattle.state_text.specs.Parts.{width}
use Rattle.state_text.proofs.JoinedLines.{text-none}
use Rattle.state_text.proofs.LineSizes.{width-most, loan-size}
use Rattle.texts.proofs.LineSums.{bytes_of, bytes-cons}
use Rattle.texts.proofs.AssignedSizes.{assigned_lines, with_role, assigned-more, assigned-most}

-- at most ten bytes more than the line of its borrower's role, were it assigned to him
loan-most : (loan : Loan) → loan_in_range loan ≡ true → length (line_text (loan_line loan)) ≤ 23 + (width loan.borrower + width loan.role)
loan-most loan h =
    let ranged = (in-range-means loan).0 h in
    let bytes = loan-size loan.lender loan.borrower loan.role loan.until (omega (arith, ranged.0)) (omega (arith, ranged.1)) (omega (arith, ranged.2)) in
    omega (arith, bytes, width-most loan.lender, digits-length 9 loan.until (omega (arith, ranged.3)))

-- no borrower is assigned his role, and none has it from two lenders
pub record Borrowing (has : ℕ → ℕ → Bool) (loans : List Loan) : Type 0 where
  pub unassigned : (loan : Loan) → Memᴰ loan loans → has loan.borrower loan.role ≡ false
  pub single : (loan other : Loan) → Memᴰ loan loans → Memᴰ other loans → loan.borrower ≡ other.borrower → loan.role ≡ other.role → loan ≡ other

-- so it is of the other loans, with the first one's role assigned to its borrower
borrowing-more : (has : ℕ → ℕ → Bool) (loan : Loan) (loans : List Loan) → accepted_from (suc (key loan)) loans ≡ true → Borrowing has (loan ∷ loans)
    → Borrowing (with_role has loan.borrower loan.role) loans
borrowing-more has loan loans later borrowing =
    record {
      unassigned = λ other m. rw (borrowing.unassigned other (Memᴰ.tail m)) (not_so (eqb loan.borrower other.borrower && eqb loan.role other.role) (differ other m));
      single = λ one other m n. borrowing.single one other (Memᴰ.tail m) (Memᴰ.tail n);
    }
  where
    differ : (other : Loan) → Memᴰ other loans → (eqb loan.borrower other.borrower && eqb loan.role other.role) ≡ true → ⊥
    differ other m e =
        let parts = both (eqb loan.borrower other.borrower) (eqb loan.role other.role) e in
        let borrower = eqb-true loan.borrower other.borrower parts.0 in
        let role = eqb-true loan.role other.role parts.1 in
        let same : loan ≡ other = borrowing.single loan other (Memᴰ.head refl) (Memᴰ.tail m) borrower role in
        omega (arith, ap key same, accepted-least (suc (key loan)) other loans later m)

-- ten bytes a loan more than all lines of assigned roles have
pub lent-most : (has : ℕ → ℕ → Bool) (least : ℕ) (loans : List Loan) → accepted_from least loans ≡ true → Borrowing has loans
    → bytes_of (assigned_lines has) + bytes_of (map loan_line loans) ≤ 33856 + 10 * length loans
lent-most has least [] accepted borrowing = rw text-none (omega (arith, assigned-most has))
lent-most has least (loan ∷ loans) accepted borrowing =
    let first = accepted-first least loan loans accepted in
    let ranged = (in-range-means loan).0 first.0 in
    let more = assigned-more has loan.borrower loan.role ranged.1 ranged.2 (borrowing.unassigned loan (Memᴰ.head refl)) in
    let rest = lent-most (with_role has loan.borrower loan.role) (suc (key loan)) loans first.2 (borrowing-more has loan loans first.2 borrowing) in
    omega (arith, bytes-cons (loan_line loan) (map loan_line loans), loan-most loan first.0, more, rest)
