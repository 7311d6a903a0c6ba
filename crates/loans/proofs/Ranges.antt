-- The ranges of a loan's numbers, and the key that they make.
-- Assumes nothing.
use mathlib.Core.Path.{◌≡◌}
use mathlib.Core.Bool.{true, ◌&&◌}
use mathlib.Core.Logic.Iff
use mathlib.Core.Logic.{◌↔◌}
use Prim.Native.Nat.{◌≤◌, ◌<◌}
use native.Mathlib.Omega.{arith}
use lib.Dec.{ltb}
use Rattle.calendar.proofs.Meaning.{le-means, lt-means, both-mean}
use Rattle.steps.specs.Steps.{is_time}
use Rattle.loans.specs.Loans.{key, loan_in_range}
use Rattle.loans.specs.declared.Loan.{Loan}

abbrev pub InRange : Loan → Type 0
InRange loan = (loan.lender < 64) × (loan.borrower < 64) × (loan.role < 32) × (loan.until ≤ 3155759999)

pub in-range-means : (loan : Loan) → (loan_in_range loan ≡ true) ↔ InRange loan
unfolding loan_in_range
in-range-means loan =
    Iff.trans
    (both-mean (ltb loan.lender 64) (ltb loan.borrower 64 && (ltb loan.role 32 && is_time loan.until)) (lt-means loan.lender 64)
    (both-mean (ltb loan.borrower 64) (ltb loan.role 32 && is_time loan.until) (lt-means loan.borrower 64)
    (both-mean (ltb loan.role 32) (is_time loan.until) (lt-means loan.role 32) (le-means loan.until 3155759999))))
    (λ h. (h.0, h.1.0, h.1.1.0, h.1.1.1), λ h. (h.0, (h.1, (h.2, h.3))))

pub key-small : (loan : Loan) → loan_in_range loan ≡ true → key loan < 131072
unfolding key
key-small loan e = let ranged = (in-range-means loan).0 e in omega (arith, ranged.0, ranged.1, ranged.2)

-- Two loans in range have the same key exactly where they are of the same role by the same lender to the same borrower.
pub same_key : (a b : Loan) → loan_in_range a ≡ true → loan_in_range b ≡ true → (key a ≡ key b) ↔ ((a.lender ≡ b.lender) × (a.borrower ≡ b.borrower) × (a.role ≡ b.role))
unfolding key
same_key a b ea eb =
    let ra = (in-range-means a).0 ea in
    let rb = (in-range-means b).0 eb in (
      λ e. (
        omega (arith, e, ra.0, ra.1, ra.2, rb.0, rb.1, rb.2),
        omega (arith, e, ra.0, ra.1, ra.2, rb.0, rb.1, rb.2),
        omega (arith, e, ra.0, ra.1, ra.2, rb.0, rb.1, rb.2),
      ),
      λ e. omega (arith, e.0, e.1, e.2),
    )
