-- Request 2026-01: loans of roles, and the roles that are held with them. What the definitions say of single loans is proved in
-- proofs/Ranges.antt, Keeping.antt, Order.antt, Inserting.antt and Holding.antt.
-- Assumes nothing.
use Rattle.std.specs.Prelude.{ℕ, suc, ◌+◌, ◌*◌, Bool, true, false, cond, ◌&&◌, ◌||◌, List, [], ◌∷◌, ◌++◌, eqb, ltb, leb, length, take, set, replicate}
use Rattle.sets.specs.Sets.{with}
use Rattle.rules.specs.Families.{word_at}
use Rattle.steps.specs.Steps.{is_time}
use Rattle.loans.specs.declared.Loan.{Loan}
use Rattle.loans.specs.declared.Loans.{Loans}

-- ---- lists of loans

-- some loan passes the test
unfoldable pub some_loan : (Loan → Bool) → List Loan → Bool
some_loan test [] = false
some_loan test (loan ∷ loans) = test loan || some_loan test loans

-- those that pass it
unfoldable pub kept_loans : (Loan → Bool) → List Loan → List Loan
kept_loans test [] = []
kept_loans test (loan ∷ loans) = cond (test loan) (loan ∷ kept_loans test loans) (kept_loans test loans)

-- ---- one loan

-- "Step `lend u v r t`: u is assigned r, v gets it until t"
abbrev pub loan_of : ℕ → ℕ → ℕ → ℕ → Loan
loan_of u v r t = record { until = t; lender = u; borrower = v; role = r }

-- the loan of r by u to v
abbrev pub is_named : ℕ → ℕ → ℕ → Loan → Bool
is_named u v r loan = eqb loan.lender u && (eqb loan.borrower v && eqb loan.role r)

-- "A loan ends when the clock reaches t": at a time it runs where t is later
abbrev pub runs_at : ℕ → Loan → Bool
runs_at time loan = ltb time loan.until

-- ---- "the state gains up to 32 loans, kept in ascending order, at most one for the same u, v and r (handed in otherwise: 40)"

-- what they are ordered by: u, then v, then r
unfoldable pub key : Loan → ℕ
key loan = (loan.lender * 64 + loan.borrower) * 32 + loan.role

-- the loans of an array and their number; entries past them are not looked at
abbrev pub running : Loans → List Loan
running loans = take loans.count loans.entries

-- "field outside its range"
unfoldable pub loan_in_range : Loan → Bool
loan_in_range loan = ltb loan.lender 64 && (ltb loan.borrower 64 && (ltb loan.role 32 && is_time loan.until))

-- each in range, the first with at least this key, each later one with a greater key than the one before
unfoldable pub accepted_from : ℕ → List Loan → Bool
accepted_from least [] = true
accepted_from least (loan ∷ loans) = (loan_in_range loan && leb least (key loan)) && accepted_from (suc (key loan)) loans

unfoldable pub loans_accepted : Loans → Bool
loans_accepted loans = leb loans.count 32 && accepted_from 0 (running loans)

-- what stands in each entry past the loans that a step or a reader makes
abbrev pub no_loan : Loan
no_loan = loan_of 0 0 0 0

abbrev pub no_loans : Loans
no_loans = record { entries = replicate 32 no_loan; count = 0 }

-- a list of loans as an array and their number
unfoldable pub stored : List Loan → Loans
stored loans = record { entries = take 32 (loans ++ replicate 32 no_loan); count = length loans }

-- with one more, after those with a lower key
unfoldable pub inserted : Loan → List Loan → List Loan
inserted loan loans =
    kept_loans (λ other. ltb (key other) (key loan)) loans ++ (loan ∷ kept_loans (λ other. ltb (key loan) (key other)) loans)

-- ---- "A role is held when assigned or on loan"

-- user v has role r on loan
abbrev pub is_borrowed : List Loan → ℕ → ℕ → Bool
is_borrowed loans v r = some_loan (λ loan. eqb loan.borrower v && eqb loan.role r) loans

-- user u has role r lent out
abbrev pub is_lent_out : List Loan → ℕ → ℕ → Bool
is_lent_out loans u r = some_loan (λ loan. eqb loan.lender u && eqb loan.role r) loans

-- the roles of each user, with those that he has on loan
unfoldable pub held_with : List ℕ → List Loan → List ℕ
held_with roles [] = roles
held_with roles (loan ∷ loans) = held_with (set roles loan.borrower (with 32 (word_at roles loan.borrower) loan.role)) loans
