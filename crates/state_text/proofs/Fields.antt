-- What a line changes of a state: the laws of the function that puts it there.
-- Assumes nothing.
use mathlib.Core.Path.{◌≡◌, refl, ap, ◌∙◌}
use mathlib.Core.Bool.{true}
use mathlib.Core.List.{List, [], ◌∷◌, ◌++◌}
use Prim.Native.Nat.{ℕ}
use Rattle.loans.specs.Loans.{loan_of, held_with}
use Rattle.loans.specs.Meant.{pushed}
use Rattle.loans.specs.declared.Loan.{Loan}
use Rattle.loans.specs.declared.Loans.{Loans}
use Rattle.loans.proofs.Storing.{pushed-stored}
use Rattle.enforcement.specs.States.{loans_of, held_roles}
use Rattle.enforcement.specs.Steps.{with_assigned, with_loans, put}
use Rattle.enforcement.specs.declared.states.State.{State}
use Rattle.state_text.specs.Entries.{form_of, with_line, has_room}
use Rattle.state_text.specs.Parts.{AsStored, BeforeLoans}
use Rattle.state_text.specs.declared.entries.Entry.{Entry}
use Rattle.state_text.specs.declared.entries.Entry.TheVariants.{Assigned, Loan as LoanLine}
use Rattle.state_text.proofs.Cells.{loans-more}

-- ---- the roles that its users hold

-- an `assigned` line stands before the loans
pub assigned_put : (s : State) (u r : ℕ) {e : Entry} {rows held held' : List ℕ} → BeforeLoans s e → held_roles s ≡ held → e ≡ Assigned u r
    → rows ≡ put 32 s.assigned u r → held' ≡ put 32 held u r → (with_assigned s rows ≡ with_line s e) × (held_roles (with_assigned s rows) ≡ held')
unfolding with_line form_of held_with
assigned_put s u r {held = held} before h is rows more =
    let none : loans_of s ≡ [] = (rw is at before) refl in
    let same : s.assigned ≡ held = rw none at h in
    (rw (is, rows), rw (none, rows, more, ← same))

held_more : (roles : List ℕ) (l : List Loan) (u v r t : ℕ) → held_with roles (l ++ (loan_of u v r t ∷ [])) ≡ put 32 (held_with roles l) v r
unfolding held_with
held_more roles [] u v r t = refl
held_more roles (loan ∷ l) u v r t = held_more (put 32 roles loan.borrower loan.role) l u v r t

held-lent : (s : State) (u v r t : ℕ) → has_room s (LoanLine u v r t) ≡ true → held_roles (with_line s (LoanLine u v r t)) ≡ put 32 (held_roles s) v r
unfolding with_line
held-lent s u v r t room = ap (held_with s.assigned) (loans-more s u v r t room) ∙ held_more s.assigned (loans_of s) u v r t

-- where entries past the loans hold the filler, a loan goes after the last
loan-pushed : (s : State) (u v r t : ℕ) → AsStored s → with_loans s (pushed s.loans (loan_of u v r t)) ≡ with_line s (LoanLine u v r t)
unfolding with_line
loan-pushed s u v r t filled = ap (with_loans s) (ap (λ (l : Loans). pushed l (loan_of u v r t)) filled ∙ pushed-stored (loans_of s) (loan_of u v r t))

pub loan_put : (s : State) (u v r t : ℕ) {e : Entry} {loans : Loans} {held held' : List ℕ} → AsStored s → has_room s e ≡ true → held_roles s ≡ held → e ≡ LoanLine u v r t
    → loans ≡ pushed s.loans (loan_of u v r t) → held' ≡ put 32 held v r → (with_loans s loans ≡ with_line s e) × (held_roles (with_loans s loans) ≡ held')
loan_put s u v r t {e} {loans} filled room h is more others =
    let whole : with_loans s loans ≡ with_line s e = rw (is, more) (loan-pushed s u v r t filled) in
    (whole, ap (λ (x : State). held_roles x) whole ∙ rw (is, others, ← h) (held-lent s u v r t (rw is at room)))
