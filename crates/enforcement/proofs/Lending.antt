-- Loans run as they were lent: what is claimed of the loans of a reached state stays so from step to step.
-- Assumes nothing.
use mathlib.Core.Path.{◌≡◌, refl, sym, ap, ap₂, subst, ◌∙◌}
use mathlib.Core.Bool.{Bool, true, false, not, ◌&&◌, true≢false}
use mathlib.Core.Logic.{◌⊎◌, inl, inr, ⊎_elim}
use mathlib.Core.List.Memᴰ
use mathlib.Core.List.{List, Memᴰ}
use Prim.Native.Nat.{ℕ, ◌≤◌, ◌<◌}
use native.Mathlib.Nat.{le_trans}
use lib.Dec.{eqb, ltb}
use lib.ListN.{length}
use borrow.Author.Tests.{eqb-true, eq-eqb, ltb-true}
use Rattle.sets.proofs.Booleans.{both, both_true, left_or, right_or, right-true, of_or, neither, of-not-both, clash, not_so}
use Rattle.rules.specs.Families.{has_role, is_active_for}
use Rattle.steps.specs.declared.actions.Action.{Action}
use Rattle.steps.specs.declared.actions.Action.TheVariants.{Malformed, Assign, Withdraw, Grant, Take, Open, Activate, Deactivate, Access, Finish, Close, Move, Lost, Clock, Lend, Recall}
use Rattle.loans.specs.Loans.{kept_loans, is_named, runs_at, loan_of, stored, inserted}
use Rattle.loans.specs.declared.Loan.{Loan}
use Rattle.loans.proofs.Storing.{running-stored, stored-again, stored-none}
use Rattle.loans.proofs.Keeping.{some_of, kept-means, kept-length}
use Rattle.enforcement.specs.States.{fresh, assigned_role, lent_out_role, loans_of, borrowed_role, holds_role}
use Rattle.enforcement.specs.Steps.{passes, check, target, with_assigned, with_loans, with_time, with_active, put, take_out, loans_left, unheld_closed}
use Rattle.enforcement.specs.Reached.{Accepted, Lending}
use Rattle.enforcement.specs.declared.states.State.{State}
use Rattle.enforcement.proofs.Words.{has-put, has-take-out}
use Rattle.enforcement.proofs.Ranges.{Ranged}
use Rattle.enforcement.proofs.Checks.{not-refused, later-passes}
use Rattle.enforcement.proofs.Loans.{loans-few, holds-means, Free, lend-passes, lent-loans, lent-few, lent-member, lent-unborrowed, lent-unassigned}

module _ (s : State) (accepted : Accepted s) (lending : Lending s) where
  -- who has a role on loan, and who has it lent out
  borrows : (loan : Loan) → Memᴰ loan (loans_of s) → borrowed_role s loan.borrower loan.role ≡ true
  borrows loan member =
      some_of (λ other. eqb other.borrower loan.borrower && eqb other.role loan.role) loan (loans_of s) member
      (both_true (eqb loan.borrower loan.borrower) (eqb loan.role loan.role) (eq-eqb loan.borrower loan.borrower refl) (eq-eqb loan.role loan.role refl))

  lends : (loan : Loan) → Memᴰ loan (loans_of s) → lent_out_role s loan.lender loan.role ≡ true
  lends loan member =
      some_of (λ other. eqb other.lender loan.lender && eqb other.role loan.role) loan (loans_of s) member
      (both_true (eqb loan.lender loan.lender) (eqb loan.role loan.role) (eq-eqb loan.lender loan.lender refl) (eq-eqb loan.role loan.role refl))

  -- other assigned roles: a lender keeps his role, and a borrower is not assigned it
  assigned-lending : (roles : List ℕ) → ((loan : Loan) → Memᴰ loan (loans_of s) → (has_role roles loan.lender loan.role ≡ true) × (has_role roles loan.borrower loan.role ≡ false)) → Lending (with_assigned s roles)
  assigned-lending roles still = record {
    unended = lending.unended;
    lent = λ loan member. (still loan member).0;
    borrowed = λ loan member. (still loan member).1;
    single = lending.single;
    filled = lending.filled;
  }

  assign-lending : (u r : ℕ) → u < length s.assigned → holds_role s u r ≡ false → Lending (with_assigned s (put 32 s.assigned u r))
  assign-lending u r within free = assigned-lending (put 32 s.assigned u r) (λ loan member. (
    rw (has-put s.assigned u within 32 r loan.lender loan.role)
        (left_or (assigned_role s loan.lender loan.role) (eqb u loan.lender && (ltb r 32 && eqb r loan.role)) (lending.lent loan member)),
    not_so _
        (λ h.
        ⊎_elim (λ a. clash a (lending.borrowed loan member))
        (λ new.
        let two = both (eqb u loan.borrower) (ltb r 32 && eqb r loan.role) new in
        let user = eqb-true u loan.borrower two.0 in
        let role = eqb-true r loan.role (right-true (ltb r 32) (eqb r loan.role) two.1) in
        clash (holds-means s accepted u r ∙ right_or (assigned_role s u r) (borrowed_role s u r) (ap₂ (borrowed_role s) user role ∙ borrows loan member)) free)
        (of_or (assigned_role s loan.borrower loan.role) (eqb u loan.borrower && (ltb r 32 && eqb r loan.role))
        (sym (has-put s.assigned u within 32 r loan.borrower loan.role) ∙ h))),
  ))

  withdraw-lending : (u r : ℕ) → u < length s.assigned → lent_out_role s u r ≡ false → Lending (with_assigned s (take_out s.assigned u r))
  withdraw-lending u r within kept = assigned-lending (take_out s.assigned u r) (λ loan member. (
    rw (has-take-out s.assigned u within r loan.lender loan.role)
        (both_true (assigned_role s loan.lender loan.role) (not (eqb u loan.lender && eqb r loan.role)) (lending.lent loan member)
        (of-not-both (eqb u loan.lender) (eqb r loan.role) (λ user role.
        clash (ap₂ (lent_out_role s) (eqb-true u loan.lender user) (eqb-true r loan.role role) ∙ lends loan member) kept))),
    rw (has-take-out s.assigned u within r loan.borrower loan.role, lending.borrowed loan member) refl,
  ))

  -- some of the loans, each still running at the time
  left-lending : (test : Loan → Bool) (t : ℕ) → ((loan : Loan) → Memᴰ loan (loans_of s) → test loan ≡ true → t < loan.until) → Lending (loans_left test (with_time s t))
  left-lending test t running = record {
    unended = λ loan member. let k = of-kept loan member in running loan k.0 k.1;
    lent = λ loan member. lending.lent loan (of-kept loan member).0;
    borrowed = λ loan member. lending.borrowed loan (of-kept loan member).0;
    single = λ loan other first second. lending.single loan other (of-kept loan first).0 (of-kept other second).0;
    filled = sym (stored-again (kept_loans test (loans_of s)) few);
  }
    where
      few : length (kept_loans test (loans_of s)) ≤ 32
      few = le_trans (kept-length test (loans_of s)) (loans-few s accepted)

      of-kept : (loan : Loan) → Memᴰ loan (loans_of (loans_left test (with_time s t))) → Memᴰ loan (loans_of s) × (test loan ≡ true)
      of-kept loan member = (kept-means test loan (loans_of s)).0 (rw (running-stored (kept_loans test (loans_of s)) few) at member)

  -- one loan more
  lend-lending : (u v r t : ℕ) → Free s u v r t → (u < 64) × (v < 64) × (r < 32) × (t ≤ 3155759999) → Lending (with_loans s (stored (inserted (loan_of u v r t) (loans_of s))))
  lend-lending u v r t free numbers = record {
    unended = λ loan member. by-new loan member (λ w. s.time < w.until) free.later (lending.unended loan);
    lent = λ loan member. by-new loan member (λ w. assigned_role s w.lender w.role ≡ true) free.lender (lending.lent loan);
    borrowed = λ loan member. by-new loan member (λ w. assigned_role s w.borrower w.role ≡ false) (lent-unassigned s accepted u v r t free) (lending.borrowed loan);
    single = λ loan other first second borrower role. one loan other (of-lent loan first) (of-lent other second) borrower role;
    filled = sym (stored-again (inserted (loan_of u v r t) (loans_of s)) (lent-few s accepted u v r t free numbers));
  }
    where
      of-lent : (loan : Loan) → Memᴰ loan (loans_of (with_loans s (stored (inserted (loan_of u v r t) (loans_of s))))) → (loan ≡ loan_of u v r t) ⊎ Memᴰ loan (loans_of s)
      of-lent loan member = (lent-member s accepted u v r t free numbers loan).0 (rw (lent-loans s accepted u v r t free numbers) at member)

      by-new : (loan : Loan) → Memᴰ loan (loans_of (with_loans s (stored (inserted (loan_of u v r t) (loans_of s))))) → (P : Loan → Type 0) → P (loan_of u v r t) → (Memᴰ loan (loans_of s) → P loan) → P loan
      by-new loan member P new old = ⊎_elim (λ same. subst P (sym same) new) old (of-lent loan member)

      -- nobody has the role on loan yet
      unlent : (loan : Loan) → Memᴰ loan (loans_of s) → loan.borrower ≡ v → loan.role ≡ r → ⊥
      unlent loan member borrower role =
          true≢false (sym (ap₂ (borrowed_role s) (sym borrower) (sym role) ∙ borrows loan member) ∙ lent-unborrowed s accepted u v r t free)

      one : (loan other : Loan) → (loan ≡ loan_of u v r t) ⊎ Memᴰ loan (loans_of s) → (other ≡ loan_of u v r t) ⊎ Memᴰ other (loans_of s) → loan.borrower ≡ other.borrower → loan.role ≡ other.role → loan ≡ other
      one loan other (inl a) (inl b) borrower role = a ∙ sym b
      one loan other (inl a) (inr m) borrower role =
          absurd (unlent other m (sym borrower ∙ ap (λ (w : Loan). w.borrower) a) (sym role ∙ ap (λ (w : Loan). w.role) a))
      one loan other (inr m) (inl b) borrower role =
          absurd (unlent loan m (borrower ∙ ap (λ (w : Loan). w.borrower) b) (role ∙ ap (λ (w : Loan). w.role) b))
      one loan other (inr m) (inr n) borrower role = lending.single loan other m n borrower role

-- the loans of a state do not depend on what roles carry, on sessions, on active roles or on records
same-lending : (s t : State) → t.time ≡ s.time → t.assigned ≡ s.assigned → t.loans ≡ s.loans → Lending s → Lending t
same-lending s t time assigned loans lending = record {
  unended = λ loan member. rw time (lending.unended loan (rw loans at member));
  lent = λ loan member. rw assigned (lending.lent loan (rw loans at member));
  borrowed = λ loan member. rw assigned (lending.borrowed loan (rw loans at member));
  single = λ loan other first second. lending.single loan other (rw loans at first) (rw loans at second);
  filled = rw loans lending.filled;
}

pub lending-part : (s : State) (l : List ℕ) → Lending s → Lending (with_active s l)
lending-part s l = same-lending s (with_active s l) refl refl refl

closed-lending : (s : State) → Lending s → Lending (unheld_closed s)
unfolding unheld_closed
closed-lending s lending = lending-part s _ lending

-- the target of a step that passes its checks has its loans as they were lent, where they were before
pub lending-target : (action : Action) (s : State) → Accepted s → Ranged action → check s action ≡ passes → Lending s → Lending (target s action)
unfolding check target
lending-target Malformed s accepted ranged pass lending = lending
lending-target (Assign u r) s accepted ranged pass lending =
    assign-lending s accepted lending u r (rw accepted.typed.users ranged.0) (not-refused (holds_role s u r) 24 passes pass)
lending-target (Withdraw u r) s accepted ranged pass lending =
    withdraw-lending s accepted lending u r (rw accepted.typed.users ranged.0)
    (neither (is_active_for s.sessions s.active u r) (lent_out_role s u r) (not-refused _ 27 passes (later-passes (not (assigned_role s u r)) 25 _ pass))).1
lending-target (Grant r p) s accepted ranged pass lending = same-lending s _ refl refl refl lending
lending-target (Take r p) s accepted ranged pass lending = same-lending s _ refl refl refl lending
lending-target (Open i u) s accepted ranged pass lending = same-lending s _ refl refl refl lending
lending-target (Activate i r) s accepted ranged pass lending = same-lending s _ refl refl refl lending
lending-target (Deactivate i r) s accepted ranged pass lending = same-lending s _ refl refl refl lending
lending-target (Access i p o) s accepted ranged pass lending = same-lending s _ refl refl refl lending
lending-target (Finish o) s accepted ranged pass lending = same-lending s _ refl refl refl lending
lending-target (Close i) s accepted ranged pass lending = same-lending s _ refl refl refl lending
lending-target (Move i point) s accepted ranged pass lending = same-lending s _ refl refl refl lending
lending-target (Lost i) s accepted ranged pass lending = same-lending s _ refl refl refl lending
lending-target (Clock t) s accepted ranged pass lending =
    closed-lending _ (left-lending s accepted lending (runs_at t) t (λ loan member e. ltb-true t loan.until e))
lending-target (Lend u v r t) s accepted ranged pass lending = lend-lending s accepted lending u v r t (lend-passes s u v r t pass) ranged
lending-target (Recall u v r) s accepted ranged pass lending =
    closed-lending _ (left-lending s accepted lending (λ loan. not (is_named u v r loan)) s.time (λ loan member e. lending.unended loan member))

-- a fresh state has no loans
pub fresh-lending : Lending fresh
unfolding fresh
fresh-lending = record {
  unended = λ loan member. absurd (Memᴰ.not-nil member);
  lent = λ loan member. absurd (Memᴰ.not-nil member);
  borrowed = λ loan member. absurd (Memᴰ.not-nil member);
  single = λ loan other first second borrower role. absurd (Memᴰ.not-nil first);
  filled = stored-none;
}
