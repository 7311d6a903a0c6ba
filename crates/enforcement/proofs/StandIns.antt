-- Request 2026-01 for the customer: who holds a role that is lent, and that a loan's role is active no more once the loan has ended.
-- Assumes nothing.
use mathlib.Core.Path.{◌≡◌, refl, sym, ap, subst, ◌∙◌}
use mathlib.Core.Bool.{true, ◌&&◌}
use mathlib.Core.Logic.{◌↔◌, ◌⊎◌, inl, inr, ⊎_elim}
use mathlib.Core.List.{List, [], ◌∷◌, Memᴰ}
use Prim.Native.Nat.{ℕ, ◌≤◌}
use native.Mathlib.Omega.{arith}
use lib.Dec.{eqb}
use borrow.Author.Tests.{eq-eqb, eqb-true}
use Rattle.sets.proofs.Booleans.{both, both_true, left_or, right_or, of_or, clash}
use Rattle.rules.specs.Acceptance.{rules_of, list_accepted}
use Rattle.rules.specs.declared.lists.RuleList.{RuleList}
use Rattle.steps.specs.Steps.{action_of}
use Rattle.steps.specs.declared.actions.Action.{Action}
use Rattle.steps.specs.declared.actions.Action.TheVariants.{Clock, Recall}
use Rattle.steps.specs.declared.steps.Step.{Step}
use Rattle.loans.specs.Loans.{is_named}
use Rattle.loans.specs.declared.Loan.{Loan}
use Rattle.loans.proofs.Keeping.{some-means, some_of}
use Rattle.enforcement.specs.States.{fresh, assigned_role, loans_of, borrowed_role, holds_role, user_of, active_role}
use Rattle.enforcement.specs.Steps.{target}
use Rattle.enforcement.specs.Decisions.{granted}
use Rattle.enforcement.specs.Gate.{step_of, run_of, decision_of}
use Rattle.enforcement.specs.Reached.{Good}
use Rattle.enforcement.specs.Claims.{Along, end, then, After, OnLoan, RoleClosed}
use Rattle.enforcement.specs.declared.states.State.{State}
use Rattle.enforcement.specs.declared.states.Next.{Next}
use Rattle.enforcement.proofs.Ranges.{Ranged, action-ranged}
use Rattle.enforcement.proofs.Loans.{holds-means}
use Rattle.enforcement.proofs.Targets.{clock-target, recall-target}
use Rattle.enforcement.proofs.Causes.{granted-step}
use Rattle.enforcement.proofs.Kept.{fresh-accepted, fresh-held}
use Rattle.enforcement.proofs.Lending.{fresh-lending}
use Rattle.enforcement.proofs.Agreement.{all-hold-fresh}
use Rattle.enforcement.proofs.Reaching.{step-good}

module _ (list : RuleList) where
  -- "A role is held when assigned or on loan"
  holds : (s : State) → Good list s → (v r : ℕ) → (holds_role s v r ≡ true) ↔ ((assigned_role s v r ≡ true) ⊎ OnLoan s v r)
  holds s good v r = (
    λ h. ⊎_elim inl (λ b. inr (of-borrowed b)) (of_or (assigned_role s v r) (borrowed_role s v r) (sym (holds-means s good.accepted v r) ∙ h)),
    λ h.
        holds-means s good.accepted v r
        ∙ ⊎_elim (left_or (assigned_role s v r) (borrowed_role s v r)) (λ on. right_or (assigned_role s v r) (borrowed_role s v r) (to-borrowed on)) h,
  )
    where
      of-borrowed : borrowed_role s v r ≡ true → OnLoan s v r
      of-borrowed b =
          let some = (some-means (λ loan. eqb loan.borrower v && eqb loan.role r) (loans_of s)).0 b in
          let two = both (eqb some.0.borrower v) (eqb some.0.role r) some.2 in
          (some.0, some.1, eqb-true some.0.borrower v two.0, eqb-true some.0.role r two.1, good.lending.unended some.0 some.1)

      to-borrowed : OnLoan s v r → borrowed_role s v r ≡ true
      to-borrowed on =
          some_of (λ loan. eqb loan.borrower v && eqb loan.role r) on.0 (loans_of s) on.1
          (both_true (eqb on.0.borrower v) (eqb on.0.role r) (eq-eqb on.0.borrower v on.2) (eq-eqb on.0.role r on.3))

  -- after a step whose loans are some of those before, without this one
  ended-closed : (s after : State) → Good list s → Good list after → (loan : Loan) → Memᴰ loan (loans_of s) → ((other : Loan) → Memᴰ other (loans_of after) → Memᴰ other (loans_of s) × (other ≡ loan → ⊥)) → RoleClosed loan after
  ended-closed s after good next loan member fewer i user active =
      ⊎_elim (λ a. a) (λ on. absurd ((fewer on.0 on.1).1 (good.lending.single on.0 loan (fewer on.0 on.1).0 member on.2 on.3)))
      ((holds after next loan.borrower loan.role).0 (subst (λ (u : ℕ). holds_role after u loan.role ≡ true) user (next.held i loan.role active)))

  module _ (listed : list_accepted list ≡ true) (s : State) (good : Good list s) (step : Step) (grants : decision_of (step_of list s step).answer ≡ granted) where
    -- the loans after a granted step are those of its target
    target-loans : (action : Action) → action_of step ≡ action → loans_of (step_of list s step).state ≡ loans_of (target s action)
    target-loans action e = ap loans_of (granted-step list s step grants).changed ∙ ap (λ (a : Action). loans_of (target s a)) e

    clock-closes : (now : ℕ) → action_of step ≡ Clock now → (loan : Loan) → Memᴰ loan (loans_of s) → loan.until ≤ now → RoleClosed loan (step_of list s step).state
    clock-closes now e loan member reached =
        ended-closed s (step_of list s step).state good (step-good list listed s good step) loan member
        (λ other m.
        let low : now ≤ 3155759999 = subst Ranged e (action-ranged step) in
        let t = ((clock-target s now good.accepted low).1 other).0 (rw (target-loans (Clock now) e) at m) in
        (t.0, λ same. let later = t.1 in let until = ap (λ (w : Loan). w.until) same in omega (arith, later, until, reached)))

    recall-closes : (loan : Loan) → action_of step ≡ Recall loan.lender loan.borrower loan.role → Memᴰ loan (loans_of s) → RoleClosed loan (step_of list s step).state
    recall-closes loan e member =
        ended-closed s (step_of list s step).state good (step-good list listed s good step) loan member
        (λ other m.
        let t = ((recall-target s loan.lender loan.borrower loan.role good.accepted).0 other).0 (rw (target-loans (Recall loan.lender loan.borrower loan.role) e) at m) in
        (t.0, λ same. clash (named other same) t.1))
      where
        named : (other : Loan) → other ≡ loan → is_named loan.lender loan.borrower loan.role other ≡ true
        named other same = subst (λ (w : Loan). is_named loan.lender loan.borrower loan.role w ≡ true) (sym same)
            (both_true (eqb loan.lender loan.lender) (eqb loan.borrower loan.borrower && eqb loan.role loan.role) (eq-eqb loan.lender loan.lender refl)
            (both_true (eqb loan.borrower loan.borrower) (eqb loan.role loan.role) (eq-eqb loan.borrower loan.borrower refl) (eq-eqb loan.role loan.role refl)))

-- what holds of a step from every good state holds along the run
along-good : (list : RuleList) → list_accepted list ≡ true → (Says : State → Step → Next → Type 0) → ((s : State) → Good list s → (step : Step) → Says s step (step_of list s step)) →
    (steps : List Step) (s : State) → Good list s → Along Says s steps (run_of list s steps)
unfolding run_of
along-good list listed Says each [] s good = end
along-good list listed Says each (step ∷ steps) s good =
    then (each s good step) (along-good list listed Says each steps (step_of list s step).state (step-good list listed s good step))

module _ (list : RuleList) (listed : list_accepted list ≡ true) (steps : List Step) where
  fresh-good : Good list fresh
  fresh-good = record { accepted = fresh-accepted; held = fresh-held; lending = fresh-lending; obeyed = all-hold-fresh (rules_of list) }

  -- after every list from a fresh state a user holds a role exactly where he is assigned it or a loan that has not ended says so
  pub stand-in-holds : After (λ s. (v r : ℕ) → (holds_role s v r ≡ true) ↔ ((assigned_role s v r ≡ true) ⊎ OnLoan s v r)) steps list
  stand-in-holds = along-good list listed _ (λ s good step. holds list (step_of list s step).state (step-good list listed s good step)) steps fresh fresh-good

  -- each active role is held by its session's user
  pub stand-in-active : After (λ s. (i r : ℕ) → active_role s i r ≡ true → holds_role s (user_of s i) r ≡ true) steps list
  stand-in-active = along-good list listed _ (λ s good step. (step-good list listed s good step).held) steps fresh fresh-good

  -- "A loan ends when the clock reaches t": then its role is active for the borrower nowhere, unless he is assigned it
  pub stand-in-clock :
      Along (λ s step given. (now : ℕ) → action_of step ≡ Clock now → decision_of given.answer ≡ granted → (loan : Loan) → Memᴰ loan (loans_of s) → loan.until ≤ now →
      RoleClosed loan given.state) fresh steps (run_of list fresh steps)
  stand-in-clock = along-good list listed _ (λ s good step now e grants. clock-closes list listed s good step grants now e) steps fresh fresh-good

  -- "`recall u v r` ends one early": and so here
  pub stand-in-recall :
      Along (λ s step given. (loan : Loan) → action_of step ≡ Recall loan.lender loan.borrower loan.role → decision_of given.answer ≡ granted → Memᴰ loan (loans_of s) →
      RoleClosed loan given.state) fresh steps (run_of list fresh steps)
  stand-in-recall = along-good list listed _ (λ s good step loan e grants. recall-closes list listed s good step grants loan e) steps fresh fresh-good
