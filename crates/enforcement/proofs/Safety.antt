-- Request 2026-05, the safety of administration: where all six kinds have rights and a user holds no role that carries one, his own steps change
-- nobody's roles, no role's permissions, and make no loan.
-- Assumes nothing.
use Prim.Native.Nat.{ℕ, ◌<◌}
use native.Mathlib.Omega.{arith}
use mathlib.Core.Path.{◌≡◌, refl, sym, ap, subst, ◌∙◌}
use mathlib.Core.Bool.{Bool, true, false, not, cond, ◌&&◌}
use mathlib.Core.Logic.{⊎_elim}
use mathlib.Core.List.{List, [], ◌∷◌}
use lib.Dec.{eqb}
use lib.ListN.{length}
use borrow.Author.Tests.{eqb-true}
use Rattle.sets.proofs.Booleans.{both, clash, not_so, left_or, right_or, of_or}
use Rattle.sets.proofs.Bounded.{of-any}
use Rattle.rules.specs.Acceptance.{right_at, list_accepted}
use Rattle.rules.specs.declared.lists.RuleList.{RuleList}
use Rattle.steps.specs.Steps.{is_administrative, action_of}
use Rattle.steps.specs.declared.acting.Acting.{Acting}
use Rattle.steps.specs.declared.acting.Acting.TheVariants.{Nobody, InSession}
use Rattle.steps.specs.declared.actions.Action.{Action}
use Rattle.steps.specs.declared.actions.Action.TheVariants.{Malformed, Assign, Withdraw, Grant, Take, Open, Activate, Deactivate, Access, Finish, Close, Move, Lost, Clock, Lend, Recall}
use Rattle.steps.specs.declared.steps.Step.{Step}
use Rattle.loans.proofs.Keeping.{some-means, some_of}
use Rattle.rights.specs.Rights.{acts_closed, is_carried, lacks_right}
use Rattle.enforcement.specs.States.{assigned_role, borrowed_role, loans_of, holds_role, carries, active_role}
use Rattle.enforcement.specs.Steps.{passes, check, right_lacking, check_by, target, unheld_closed, with_active}
use Rattle.enforcement.specs.Gate.{step_of, run_of}
use Rattle.enforcement.specs.Runs.{refusal_of, last_state, ran_of}
use Rattle.enforcement.specs.Reached.{Typed, Accepted, Held, Good, Reached}
use Rattle.enforcement.specs.Claims.{then}
use Rattle.enforcement.specs.Safety.{AllRights, HoldsNoRight, ActsHimself, OwnAction, Own, OwnSteps, Unchanged, RunSafe}
use Rattle.enforcement.specs.declared.states.State.{State}
use Rattle.enforcement.proofs.Ranges.{Ranged, action-ranged}
use Rattle.enforcement.proofs.Checks.{not-refused, later-passes}
use Rattle.enforcement.proofs.Loans.{holds-means}
use Rattle.enforcement.proofs.Targets.{clock-target}
use Rattle.enforcement.proofs.Causes.{by-outcome}
use Rattle.enforcement.proofs.Reaching.{step-accepted, step-held, reached-good}
use Rattle.enforcement.proofs.WholeLists.{whole-0}

same : (s : State) → Unchanged s s
same s = record { assigned = refl; carried = refl; lent = λ loan member. member }

one-after-other : {s middle after : State} → Unchanged s middle → Unchanged middle after → Unchanged s after
one-after-other first second =
    record {
      assigned = second.assigned ∙ first.assigned;
      carried = second.carried ∙ first.carried;
      lent = λ loan member. first.lent loan (second.lent loan member);
    }

module _ (list : RuleList) (rights : AllRights list) (u : ℕ) where
  -- ---- one step

  -- none of the roles active in his sessions carries a right's permission, so each of the six kinds is lacking its right
  lacks : (s : State) → Held s → HoldsNoRight list s u → (by : Acting) → ActsHimself u s by → (kind : ℕ) → kind < 6 → lacks_right (right_at list.rights kind) by s.active s.granted ≡ true
  unfolding is_carried
  lacks s held none Nobody his kind low = rw (rights kind low).1
  lacks s held none (InSession i) his kind low =
      let right = rights kind low in
      rw right.1
      (ap not (not_so _ (λ e.
      let some = of-any 32 (λ r. active_role s i r && carries s r right.0) e in
      let two = both (active_role s i some.0) (carries s some.0 right.0) some.2 in
      none kind right.0 some.0 low right.1 (subst (λ (v : ℕ). holds_role s v some.0 ≡ true) his.1 (held i some.0 two.0)) two.1)))

  not-passed : (s : State) (by : Acting) (action : Action) → is_administrative action ≡ true → right_lacking list.rights s by action ≡ true → check_by list.rights s by action ≡ passes → ⊥
  unfolding check_by
  not-passed s by action administrative lacked pass =
      clash lacked (not-refused (right_lacking list.rights s by action) 54 (check s action) (later-passes (acts_closed s.sessions by) 53 _ (rw administrative at pass)))

  target-unchanged : (s : State) → Accepted s → Held s → HoldsNoRight list s u → (by : Acting) (action : Action) → Ranged action → OwnAction u s by action → check_by list.rights s by action ≡ passes → Unchanged s (target s action)
  unfolding target unheld_closed
  target-unchanged s accepted held none by Malformed numbers own pass = same s
  target-unchanged s accepted held none by (Assign v r) numbers own pass = absurd (not-passed s by (Assign v r) refl (lacks s held none by own 0 (omega arith)) pass)
  target-unchanged s accepted held none by (Withdraw v r) numbers own pass = absurd (not-passed s by (Withdraw v r) refl (lacks s held none by own 1 (omega arith)) pass)
  target-unchanged s accepted held none by (Grant r p) numbers own pass = absurd (not-passed s by (Grant r p) refl (lacks s held none by own 2 (omega arith)) pass)
  target-unchanged s accepted held none by (Take r p) numbers own pass = absurd (not-passed s by (Take r p) refl (lacks s held none by own 3 (omega arith)) pass)
  target-unchanged s accepted held none by (Open i v) numbers own pass = record { assigned = refl; carried = refl; lent = λ loan member. member }
  target-unchanged s accepted held none by (Activate i r) numbers own pass = record { assigned = refl; carried = refl; lent = λ loan member. member }
  target-unchanged s accepted held none by (Deactivate i r) numbers own pass = record { assigned = refl; carried = refl; lent = λ loan member. member }
  target-unchanged s accepted held none by (Access i p o) numbers own pass = record { assigned = refl; carried = refl; lent = λ loan member. member }
  target-unchanged s accepted held none by (Finish o) numbers own pass = record { assigned = refl; carried = refl; lent = λ loan member. member }
  target-unchanged s accepted held none by (Close i) numbers own pass = record { assigned = refl; carried = refl; lent = λ loan member. member }
  target-unchanged s accepted held none by (Move i point) numbers own pass = record { assigned = refl; carried = refl; lent = λ loan member. member }
  target-unchanged s accepted held none by (Lost i) numbers own pass = record { assigned = refl; carried = refl; lent = λ loan member. member }
  target-unchanged s accepted held none by (Clock t) numbers own pass = record { assigned = refl; carried = refl; lent = λ loan member. (((clock-target s t accepted numbers).1 loan).0 member).0 }
  target-unchanged s accepted held none by (Lend v w r t) numbers own pass = absurd (not-passed s by (Lend v w r t) refl (lacks s held none by own 4 (omega arith)) pass)
  target-unchanged s accepted held none by (Recall v w r) numbers own pass = absurd (not-passed s by (Recall v w r) refl (lacks s held none by own 5 (omega arith)) pass)

  own-step : (s : State) → Accepted s → Held s → HoldsNoRight list s u → (step : Step) → Own u s step → Unchanged s (step_of list s step).state
  own-step s accepted held none step own =
      by-outcome list s step (λ next. Unchanged s next.state) (λ h. same s) (λ number h. same s) (λ rule pass event h. same s)
      (λ after taken. subst (Unchanged s) (sym taken.changed) (part after.active (target-unchanged s accepted held none step.by (action_of step) (action-ranged step) own taken.passed)))
    where
      part : (l : List ℕ) → Unchanged s (target s (action_of step)) → Unchanged s (with_active (target s (action_of step)) l)
      part l unchanged = record { assigned = unchanged.assigned; carried = unchanged.carried; lent = unchanged.lent }

  -- he holds no role that he did not hold, and no role carries more
  still-none : (s after : State) → Accepted s → Accepted after → Unchanged s after → HoldsNoRight list s u → HoldsNoRight list after u
  still-none s after accepted next unchanged none kind p r low right holds carried =
      none kind p r low right
      (holds-means s accepted u r
      ∙ ⊎_elim
      (λ a. left_or (assigned_role s u r) (borrowed_role s u r) (rw unchanged.assigned at a))
      (λ b. right_or (assigned_role s u r) (borrowed_role s u r) (borrowed b))
      (of_or (assigned_role after u r) (borrowed_role after u r) (sym (holds-means after next u r) ∙ holds)))
      (rw unchanged.carried at carried)
    where
      borrowed : borrowed_role after u r ≡ true → borrowed_role s u r ≡ true
      borrowed b =
          let some = (some-means (λ loan. eqb loan.borrower u && eqb loan.role r) (loans_of after)).0 b in
          some_of (λ loan. eqb loan.borrower u && eqb loan.role r) some.0 (loans_of s) (unchanged.lent some.0 some.1) some.2

  -- ---- every list of his own steps

  own-steps : (steps : List Step) (s : State) → Accepted s → Held s → HoldsNoRight list s u → OwnSteps u list s steps → Unchanged s (last_state s (run_of list s steps))
  unfolding run_of last_state
  own-steps [] s accepted held none own = same s
  own-steps (step ∷ steps) s accepted held none (then own rest) =
      let here = own-step s accepted held none step own in
      let next = step-accepted list s step accepted in
      one-after-other here
      (own-steps steps (step_of list s step).state next (step-held list s step accepted held) (still-none s (step_of list s step).state accepted next here none) rest)

-- from a reached state, also one read from a text
pub safety : (list : RuleList) → list_accepted list ≡ true → (Read : State → Type 0) → ((s : State) → Read s → Good list s) → {s : State} → Reached list Read s →
    (u : ℕ) → AllRights list → HoldsNoRight list s u → (steps : List Step) → OwnSteps u list s steps → Unchanged s (last_state s (run_of list s steps))
safety list listed Read read_good {s} reached u rights none steps own =
    let good = reached-good list listed Read read_good reached in
    own-steps list rights u steps s good.accepted good.held none own

-- what `run` hands back, whether it refuses the list as a whole or runs it
pub ran-safe : (list : RuleList) (s : State) (steps : List Step) (room : ℕ) → Typed s → RunSafe list s steps (ran_of list s steps room)
unfolding ran_of
ran-safe list s steps room typed u rights none held own = go (eqb (refusal_of list s (length steps) room) 0) refl
  where
    go : (b : Bool) → eqb (refusal_of list s (length steps) room) 0 ≡ b → Unchanged s (cond b (last_state s (run_of list s steps)) s)
    go true e =
        let runs = (whole-0 list s steps room).0 (eqb-true (refusal_of list s (length steps) room) 0 e) in
        own-steps list rights u steps s (record { typed = typed; unrefused = runs.1 }) held none own
    go false e = same s
