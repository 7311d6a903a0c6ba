-- An event's decision, and a step's by what is read of it: what the code of a step cites.
-- Assumes nothing.
use mathlib.Core.Path.{◌≡◌, refl, sym, ap, ◌∙◌}
use mathlib.Core.Bool.{Bool, true, false, cond, ◌&&◌, ◌||◌, true≢false, false≢true}
use mathlib.Core.List.{List}
use Prim.Native.Nat.{ℕ, ◌≤◌}
use lib.Dec.{leb}
use borrow.Author.Tests.{leb-true}
use Rattle.sets.proofs.Booleans.{left-true}
use Rattle.rules.specs.Acceptance.{rules_of, list_accepted}
use Rattle.rules.specs.declared.lists.RuleList.{RuleList}
use Rattle.steps.specs.declared.actions.Action.{Action}
use Rattle.enforcement.specs.States.{state_accepted}
use Rattle.rules.specs.declared.rights.Right.{Right}
use Rattle.rules.specs.declared.rights.Right.TheVariants.{Unstated, Permission}
use Rattle.rules.specs.declared.rights.RightSlot.{RightSlot}
use Rattle.steps.specs.Steps.{is_administrative, action_of}
use Rattle.steps.specs.declared.acting.Acting.{Acting}
use Rattle.steps.specs.declared.acting.Acting.TheVariants.{Nobody, InSession}
use Rattle.rights.specs.Rights.{right_for, acts_closed, lacks_right, refusal_by, acts, is_stated, is_bound}
use Rattle.enforcement.specs.Steps.{Checked, refuses, refuse_if, check, right_lacking, check_by}
use Rattle.enforcement.specs.Gate.{refused_next, checked_next, decide_step, step_of}
use Rattle.std.specs.Prelude.{Ok, Err}
use Rattle.steps.specs.declared.refusals.Refusal.TheVariants.{ActorNotOpen, RightLacking}
use Rattle.enforcement.specs.Deciding.{Told, RightChecked, decide}
use Rattle.enforcement.specs.declared.states.State.{State}
use Rattle.steps.specs.declared.steps.Step.{Step}
use Rattle.steps.specs.declared.answers.Answer.TheVariants.{Refused}
use Rattle.enforcement.specs.declared.states.Next.{Next}

-- ---- a step by the action that is read of it

module _ (list : RuleList) (s : State) (step : Step) (action : Action) (read : action ≡ action_of step) where
  -- 53 or 54 refuses it
  pub read-refused : (number : ℕ) → check_by list.rights s step.by action ≡ refuses number → refused_next s (Refused number) ≡ decide_step list s step
  unfolding decide_step checked_next
  read-refused number e = sym (ap (λ (c : Checked). checked_next c (rules_of list) s (action_of step)) (ap (check_by list.rights s step.by) (sym read) ∙ e))

  -- neither does: its own kind decides
  pub read-decided : check_by list.rights s step.by action ≡ check s action → (next : Next) → next ≡ decide (rules_of list) s action → next ≡ decide_step list s step
  unfolding decide decide_step
  read-decided free next e =
      e ∙ ap (λ (c : Checked). checked_next c (rules_of list) s action) (sym free)
      ∙ ap (λ (a : Action). checked_next (check_by list.rights s step.by a) (rules_of list) s a) read

-- ---- 53 and 54

module _ (rights : List RightSlot) (s : State) (by : Acting) (action : Action) where
  -- where neither can refuse
  pub unbound-checked : is_bound rights by action ≡ false → RightChecked rights s by action (Ok tt)
  unfolding check_by
  unbound-checked = go (is_administrative action) by (right_for rights action)
    where
      go : (administrative : Bool) (who : Acting) (right : Right) → (administrative && (acts who || is_stated right)) ≡ false →
          cond administrative (refuse_if (acts_closed s.sessions who) 53 (refuse_if (lacks_right right who s.active s.granted) 54 (check s action))) (check s action) ≡ check s action
      go false who right free = refl
      go true Nobody Unstated free = refl
      go true Nobody (Permission p) free = absurd (true≢false free)
      go true (InSession i) right free = absurd (true≢false free)

  -- where one may
  pub bound-checked : is_bound rights by action ≡ true → RightChecked rights s by action (refusal_by (right_for rights action) by s.sessions s.active s.granted)
  unfolding check_by
  bound-checked bound =
      let kind : is_administrative action ≡ true = left-true (is_administrative action) (acts by || is_stated (right_for rights action)) bound in
      go (is_administrative action) (acts_closed s.sessions by) (right_lacking rights s by action) kind
    where
      go : (administrative closed lacking : Bool) → administrative ≡ true →
          Told (cond administrative (refuse_if closed 53 (refuse_if lacking 54 (check s action))) (check s action)) (check s action) (cond closed (Err ActorNotOpen) (cond lacking (Err RightLacking) (Ok tt)))
      go true true lacking kind = refl
      go true false true kind = refl
      go true false false kind = refl
      go false closed lacking kind = absurd (false≢true kind)

-- ---- 40

module _ (list : RuleList) (s : State) (step : Step) where
  pub step-unaccepted : (list_accepted list && state_accepted s) ≡ false → refused_next s (Refused 40) ≡ step_of list s step
  unfolding step_of
  step-unaccepted h = rw (h) refl

  pub step-accepted : (list_accepted list && state_accepted s) ≡ true → decide_step list s step ≡ step_of list s step
  unfolding step_of
  step-accepted h = rw (h) refl

pub accepted-length : (list : RuleList) → list_accepted list ≡ true → list.length ≤ 128
unfolding list_accepted
accepted-length list h = leb-true list.length 128 (left-true (leb list.length 128) _ h)
