-- What a check that passes says.
-- Assumes nothing.
use mathlib.Core.Path.{◌≡◌, refl}
use mathlib.Core.Bool.{Bool, true, false, cond}
use mathlib.Core.List.{List}
use Prim.Native.Nat.{ℕ}
use native.Mathlib.Omega.{arith}
use Rattle.rules.specs.declared.rights.RightSlot.{RightSlot}
use Rattle.rules.specs.declared.lists.RuleList.{RuleList}
use Rattle.steps.specs.Steps.{is_administrative, action_of}
use Rattle.steps.specs.declared.acting.Acting.{Acting}
use Rattle.steps.specs.declared.actions.Action.{Action}
use Rattle.steps.specs.declared.steps.Step.{Step}
use Rattle.rights.specs.Rights.{acts_closed}
use Rattle.enforcement.specs.Steps.{Checked, passes, refuse_if, check, right_lacking, check_by, check_step}
use Rattle.enforcement.specs.declared.states.State.{State}

-- it found no cause
pub not-refused : (b : Bool) (number : ℕ) (later : Checked) → refuse_if b number later ≡ passes → b ≡ false
not-refused true number later h = absurd (let e : ◌≡◌ {A = ℕ} 0 1 = cc in omega arith)
not-refused false number later h = refl

-- and the checks after it pass
pub later-passes : (cause : Bool) (number : ℕ) (later : Checked) → refuse_if cause number later ≡ passes → later ≡ passes
later-passes true number later pass = absurd (let e : ◌≡◌ {A = ℕ} 0 1 = cc in omega arith)
later-passes false number later pass = pass

-- so where neither 53 nor 54 refuses, the kind's own checks pass
pub own-passes : (rights : List RightSlot) (s : State) (by : Acting) (action : Action) → check_by rights s by action ≡ passes → check s action ≡ passes
unfolding check_by
own-passes rights s by action = go (is_administrative action) (acts_closed s.sessions by) (right_lacking rights s by action)
  where
    go : (administrative closed lacking : Bool) → cond administrative (refuse_if closed 53 (refuse_if lacking 54 (check s action))) (check s action) ≡ passes → check s action ≡ passes
    go true closed lacking pass = later-passes lacking 54 (check s action) (later-passes closed 53 _ pass)
    go false closed lacking pass = pass

pub step-passes : (list : RuleList) (s : State) (step : Step) → check_step list s step ≡ passes → check s (action_of step) ≡ passes
step-passes list s step = own-passes list.rights s step.by (action_of step)
