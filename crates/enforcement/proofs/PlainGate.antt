-- The plain gate's function is its relation: wherever there is a largest part, the function's step is one that the relation allows.
-- Assumes nothing.
use mathlib.Core.Path.{◌≡◌, refl, sym, subst}
use mathlib.Core.Bool.{Bool, true, false}
use mathlib.Core.List.{List}
use Prim.Native.Nat.{ℕ}
use Rattle.rules.specs.Acceptance.{rules_of}
use Rattle.rules.specs.declared.lists.RuleList.{RuleList}
use Rattle.steps.specs.Steps.{action_of, is_event}
use Rattle.steps.specs.declared.steps.Step.{Step}
use Rattle.std.specs.Prelude.{Option, Some, None}
use Rattle.enforcement.specs.Steps.{Checked, passes, refuses, check_step, target}
use Rattle.enforcement.specs.Decisions.{Largest}
use Rattle.enforcement.specs.Plain.{obeys, lowest_broken, largest_part, Plain, refusing, breaking, taking, ending, plain_request, plain_passed, plain_checked, plain_step}
use Rattle.enforcement.specs.Reached.{Typed}
use Rattle.enforcement.specs.declared.states.State.{State}
use Rattle.enforcement.proofs.Parts.{largest-found}

module _
    (list : RuleList)
    (s : State)
    (step : Step)
    (typed : check_step list s step ≡ passes → Typed (target s (action_of step)))
    (some : check_step list s step ≡ passes → is_event (action_of step) ≡ true → (l : List ℕ) × Largest (obeys (rules_of list)) (target s (action_of step)) l)
  where
    by-lowest : check_step list s step ≡ passes → is_event (action_of step) ≡ false → (low : Option ℕ) → lowest_broken (rules_of list) (target s (action_of step)) ≡ low → Plain list s step (plain_request s (target s (action_of step)) low)
    unfolding plain_request
    by-lowest pass event None e = taking pass event e
    by-lowest pass event (Some rule) e = breaking rule pass event e

    by-event : check_step list s step ≡ passes → (event : Bool) → is_event (action_of step) ≡ event → Plain list s step (plain_passed event (rules_of list) s (target s (action_of step)))
    unfolding plain_passed
    by-event pass true e =
        let part = some pass e in
        ending (largest_part (obeys (rules_of list)) (target s (action_of step))) pass e
        (subst (Largest (obeys (rules_of list)) (target s (action_of step))) (sym (largest-found (obeys (rules_of list)) (target s (action_of step)) part.0 (typed pass) part.1)) part.1)
    by-event pass false e = by-lowest pass e (lowest_broken (rules_of list) (target s (action_of step))) refl

    by-check : (checked : Checked) → check_step list s step ≡ checked → Plain list s step (plain_checked checked (rules_of list) s (action_of step))
    unfolding plain_checked
    by-check passes e = by-event e (is_event (action_of step)) refl
    by-check (refuses number) e = refusing number e

    pub function-step : Plain list s step (plain_step list s step)
    unfolding plain_step
    function-step = by-check (check_step list s step) refl
