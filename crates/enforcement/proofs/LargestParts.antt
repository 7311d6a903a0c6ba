-- Demand 3's last sentence, whole: "After an event the roles still active are the largest part under which all rules hold", of those
-- active before it that it did not itself close.
-- Assumes nothing.
use mathlib.Core.Path.{◌≡◌, sym, ◌∙◌}
use mathlib.Core.Bool.{true, true≢false}
use mathlib.Core.List.{List}
use Rattle.rules.specs.Acceptance.{rules_of, list_accepted}
use Rattle.rules.specs.declared.lists.RuleList.{RuleList}
use Rattle.steps.specs.Steps.{action_of, is_event}
use Rattle.steps.specs.declared.steps.Step.{Step}
use Rattle.enforcement.specs.States.{fresh}
use Rattle.enforcement.specs.Steps.{passes, check_step, target, with_active}
use Rattle.enforcement.specs.Decisions.{granted, Verdict}
use Rattle.enforcement.specs.Plain.{obeys, Plain, refusing, breaking, taking, ending}
use Rattle.enforcement.specs.Gate.{step_of, run_of, compared}
use Rattle.enforcement.specs.Reached.{Typed, Accepted, Good, Reached}
use Rattle.enforcement.specs.Claims.{Along, LargestLeft, LeavesLargest}
use Rattle.enforcement.specs.declared.states.State.{State}
use Rattle.enforcement.proofs.Ranges.{action-ranged}
use Rattle.enforcement.proofs.Checks.{step-passes}
use Rattle.enforcement.proofs.Holding.{obeys-means}
use Rattle.enforcement.proofs.Targets.{event-pairs}
use Rattle.enforcement.proofs.Kept.{accepted-target}
use Rattle.enforcement.proofs.Causes.{not-granted}
use Rattle.enforcement.proofs.Agreement.{step-plain, along-fresh}
use Rattle.enforcement.proofs.Reaching.{reached-good}

-- what the plain gate grants an event
plain-leaves : (list : RuleList) (s : State) (step : Step) (v : Verdict) → Typed s → (check_step list s step ≡ passes → Typed (target s (action_of step))) → Plain list s step v → is_event (action_of step) ≡ true → v.decision ≡ granted → LargestLeft (rules_of list) s (action_of step) v.state
plain-leaves list s step v before typed (refusing number e) event grants = absurd (not-granted number (sym grants))
plain-leaves list s step v before typed (breaking rule e request low) event grants = absurd (true≢false (sym event ∙ request))
plain-leaves list s step v before typed (taking e request low) event grants = absurd (true≢false (sym event ∙ request))
plain-leaves list s step v before typed (ending l e ev kept) event grants =
    record {
      part = λ i r h. (event-pairs s (action_of step) before ev i r).0 (kept.is_part.within i r h);
      holding = (obeys-means (rules_of list) (with_active (target s (action_of step)) l)).0 kept.holding;
      largest = λ m long within holding i r h.
          (kept.largest m
          (record { same_length = long ∙ sym (typed e).actives; within = λ j q x. (event-pairs s (action_of step) before ev j q).1 (within j q x) })
          ((obeys-means (rules_of list) (with_active (target s (action_of step)) m)).1 holding)).within i r h;
    }

module _ (list : RuleList) (listed : list_accepted list ≡ true) where
  event-leaves : (s : State) → Accepted s → obeys (rules_of list) s ≡ true → (step : Step) → LeavesLargest (rules_of list) s step (step_of list s step)
  event-leaves s accepted obeyed step =
      plain-leaves list s step (compared s (step_of list s step)) accepted.typed
      (λ pass. (accepted-target (action_of step) s accepted (action-ranged step) (step-passes list s step pass)).typed) (step-plain list listed s accepted obeyed step)

  -- over every list of steps from a fresh state
  pub largest-part : (steps : List Step) → Along (LeavesLargest (rules_of list)) fresh steps (run_of list fresh steps)
  largest-part steps = along-fresh list listed steps (LeavesLargest (rules_of list)) event-leaves

  -- and from every reached state
  pub largest-part-reached : (Read : State → Type 0) → ((s : State) → Read s → Good list s) → {s : State} → Reached list Read s → (step : Step) → LeavesLargest (rules_of list) s step (step_of list s step)
  largest-part-reached Read read_good {s} reached step =
      let good = reached-good list listed Read read_good reached in
      event-leaves s good.accepted good.obeyed step
