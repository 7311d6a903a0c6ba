-- Document 01, 'State and steps', of any state that 40 does not refuse: "In a handed-in state that already breaks a rule, "the rules"
-- here, and the broken ones that a 30 looks for, are the selected ones alone." No round is named: only the largest part.
-- Assumes nothing.
use Rattle.std.specs.Prelude.{ℕ, ◌≡◌, Bool, true, false, List, Option, Some, None}
use Rattle.rules.specs.Acceptance.{every, rules_of}
use Rattle.rules.specs.declared.families.Rule.{Rule}
use Rattle.rules.specs.declared.lists.RuleList.{RuleList}
use Rattle.rules.specs.Lowest.{lowest}
use Rattle.selection.specs.Selection.{selects, selected_number}
use Rattle.steps.specs.declared.actions.Action.{Action}
use Rattle.steps.specs.Steps.{action_of, is_event}
use Rattle.enforcement.specs.Steps.{passes, refuses, check_step, target, with_active}
use Rattle.enforcement.specs.Decisions.{Largest}
use Rattle.enforcement.specs.Gate.{tests_selected, granted_next, refused_next}
use Rattle.enforcement.specs.declared.states.State.{State}
use Rattle.steps.specs.declared.steps.Step.{Step}
use Rattle.steps.specs.declared.answers.Answer.TheVariants.{Broken, Refused}
use Rattle.enforcement.specs.declared.states.Next.{Next}

-- the rules that the step selects hold
abbrev pub obeys_selected : List Rule → Action → State → Bool
obeys_selected rules action s = every (tests_selected (selects action) s) rules

abbrev pub lowest_selected : List Rule → Action → State → Option ℕ
lowest_selected rules action s = lowest (tests_selected (selects action) s) 1 rules

pub data Narrow (list : RuleList) (s : State) (step : Step) : Next → Type 0 where
  refusing : (number : ℕ) → check_step list s step ≡ refuses number → Narrow list s step (refused_next s (Refused number))
  breaking : (rule : ℕ) → check_step list s step ≡ passes → is_event (action_of step) ≡ false → lowest_selected (rules_of list) (action_of step) (target s (action_of step)) ≡ Some rule → Narrow list s step (refused_next s (Broken rule (selected_number (selects (action_of step)) (rules_of list))))
  taking : check_step list s step ≡ passes → is_event (action_of step) ≡ false → lowest_selected (rules_of list) (action_of step) (target s (action_of step)) ≡ None → Narrow list s step (granted_next (selected_number (selects (action_of step)) (rules_of list)) s (target s (action_of step)))
  ending : (l : List ℕ) → check_step list s step ≡ passes → is_event (action_of step) ≡ true → Largest (obeys_selected (rules_of list) (action_of step)) (target s (action_of step)) l → Narrow list s step (granted_next (selected_number (selects (action_of step)) (rules_of list)) s (with_active (target s (action_of step)) l))
