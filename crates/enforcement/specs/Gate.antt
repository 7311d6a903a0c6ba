-- Our gate: it tests the selected rules alone. That this gives what the plain gate gives is proved in proofs/Agreement.antt.
-- Assumes nothing.
use Rattle.std.specs.Prelude.{ℕ, Bool, true, false, not, cond, ◌&&◌, ◌||◌, List, [], ◌∷◌, Option, Some, None}
use Rattle.rules.specs.Acceptance.{rules_of, list_accepted}
use Rattle.rules.specs.declared.families.Rule.{Rule}
use Rattle.rules.specs.declared.lists.RuleList.{RuleList}
use Rattle.rules.specs.Lowest.{lowest}
use Rattle.steps.specs.Pairs.{ended_pairs, pair_count}
use Rattle.selection.specs.Selection.{selects, selected_number}
use Rattle.steps.specs.declared.actions.Action.{Action}
use Rattle.enforcement.specs.States.{rule_holds, state_accepted}
use Rattle.steps.specs.Steps.{action_of, is_event}
use Rattle.enforcement.specs.Steps.{Checked, passes, refuses, check_step, target, with_active}
use Rattle.enforcement.specs.Decisions.{Decision, granted, refused, Verdict}
use Rattle.enforcement.specs.Rounds.{remaining}
use Rattle.enforcement.specs.declared.states.State.{State}
use Rattle.steps.specs.declared.steps.Step.{Step}
use Rattle.steps.specs.declared.answers.Answer.{Answer}
use Rattle.steps.specs.declared.answers.Answer.TheVariants.{Granted, Broken, Refused}
use Rattle.enforcement.specs.declared.states.Next.{Next}

-- a rule is not selected, or it holds in the state
abbrev pub tests_selected : (Rule → Bool) → State → Rule → Bool
tests_selected selected s rule = not (selected rule) || rule_holds rule s

-- ---- a step

-- "A granted answer carries the number of rules selected and the number of (session, role) pairs active before and not after"
abbrev pub granted_next : ℕ → State → State → Next
granted_next selected s after = record { state = after; answer = Granted selected (pair_count (ended_pairs s.active after.active)) }

abbrev pub refused_next : State → Answer → Next
refused_next s answer = record { state = s; answer = answer }

-- "A 30 carries the lowest broken rule and the number selected."
unfoldable pub request_next : ℕ → State → State → Option ℕ → Next
request_next selected s after None = granted_next selected s after
request_next selected s after (Some rule) = refused_next s (Broken rule selected)

unfoldable pub passed_next : Bool → List Rule → State → Action → Next
passed_next false rules s action =
    request_next (selected_number (selects action) rules) s (target s action)
    (lowest (tests_selected (selects action) (target s action)) 1 rules)
passed_next true rules s action =
    granted_next (selected_number (selects action) rules) s (with_active (target s action) (remaining (selects action) rules (target s action)))

unfoldable pub checked_next : Checked → List Rule → State → Action → Next
checked_next passes rules s action = passed_next (is_event action) rules s action
checked_next (refuses number) rules s action = refused_next s (Refused number)

unfoldable pub decide_step : RuleList → State → Step → Next
decide_step list s step = checked_next (check_step list s step) (rules_of list) s (action_of step)

-- "Checks run in the order given, 40 and 20 before all."
unfoldable pub step_of : RuleList → State → Step → Next
step_of list s step = cond (list_accepted list && state_accepted s) (decide_step list s step) (refused_next s (Refused 40))

-- "a gate's next step gets the state that its last one handed back"
unfoldable pub run_of : RuleList → State → List Step → List Next
run_of list s [] = []
run_of list s (step ∷ steps) = step_of list s step ∷ run_of list (step_of list s step).state steps

-- ---- an answer by document 01's numbers

abbrev pub decision_of : Answer → Decision
decision_of (Granted selected ended) = granted
decision_of (Broken rule selected) = refused 30
decision_of (Refused number) = refused number

abbrev pub named_rule : Answer → ℕ
named_rule (Granted selected ended) = 0
named_rule (Broken rule selected) = rule
named_rule (Refused number) = 0

-- "Other refusals carry 0 and 0."
abbrev pub selected_of : Answer → ℕ
selected_of (Granted selected ended) = selected
selected_of (Broken rule selected) = selected
selected_of (Refused number) = 0

abbrev pub ended_of : Answer → ℕ
ended_of (Granted selected ended) = ended
ended_of (Broken rule selected) = 0
ended_of (Refused number) = 0

-- all of an answer and its state but the number selected, which "is fixed by the table instead"
abbrev pub compared : State → Next → Verdict
compared before next =
    record {
      decision = decision_of next.answer;
      rule = named_rule next.answer;
      ended = ended_pairs before.active next.state.active;
      ended_number = ended_of next.answer;
      state = next.state;
    }

unfoldable pub compared_run : State → List Next → List Verdict
compared_run before [] = []
compared_run before (next ∷ rest) = compared before next ∷ compared_run next.state rest
