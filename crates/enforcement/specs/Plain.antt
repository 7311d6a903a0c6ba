-- Document 01, 'The plain gate': it tests every rule over the whole target, and at an event keeps the largest part of the target's
-- active pairs. It stands on what both gates share and on nothing else, as a relation and as a function over all parts.
-- Assumes nothing.
use Rattle.std.specs.Prelude.{ℕ, zero, suc, ◌+◌, ◌*◌, ◌/◌, ◌%◌, ◌≡◌, Bool, true, false, not, cond, ◌&&◌, ◌||◌, List, [], ◌∷◌, ◌++◌, eqb, Option, Some, None}
use Rattle.sets.specs.Sets.{subset}
use Rattle.rules.specs.Acceptance.{every, rules_of}
use Rattle.rules.specs.declared.families.Rule.{Rule}
use Rattle.rules.specs.declared.lists.RuleList.{RuleList}
use Rattle.rules.specs.Lowest.{lowest}
use Rattle.steps.specs.Pairs.{ended_pairs, pair_count}
use Rattle.steps.specs.declared.actions.Action.{Action}
use Rattle.enforcement.specs.States.{rule_holds}
use Rattle.steps.specs.Steps.{action_of, is_event}
use Rattle.enforcement.specs.Steps.{Checked, passes, refuses, check_step, target, with_active}
use Rattle.enforcement.specs.Decisions.{Largest, Decision, granted, refused, Verdict}
use Rattle.enforcement.specs.declared.states.State.{State}
use Rattle.steps.specs.declared.steps.Step.{Step}

-- every rule holds
abbrev pub obeys : List Rule → State → Bool
obeys rules s = every (λ rule. rule_holds rule s) rules

-- the lowest rule that is broken in a state
abbrev pub lowest_broken : List Rule → State → Option ℕ
lowest_broken rules s = lowest (λ rule. rule_holds rule s) 1 rules

-- what is compared of a step that leads from one state to the next
abbrev pub verdict : State → Decision → ℕ → State → Verdict
verdict before decision rule after =
    record {
      decision = decision;
      rule = rule;
      ended = ended_pairs before.active after.active;
      ended_number = pair_count (ended_pairs before.active after.active);
      state = after;
    }

-- ---- as a relation

pub data Plain (list : RuleList) (s : State) (step : Step) : Verdict → Type 0 where
  -- "It makes the same checks before 30; if one refuses, it keeps the old state."; 2026-05, of 53 and 54: "the plain gate checks them too"
  refusing : (number : ℕ) → check_step list s step ≡ refuses number → Plain list s step (verdict s (refused number) 0 s)
  -- "For a request .. it tests every rule over the whole target; if any is broken it answers 30 with the lowest and keeps the old state"
  breaking : (rule : ℕ) → check_step list s step ≡ passes → is_event (action_of step) ≡ false → lowest_broken (rules_of list) (target s (action_of step)) ≡ Some rule → Plain list s step (verdict s (refused 30) rule s)
  -- "else it takes the target"
  taking : check_step list s step ≡ passes → is_event (action_of step) ≡ false → lowest_broken (rules_of list) (target s (action_of step)) ≡ None → Plain list s step (verdict s granted 0 (target s (action_of step)))
  -- "For an event it keeps the largest part of the target's active pairs under which every rule holds"
  ending : (l : List ℕ) → check_step list s step ≡ passes → is_event (action_of step) ≡ true → Largest (obeys (rules_of list)) (target s (action_of step)) l → Plain list s step (verdict s granted 0 (with_active (target s (action_of step)) l))

-- "a gate's next step gets the state that its last one handed back"
pub data PlainRun (list : RuleList) : State → List Step → List Verdict → Type 0 where
  done : {s : State} → PlainRun list s [] []
  next : {s : State} {step : Step} {steps : List Step} {v : Verdict} {verdicts : List Verdict} →
      Plain list s step v → PlainRun list v.state steps verdicts → PlainRun list s (step ∷ steps) (v ∷ verdicts)

-- ---- as a function: at an event it goes through all parts

-- the sets of numbers below k that lie within a set
unfoldable pub doubled : Bool → List ℕ → List ℕ
doubled is_member [] = []
doubled true (n ∷ sets) = (n * 2) ∷ ((n * 2 + 1) ∷ doubled true sets)
doubled false (n ∷ sets) = (n * 2) ∷ doubled false sets

unfoldable pub subsets : ℕ → ℕ → List ℕ
subsets zero n = 0 ∷ []
subsets (suc k) n = doubled (eqb (n % 2) 1) (subsets k (n / 2))

-- each of the sets before each of the lists
unfoldable pub before : ℕ → List (List ℕ) → List (List ℕ)
before roles [] = []
before roles (l ∷ lists) = (roles ∷ l) ∷ before roles lists

unfoldable pub each_before : List ℕ → List (List ℕ) → List (List ℕ)
each_before [] lists = []
each_before (roles ∷ sets) lists = before roles lists ++ each_before sets lists

-- all parts of the active pairs of the sessions
unfoldable pub parts : List ℕ → List (List ℕ)
parts [] = [] ∷ []
parts (roles ∷ rest) = each_before (subsets 32 roles) (parts rest)

unfoldable pub is_within : List ℕ → List ℕ → Bool
is_within [] [] = true
is_within [] (b ∷ m) = false
is_within (a ∷ l) [] = false
is_within (a ∷ l) (b ∷ m) = subset a b && is_within l m

unfoldable pub all_lists : (List ℕ → Bool) → List (List ℕ) → Bool
all_lists test [] = true
all_lists test (l ∷ lists) = test l && all_lists test lists

-- the first list that passes the test; the empty one where none does
unfoldable pub first_list : (List ℕ → Bool) → List (List ℕ) → List ℕ
first_list test [] = []
first_list test (l ∷ lists) = cond (test l) l (first_list test lists)

-- the test holds under l, and each part under which it holds lies within l
unfoldable pub is_largest : (State → Bool) → State → List ℕ → Bool
is_largest test s l = test (with_active s l) && all_lists (λ m. not (test (with_active s m)) || is_within m l) (parts s.active)

unfoldable pub largest_part : (State → Bool) → State → List ℕ
largest_part test s = first_list (is_largest test s) (parts s.active)

unfoldable pub plain_request : State → State → Option ℕ → Verdict
plain_request s after None = verdict s granted 0 after
plain_request s after (Some rule) = verdict s (refused 30) rule s

unfoldable pub plain_passed : Bool → List Rule → State → State → Verdict
plain_passed false rules s after = plain_request s after (lowest_broken rules after)
plain_passed true rules s after = verdict s granted 0 (with_active after (largest_part (obeys rules) after))

unfoldable pub plain_checked : Checked → List Rule → State → Action → Verdict
plain_checked passes rules s action = plain_passed (is_event action) rules s (target s action)
plain_checked (refuses number) rules s action = verdict s (refused number) 0 s

unfoldable pub plain_step : RuleList → State → Step → Verdict
plain_step list s step = plain_checked (check_step list s step) (rules_of list) s (action_of step)

unfoldable pub plain_run : RuleList → State → List Step → List Verdict
plain_run list s [] = []
plain_run list s (step ∷ steps) = plain_step list s step ∷ plain_run list (plain_step list s step).state steps
