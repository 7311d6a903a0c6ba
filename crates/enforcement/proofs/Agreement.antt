-- Demand 3: over every list of steps from a fresh state our gate gives what the plain gate gives, and all rules hold after every step. From
-- any state that 40 does not refuse, the same with the selected rules alone.
-- Assumes nothing.
use mathlib.Core.Path.{◌≡◌, refl, sym, ap, ap₂, ◌∙◌, subst}
use mathlib.Core.Bool.{Bool, true, false, not, cond, ◌&&◌, ◌||◌}
use mathlib.Core.Logic.{◌↔◌}
use mathlib.Core.List.{List, [], ◌∷◌}
use Prim.Native.Nat.{ℕ, suc}
use Rattle.sets.proofs.Booleans.{both, right_or}
use Rattle.rules.specs.Acceptance.{every, rules_of, list_accepted}
use Rattle.rules.proofs.Every.{every-both, every-all}
use Rattle.rules.specs.declared.families.Rule.{Rule}
use Rattle.rules.specs.declared.lists.RuleList.{RuleList}
use Rattle.std.specs.Prelude.{Option, Some, None}
use Rattle.rules.specs.Lowest.{lowest}
use Rattle.steps.specs.Pairs.{ended_pairs, Part}
use Rattle.selection.specs.Selection.{selects, selected_number}
use Rattle.steps.specs.declared.actions.Action.{Action}
use Rattle.enforcement.specs.States.{fresh, rule_holds, state_accepted}
use Rattle.steps.specs.Steps.{action_of, is_event}
use Rattle.enforcement.specs.Steps.{Checked, passes, refuses, check, check_step, target, with_active}
use Rattle.enforcement.specs.Decisions.{Largest, granted, refused, Verdict}
use Rattle.enforcement.specs.Plain.{obeys, lowest_broken, verdict, Plain, refusing, breaking, taking, ending, PlainRun, done, next, plain_request, plain_passed, plain_checked, plain_step, plain_run}
use Rattle.enforcement.specs.Gate.{tests_selected, granted_next, request_next, passed_next, checked_next, decide_step, step_of, run_of, compared, compared_run}
use Rattle.enforcement.specs.Rounds.{remaining}
use Rattle.enforcement.specs.Narrow as narrow
use Rattle.enforcement.specs.Reached.{Typed, Accepted}
use Rattle.enforcement.specs.Claims.{Along, end, then}
use Rattle.enforcement.specs.declared.states.State.{State}
use Rattle.steps.specs.declared.steps.Step.{Step}
use Rattle.enforcement.specs.declared.states.Next.{Next}
use Rattle.enforcement.proofs.EndedPairs.{none-ended}
use Rattle.enforcement.proofs.Checks.{step-passes}
use Rattle.enforcement.proofs.Ranges.{Ranged, action-ranged}
use Rattle.enforcement.proofs.Frame.{frame, frame-part}
use Rattle.enforcement.proofs.Ending.{largest-unique, remaining-largest}
use Rattle.enforcement.proofs.Parts.{largest-found}
use Rattle.enforcement.proofs.Kept.{accepted-target, accepted-part, fresh-accepted, fresh-obeys}

-- ---- tests over a list of rules

-- tests that agree on every rule find the same lowest broken one
lowest-same : (given p q : Rule → Bool) → ((rule : Rule) → given rule ≡ true → p rule ≡ q rule) → (n : ℕ) (rules : List Rule) → every given rules ≡ true → lowest p n rules ≡ lowest q n rules
unfolding every lowest
lowest-same given p q f n [] e = refl
lowest-same given p q f n (rule ∷ rules) e =
    let x = both (given rule) (every given rules) e in
    ap₂ (λ (b : Bool) (rest : Option ℕ). cond b rest (Some n)) (f rule x.0) (lowest-same given p q f (suc n) rules x.1)

pub lowest-none : (test : Rule → Bool) (n : ℕ) (rules : List Rule) → lowest test n rules ≡ None → every test rules ≡ true
unfolding every lowest
lowest-none test n [] e = refl
lowest-none test n (rule ∷ rules) e = go (test rule) e (lowest-none test (suc n) rules)
  where
    go : (b : Bool) → cond b (lowest test (suc n) rules) (Some n) ≡ None → (lowest test (suc n) rules ≡ None → every test rules ≡ true) → (b && every test rules) ≡ true
    go true h f = f h
    go false h f = cc

-- ---- a refused step ends no pair

-- what is compared of a refusal
abbrev refusal : State → ℕ → ℕ → Verdict
refusal s number rule = record { decision = refused number; rule = rule; ended = ended_pairs s.active s.active; ended_number = 0; state = s }

refusal-verdict : (s : State) (number rule : ℕ) → verdict s (refused number) rule s ≡ refusal s number rule
refusal-verdict s number rule =
    ap (λ (n : ℕ). record { decision = refused number; rule = rule; ended = ended_pairs s.active s.active; ended_number = n; state = s }) (none-ended s.active)

-- ---- one step from a state that 40 does not refuse and that obeys the rules

module _ (rules : List Rule) (s : State) (accepted : Accepted s) (obeyed : obeys rules s ≡ true) (action : Action) (ranged : Ranged action) (pass : check s action ≡ passes) where
  unselected-holds : (rule : Rule) → rule_holds rule s ≡ true → selects action rule ≡ false → rule_holds rule (target s action) ≡ true
  unselected-holds rule h e = frame action rule s accepted ranged pass e h

  same_test : (rule : Rule) → rule_holds rule s ≡ true → tests_selected (selects action) (target s action) rule ≡ rule_holds rule (target s action)
  same_test rule b = go (selects action rule) refl
    where
      go : (selected : Bool) → selects action rule ≡ selected → (not selected || rule_holds rule (target s action)) ≡ rule_holds rule (target s action)
      go true e = refl
      go false e = sym (unselected-holds rule b e)

  same-lowest : lowest (tests_selected (selects action) (target s action)) 1 rules ≡ lowest_broken rules (target s action)
  same-lowest = lowest-same (λ rule. rule_holds rule s) (tests_selected (selects action) (target s action)) (λ rule. rule_holds rule (target s action)) same_test 1 rules obeyed

  module _ (event : is_event action ≡ true) where
    -- under a part of the target's pairs all rules hold exactly where the selected ones do
    from-selected : (l : List ℕ) → Part l (target s action).active → every (tests_selected (selects action) (with_active (target s action) l)) rules ≡ true → obeys rules (with_active (target s action) l) ≡ true
    from-selected l part =
        every-both (λ rule. rule_holds rule s) (tests_selected (selects action) (with_active (target s action) l)) (λ rule. rule_holds rule (with_active (target s action) l))
        (λ rule b h. go rule b (selects action rule) refl h) rules obeyed
      where
        go : (rule : Rule) → rule_holds rule s ≡ true → (selected : Bool) → selects action rule ≡ selected → (not selected || rule_holds rule (with_active (target s action) l)) ≡ true → rule_holds rule (with_active (target s action) l) ≡ true
        go rule b true e h = h
        go rule b false e h = frame-part action rule (target s action) l event e part (unselected-holds rule b e)

    to-selected : (l : List ℕ) → obeys rules (with_active (target s action) l) ≡ true → every (tests_selected (selects action) (with_active (target s action) l)) rules ≡ true
    to-selected l =
        every-both (λ rule. rule_holds rule s) (λ rule. rule_holds rule (with_active (target s action) l)) (tests_selected (selects action) (with_active (target s action) l))
        (λ rule b h. right_or (not (selects action rule)) (rule_holds rule (with_active (target s action) l)) h) rules obeyed

    -- what is left is the largest part under which all rules hold
    remaining-obeys : Largest (obeys rules) (target s action) (remaining (selects action) rules (target s action))
    remaining-obeys =
        let kept = remaining-largest action event rules (target s action) (accepted-target action s accepted ranged pass).typed in
        record {
          is_part = kept.is_part;
          holding = from-selected (remaining (selects action) rules (target s action)) kept.is_part kept.holding;
          largest = λ m part h. kept.largest m part (to-selected m h);
        }

module _ (list : RuleList) (s : State) (accepted : Accepted s) (obeyed : obeys (rules_of list) s ≡ true) (step : Step) where
  by-lowest : check_step list s step ≡ passes → is_event (action_of step) ≡ false → (low : Option ℕ) → lowest_broken (rules_of list) (target s (action_of step)) ≡ low → (n : ℕ) → Plain list s step (compared s (request_next n s (target s (action_of step)) low))
  unfolding request_next
  by-lowest pass event None e n = taking pass event e
  by-lowest pass event (Some rule) e n = subst (Plain list s step) (refusal-verdict s 30 rule) (breaking rule pass event e)

  by-event : check_step list s step ≡ passes → (event : Bool) → is_event (action_of step) ≡ event → Plain list s step (compared s (passed_next event (rules_of list) s (action_of step)))
  unfolding passed_next
  by-event pass true e =
      ending (remaining (selects (action_of step)) (rules_of list) (target s (action_of step))) pass e
      (remaining-obeys (rules_of list) s accepted obeyed (action_of step) (action-ranged step) (step-passes list s step pass) e)
  by-event pass false e =
      by-lowest pass e (lowest (tests_selected (selects (action_of step)) (target s (action_of step))) 1 (rules_of list))
      (sym (same-lowest (rules_of list) s accepted obeyed (action_of step) (action-ranged step) (step-passes list s step pass))) _

  by-check : (checked : Checked) → check_step list s step ≡ checked → Plain list s step (compared s (checked_next checked (rules_of list) s (action_of step)))
  unfolding checked_next
  by-check passes e = by-event e (is_event (action_of step)) refl
  by-check (refuses number) e = subst (Plain list s step) (refusal-verdict s number 0) (refusing number e)

  -- what our gate gives is what the plain gate gives
  step-is-plain : Plain list s step (compared s (decide_step list s step))
  unfolding decide_step
  step-is-plain = by-check (check_step list s step) refl

-- ---- the plain gate gives one verdict, and its function finds it

module _ (list : RuleList) (s : State) (step : Step) where
  plain-function : (v : Verdict) → (check_step list s step ≡ passes → Typed (target s (action_of step))) → Plain list s step v → plain_step list s step ≡ v
  unfolding plain_step plain_checked plain_passed plain_request
  plain-function v typed (refusing number e) = ap (λ (c : Checked). plain_checked c (rules_of list) s (action_of step)) e
  plain-function v typed (breaking rule e event low) =
      ap (λ (c : Checked). plain_checked c (rules_of list) s (action_of step)) e
      ∙ ap (λ (b : Bool). plain_passed b (rules_of list) s (target s (action_of step))) event
      ∙ ap (plain_request s (target s (action_of step))) low
  plain-function v typed (taking e event low) =
      ap (λ (c : Checked). plain_checked c (rules_of list) s (action_of step)) e
      ∙ ap (λ (b : Bool). plain_passed b (rules_of list) s (target s (action_of step))) event
      ∙ ap (plain_request s (target s (action_of step))) low
  plain-function v typed (ending l e event largest) =
      ap (λ (c : Checked). plain_checked c (rules_of list) s (action_of step)) e
      ∙ ap (λ (b : Bool). plain_passed b (rules_of list) s (target s (action_of step))) event
      ∙ ap (λ (m : List ℕ). verdict s granted 0 (with_active (target s (action_of step)) m)) (largest-found (obeys (rules_of list)) (target s (action_of step)) l (typed e) largest)

-- ---- what the plain gate leaves is not refused by 40 and obeys the rules

-- the target of a step that no check refuses is a state of the type, in range
target-accepted : (list : RuleList) (s : State) (step : Step) → Accepted s → check_step list s step ≡ passes → Accepted (target s (action_of step))
target-accepted list s step accepted pass = accepted-target (action_of step) s accepted (action-ranged step) (step-passes list s step pass)

plain-keeps : (list : RuleList) (s : State) (step : Step) (v : Verdict) → Accepted s → obeys (rules_of list) s ≡ true → Plain list s step v → Accepted v.state × (obeys (rules_of list) v.state ≡ true)
plain-keeps list s step v accepted obeyed (refusing number e) = (accepted, obeyed)
plain-keeps list s step v accepted obeyed (breaking rule e event low) = (accepted, obeyed)
plain-keeps list s step v accepted obeyed (taking e event low) =
    (target-accepted list s step accepted e, lowest-none (λ rule. rule_holds rule (target s (action_of step))) 1 (rules_of list) low)
plain-keeps list s step v accepted obeyed (ending l e event largest) =
    (accepted-part (target s (action_of step)) l (target-accepted list s step accepted e) largest.is_part, largest.holding)

-- ---- a whole list of steps

module _ (list : RuleList) (listed : list_accepted list ≡ true) where
  -- an accepted state is not refused by 40, so the step is decided
  decided : (s : State) → Accepted s → (step : Step) → step_of list s step ≡ decide_step list s step
  unfolding step_of
  decided s accepted step = rw (listed, accepted.unrefused)

  pub step-plain : (s : State) → Accepted s → obeys (rules_of list) s ≡ true → (step : Step) → Plain list s step (compared s (step_of list s step))
  step-plain s accepted obeyed step = rw (decided s accepted step) (step-is-plain list s accepted obeyed step)

  pub step_keeps : (s : State) → Accepted s → obeys (rules_of list) s ≡ true → (step : Step) → Accepted (step_of list s step).state × (obeys (rules_of list) (step_of list s step).state ≡ true)
  step_keeps s accepted obeyed step =
      plain-keeps list s step (compared s (step_of list s step)) accepted obeyed (step-plain s accepted obeyed step)

  step-function : (s : State) → Accepted s → obeys (rules_of list) s ≡ true → (step : Step) (v : Verdict) → Plain list s step v → plain_step list s step ≡ v
  step-function s accepted obeyed step v = plain-function list s step v (λ pass. (target-accepted list s step accepted pass).typed)

  -- the relation has our run
  run-is-plain : (steps : List Step) (s : State) → Accepted s → obeys (rules_of list) s ≡ true → PlainRun list s steps (compared_run s (run_of list s steps))
  unfolding run_of compared_run
  run-is-plain [] s accepted obeyed = done
  run-is-plain (step ∷ steps) s accepted obeyed =
      let kept = step_keeps s accepted obeyed step in
      next (step-plain s accepted obeyed step) (run-is-plain steps (step_of list s step).state kept.0 kept.1)

  -- and so has the function
  function-is-run : (steps : List Step) (s : State) → Accepted s → obeys (rules_of list) s ≡ true → plain_run list s steps ≡ compared_run s (run_of list s steps)
  unfolding plain_run run_of compared_run
  function-is-run [] s accepted obeyed = refl
  function-is-run (step ∷ steps) s accepted obeyed =
      let here = step-function s accepted obeyed step (compared s (step_of list s step)) (step-plain s accepted obeyed step) in
      let kept = step_keeps s accepted obeyed step in
      ap₂ ◌∷◌ here (ap (λ (v : Verdict). plain_run list v.state steps) here ∙ function-is-run steps (step_of list s step).state kept.0 kept.1)

  -- and the relation has no other
  plain-is-function : (steps : List Step) (s : State) (verdicts : List Verdict) → Accepted s → obeys (rules_of list) s ≡ true → PlainRun list s steps verdicts → plain_run list s steps ≡ verdicts
  unfolding plain_run
  plain-is-function [] s verdicts accepted obeyed done = refl
  plain-is-function (step ∷ steps) s verdicts accepted obeyed (next {v = v} {verdicts = rest} here later) =
      let same = step-function s accepted obeyed step v here in
      let kept = plain-keeps list s step v accepted obeyed here in
      ap₂ ◌∷◌ same (ap (λ (w : Verdict). plain_run list w.state steps) same ∙ plain-is-function steps v.state rest kept.0 kept.1 later)

  -- what holds of a step from every state that 40 does not refuse and that obeys the rules holds along the run
  pub along-run : (Says : State → Step → Next → Type 0) → ((s : State) → Accepted s → obeys (rules_of list) s ≡ true → (step : Step) → Says s step (step_of list s step)) →
      (steps : List Step) (s : State) → Accepted s → obeys (rules_of list) s ≡ true → Along Says s steps (run_of list s steps)
  unfolding run_of
  along-run Says each [] s accepted obeyed = end
  along-run Says each (step ∷ steps) s accepted obeyed =
      let kept = step_keeps s accepted obeyed step in
      then (each s accepted obeyed step) (along-run Says each steps (step_of list s step).state kept.0 kept.1)

pub all-hold-fresh : (rules : List Rule) → obeys rules fresh ≡ true
all-hold-fresh rules = every-all (λ rule. rule_holds rule fresh) fresh-obeys rules

-- ---- demand 3

module _ (list : RuleList) (listed : list_accepted list ≡ true) (steps : List Step) where
  -- "over every list of steps from a fresh state, it gives at every step the same decision, lowest broken rule, ended roles and state as
  -- the plain gate, which tests every rule over the whole state"
  pub agreement : plain_run list fresh steps ≡ compared_run fresh (run_of list fresh steps)
  agreement = function-is-run list listed steps fresh fresh-accepted (all-hold-fresh (rules_of list))

  -- the same of the plain gate as a relation: our run is one of its runs
  pub agreement-relation : PlainRun list fresh steps (compared_run fresh (run_of list fresh steps))
  agreement-relation = run-is-plain list listed steps fresh fresh-accepted (all-hold-fresh (rules_of list))

  -- and it has no other
  pub agreement-only : (verdicts : List Verdict) → PlainRun list fresh steps verdicts → verdicts ≡ compared_run fresh (run_of list fresh steps)
  agreement-only verdicts plain =
      sym (plain-is-function list listed steps fresh verdicts fresh-accepted (all-hold-fresh (rules_of list)) plain) ∙ agreement

  -- and what the plain gate's function runs through is that run
  pub function-relation : PlainRun list fresh steps (plain_run list fresh steps)
  function-relation = rw agreement agreement-relation

  -- "All rules hold after every step."
  pub rules-hold : Along (λ s step given. obeys (rules_of list) given.state ≡ true) fresh steps (run_of list fresh steps)
  rules-hold =
      along-run list listed (λ s step given. obeys (rules_of list) given.state ≡ true) (λ s accepted obeyed step. (step_keeps list listed s accepted obeyed step).1)
      steps fresh fresh-accepted (all-hold-fresh (rules_of list))

  pub along-fresh : (Says : State → Step → Next → Type 0) → ((s : State) → Accepted s → obeys (rules_of list) s ≡ true → (step : Step) → Says s step (step_of list s step)) →
      Along Says fresh steps (run_of list fresh steps)
  along-fresh Says each = along-run list listed Says each steps fresh fresh-accepted (all-hold-fresh (rules_of list))

-- ---- any state that 40 does not refuse, also one that breaks rules

module _ (list : RuleList) (s : State) (accepted : Accepted s) (step : Step) where
  abbrev rules : List Rule
  rules = rules_of list

  abbrev action : Action
  action = action_of step

  remaining-selected : check_step list s step ≡ passes → is_event action ≡ true → Largest (narrow.obeys_selected rules action) (target s action) (remaining (selects action) rules (target s action))
  remaining-selected pass event = remaining-largest action event rules (target s action) (target-accepted list s step accepted pass).typed

  narrow-by-lowest : check_step list s step ≡ passes → is_event action ≡ false → (low : Option ℕ) → narrow.lowest_selected rules action (target s action) ≡ low → narrow.Narrow list s step (request_next (selected_number (selects action) rules) s (target s action) low)
  unfolding request_next
  narrow-by-lowest pass event None e = narrow.taking pass event e
  narrow-by-lowest pass event (Some rule) e = narrow.breaking rule pass event e

  narrow-by-event : check_step list s step ≡ passes → (event : Bool) → is_event action ≡ event → narrow.Narrow list s step (passed_next event rules s action)
  unfolding passed_next
  narrow-by-event pass true e = narrow.ending (remaining (selects action) rules (target s action)) pass e (remaining-selected pass e)
  narrow-by-event pass false e = narrow-by-lowest pass e (narrow.lowest_selected rules action (target s action)) refl

  narrow-by-check : (checked : Checked) → check_step list s step ≡ checked → narrow.Narrow list s step (checked_next checked rules s action)
  unfolding checked_next
  narrow-by-check passes e = narrow-by-event e (is_event action) refl
  narrow-by-check (refuses number) e = narrow.refusing number e

  pub step-narrow : narrow.Narrow list s step (decide_step list s step)
  unfolding decide_step
  step-narrow = narrow-by-check (check_step list s step) refl

  narrow-decided : (given : Next) → narrow.Narrow list s step given → given ≡ decide_step list s step
  unfolding decide_step checked_next passed_next request_next
  narrow-decided given (narrow.refusing number e) = sym (ap (λ (c : Checked). checked_next c rules s action) e)
  narrow-decided given (narrow.breaking rule e event low) =
      sym (ap (λ (c : Checked). checked_next c rules s action) e
      ∙ ap (λ (b : Bool). passed_next b rules s action) event
      ∙ ap (request_next (selected_number (selects action) rules) s (target s action)) low)
  narrow-decided given (narrow.taking e event low) =
      sym (ap (λ (c : Checked). checked_next c rules s action) e
      ∙ ap (λ (b : Bool). passed_next b rules s action) event
      ∙ ap (request_next (selected_number (selects action) rules) s (target s action)) low)
  narrow-decided given (narrow.ending l e event largest) =
      ap (λ (m : List ℕ). granted_next (selected_number (selects action) rules) s (with_active (target s action) m)) (largest-unique largest (remaining-selected e event))
      ∙ sym (ap (λ (c : Checked). checked_next c rules s action) e ∙ ap (λ (b : Bool). passed_next b rules s action) event)

-- from a state that 40 does not refuse, a step gives what document 01 says with the selected rules alone, and nothing else
pub selected-only : (list : RuleList) → list_accepted list ≡ true → (s : State) → Accepted s → (step : Step) (given : Next) → (given ≡ step_of list s step) ↔ narrow.Narrow list s step given
selected-only list listed s accepted step given = (
  λ e. subst (narrow.Narrow list s step) (sym (e ∙ decided list listed s accepted step)) (step-narrow list s accepted step),
  λ h. narrow-decided list s accepted step given h ∙ sym (decided list listed s accepted step),
)

-- the same of the step alone, where the list is accepted and 40 does not refuse the state
module _ (list : RuleList) (s : State) (step : Step) (typed : Typed s) (listed : list_accepted list ≡ true) (unrefused : state_accepted s ≡ true) where
  pub narrow_step : narrow.Narrow list s step (step_of list s step)
  narrow_step = (selected-only list listed s (record { typed = typed; unrefused = unrefused }) step (step_of list s step)).0 refl

  -- and document 01 allows nothing else
  pub narrow-only : (given : Next) → narrow.Narrow list s step given → given ≡ step_of list s step
  narrow-only given = (selected-only list listed s (record { typed = typed; unrefused = unrefused }) step given).1
