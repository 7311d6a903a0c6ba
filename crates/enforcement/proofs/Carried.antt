-- What an answer carries: the number of rules selected and the number of pairs ended.
-- Assumes nothing.
use mathlib.Core.Path.{◌≡◌, refl, sym, ap, subst, ◌∙◌}
use mathlib.Core.Bool.{Bool, true, false, not, ◌&&◌, and-true, and-not_self, true≢false}
use mathlib.Core.Logic.{◌↔◌, ◌⊎◌, ⊎_elim}
use Prim.Native.Nat.{ℕ, ◌+◌, ◌<◌}
use native.Mathlib.Omega.{arith}
use lib.Dec.{eqb}
use lib.ListN.{length, get_or}
use borrow.Author.Tests.{eq-eqb, eqb-true, not-false}
use Rattle.sets.specs.Sets.{count}
use Rattle.sets.proofs.Booleans.{both, both_true, left_or, not_so}
use Rattle.sets.proofs.Counting.{count_same}
use Rattle.rules.specs.Acceptance.{rules_of, list_accepted}
use Rattle.rules.specs.Families.{has_role}
use Rattle.rules.specs.declared.families.Rule.{Rule}
use Rattle.rules.specs.declared.lists.RuleList.{RuleList}
use Rattle.steps.specs.Steps.{action_of, is_event}
use Rattle.steps.specs.Pairs.{ended_pairs, count_pairs}
use Rattle.steps.specs.declared.actions.Action.{Action}
use Rattle.steps.specs.declared.actions.Action.TheVariants.{Malformed, Assign, Withdraw, Grant, Take, Open, Activate, Deactivate, Access, Finish, Close, Move, Lost, Clock, Lend, Recall}
use Rattle.steps.specs.declared.steps.Step.{Step}
use Rattle.steps.proofs.PairCounts.{ended-means, ended-count, pairs-none, pairs-one, pairs-split}
use Rattle.selection.specs.Selection.{selects, selected_number}
use Rattle.selection.specs.Table.{Selected}
use Rattle.selection.proofs.SelectedCount.{number-means}
use Rattle.enforcement.specs.States.{is_open, active_role, state_accepted}
use Rattle.enforcement.specs.Steps.{passes, check, target}
use Rattle.enforcement.specs.Decisions.{granted, refused}
use Rattle.enforcement.specs.Gate.{step_of, decision_of, selected_of, ended_of}
use Rattle.enforcement.specs.Narrow.{Narrow, refusing, breaking, taking, ending}
use Rattle.enforcement.specs.Reached.{Typed}
use Rattle.enforcement.specs.Claims.{Closes, Unclosed}
use Rattle.enforcement.specs.declared.states.State.{State}
use Rattle.enforcement.specs.declared.states.Next.{Next}
use Rattle.enforcement.proofs.Ranges.{Ranged, action-ranged}
use Rattle.enforcement.proofs.Checks.{not-refused, later-passes, step-passes}
use Rattle.enforcement.proofs.Targets.{activate-target, deactivate-target, event-pairs}
use Rattle.enforcement.proofs.Causes.{by-outcome, check-other, same-refusal, not-granted, granted-step, refused-forty}
use Rattle.enforcement.proofs.Agreement.{narrow_step}

-- ---- the number selected

-- a granted answer and a 30 carry the number of rules that the step selects
pub number-selected : (list : RuleList) (s : State) (step : Step) → (decision_of (step_of list s step).answer ≡ granted) ⊎ (decision_of (step_of list s step).answer ≡ refused 30) → selected_of (step_of list s step).answer ≡ selected_number (selects (action_of step)) (rules_of list)
number-selected list s step =
    by-outcome list s step (λ next. (decision_of next.answer ≡ granted) ⊎ (decision_of next.answer ≡ refused 30) → selected_of next.answer ≡ selected_number (selects (action_of step)) (rules_of list))
    (λ h. ⊎_elim (λ d. absurd (not-granted 40 (sym d))) (λ d. let same = same-refusal 40 30 d in absurd (omega arith)))
    (λ number h.
    ⊎_elim
    (λ d. absurd (not-granted number (sym d)))
    (λ d. absurd ((check-other list s step number h).0 (same-refusal number 30 d))))
    (λ rule pass event h d. refl) (λ after taken d. refl)

-- which is how many of the list's places hold a rule that the table's row names
pub selected-count : (list : RuleList) (s : State) (step : Step) (filler : Rule) (is_selected : ℕ → Bool) →
    ((n : ℕ) → n < length (rules_of list) → (is_selected n ≡ true) ↔ Selected (action_of step) (get_or (rules_of list) n filler)) →
    (decision_of (step_of list s step).answer ≡ granted) ⊎ (decision_of (step_of list s step).answer ≡ refused 30) → selected_of (step_of list s step).answer ≡ count (length (rules_of list)) is_selected
selected-count list s step filler is_selected named carries =
    number-selected list s step carries ∙ number-means (action_of step) (rules_of list) filler is_selected named

-- and every other refusal 0
pub number-none : (list : RuleList) (s : State) (step : Step) (number : ℕ) → decision_of (step_of list s step).answer ≡ refused number → (number ≡ 30 → ⊥) → selected_of (step_of list s step).answer ≡ 0
number-none list s step number =
    by-outcome list s step (λ next. decision_of next.answer ≡ refused number → (number ≡ 30 → ⊥) → selected_of next.answer ≡ 0)
    (λ h d other. refl) (λ n h d other. refl)
    (λ rule pass event h d other. absurd (other (sym (same-refusal 30 number d)))) (λ after taken d. absurd (not-granted number d))

-- ---- the number ended

-- "the number of (session, role) pairs active before and not after"; a refused step has none
pub number-ended : (list : RuleList) (s : State) (step : Step) → length s.active ≡ 32 →
    ended_of (step_of list s step).answer ≡ count_pairs 32 (λ i r. active_role s i r && not (active_role (step_of list s step).state i r))
number-ended list s step long =
    by-outcome list s step (λ next. ended_of next.answer ≡ count_pairs 32 (λ i r. active_role s i r && not (active_role next.state i r)))
    (λ h. none) (λ number h. none) (λ rule pass event h. none)
    (λ after taken. ended-count s.active after.active ∙ ap (λ (n : ℕ). count_pairs n (λ i r. active_role s i r && not (active_role after i r))) long)
  where
    none : 0 ≡ count_pairs 32 (λ i r. active_role s i r && not (active_role s i r))
    none = sym (pairs-none 32 (λ i r. active_role s i r && not (active_role s i r)) (λ i r. and-not_self (active_role s i r)))

-- a request other than deactivate ends no pair
request-keeps : (s : State) (action : Action) → Typed s → Ranged action → is_event action ≡ false → ((i r : ℕ) → action ≡ Deactivate i r → ⊥) → (i r : ℕ) → active_role s i r ≡ true → active_role (target s action) i r ≡ true
unfolding target
request-keeps s Malformed typed numbers request other i r h = h
request-keeps s (Assign u q) typed numbers request other i r h = h
request-keeps s (Withdraw u q) typed numbers request other i r h = h
request-keeps s (Grant q p) typed numbers request other i r h = h
request-keeps s (Take q p) typed numbers request other i r h = h
request-keeps s (Open j u) typed numbers request other i r h = h
request-keeps s (Activate j q) typed numbers request other i r h =
    (activate-target s j q typed numbers.0 numbers.1).0 i r ∙ left_or (active_role s i r) (eqb j i && eqb q r) h
request-keeps s (Deactivate j q) typed numbers request other i r h = absurd (other j q refl)
request-keeps s (Access j p o) typed numbers request other i r h = h
request-keeps s (Finish o) typed numbers request other i r h = h
request-keeps s (Close j) typed numbers request other i r h = absurd (true≢false request)
request-keeps s (Move j point) typed numbers request other i r h = absurd (true≢false request)
request-keeps s (Lost j) typed numbers request other i r h = absurd (true≢false request)
request-keeps s (Clock t) typed numbers request other i r h = absurd (true≢false request)
request-keeps s (Lend u v q t) typed numbers request other i r h = h
request-keeps s (Recall u v q) typed numbers request other i r h = absurd (true≢false request)

-- after an event only pairs that it did not itself close are active
event-part : (list : RuleList) (s : State) (step : Step) (given : Next) → Typed s → Narrow list s step given → is_event (action_of step) ≡ true → decision_of given.answer ≡ granted → (i r : ℕ) → active_role given.state i r ≡ true → Unclosed s (action_of step) i r
event-part list s step given typed (refusing number e) event grants i r h = absurd (not-granted number (sym grants))
event-part list s step given typed (breaking rule e request low) event grants i r h = absurd (true≢false (sym event ∙ request))
event-part list s step given typed (taking e request low) event grants i r h = absurd (true≢false (sym event ∙ request))
event-part list s step given typed (ending l e ev kept) event grants i r h = (event-pairs s (action_of step) typed ev i r).0 (kept.is_part.within i r h)

module _ (list : RuleList) (s : State) (step : Step) (typed : Typed s) (grants : decision_of (step_of list s step).answer ≡ granted) where
  accepted : (list_accepted list ≡ true) × (state_accepted s ≡ true)
  accepted = both (list_accepted list) (state_accepted s) (go (list_accepted list && state_accepted s) refl)
    where
      go : (b : Bool) → list_accepted list && state_accepted s ≡ b → b ≡ true
      go true e = refl
      go false e = absurd (not-granted 40 (sym grants ∙ (refused-forty list s step).0 e))

  of-request : (action : Action) → action_of step ≡ action → is_event action ≡ false → ended_of (step_of list s step).answer ≡ count_pairs 32 (λ i r. active_role s i r && not (active_role (target s action) i r))
  of-request action e request =
      number-ended list s step typed.actives
      ∙ ap (λ (after : State). count_pairs 32 (λ i r. active_role s i r && not (active_role after i r)))
      ((granted-step list s step grants).requested (ap is_event e ∙ request) ∙ ap (target s) e)

  -- a granted deactivate ends its own pair
  pub ended-deactivate : (i r : ℕ) → action_of step ≡ Deactivate i r → ended_of (step_of list s step).answer ≡ 1
  unfolding check
  ended-deactivate i r e =
      let numbers : (i < 32) × (r < 32) = subst Ranged e (action-ranged step) in
      of-request (Deactivate i r) e refl
      ∙ pairs-one 32 i r (λ j q. active_role s j q && not (active_role (target s (Deactivate i r)) j q)) numbers.0 numbers.1 (λ j q low. own numbers.0 j q)
    where
      active : active_role s i r ≡ true
      active =
          let pass : check s (Deactivate i r) ≡ passes = subst (λ (action : Action). check s action ≡ passes) e (step-passes list s step (granted-step list s step grants).passed) in
          not-false (active_role s i r) (not-refused (not (active_role s i r)) 25 passes (later-passes (not (is_open s i)) 23 _ pass))

      removed : (a b : Bool) → (a && not (a && not b)) ≡ (a && b)
      removed true true = refl
      removed true false = refl
      removed false b = refl

      own : i < 32 → (j q : ℕ) → ((active_role s j q && not (active_role (target s (Deactivate i r)) j q)) ≡ true) ↔ ((i ≡ j) × (r ≡ q))
      own low j q =
          rw ((deactivate-target s i r typed low).0 j q, removed (active_role s j q) (eqb i j && eqb r q)) (
            λ h. let t = both (eqb i j) (eqb r q) (both (active_role s j q) (eqb i j && eqb r q) h).1 in (eqb-true i j t.0, eqb-true r q t.1),
            λ t. both_true (active_role s j q) (eqb i j && eqb r q) (rw (← t.0, ← t.1) active) (both_true (eqb i j) (eqb r q) (eq-eqb i j t.0) (eq-eqb r q t.1)),
          )

  -- another granted request ends none
  pub ended-request : is_event (action_of step) ≡ false → ((i r : ℕ) → action_of step ≡ Deactivate i r → ⊥) → ended_of (step_of list s step).answer ≡ 0
  ended-request request other =
      of-request (action_of step) refl request
      ∙ pairs-none 32 (λ i r. active_role s i r && not (active_role (target s (action_of step)) i r))
      (λ i r. none (active_role s i r) (active_role (target s (action_of step)) i r) (request-keeps s (action_of step) typed (action-ranged step) request other i r))
    where
      none : (a b : Bool) → (a ≡ true → b ≡ true) → (a && not b) ≡ false
      none true b h = rw (h refl)
      none false b h = refl

  -- after a granted close the session has no active role
  pub close-empties : (i : ℕ) → action_of step ≡ Close i → (r : ℕ) → active_role (step_of list s step).state i r ≡ false
  close-empties i e r =
      not_so (active_role (step_of list s step).state i r)
      (λ h.
      (event-part list s step (step_of list s step) typed (narrow_step list s step typed accepted.0 accepted.1) (ap is_event e) grants i r h).1 (subst (λ (action : Action). Closes s action i r) (sym e) refl))

  -- "a closed session's own included": each role that was active in it is ended
  pub close-ends : (i : ℕ) → action_of step ≡ Close i → (r : ℕ) → active_role s i r ≡ true → has_role (ended_pairs s.active (step_of list s step).state.active) i r ≡ true
  close-ends i e r h = (ended-means s.active (step_of list s step).state.active i r).1 (h, close-empties i e r)

  -- and the number is that of its roles, and of the pairs of other sessions that are ended
  pub ended-close : (i : ℕ) → action_of step ≡ Close i →
      ended_of (step_of list s step).answer ≡ count 32 (active_role s i) + count_pairs 32 (λ j r. not (eqb i j) && (active_role s j r && not (active_role (step_of list s step).state j r)))
  ended-close i e =
      let low : i < 32 = subst Ranged e (action-ranged step) in
      number-ended list s step typed.actives
      ∙ pairs-split 32 i (λ j r. active_role s j r && not (active_role (step_of list s step).state j r)) low
      ∙ ap (λ (n : ℕ). n + count_pairs 32 (λ j r. not (eqb i j) && (active_role s j r && not (active_role (step_of list s step).state j r))))
      (count_same 32 (λ r. active_role s i r && not (active_role (step_of list s step).state i r)) (active_role s i)
      (λ r small. rw (close-empties i e r) (and-true (active_role s i r))))
