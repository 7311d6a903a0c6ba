-- The sentences of those who rely on the gate, over every list of steps from a fresh state under an accepted rule list.
-- Assumes nothing.
use mathlib.Core.Path.{◌≡◌, refl, sym, ap, subst, ◌∙◌}
use mathlib.Core.Bool.{true, false, cond, and-false, true≢false}
use mathlib.Core.Logic.{◌↔◌}
use mathlib.Core.List.{List, [], ◌∷◌, ◌++◌, map}
use Prim.Native.Nat.{ℕ, suc, ◌<◌}
use native.Mathlib.Omega.{arith}
use lib.Dec.{eqb}
use lib.ListN.{get_or}
use borrow.Author.Tests.{eq-eqb}
use Rattle.sets.proofs.Booleans.{clash, not_so}
use Rattle.calendar.specs.Terms.{term_holds}
use Rattle.calendar.specs.declared.terms.Term.{Term}
use Rattle.places.specs.Places.{side_holds}
use Rattle.places.specs.declared.Point.{Point}
use Rattle.places.specs.declared.Position.{Position}
use Rattle.places.specs.declared.Position.TheVariants.{Unknown, Known}
use Rattle.places.specs.declared.Side.{Side}
use Rattle.places.specs.Statements.{OnSide, EveryPoint}
use Rattle.places.proofs.Meaning.{unknown-neither}
use Rattle.places.proofs.Sureness.{side-agrees}
use Rattle.rules.specs.Acceptance.{rules_of, list_accepted}
use Rattle.rules.specs.declared.families.Rule.{Rule}
use Rattle.rules.specs.declared.families.Rule.TheVariants.{StaticSeparation, TimeContext, LocationContext, HistorySeparation}
use Rattle.rules.specs.declared.lists.RuleList.{RuleList}
use Rattle.steps.specs.Steps.{action_of, is_event}
use Rattle.steps.specs.declared.actions.Action.{Action}
use Rattle.steps.specs.declared.actions.Action.TheVariants.{Close, Move, Lost}
use Rattle.std.specs.Prelude.{Some}
use Rattle.steps.specs.declared.steps.Step.{Step}
use Rattle.enforcement.specs.States.{fresh, holds_role, is_open, position_of, active_role, did, rule_holds}
use Rattle.enforcement.specs.Steps.{passes, check_step, target}
use Rattle.enforcement.specs.Decisions.{granted, refused, Verdict}
use Rattle.enforcement.specs.Plain.{obeys, lowest_broken, Plain, refusing, breaking, taking, ending, plain_run}
use Rattle.enforcement.specs.Gate.{step_of, run_of, decision_of, named_rule, compared, compared_run}
use Rattle.enforcement.specs.Runs.{last_state}
use Rattle.enforcement.specs.Reached.{Accepted}
use Rattle.enforcement.specs.Claims.{In, Holds, Along, end, then, After, LowestIs, NamesLowest}
use Rattle.enforcement.specs.declared.states.State.{State}
use Rattle.enforcement.specs.declared.states.Next.{Next}
use Rattle.enforcement.proofs.Ranges.{Ranged, action-ranged}
use Rattle.enforcement.proofs.Holding.{rule-means, obeys-means}
use Rattle.enforcement.proofs.Kept.{fresh-accepted}
use Rattle.enforcement.proofs.Frame.{closed-inactive}
use Rattle.enforcement.proofs.Targets.{close-target, move-target, lost-target}
use Rattle.enforcement.proofs.Causes.{check-other, same-refusal, not-granted, granted-step, refused-leaves, lowest-means, lowest-number}
use Rattle.enforcement.proofs.Agreement.{agreement, rules-hold, step-plain, step_keeps, along-run, along-fresh, all-hold-fresh}
use Rattle.enforcement.proofs.Reaching.{step-accepted}
use Rattle.enforcement.proofs.Carried.{close-empties}

along-map : (P Q : State → Type 0) → ((s : State) → P s → Q s) → {s : State} {steps : List Step} {run : List Next} → Along (λ s step given. P given.state) s steps run → Along (λ s step given. Q given.state) s steps run
along-map P Q f end = end
along-map P Q f (then {given = given} h rest) = then (f given.state h) (along-map P Q f rest)

accepted-after : (list : RuleList) (steps : List Step) (s : State) → Accepted s → Along (λ s step given. Accepted given.state) s steps (run_of list s steps)
unfolding run_of
accepted-after list [] s accepted = end
accepted-after list (step ∷ steps) s accepted =
    let kept = step-accepted list s step accepted in
    then kept (accepted-after list steps (step_of list s step).state kept)

-- the rules that answers name are those of what is compared
rules-of : (s : State) (run : List Next) → map (λ (v : Verdict). v.rule) (compared_run s run) ≡ map (λ (given : Next). named_rule given.answer) run
unfolding compared_run
rules-of s [] = refl
rules-of s (given ∷ rest) = ap (λ (numbers : List ℕ). named_rule given.answer ∷ numbers) (rules-of given.state rest)

-- two lists of steps, one after the other, are one run
pub run-append : (list : RuleList) (s : State) (first second : List Step) → run_of list s (first ++ second) ≡ run_of list s first ++ run_of list (last_state s (run_of list s first)) second
unfolding run_of last_state
run-append list s [] second = refl
run-append list s (step ∷ first) second = ap (λ (run : List Next). step_of list s step ∷ run) (run-append list (step_of list s step).state first second)

-- the session's position, where it is set
set_here : (i : ℕ) (position before : Position) → cond (eqb i i) position before ≡ position
set_here i position before = rw (eq-eqb i i refl)

module _ (list : RuleList) (listed : list_accepted list ≡ true) where
  kept-last : (steps : List Step) (s : State) → Accepted s → obeys (rules_of list) s ≡ true → Accepted (last_state s (run_of list s steps)) × (obeys (rules_of list) (last_state s (run_of list s steps)) ≡ true)
  unfolding run_of last_state
  kept-last [] s accepted obeyed = (accepted, obeyed)
  kept-last (step ∷ steps) s accepted obeyed = let kept = step_keeps list listed s accepted obeyed step in kept-last steps (step_of list s step).state kept.0 kept.1

  -- a granted step that positions a session where the rule does not hold leaves the role inactive there
  driven-off : (r : ℕ) (side : Side) → In (LocationContext r side) (rules_of list) → (s : State) → Accepted s → obeys (rules_of list) s ≡ true → (step : Step) (i : ℕ) (position : Position) →
      decision_of (step_of list s step).answer ≡ granted → i < 32 → (i < 32 → position_of (target s (action_of step)) i ≡ position) → side_holds side position ≡ false → active_role (step_of list s step).state i r ≡ false
  driven-off r side member s accepted obeyed step i position grants low placed off =
      not_so (active_role (step_of list s step).state i r)
      (λ active.
      let there : position_of (step_of list s step).state i ≡ position = ap (λ (t : State). position_of t i) (granted-step list s step grants).changed ∙ placed low in
      let holds : side_holds side (position_of (step_of list s step).state i) ≡ true =
      (obeys-means (rules_of list) (step_of list s step).state).0 (step_keeps list listed s accepted obeyed step).1 (LocationContext r side) member i low active in
      true≢false (sym (rw there at holds) ∙ off))

  -- the lowest broken rule, in plain words
  lowest-is : (s : State) (n : ℕ) → (lowest_broken (rules_of list) s ≡ Some (suc n)) ↔ LowestIs (rules_of list) s n
  lowest-is s n = (
    λ h filler.
        let t = (lowest-means (λ rule. rule_holds rule s) (rules_of list) filler n).0 h in
        (t.0, (λ holds. clash ((rule-means (get_or (rules_of list) n filler) s).1 holds) t.1), λ k low. (rule-means (get_or (rules_of list) k filler) s).0 (t.2 k low)),
    λ h.
        let t = h some in
        (lowest-means (λ rule. rule_holds rule s) (rules_of list) some n).1
        (t.0, not_so _ (λ holds. t.1 ((rule-means (get_or (rules_of list) n some) s).0 holds)), λ k low. (rule-means (get_or (rules_of list) k some) s).1 (t.2 k low)),
  )
    where
      some : Rule
      some = StaticSeparation 0 0

  plain-named : (s : State) (step : Step) (v : Verdict) → Plain list s step v → v.decision ≡ refused 30 → (n : ℕ) × (v.rule ≡ suc n) × LowestIs (rules_of list) (target s (action_of step)) n
  plain-named s step v (refusing number e) d = absurd ((check-other list s step number e).0 (same-refusal number 30 d))
  plain-named s step v (breaking rule e request low) d =
      let t = lowest-number (λ k. rule_holds k (target s (action_of step))) (rules_of list) rule low in
      (t.0, t.1, (lowest-is (target s (action_of step)) t.0).0 (low ∙ ap Some t.1))
  plain-named s step v (taking e request low) d = absurd (not-granted 30 d)
  plain-named s step v (ending l e event kept) d = absurd (not-granted 30 d)

  plain-refusing : (s : State) (step : Step) (v : Verdict) → Plain list s step v → check_step list s step ≡ passes → is_event (action_of step) ≡ false → (n : ℕ) → lowest_broken (rules_of list) (target s (action_of step)) ≡ Some (suc n) → (v.decision ≡ refused 30) × (v.rule ≡ suc n)
  plain-refusing s step v (refusing number e) pass request n h = absurd (let distinct : ◌≡◌ {A = ℕ} 0 1 = cc in omega arith)
  plain-refusing s step v (breaking rule e request low) pass other n h = (refl, cc)
  plain-refusing s step v (taking e request low) pass other n h = absurd (let distinct : ◌≡◌ {A = ℕ} 0 1 = cc in omega arith)
  plain-refusing s step v (ending l e event kept) pass request n h = absurd (true≢false (sym event ∙ request))

  names-lowest : (s : State) → Accepted s → obeys (rules_of list) s ≡ true → (step : Step) → NamesLowest list s step (step_of list s step)
  names-lowest s accepted obeyed step =
      let plain = step-plain list listed s accepted obeyed step in
      record {
        named = plain-named s step (compared s (step_of list s step)) plain;
        refusing = λ pass request n h. plain-refusing s step (compared s (step_of list s step)) plain pass request n ((lowest-is (target s (action_of step)) n).1 h);
      }

module _ (list : RuleList) (listed : list_accepted list ≡ true) (steps : List Step) where
  -- a rule of the list holds after every step
  pub after : (rule : Rule) → In rule (rules_of list) → After (Holds rule) steps list
  after rule member =
      along-map (λ s. obeys (rules_of list) s ≡ true) (Holds rule)
      (λ s h. (obeys-means (rules_of list) s).0 h rule member) (rules-hold list listed steps)

  -- "hub tablet: a role opens only within its hours and place"
  pub hub-tablet-hours : (r : ℕ) (term : Term) → In (TimeContext r term) (rules_of list) → After (λ s. (i : ℕ) → i < 32 → active_role s i r ≡ true → term_holds term s.time ≡ true) steps list
  hub-tablet-hours r term = after (TimeContext r term)

  pub hub-tablet-place : (r : ℕ) (side : Side) → In (LocationContext r side) (rules_of list) → After (λ s. (i : ℕ) → i < 32 → active_role s i r ≡ true → side_holds side (position_of s i) ≡ true) steps list
  hub-tablet-place r side = after (LocationContext r side)

  -- 2026-04: "Every point of the error circle must agree with a sure outcome."
  pub hub-tablet-surely : (r : ℕ) (side : Side) → In (LocationContext r side) (rules_of list) →
      After (λ s. (i : ℕ) → i < 32 → active_role s i r ≡ true → (point : Point) × (position_of s i ≡ Known point) × EveryPoint point (OnSide side)) steps list
  hub-tablet-surely r side member =
      along-map
      (λ s. (i : ℕ) → i < 32 → active_role s i r ≡ true → side_holds side (position_of s i) ≡ true)
      (λ s. (i : ℕ) → i < 32 → active_role s i r ≡ true → (point : Point) × (position_of s i ≡ Known point) × EveryPoint point (OnSide side))
      (λ s h i low active. side-agrees side (position_of s i) (h i low active)) (hub-tablet-place r side member)

  -- "and closes when the crew drives off": a session that is moved to where the rule does not hold, or is lost, has the role no more
  pub hub-tablet-moved : (r : ℕ) (side : Side) → In (LocationContext r side) (rules_of list) →
      Along (λ s step given. (i : ℕ) (point : Point) → action_of step ≡ Move i point → decision_of given.answer ≡ granted → side_holds side (Known point) ≡ false → active_role given.state i r ≡ false) fresh steps (run_of list fresh steps)
  hub-tablet-moved r side member =
      along-fresh list listed steps _
      (λ s accepted obeyed step i point e grants off. driven-off list listed r side member s accepted obeyed step i (Known point) grants
      (subst Ranged e (action-ranged step)).0
      (λ low. ap (λ (action : Action). position_of (target s action) i) e ∙ ((move-target s i point accepted.typed low).0 i).2 ∙ set_here i (Known point) (position_of s i)) off)

  pub hub-tablet-lost : (r : ℕ) (side : Side) → In (LocationContext r side) (rules_of list) →
      Along (λ s step given. (i : ℕ) → action_of step ≡ Lost i → decision_of given.answer ≡ granted → active_role given.state i r ≡ false) fresh steps (run_of list fresh steps)
  hub-tablet-lost r side member =
      along-fresh list listed steps _
      (λ s accepted obeyed step i e grants. driven-off list listed r side member s accepted obeyed step i Unknown grants
      (subst Ranged e (action-ranged step))
      (λ low. ap (λ (action : Action). position_of (target s action) i) e ∙ ((lost-target s i accepted.typed low).0 i).2 ∙ set_here i Unknown (position_of s i)) (unknown-neither side))

  -- and one that is closed has none
  pub hub-tablet-close :
      Along (λ s step given. (i : ℕ) → action_of step ≡ Close i → decision_of given.answer ≡ granted → (is_open given.state i ≡ false) × ((r : ℕ) → active_role given.state i r ≡ false)) fresh steps (run_of list fresh steps)
  hub-tablet-close =
      along-fresh list listed steps _
      (λ s accepted obeyed step i e grants. (
        ap (λ (t : State). is_open t i) (granted-step list s step grants).changed
            ∙ ap (λ (action : Action). is_open (target s action) i) e
            ∙ ((close-target s i accepted.typed (subst Ranged e (action-ranged step))).0 i).0
            ∙ rw (eq-eqb i i refl) (and-false (is_open s i)),
        close-empties list s step accepted.typed grants i e,
      ))

  -- nor has any session that is closed
  pub hub-tablet-closed : After (λ s. (i r : ℕ) → i < 32 → is_open s i ≡ false → active_role s i r ≡ false) steps list
  hub-tablet-closed = along-map Accepted (λ s. (i r : ℕ) → i < 32 → is_open s i ≡ false → active_role s i r ≡ false) closed-inactive (accepted-after list steps fresh fresh-accepted)

  -- "depot desk: nobody holds two roles that are held separate"
  pub depot-desk : (r q : ℕ) → In (StaticSeparation r q) (rules_of list) → After (λ s. (u : ℕ) → u < 64 → holds_role s u r ≡ true → holds_role s u q ≡ true → ⊥) steps list
  depot-desk r q = after (StaticSeparation r q)

  -- "blade calibration: whoever sets the zero angle is not whoever accepts it"
  pub blade-calibration : (p q : ℕ) → In (HistorySeparation p q) (rules_of list) → After (λ s. (o : ℕ) → o < 32 → (u : ℕ) → u < 64 → did s o p u ≡ true → did s o q u ≡ true → ⊥) steps list
  blade-calibration p q = after (HistorySeparation p q)

-- "service records: a refusal names the rule, the same one at both ends": the desk runs its steps from a fresh state and hands its state over,
-- and the hub goes on from it. What both answer is what one end would that went on by itself; the rules named are the plain gate's; and at
-- either end a 30 names the lowest rule that is broken in the step's target.
pub service-records : (list : RuleList) → list_accepted list ≡ true → (desk hub : List Step) (handed : State) → handed ≡ last_state fresh (run_of list fresh desk) →
    (run_of list fresh desk ++ run_of list handed hub ≡ run_of list fresh (desk ++ hub))
    × (map (λ (given : Next). named_rule given.answer) (run_of list fresh desk ++ run_of list handed hub) ≡ map (λ (v : Verdict). v.rule) (plain_run list fresh (desk ++ hub)))
    × Along (NamesLowest list) fresh desk (run_of list fresh desk)
    × Along (NamesLowest list) handed hub (run_of list handed hub)
service-records list listed desk hub handed same =
    let kept = kept-last list listed desk fresh fresh-accepted (all-hold-fresh (rules_of list)) in (
      one,
      ap (map (λ (given : Next). named_rule given.answer)) one ∙ sym (ap (map (λ (v : Verdict). v.rule)) (agreement list listed (desk ++ hub)) ∙ rules-of fresh (run_of list fresh (desk ++ hub))),
      along-fresh list listed desk (NamesLowest list) (names-lowest list listed),
      rw same (along-run list listed (NamesLowest list) (names-lowest list listed) hub (last_state fresh (run_of list fresh desk)) kept.0 kept.1),
    )
  where
    one : run_of list fresh desk ++ run_of list handed hub ≡ run_of list fresh (desk ++ hub)
    one = rw same (sym (run-append list fresh desk hub))

-- a step that one end refused, asked again at the other end, is refused by the same number and the same rule
pub refused-again : (list : RuleList) (s : State) (step : Step) (number : ℕ) → decision_of (step_of list s step).answer ≡ refused number → step_of list (step_of list s step).state step ≡ step_of list s step
refused-again list s step number refusal = ap (λ (t : State). step_of list t step) (refused-leaves list s step number refusal)
