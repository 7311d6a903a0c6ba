-- What an event leaves is the largest part of the pairs under which the selected rules hold, and there is only one such part.
-- Assumes nothing.
use mathlib.Core.Path.{◌≡◌, refl, sym, ap, ◌∙◌}
use mathlib.Core.Bool.{Bool, true, false, not, ◌&&◌, ◌||◌, false≢true}
use mathlib.Core.List.{List}
use Prim.Native.Nat.{ℕ, suc, ◌<◌}
use native.Mathlib.Nat.{zero-add}
use native.Mathlib.Omega.{arith}
use lib.Dec.{eqb, ltb}
use lib.ListN.{length}
use borrow.Author.Tests.{eqb-true, eq-eqb, lt-ltb}
use Rattle.sets.proofs.Booleans.{both_true, left-true, right-true, right_or, implies, of-implies}
use Rattle.sets.proofs.Bounded.{any-means}
use Rattle.sets.proofs.Width.{member_below}
use Rattle.calendar.specs.Terms.{term_holds}
use Rattle.places.specs.Places.{side_holds}
use Rattle.rules.specs.Families.{word_at, has_role, is_active}
use Rattle.rules.specs.Acceptance.{every}
use Rattle.rules.proofs.Every.{every_of}
use Rattle.rules.specs.declared.families.Rule.{Rule}
use Rattle.rules.specs.declared.families.Rule.TheVariants.{Prerequisite, MaxUsers, MaxRoles, MaxPermissions, MaxActive, StaticSeparation, DynamicSeparation, Dependency, TimeContext, LocationContext, HistorySeparation, BindingOfDuty}
use Rattle.steps.specs.Pairs.{pair_count, Part}
use Rattle.selection.specs.Selection.{is_needs, is_during, is_at, selects}
use Rattle.steps.specs.declared.actions.Action.{Action}
use Rattle.steps.specs.declared.actions.Action.TheVariants.{Malformed, Assign, Withdraw, Grant, Take, Open, Activate, Deactivate, Access, Finish, Close, Move, Lost, Clock, Lend, Recall}
use Rattle.enforcement.specs.States.{position_of, rule_holds}
use Rattle.steps.specs.Steps.{is_event}
use Rattle.enforcement.specs.Steps.{with_active}
use Rattle.enforcement.specs.Decisions.{Largest}
use Rattle.enforcement.specs.Gate.{tests_selected}
use Rattle.enforcement.specs.Rounds.{keeps, stays, round, remaining}
use Rattle.enforcement.specs.Reached.{Typed}
use Rattle.enforcement.specs.declared.states.State.{State}
use Rattle.enforcement.specs.Claims.{Holds}
use Rattle.enforcement.proofs.Holding.{rule-means}
use Rattle.selection.proofs.Parts.{has-below, part_same, part-of-part, parts-equal, HasRoles, has-sifted, length-sifted, settled-keeps, settled-fixed}

-- there is at most one largest part
pub largest-unique : {test : State → Bool} {s : State} {l m : List ℕ} → Largest test s l → Largest test s m → l ≡ m
largest-unique {test} {s} {l} {m} a b = parts-equal (b.largest l a.is_part a.holding) (a.largest m b.is_part b.holding)

-- ---- what a rule lets stay

-- the families under which an event ends roles
abbrev ends_roles : Rule → Bool
ends_roles rule = is_at rule || (is_during rule || is_needs rule)

wider : (a b c : Bool) → (a || c) ≡ true → (a || (b || c)) ≡ true
wider true b c e = refl
wider false b c e = right_or b c e

-- an event selects no other
event-ends : (action : Action) (rule : Rule) → is_event action ≡ true → selects action rule ≡ true → ends_roles rule ≡ true
unfolding selects
event-ends Malformed rule event e = absurd (false≢true event)
event-ends (Assign u r) rule event e = absurd (false≢true event)
event-ends (Withdraw u r) rule event e = absurd (false≢true event)
event-ends (Grant r p) rule event e = absurd (false≢true event)
event-ends (Take r p) rule event e = absurd (false≢true event)
event-ends (Open i u) rule event e = absurd (false≢true event)
event-ends (Activate i r) rule event e = absurd (false≢true event)
event-ends (Deactivate i r) rule event e = absurd (false≢true event)
event-ends (Access i p o) rule event e = absurd (false≢true event)
event-ends (Finish o) rule event e = absurd (false≢true event)
event-ends (Close i) rule event e = right_or (is_at rule) (is_during rule || is_needs rule) (right_or (is_during rule) (is_needs rule) e)
event-ends (Move i point) rule event e = wider (is_at rule) (is_during rule) (is_needs rule) e
event-ends (Lost i) rule event e = wider (is_at rule) (is_during rule) (is_needs rule) e
event-ends (Clock t) rule event e = right_or (is_at rule) (is_during rule || is_needs rule) e
event-ends (Lend u v r t) rule event e = absurd (false≢true event)
event-ends (Recall u v r) rule event e = right_or (is_at rule) (is_during rule || is_needs rule) (right_or (is_during rule) (is_needs rule) e)

module _ (s : State) (m l : List ℕ) where
  -- a rule that holds under the pairs of a list lets each of them stay where these and more are active
  keeps-of : (rule : Rule) → Holds rule (with_active s m) → Part m l → (i r : ℕ) → i < 32 → has_role m i r ≡ true → keeps rule s l i r ≡ true
  unfolding keeps is_active
  keeps-of (Prerequisite a q) h part i r below e = refl
  keeps-of (MaxUsers a n) h part i r below e = refl
  keeps-of (MaxRoles n) h part i r below e = refl
  keeps-of (MaxPermissions a n) h part i r below e = refl
  keeps-of (MaxActive n) h part i r below e = refl
  keeps-of (StaticSeparation a q) h part i r below e = refl
  keeps-of (DynamicSeparation a q) h part i r below e = refl
  keeps-of (Dependency a q) h part i r below e =
      of-implies (eqb a r) (is_active l q)
      (λ t. let w = h i below (rw (eqb-true a r t) e) in (any-means 32 (λ j. has_role l j q)).1 (w.0, w.1, part.within w.0 q w.2))
  keeps-of (TimeContext a term) h part i r below e = of-implies (eqb a r) (term_holds term s.time) (λ t. h i below (rw (eqb-true a r t) e))
  keeps-of (LocationContext a side) h part i r below e = of-implies (eqb a r) (side_holds side (position_of s i)) (λ t. h i below (rw (eqb-true a r t) e))
  keeps-of (HistorySeparation p q) h part i r below e = refl
  keeps-of (BindingOfDuty p q) h part i r below e = refl

module _ (s : State) (m : List ℕ) where
  -- a rule that lets each pair of a list stay holds under them, where it is one that ends roles
  holds_of : (rule : Rule) → ends_roles rule ≡ true → ((i r : ℕ) → has_role m i r ≡ true → keeps rule s m i r ≡ true) → Holds rule (with_active s m)
  unfolding keeps is_active
  holds_of (Prerequisite a q) ends h = absurd (false≢true ends)
  holds_of (MaxUsers a n) ends h = absurd (false≢true ends)
  holds_of (MaxRoles n) ends h = absurd (false≢true ends)
  holds_of (MaxPermissions a n) ends h = absurd (false≢true ends)
  holds_of (MaxActive n) ends h = absurd (false≢true ends)
  holds_of (StaticSeparation a q) ends h = absurd (false≢true ends)
  holds_of (DynamicSeparation a q) ends h = absurd (false≢true ends)
  holds_of (Dependency a q) ends h = λ i l e. (any-means 32 (λ j. has_role m j q)).0 (implies (eqb a a) (is_active m q) (h i a e) (eq-eqb a a refl))
  holds_of (TimeContext a term) ends h = λ i l e. implies (eqb a a) (term_holds term s.time) (h i a e) (eq-eqb a a refl)
  holds_of (LocationContext a side) ends h = λ i l e. implies (eqb a a) (side_holds side (position_of s i)) (h i a e) (eq-eqb a a refl)
  holds_of (HistorySeparation p q) ends h = absurd (false≢true ends)
  holds_of (BindingOfDuty p q) ends h = absurd (false≢true ends)

-- ---- the rounds

module _ (selected : Rule → Bool) (ends : (rule : Rule) → selected rule ≡ true → ends_roles rule ≡ true) (rules : List Rule) (s : State) (typed : Typed s) where
  -- a pair is left after a round where it was there and every selected rule lets it stay
  has-round : (l : List ℕ) (i r : ℕ) → has_role (round selected rules s l) i r ≡ (ltb r 32 && (has_role l i r && stays selected rules s l i r))
  unfolding round
  has-round l i r = has-sifted 0 (stays selected rules s l) l i r ∙ rw (zero-add i)

  length-round : (l : List ℕ) → length (round selected rules s l) ≡ length l
  unfolding round
  length-round l = length-sifted 0 (stays selected rules s l) l

  round-part : (l : List ℕ) → Part (round selected rules s l) l
  round-part l = record {
    same_length = length-round l;
    within = λ i r e.
        left-true (has_role l i r) (stays selected rules s l i r)
        (right-true (ltb r 32) (has_role l i r && stays selected rules s l i r) (sym (has-round l i r) ∙ e));
  }

  has-roles : HasRoles s.active
  has-roles i r e = member_below 32 (word_at s.active i) r (typed.small_active i) e

  -- a part under which the selected rules hold loses nothing in a round
  round_keeps : (m : List ℕ) → Part m s.active → every (tests_selected selected (with_active s m)) rules ≡ true → (l : List ℕ) → Part m l → Part m (round selected rules s l)
  round_keeps m part obeys l p = record {
    same_length = p.same_length ∙ sym (length-round l);
    within = λ i r e.
        let below : i < 32 = omega (arith, has-below m i r e, part.same_length, typed.actives) in
        has-round l i r ∙
        both_true (ltb r 32) (has_role l i r && stays selected rules s l i r) (lt-ltb r 32 (has-roles i r (part.within i r e)))
        (both_true (has_role l i r) (stays selected rules s l i r) (p.within i r e)
        (every_of (Unit {0}) (λ d. tests_selected selected (with_active s m)) (λ rule. not (selected rule) || keeps rule s l i r)
        (λ rule h. of-implies (selected rule) (keeps rule s l i r)
        (λ t. keeps-of s m l rule ((rule-means rule (with_active s m)).0 (implies (selected rule) (rule_holds rule (with_active s m)) (h tt) t)) p i r below e))
        rules (λ d. obeys)));
  }

  -- under pairs that a round leaves alone the selected rules hold
  round-holds : (m : List ℕ) → round selected rules s m ≡ m → every (tests_selected selected (with_active s m)) rules ≡ true
  round-holds m e =
      every_of ((i : ℕ) × (r : ℕ) × (has_role m i r ≡ true)) (λ d rule. not (selected rule) || keeps rule s m d.0 d.1) (tests_selected selected (with_active s m))
      (λ rule h. of-implies (selected rule) (rule_holds rule (with_active s m))
      (λ t. (rule-means rule (with_active s m)).1 (holds_of s m rule (ends rule t) (λ i r a. implies (selected rule) (keeps rule s m i r) (h (i, r, a)) t))))
      rules
      (λ d. let i = d.0 in let r = d.1 in
      right-true (has_role m i r) (stays selected rules s m i r)
      (right-true (ltb r 32) (has_role m i r && stays selected rules s m i r) (sym (has-round m i r) ∙ ap (λ (l : List ℕ). has_role l i r) e ∙ d.2)))

  rounds-largest : Largest (λ t. every (tests_selected selected t) rules) s (remaining selected rules s)
  unfolding remaining
  rounds-largest =
      let number = suc (pair_count s.active) in
      record {
        is_part = settled-keeps (round selected rules s) (λ l. Part l s.active) (λ l p. part-of-part (round-part l) p) number s.active (part_same s.active);
        holding = round-holds (remaining selected rules s) (settled-fixed (round selected rules s) round-part number s.active has-roles (omega arith));
        largest = λ m p obeys. settled-keeps (round selected rules s) (Part m) (round_keeps m p obeys) number s.active p;
      }

-- what is left of a state's pairs is the largest part under which the rules that an event selects hold
pub remaining-largest : (action : Action) → is_event action ≡ true → (rules : List Rule) (s : State) → Typed s → Largest (λ t. every (tests_selected (selects action) t) rules) s (remaining (selects action) rules s)
remaining-largest action event rules s typed = rounds-largest (selects action) (λ rule e. event-ends action rule event e) rules s typed
