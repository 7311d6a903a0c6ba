-- Request 2026-05, of one step: 53 and 54 each for its own cause alone, what `by` changes, and that a list without rights behaves as it did.
-- Assumes nothing.
use Prim.Native.Nat.{ℕ, ◌<◌}
use native.Mathlib.Omega.{arith}
use mathlib.Core.Path.{◌≡◌, refl, sym, ap, ◌∙◌}
use mathlib.Core.Bool.{Bool, true, false, cond, ◌&&◌, true≢false, false≢true}
use mathlib.Core.Logic.{◌↔◌}
use mathlib.Core.List.{List}
use lib.Dec.{leb}
use lib.ListN.{replicate}
use borrow.Author.Tests.{lt-ltb}
use Rattle.sets.specs.Sets.{all}
use Rattle.sets.proofs.Booleans.{both, both_true, clash, not_so}
use Rattle.rules.specs.Acceptance.{unstated, right_at, right_accepted, every, rule_accepted, rules_of, list_accepted}
use Rattle.rules.specs.declared.rights.Right.TheVariants.{Unstated}
use Rattle.rules.specs.declared.rights.RightSlot.{RightSlot}
use Rattle.rules.specs.declared.lists.RuleList.{RuleList}
use Rattle.steps.specs.Steps.{of_kind, is_administrative, action_of, with_by}
use Rattle.steps.specs.declared.acting.Acting.TheVariants.{Nobody, InSession}
use Rattle.steps.specs.declared.actions.Action.{Action}
use Rattle.steps.specs.declared.actions.Action.TheVariants.{Malformed, Assign, Withdraw, Grant, Take, Open, Activate, Deactivate, Access, Finish, Close, Move, Lost, Clock, Lend, Recall}
use Rattle.steps.specs.declared.steps.Step.{Step}
use Rattle.steps.specs.declared.answers.Answer.TheVariants.{Refused}
use Rattle.rights.specs.Rights.{right_for, acts_closed}
use Rattle.enforcement.specs.States.{is_open, state_accepted}
use Rattle.enforcement.specs.Steps.{Checked, refuses, refuse_if, check, right_lacking, check_by, check_step}
use Rattle.enforcement.specs.Decisions.{refused}
use Rattle.enforcement.specs.Gate.{refused_next, checked_next, decide_step, step_of, decision_of}
use Rattle.enforcement.specs.Deciding.{decide}
use Rattle.enforcement.specs.Causes.{ActingClosed, RightLacking}
use Rattle.enforcement.specs.declared.states.State.{State}
use Rattle.enforcement.specs.declared.states.Next.{Next}
use Rattle.enforcement.proofs.Causes.{own-other, closed-means, lacking-means, refused-check}

-- ---- each number for its own cause

-- the checks by what they look at
abbrev checks : Bool → Bool → Bool → Checked → Checked
checks administrative closed lacking later = cond administrative (refuse_if closed 53 (refuse_if lacking 54 later)) later

is-53 : (administrative closed lacking : Bool) (later : Checked) → (later ≡ refuses 53 → ⊥) → (checks administrative closed lacking later ≡ refuses 53) ↔ ((administrative ≡ true) × (closed ≡ true))
is-53 true true lacking later none = (λ h. (refl, refl), λ t. refl)
is-53 true false true later none = (λ h. absurd (let distinct : ◌≡◌ {A = ℕ} 54 53 = cc in omega arith), λ t. absurd (false≢true t.1))
is-53 true false false later none = (λ h. absurd (none h), λ t. absurd (false≢true t.1))
is-53 false closed lacking later none = (λ h. absurd (none h), λ t. absurd (false≢true t.0))

is-54 : (administrative closed lacking : Bool) (later : Checked) → (later ≡ refuses 54 → ⊥) → (checks administrative closed lacking later ≡ refuses 54) ↔ ((administrative ≡ true) × (closed ≡ false) × (lacking ≡ true))
is-54 true true lacking later none = (λ h. absurd (let distinct : ◌≡◌ {A = ℕ} 53 54 = cc in omega arith), λ t. absurd (true≢false t.1))
is-54 true false true later none = (λ h. (refl, refl, refl), λ t. refl)
is-54 true false false later none = (λ h. absurd (none h), λ t. absurd (false≢true t.2))
is-54 false closed lacking later none = (λ h. absurd (none h), λ t. absurd (false≢true t.0))

module _ (list : RuleList) (s : State) (step : Step) (accepted : list_accepted list && state_accepted s ≡ true) where
  abbrev closed : Bool
  closed = acts_closed s.sessions step.by

  abbrev lacking : Bool
  lacking = right_lacking list.rights s step.by (action_of step)

  -- 53 exactly where the step is one of the six kinds, 20 does not refuse it, and it stands behind `by` with a session that is not open
  pub refused-53 : (decision_of (step_of list s step).answer ≡ refused 53) ↔ ((is_administrative (action_of step) ≡ true) × ActingClosed s step.by)
  unfolding check_by
  refused-53 =
      let checked = refused-check list s step 53 accepted (λ e. omega arith) in
      let number = is-53 (is_administrative (action_of step)) closed lacking (check s (action_of step)) (λ h. let low = (own-other s (action_of step) 53 h).2 in omega arith) in
      let means = closed-means s step.by in (
        λ h. let t = number.0 (checked.0 h) in (t.0, means.0 t.1),
        λ t. checked.1 (number.1 (t.0, means.1 t.1)),
      )

  -- 54 exactly where it is one of the six kinds, neither 20 nor 53 refuses it, and the right of its kind is lacking
  pub refused-54 : (decision_of (step_of list s step).answer ≡ refused 54) ↔
      ((is_administrative (action_of step) ≡ true) × (ActingClosed s step.by → ⊥) × RightLacking s step.by (right_for list.rights (action_of step)))
  unfolding check_by
  refused-54 =
      let checked = refused-check list s step 54 accepted (λ e. omega arith) in
      let number = is-54 (is_administrative (action_of step)) closed lacking (check s (action_of step)) (λ h. let low = (own-other s (action_of step) 54 h).2 in omega arith) in
      let means = closed-means s step.by in
      let lacks = lacking-means s step.by (right_for list.rights (action_of step)) in (
        λ h. let t = number.0 (checked.0 h) in (t.0, (λ c. clash (means.1 c) t.1), lacks.0 t.2),
        λ t. checked.1 (number.1 (t.0, not_so closed (λ h. t.1 (means.0 h)), lacks.1 t.2)),
      )

-- ---- what `by` changes

-- the list without its right lines
abbrev pub without_rights : RuleList → RuleList
without_rights list = record { slots = list.slots; length = list.length; rights = replicate 6 unstated }

-- no kind has a right
none-stated : (action : Action) → right_for (replicate 6 unstated) action ≡ Unstated
none-stated Malformed = refl
none-stated (Assign u r) = refl
none-stated (Withdraw u r) = refl
none-stated (Grant r p) = refl
none-stated (Take r p) = refl
none-stated (Open i u) = refl
none-stated (Activate i r) = refl
none-stated (Deactivate i r) = refl
none-stated (Access i p o) = refl
none-stated (Finish o) = refl
none-stated (Close i) = refl
none-stated (Move i point) = refl
none-stated (Lost i) = refl
none-stated (Clock t) = refl
none-stated (Lend u v r t) = refl
none-stated (Recall u v r) = refl

-- where nobody acts and the kind has no right, the kind's own checks are all
free-check : (rights : List RightSlot) (s : State) (action : Action) → right_for rights action ≡ Unstated → check_by rights s Nobody action ≡ check s action
unfolding check_by
free-check rights s action e = rw e (go (is_administrative action))
  where
    go : (b : Bool) → cond b (check s action) (check s action) ≡ check s action
    go true = refl
    go false = refl

without-accepted : (list : RuleList) → list_accepted list ≡ true → list_accepted (without_rights list) ≡ true
unfolding list_accepted all
without-accepted list h =
    let t = both (leb list.length 128) (every rule_accepted (rules_of list) && all 6 (λ kind. right_accepted (right_at list.rights kind))) h in
    let rest = both (every rule_accepted (rules_of list)) (all 6 (λ kind. right_accepted (right_at list.rights kind))) t.1 in
    both_true (leb list.length 128) (every rule_accepted (rules_of list) && true) t.0 (both_true (every rule_accepted (rules_of list)) true rest.0 refl)

-- "a kind without a right line works with or without `by`": a step of a list without right lines, by nobody, is decided by its kind's own checks
pub without-rights : (list : RuleList) (s : State) (step : Step) → step_of (without_rights list) s (with_by Nobody step) ≡
    cond (list_accepted (without_rights list) && state_accepted s) (decide (rules_of list) s (of_kind step)) (refused_next s (Refused 40))
unfolding step_of decide_step decide action_of of_kind
without-rights list s step =
    ap (λ (c : Checked). cond (list_accepted (without_rights list) && state_accepted s) (checked_next c (rules_of list) s (of_kind step)) (refused_next s (Refused 40)))
    (free-check (replicate 6 unstated) s (of_kind step) (none-stated (of_kind step)))

module _ (list : RuleList) (listed : list_accepted list ≡ true) (s : State) (step : Step) (i : ℕ) (low : i < 32) (administrative : is_administrative (of_kind step) ≡ true) where
  abbrev acted : Step
  acted = with_by (InSession i) step

  read : action_of acted ≡ of_kind step
  unfolding action_of of_kind
  read = rw (lt-ltb i 32 low, administrative)

  -- the step by its kind's own checks, under this list or the same without right lines
  abbrev by_kind : RuleList → Next
  by_kind under = cond (list_accepted under && state_accepted s) (decide (rules_of list) s (of_kind step)) (refused_next s (Refused 40))

  same-by-kind : by_kind list ≡ by_kind (without_rights list)
  same-by-kind =
      ap (λ (b : Bool). cond (b && state_accepted s) (decide (rules_of list) s (of_kind step)) (refused_next s (Refused 40))) (listed ∙ sym (without-accepted list listed))

  -- what passes 53 and 54 is decided as it is without `by` under the same list without right lines: decision, rule, selected, ended and state
  pub acting-as-without : (ActingClosed s (InSession i) → ⊥) → (RightLacking s (InSession i) (right_for list.rights (of_kind step)) → ⊥) → step_of list s acted ≡ step_of (without_rights list) s (with_by Nobody step)
  unfolding step_of decide_step decide check_by
  acting-as-without opened carried =
      ap (λ (c : Checked). cond (list_accepted list && state_accepted s) (checked_next c (rules_of list) s (action_of acted)) (refused_next s (Refused 40))) passed
      ∙ ap (λ (action : Action). cond (list_accepted list && state_accepted s) (checked_next (check s (of_kind step)) (rules_of list) s action) (refused_next s (Refused 40))) read
      ∙ same-by-kind
      ∙ sym (without-rights list s step)
    where
      go : (closed lacking : Bool) → closed ≡ false → lacking ≡ false → refuse_if closed 53 (refuse_if lacking 54 (check s (of_kind step))) ≡ check s (of_kind step)
      go closed lacking c l = rw (c, l)

      passed : check_step list s acted ≡ check s (of_kind step)
      passed =
          ap (λ (action : Action). check_by list.rights s (InSession i) action) read
          ∙ rw administrative
          (go (acts_closed s.sessions (InSession i)) (right_lacking list.rights s (InSession i) (of_kind step))
          (not_so _ (λ h. opened ((closed-means s (InSession i)).0 h)))
          (not_so _ (λ h. carried ((lacking-means s (InSession i) (right_for list.rights (of_kind step))).0 h))))

  -- and before a kind without a right it changes nothing but 53
  module _ (unstated-right : right_for list.rights (of_kind step) ≡ Unstated) where
    pub by-open : is_open s i ≡ true → step_of list s acted ≡ step_of list s (with_by Nobody step)
    unfolding step_of decide_step decide action_of of_kind
    by-open opened =
        acting-as-without (λ c. true≢false (sym opened ∙ c)) (λ l. rw unstated-right at l)
        ∙ without-rights list s step
        ∙ sym (as_before ∙ same-by-kind)
      where
        as_before : step_of list s (with_by Nobody step) ≡ by_kind list
        as_before =
            ap (λ (c : Checked). cond (list_accepted list && state_accepted s) (checked_next c (rules_of list) s (of_kind step)) (refused_next s (Refused 40)))
            (free-check list.rights s (of_kind step) unstated-right)

  pub by-closed : state_accepted s ≡ true → is_open s i ≡ false → step_of list s acted ≡ refused_next s (Refused 53)
  unfolding step_of decide_step checked_next check_by
  by-closed stated shut =
      rw (listed, stated)
      (ap (λ (action : Action). checked_next (check_by list.rights s (InSession i) action) (rules_of list) s action) read ∙ rw (administrative, shut))
