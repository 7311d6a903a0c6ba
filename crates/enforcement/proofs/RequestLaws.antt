-- A step's decision by what its checks and its judgement say: what the code of a step cites.
-- Assumes nothing.
use mathlib.Core.Path.{◌≡◌, refl, sym, ap, ap₂, ◌∙◌}
use mathlib.Core.Bool.{Bool, true, false, not}
use mathlib.Core.Logic.{◌⊎◌, inl, inr}
use mathlib.Core.List.{List, [], ◌∷◌}
use Prim.Native.Nat.{ℕ, zero, suc, ◌+◌, ◌*◌, ◌<◌, ◌≤◌}
use native.Mathlib.Nat.{zero-add, add-zero}
use native.Mathlib.Omega.{arith}
use lib.ListN.{length, set, replicate}
use lib.Seq.{paste}
use native.Mathlib.Numerals.{add-one}
use Rattle.std.proofs.lemmas.List.Edits.{paste_none, fill_from_more}
use Rattle.sets.specs.Sets.{member, difference, count}
use Rattle.rules.specs.Families.{view, word_at}
use Rattle.rules.specs.declared.families.Rule.{Rule}
use Rattle.std.specs.Prelude.{Option, Some, None}
use Rattle.rules.specs.Lowest.{lowest}
use Rattle.steps.specs.Pairs.{ended_pairs, pair_count}
use Rattle.selection.specs.Selection.{selects, selected_number}
use Rattle.steps.specs.declared.actions.Action.{Action}
use Rattle.steps.specs.declared.actions.Action.TheVariants.{Finish}
use Rattle.selection.specs.Judging.{judged_of, reads_held}
use Rattle.selection.specs.declared.judging.Judged.{Judged}
use Rattle.rights.proofs.Carrying.{carries-word}
use Rattle.selection.proofs.HeldUnread.{held-unread}
use Rattle.enforcement.specs.States.{held_roles}
use Rattle.steps.specs.Steps.{is_event}
use Rattle.enforcement.specs.Steps.{Checked, passes, check, target, with_history, emptied}
use Rattle.enforcement.specs.Gate.{tests_selected, refused_next, request_next, passed_next, checked_next}
use Rattle.enforcement.specs.Deciding.{decide, request_of, plain_next}
use Rattle.enforcement.specs.declared.states.State.{State}
use Rattle.steps.specs.declared.answers.Answer.TheVariants.{Granted, Broken}
use Rattle.enforcement.proofs.EndedPairs.{nothing-lost, none-ended}

-- ---- a step by its checks

module _ (rules : List Rule) (s : State) (action : Action) where
  pub decide-request : check s action ≡ passes → is_event action ≡ false → request_of rules s action (target s action) ≡ decide rules s action
  unfolding decide checked_next passed_next request_of
  decide-request e request = sym (ap (λ (c : Checked). checked_next c rules s action) e ∙ ap (λ (b : Bool). passed_next b rules s action) request)

-- ---- a request that selects no rule

lowest-none : (test : Rule → Bool) (n : ℕ) (rules : List Rule) → ((rule : Rule) → test rule ≡ true) → lowest test n rules ≡ None
unfolding lowest
lowest-none test n [] h = refl
lowest-none test n (rule ∷ rules) h = rw (h rule) (lowest-none test (suc n) rules h)

number-none : (selected : Rule → Bool) (rules : List Rule) → ((rule : Rule) → selected rule ≡ false) → selected_number selected rules ≡ 0
unfolding selected_number
number-none selected [] h = refl
number-none selected (rule ∷ rules) h = rw (h rule) (zero-add (selected_number selected rules) ∙ number-none selected rules h)

pub request-free : (rules : List Rule) (s : State) (action : Action) (after : State) → ((rule : Rule) → selects action rule ≡ false) → after.active ≡ s.active → plain_next after ≡ request_of rules s action after
unfolding request_of request_next
request-free rules s action after free same =
    rw (lowest-none (tests_selected (selects action) after) 1 rules (λ rule. rw (free rule)), number-none (selects action) rules free, same, none-ended s.active)

-- a part of a list that is filled with empty sets
pub emptied-part : (k : ℕ) (words : List ℕ) (start : ℕ) → start + k ≤ length words → paste words start (replicate k 0) k ≡ emptied k words start
unfolding emptied
emptied-part zero words start within = sym (paste_none words start [])
emptied-part (suc k) words start within =
    ap (λ (n : ℕ). paste words start (replicate n 0) n) (sym (add-one k))
    ∙ sym (fill_from_more words start k 0 (omega arith)) ∙ ap (λ (l : List ℕ). set l (start + k) 0) (emptied-part k words start (omega arith))

-- finish passes and selects nothing
pub finish-granted : (rules : List Rule) (s : State) (o : ℕ) → plain_next (with_history s (emptied 32 s.history (o * 32))) ≡ decide rules s (Finish o)
unfolding check target selects
finish-granted rules s o = request-free rules s (Finish o) (target s (Finish o)) (λ rule. refl) refl ∙ decide-request rules s (Finish o) refl refl

-- ---- the pairs that a request ends: where one session's roles are set, those that it loses

pub ended-one : (l : List ℕ) (i roles : ℕ) → i < length l → count 32 (member (difference (word_at l i) roles)) ≡ pair_count (ended_pairs l (set l i roles))
unfolding ended_pairs pair_count
ended-one [] i roles h = absurd (omega arith)
ended-one (x ∷ l) zero roles h = rw (none-ended l) (sym (add-zero (count 32 (member (difference x roles)))))
ended-one (x ∷ l) (suc i) roles h =
    ended-one l i roles (omega arith)
    ∙ sym (ap (λ (n : ℕ). n + pair_count (ended_pairs l (set l i roles))) (nothing-lost x) ∙ zero-add (pair_count (ended_pairs l (set l i roles))))

-- ---- a judgement, by what was handed over for the roles that users hold

-- they were, or the step does not read them
abbrev pub HandedOver : State → Action → List ℕ → Type 0
HandedOver after action roles = (roles ≡ held_roles after) ⊎ (reads_held action ≡ false)

abbrev pub judged_with : Action → State → List Rule → List ℕ → Judged
judged_with action after rules roles =
    judged_of (selects action) (view after.assigned roles after.granted after.sessions after.active after.history after.time) rules

judged-same : (rules : List Rule) (after : State) (action : Action) (roles : List ℕ) → HandedOver after action roles → judged_with action after rules roles ≡ judged_with action after rules (held_roles after)
judged-same rules after action roles (inl same) = ap (judged_with action after rules) same
judged-same rules after action roles (inr unread) =
    held-unread action after.assigned roles (held_roles after) after.granted after.sessions after.active after.history after.time unread rules

-- ---- a request by its judgement

module _ (rules : List Rule) (s after : State) (action : Action) (judged : Judged) (roles : List ℕ) (is : judged ≡ judged_with action after rules roles) (handed : HandedOver after action roles) where
  judged-after : judged ≡ judged_with action after rules (held_roles after)
  judged-after = is ∙ judged-same rules after action roles handed

  lowest-of : (low : Option ℕ) → lowest (tests_selected (selects action) after) 1 rules ≡ low → judged.broken ≡ low
  unfolding judged_of
  lowest-of low e = ap (λ (j : Judged). j.broken) judged-after ∙ e

  number_of : judged.selected ≡ selected_number (selects action) rules
  unfolding judged_of
  number_of = ap (λ (j : Judged). j.selected) judged-after

  pub request-granted : (ended : ℕ) → judged.broken ≡ None → ended ≡ pair_count (ended_pairs s.active after.active) → record { state = after; answer = Granted judged.selected ended } ≡ request_of rules s action after
  unfolding request_of request_next
  request-granted ended e count = go (lowest (tests_selected (selects action) after) 1 rules) refl
    where
      go : (low : Option ℕ) → lowest (tests_selected (selects action) after) 1 rules ≡ low → record { state = after; answer = Granted judged.selected ended } ≡ request_next (selected_number (selects action) rules) s after low
      go None l = ap₂ (λ (n m : ℕ). record { state = after; answer = Granted n m }) number_of count
      go (Some n) l = absurd (let h = sym e ∙ lowest-of (Some n) l in let clash : ◌≡◌ {A = ℕ} 0 1 = cc in omega arith)

  pub request-broken : (rule : ℕ) → judged.broken ≡ Some rule → refused_next s (Broken rule judged.selected) ≡ request_of rules s action after
  unfolding request_of request_next
  request-broken rule e = go (lowest (tests_selected (selects action) after) 1 rules) refl
    where
      go : (low : Option ℕ) → lowest (tests_selected (selects action) after) 1 rules ≡ low → refused_next s (Broken rule judged.selected) ≡ request_next (selected_number (selects action) rules) s after low
      go None l = absurd (let h = sym e ∙ lowest-of None l in let clash : ◌≡◌ {A = ℕ} 0 1 = cc in omega arith)
      go (Some n) l =
          let h : Some rule ≡ Some n = sym e ∙ lowest-of (Some n) l in
          let same : rule ≡ n = cc in
          ap₂ (λ (k m : ℕ). refused_next s (Broken k m)) same number_of

-- ---- what the code of a step asks, as its checks say it

pub not-told : {asked told answer : Bool} → asked ≡ told → not asked ≡ answer → not told ≡ answer
not-told e h = sym (ap not e) ∙ h

-- what a role's own word says of its permissions
pub ruleset carried_permissions = (carries-word)
