-- THEOREMS on saved states under two rule lists joined: which of them can go on, and what refuses the others.
-- Assumes nothing.
use mathlib.Core.Path.{◌≡◌, refl, sym, ap, ◌∙◌}
use mathlib.Core.Bool.{Bool, true, false, cond, ◌&&◌}
use mathlib.Core.Logic.{◌↔◌, ◌⊎◌, inl, inr}
use mathlib.Core.List.{List, [], append-nil}
use Prim.Native.Nat.{ℕ, ◌<◌}
use lib.ListN.{length}
use Rattle.sets.proofs.Booleans.{both_true, left-true, right-true, clash}
use Rattle.rules.specs.Acceptance.{rules_of, list_accepted}
use Rattle.rules.specs.declared.families.Rule.{Rule}
use Rattle.rules.specs.declared.lists.RuleList.{RuleList}
use Rattle.rules.specs.Lowest.{lowest}
use Rattle.std.specs.Prelude.{Option, Some, None}
use Rattle.enforcement.specs.States.{rule_holds}
use Rattle.enforcement.specs.Plain.{obeys, lowest_broken}
use Rattle.enforcement.specs.declared.states.State.{State}
use Rattle.enforcement.proofs.Agreement.{lowest-none}
use Rattle.state_text.specs.Reading.{Loading, loaded, refused, read_lines, unless_broken, under_rules, read_state}
use Rattle.joining.specs.Joining.{join_of}
use Rattle.rules.proofs.RuleLists.{lowest-after}
use Rattle.joining.proofs.JoinedLists.{join-made, tested-as-both, broken-past-first, join-accepted}

abbrev is_loaded : Loading → Bool
is_loaded (loaded s) = true
is_loaded (refused number place) = false

-- a refusal loads nothing
not-loaded : {A : Type 0} {number place : ℕ} {s : State} → refused number place ≡ loaded s → A
not-loaded e = clash refl (ap is_loaded (sym e))

-- where every rule holds none is the lowest broken one
none-broken : (rules : List Rule) (s : State) → obeys rules s ≡ true → lowest_broken rules s ≡ None
unfolding lowest
none-broken rules s h = ap (λ (l : List Rule). lowest_broken l s) (sym (append-nil rules)) ∙ lowest-after (λ rule. rule_holds rule s) 1 rules [] h

-- a saved state is loaded under a list just where the list is accepted, its lines make the state, and it obeys the list
loaded-under : (list : RuleList) (text : List ℕ) (s : State) → (read_state list text ≡ loaded s) ↔ ((list_accepted list ≡ true) × (read_lines text ≡ loaded s) × (obeys (rules_of list) s ≡ true))
unfolding read_state
loaded-under list text s = (
  λ h. by-list (list_accepted list) refl (read_lines text) refl h,
  λ h. rw (h.0, h.1, none-broken (rules_of list) s h.2),
)
  where
    by-lowest : (x : State) (low : Option ℕ) → lowest_broken (rules_of list) x ≡ low → read_lines text ≡ loaded x → list_accepted list ≡ true → unless_broken x low ≡ loaded s
        → (list_accepted list ≡ true) × (read_lines text ≡ loaded s) × (obeys (rules_of list) s ≡ true)
    by-lowest x None e lines accepted h =
        let same : x ≡ s = cc in
        (accepted, lines ∙ h, ap (obeys (rules_of list)) (sym same) ∙ lowest-none (λ rule. rule_holds rule x) 1 (rules_of list) e)
    by-lowest x (Some n) e lines accepted h = not-loaded h

    by-list : (b : Bool) → list_accepted list ≡ b → (l : Loading) → read_lines text ≡ l → cond b (under_rules list l) (refused 40 0) ≡ loaded s
        → (list_accepted list ≡ true) × (read_lines text ≡ loaded s) × (obeys (rules_of list) s ≡ true)
    by-list true accepted (loaded x) lines h = by-lowest x (lowest_broken (rules_of list) x) refl lines accepted h
    by-list true accepted (refused number place) lines h = not-loaded h
    by-list false accepted l lines h = not-loaded h

module _ (first second : RuleList) (kinds : length first.rights ≡ 6) (second-kinds : length second.rights ≡ 6) (none : (join_of first second).number ≡ 0) where
  abbrev joined : RuleList
  joined = (join_of first second).list

  same_test : (s : State) → obeys (rules_of joined) s ≡ (obeys (rules_of first) s && obeys (rules_of second) s)
  same_test s = tested-as-both first second none (λ rule. rule_holds rule s)

  -- THEOREM: a saved state is loaded under the joined list just if it is loaded under both
  pub saved-under-joined : (text : List ℕ) (s : State) → (read_state joined text ≡ loaded s) ↔ ((read_state first text ≡ loaded s) × (read_state second text ≡ loaded s))
  saved-under-joined text s = (
    λ h.
        let parts = (loaded-under joined text s).0 h in
        let both = sym (same_test s) ∙ parts.2 in (
          (loaded-under first text s).1 ((join-made first second none).accepted, parts.1, left-true (obeys (rules_of first) s) (obeys (rules_of second) s) both),
          (loaded-under second text s).1 ((join-made first second none).second_accepted, parts.1, right-true (obeys (rules_of first) s) (obeys (rules_of second) s) both),
        ),
    λ h.
        let parts = (loaded-under first text s).0 h.0 in
        let others = (loaded-under second text s).0 h.1 in
        (loaded-under joined text s).1
        (join-accepted first second kinds second-kinds, parts.1, same_test s ∙ both_true (obeys (rules_of first) s) (obeys (rules_of second) s) parts.2 others.2),
  )

  -- THEOREM: one that is loaded under the first list is loaded under the joined one too, or refused by 17 with a rule past the first list's
  pub saved-or-17 : (text : List ℕ) (s : State) → read_state first text ≡ loaded s
      → (read_state joined text ≡ loaded s) ⊎ ((rule : ℕ) × (length (rules_of first) < rule) × (read_state joined text ≡ refused 17 rule))
  unfolding read_state
  saved-or-17 text s h = go (lowest_broken (rules_of joined) s) refl
    where
      parts : (list_accepted first ≡ true) × (read_lines text ≡ loaded s) × (obeys (rules_of first) s ≡ true)
      parts = (loaded-under first text s).0 h

      go : (low : Option ℕ) → lowest_broken (rules_of joined) s ≡ low
          → (read_state joined text ≡ loaded s) ⊎ ((rule : ℕ) × (length (rules_of first) < rule) × (read_state joined text ≡ refused 17 rule))
      go None e = inl (rw (join-accepted first second kinds second-kinds, parts.1, e))
      go (Some rule) e =
          inr (rule, broken-past-first first second none s rule parts.2 e, rw (join-accepted first second kinds second-kinds, parts.1, e))
