-- A rule list of some rights and rules: its slots, its rules, and that it is accepted where they are.
-- Assumes nothing.
use mathlib.Core.Path.{◌≡◌, refl, ap, ◌∙◌}
use mathlib.Core.Bool.{Bool, true, ◌&&◌}
use mathlib.Core.List.{List, [], ◌∷◌, ◌++◌, map}
use Prim.Native.Nat.{ℕ, ◌+◌, ◌-◌, ◌≤◌, ◌<◌}
use native.Mathlib.Omega.{arith}
use lib.ListN.{length, take, drop, get_or, length-map, length-take, get_or-replicate, get_or-append}
use lib.Seq.{sets-eq, length-sets, take_at, length-take-le, get_or-take, get_or-drop, get_or-append-add}
use lib.Dec.{leb}
use borrow.Author.Tests.{leb-true, le-leb}
use Rattle.sets.specs.Sets.{all}
use Rattle.sets.proofs.Booleans.{both, both_true}
use Rattle.sets.proofs.Bounded.{all_of, of-all}
use Rattle.rules.specs.Acceptance.{rule_of, rule_accepted, unstated, right_at, right_accepted, every, rules_of, list_accepted}
use Rattle.rules.specs.declared.families.Rule.{Rule}
use Rattle.rules.specs.declared.rights.RightSlot.{RightSlot}
use Rattle.rules.specs.declared.lists.Slot.{Slot}
use Rattle.rules.specs.declared.lists.RuleList.{RuleList}
use Rattle.rule_text.specs.Lines.{filler}
use Rattle.rule_text.specs.Reading.{slot, unused_slots, no_rights, list_of, SameRules}
use Rattle.rule_text.specs.Causes.{GoodLines}

-- ---- the list of some rules

unused-length : length unused_slots ≡ 128
unfolding unused_slots
unused-length = refl

slots-rules : (rules : List Rule) → map rule_of (map slot rules) ≡ rules
slots-rules [] = refl
slots-rules (rule ∷ rules) = ap (λ (l : List Rule). rule ∷ l) (slots-rules rules)

pub list_length : (rights : List RightSlot) (rules : List Rule) → (list_of rights rules).length ≡ length rules
unfolding list_of
list_length rights rules = refl

pub list-rights : (rights : List RightSlot) (rules : List Rule) → (list_of rights rules).rights ≡ rights
unfolding list_of
list-rights rights rules = refl

module _ (rights : List RightSlot) (rules : List Rule) (few : length rules ≤ 128) where
  -- the rules stand in the first slots, and the filler after them
  pub slots-of-list : (list_of rights rules).slots ≡ map slot rules ++ drop (length rules) unused_slots
  unfolding list_of
  slots-of-list =
      let z : 0 + length rules ≡ length rules = omega arith in
      let room : 0 + length (map slot rules) ≤ length unused_slots = omega (arith, length-map rules slot, unused-length) in
      rw (length-map rules slot, z) at (sets-eq (map slot rules) unused_slots 0 room)

  -- its rules are those
  pub rules-of-list : rules_of (list_of rights rules) ≡ rules
  rules-of-list =
      rw (slots-of-list, list_length, take_at (map slot rules) (drop (length rules) unused_slots) (length rules) (length-map rules slot)) (slots-rules rules)

pub slots_length : (rights : List RightSlot) (rules : List Rule) → length (list_of rights rules).slots ≡ 128
unfolding list_of
slots_length rights rules = length-sets unused_slots 0 (map slot rules) ∙ unused-length

-- ---- which lists are accepted

-- the tests of 40
abbrev rights_accepted : List RightSlot → Bool
rights_accepted rights = all 6 (λ kind. right_accepted (right_at rights kind))

pub list-accepted : (rights : List RightSlot) (rules : List Rule) → GoodLines rights rules → list_accepted (list_of rights rules) ≡ true
unfolding list_accepted
list-accepted rights rules good =
    both_true (leb (list_of rights rules).length 128) (every rule_accepted (rules_of (list_of rights rules)) && rights_accepted (list_of rights rules).rights)
    (rw list_length (le-leb (length rules) 128 good.few))
    (both_true (every rule_accepted (rules_of (list_of rights rules))) (rights_accepted (list_of rights rules).rights)
    (rw (rules-of-list rights rules good.few) good.accepted)
    (rw list-rights (all_of 6 (λ kind. right_accepted (right_at rights kind)) good.fits_range)))

pub accepted-most : (list : RuleList) → list_accepted list ≡ true → list.length ≤ 128
unfolding list_accepted
accepted-most list accepted =
    leb-true list.length 128 (both (leb list.length 128) (every rule_accepted (rules_of list) && rights_accepted list.rights) accepted).0

pub list-few : (list : RuleList) → list_accepted list ≡ true → length (rules_of list) ≤ 128
list-few list accepted =
    let most = accepted-most list accepted in
    rw (length-map (take list.length list.slots) rule_of, length-take) (omega arith)

-- each of its rules is accepted, and each of its rights
accepted-parts : (list : RuleList) → list_accepted list ≡ true → (every rule_accepted (rules_of list) ≡ true) × (rights_accepted list.rights ≡ true)
unfolding list_accepted
accepted-parts list accepted =
    both (every rule_accepted (rules_of list)) (rights_accepted list.rights) (both (leb list.length 128) (every rule_accepted (rules_of list) && rights_accepted list.rights) accepted).1

pub accepted-rules : (list : RuleList) → list_accepted list ≡ true → every rule_accepted (rules_of list) ≡ true
accepted-rules list accepted = (accepted-parts list accepted).0

pub accepted-good : (list : RuleList) → length list.rights ≡ 6 → list_accepted list ≡ true → GoodLines list.rights (rules_of list)
accepted-good list kinds accepted = record {
  kinds = kinds;
  fits_range = of-all 6 (λ kind. right_accepted (right_at list.rights kind)) (accepted-parts list accepted).1;
  few = list-few list accepted;
  accepted = accepted-rules list accepted;
}

-- no rights and no rules
pub none-good : GoodLines no_rights []
unfolding no_rights every
none-good = record {
  kinds = refl;
  fits_range = λ kind h. ap (λ (slot : RightSlot). right_accepted slot.right) (get_or-replicate 6 kind unstated unstated h);
  few = omega arith;
  accepted = refl;
}

-- ---- a list and the list of its rules

pub slots-again : (slots : List Slot) → map slot (map rule_of slots) ≡ slots
slots-again [] = refl
slots-again (s ∷ slots) = ap (λ (l : List Slot). s ∷ l) (slots-again slots)

unused-at : (i : ℕ) → i < 128 → get_or unused_slots i (slot filler) ≡ slot filler
unfolding unused_slots
unused-at i h = get_or-replicate 128 i (slot filler) (slot filler) h

module _ (list : RuleList) (slots : length list.slots ≡ 128) (most : list.length ≤ 128) where
  rules-length : length (rules_of list) ≡ list.length
  rules-length = rw (length-map (take list.length list.slots) rule_of) (length-take-le list.length list.slots (omega arith))

  slots_read : (list_of list.rights (rules_of list)).slots ≡ take list.length list.slots ++ drop list.length unused_slots
  slots_read = slots-of-list list.rights (rules_of list) (rw rules-length most) ∙ rw (rules-length, slots-again)

  first-length : length (take list.length list.slots) ≡ list.length
  first-length = length-take-le list.length list.slots (omega arith)

  pub same-rules : SameRules list (list_of list.rights (rules_of list))
  same-rules = record {
    same_length = list_length list.rights (rules_of list) ∙ rules-length;
    below = λ i h.
        rw (slots_read, get_or-append (take list.length list.slots) (drop list.length unused_slots) (slot filler) i (rw first-length h))
        (get_or-take list.length list.slots i (slot filler) h);
    past = λ i after h.
        let split : i ≡ length (take list.length list.slots) + (i - list.length) = omega (arith, first-length) in
        let there : list.length + (i - list.length) ≡ i = omega arith in
        ap (λ (l : List Slot). get_or l i (slot filler)) slots_read
        ∙ ap (λ (j : ℕ). get_or (take list.length list.slots ++ drop list.length unused_slots) j (slot filler)) split
        ∙ get_or-append-add (take list.length list.slots) (drop list.length unused_slots) (i - list.length) (slot filler)
        ∙ get_or-drop list.length unused_slots (i - list.length) (slot filler)
        ∙ rw there (unused-at i h);
    same_rights = λ kind h. ap (λ (rights : List RightSlot). right_at rights kind) (list-rights list.rights (rules_of list));
  }
