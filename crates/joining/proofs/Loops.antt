-- The list of the rules in some slots, of some rules and one more, and the loop of `join_rules` over the rules of the second list.
-- Assumes nothing.
use mathlib.Core.Path.{◌≡◌, refl, sym, ap, ◌∙◌}
use mathlib.Core.Bool.{Bool, true, false}
use mathlib.Core.List.{List, [], ◌∷◌, ◌++◌, map, map-append}
use Prim.Native.Nat.{ℕ, suc, ◌+◌, ◌≤◌, ◌<◌}
use native.Mathlib.Numerals.{add-one}
use native.Mathlib.Omega.{arith}
use lib.ListN.{length, take, drop, set, get_or, length-append, length-map, length-take, drop_of_length-le}
use lib.Seq.{sets, drop-cons}
use borrow.Author.Tests.{lt-ltb, le-ltb}
use Rattle.forms.proofs.Puts.{sets-append}
use Rattle.rules.specs.Acceptance.{rule_of, rules_of, list_accepted}
use Rattle.rules.specs.declared.families.Rule.{Rule}
use Rattle.rules.specs.declared.rights.RightSlot.{RightSlot}
use Rattle.rules.specs.declared.lists.Slot.{Slot}
use Rattle.rules.specs.declared.lists.RuleList.{RuleList}
use Rattle.rule_text.specs.Reading.{slot, unused_slots, no_rights, list_of}
use Rattle.rule_text.proofs.Slots.{slots-again, slots-of-list, accepted-most, list_length, list-rights, rules-of-list, slots_length}
use Rattle.joining.specs.Joining.{equals_none, with_new, joined_rules, too_many_at, refused_join, rules_joined}
use Rattle.joining.proofs.Rules.{new-taken, equal-left, joined_length}

-- ---- one rule more

pub one_more : (rights : List RightSlot) (rules : List Rule) (rule : Rule) (n : ℕ) → n ≡ length rules
    → record { slots = set (list_of rights rules).slots n (slot rule); length = n + 1; rights = rights } ≡ list_of rights (rules ++ rule ∷ [])
unfolding list_of
one_more rights rules rule n e =
    let place : n ≡ 0 + length (map slot rules) = omega (arith, e, length-map rules slot) in
    let slots : set (sets unused_slots 0 (map slot rules)) n (slot rule) ≡ sets unused_slots 0 (map slot (rules ++ rule ∷ [])) =
    ap (λ (k : ℕ). set (sets unused_slots 0 (map slot rules)) k (slot rule)) place
    ∙ sym (sets-append unused_slots 0 (map slot rules) (slot rule ∷ []))
    ∙ ap (sets unused_slots 0) (sym (map-append slot rules (rule ∷ []))) in
    let count : n + 1 ≡ length (rules ++ rule ∷ []) = omega (arith, e, length-append rules (rule ∷ [])) in
    (λ j. record { slots = slots j; length = count j; rights = rights })

-- ---- the rules in some slots

pub empty-slots : {list : RuleList} → list ≡ list_of no_rights [] → list.slots ≡ unused_slots
unfolding list_of
empty-slots e = ap (λ (l : RuleList). l.slots) e

-- those slots, and the filler after them
pub list_with : (rights : List RightSlot) (slots : List Slot) → length slots ≤ 128
    → record { slots = slots ++ drop (length slots) unused_slots; length = length slots; rights = rights } ≡ list_of rights (map rule_of slots)
unfolding list_of
list_with rights slots few =
    let rules = map rule_of slots in
    let count : length (map rule_of slots) ≡ length slots = length-map slots rule_of in
    let same : (list_of rights rules).slots ≡ slots ++ drop (length slots) unused_slots = slots-of-list rights rules (rw count few) ∙ rw (slots-again, count) in
    sym (λ j. record { slots = same j; length = count j; rights = rights })

-- the slots of an accepted list
pub used-few : (list : RuleList) {used : List Slot} → used ≡ take list.length list.slots → list_accepted list ≡ true → length used ≤ 128
used-few list e accepted = omega (arith, ap length e, length-take list.length list.slots, accepted-most list accepted)

-- ---- the loop over the rules of the second list

-- what was joined and what joining the rest gives are together what joining the lists gives
pub record Joining (rights : List RightSlot) (first : List Rule) (slots : List Slot) (list : RuleList) (i : ℕ) : Type 0 where
  pub joined : List Rule
  pub same : list ≡ list_of rights joined
  pub few : length joined ≤ 128
  pub whole : rules_joined (suc i) rights joined (map rule_of (drop i slots)) ≡ rules_joined 1 rights first (map rule_of slots)

pub joining-start : (rights : List RightSlot) (first : List Rule) (slots : List Slot) {list : RuleList} → list ≡ list_of rights first → length first ≤ 128 → Joining rights first slots list 0
joining-start rights first slots e few = record { joined = first; same = e; few = few; whole = refl }

module _ {rights : List RightSlot} {first : List Rule} {slots : List Slot} {list : RuleList} {i : ℕ} (joining : Joining rights first slots list i) where
  counted : list.length ≡ length joining.joined
  counted = ap (λ (l : RuleList). l.length) joining.same ∙ list_length rights joining.joined

  pub joining-few : list.length ≤ 128
  joining-few = omega (arith, joining.few, counted)

  pub joining-slots : length list.slots ≡ 128
  joining-slots = ap (λ (l : RuleList). length l.slots) joining.same ∙ slots_length rights joining.joined

  pub joining-end : length slots ≤ i → record { number = 0; place = 0; list = list } ≡ rules_joined 1 rights first (map rule_of slots)
  unfolding rules_joined joined_rules
  joining-end done =
      let nothing : map rule_of (drop i slots) ≡ [] = ap (map rule_of) (drop_of_length-le slots {i = i} done) in
      ap (λ (l : RuleList). record { number = 0; place = 0; list = l }) joining.same
      ∙ rw (le-ltb 128 (length joining.joined) joining.few) at (rw nothing at joining.whole)

  module _ (more : i < length slots) (d : Slot) where
    abbrev pub next : Rule
    next = rule_of (get_or slots i d)

    ahead : map rule_of (drop i slots) ≡ next ∷ map rule_of (drop (suc i) slots)
    ahead = ap (map rule_of) (drop-cons slots i d more)

    -- what the code compares with is what was joined
    compared : {b : Bool} → equals_none next (rules_of list) ≡ b → equals_none next joining.joined ≡ b
    compared e = ap (equals_none next) (sym (ap rules_of joining.same ∙ rules-of-list rights joining.joined joining.few)) ∙ e

    -- the rest after it
    after_next : length (with_new joining.joined next) ≤ 128
        → rules_joined (suc (suc i)) rights (with_new joining.joined next) (map rule_of (drop (suc i) slots)) ≡ rules_joined 1 rights first (map rule_of slots)
    unfolding rules_joined joined_rules too_many_at
    after_next few = rw (le-ltb 128 (length (with_new joining.joined next)) few) at (rw ahead at joining.whole)

    -- it equals one that is there
    pub joining-equal : equals_none next (rules_of list) ≡ false → Joining rights first slots list (i + 1)
    joining-equal e =
        let same = equal-left joining.joined next (compared e) in
        record {
          joined = joining.joined;
          same = joining.same;
          few = joining.few;
          whole = rw (add-one i) (rw same at (after_next (rw same joining.few)));
        }

    module _ (e : equals_none next (rules_of list) ≡ true) where
      taken : with_new joining.joined next ≡ joining.joined ++ next ∷ []
      taken = new-taken joining.joined next (compared e)

      sized : length (joining.joined ++ next ∷ []) ≡ list.length + 1
      sized = length-append joining.joined (next ∷ []) ∙ ap (λ (n : ℕ). n + 1) (sym counted)

      -- it is new, and there is a place for it
      pub joining-new : (list.length ≡ 128 → ⊥)
          → Joining rights first slots (record { slots = set list.slots list.length (slot next); length = list.length + 1; rights = list.rights }) (i + 1)
      joining-new room =
          let fits : length (joining.joined ++ next ∷ []) ≤ 128 = below list.length room joining-few sized in
          record {
            joined = joining.joined ++ next ∷ [];
            same =
                ap (λ (l : RuleList). record { slots = set l.slots list.length (slot next); length = list.length + 1; rights = l.rights }) joining.same
                ∙ ap (λ (given : List RightSlot). record { slots = set (list_of rights joining.joined).slots list.length (slot next); length = list.length + 1; rights = given })
                (list-rights rights joining.joined)
                ∙ one_more rights joining.joined next list.length counted;
            few = fits;
            whole = rw (add-one i) (rw taken at (after_next (rw taken fits)));
          }
        where
          below : {m : ℕ} (n : ℕ) → (n ≡ 128 → ⊥) → n ≤ 128 → m ≡ n + 1 → m ≤ 128
          below n other most same = omega (arith, other, most, same)

      -- or none
      pub joining-stop : list.length ≡ 128 → refused_join 57 (i + 1) ≡ rules_joined 1 rights first (map rule_of slots)
      unfolding rules_joined joined_rules too_many_at
      joining-stop all =
          let many : 128 < length (with_new joining.joined next) = rw taken (omega (arith, all, sized)) in
          let whole : 128 < length (joined_rules (with_new joining.joined next) (map rule_of (drop (suc i) slots))) =
          omega (arith, many, joined_length (with_new joining.joined next) (map rule_of (drop (suc i) slots))) in
          ap (refused_join 57) (add-one i)
          ∙ rw (lt-ltb 128 (length (joined_rules (with_new joining.joined next) (map rule_of (drop (suc i) slots)))) whole, lt-ltb 128 (length (with_new joining.joined next)) many) at (rw ahead at joining.whole)
