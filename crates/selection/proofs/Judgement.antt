-- The judgement of a list of rules, one rule after the other.
-- Assumes nothing.
use mathlib.Core.Path.{◌≡◌, refl, sym, ap, ap₂, ◌∙◌, fun_ext}
use mathlib.Core.Bool.{Bool, true, false, not, cond, ◌||◌}
use mathlib.Core.List.{List, [], ◌∷◌, map}
use Prim.Native.Nat.{ℕ, zero, suc, ◌+◌, ◌≤◌, ◌<◌}
use native.Mathlib.Nat.{add-suc, suc-add, add-zero, add_comm}
use native.Mathlib.Numerals.{add-one}
use native.Mathlib.Omega.{arith}
use lib.ListN.{length, take, get_or}
use Rattle.sets.specs.Sets.{one_if}
use Rattle.rules.specs.Acceptance.{rule_of}
use Rattle.rules.specs.Families.{View, holds}
use Rattle.rules.specs.declared.families.Rule.{Rule}
use Rattle.rules.specs.declared.lists.Slot.{Slot}
use Rattle.std.specs.Prelude.{Option, Some, None}
use Rattle.rules.specs.Lowest.{lowest}
use Rattle.selection.specs.Selection.{selects, selected_number}
use Rattle.selection.specs.Choices.{chosen}
use Rattle.steps.specs.declared.actions.Action.{Action}
use Rattle.selection.specs.declared.selection.Choice.{Choice}
use Rattle.selection.specs.Judging.{judged_of, or_next, visited}
use Rattle.selection.specs.declared.judging.Judged.{Judged}

-- the rules of the first n slots
abbrev pub first_rules : ℕ → List Slot → List Rule
first_rules n slots = map rule_of (take n slots)

-- ---- one slot more

module _ (test : Rule → Bool) where
  lowest-more : (slots : List Slot) (k n : ℕ) (filler : Slot) → n < length slots → lowest test k (first_rules (suc n) slots) ≡ or_next (lowest test k (first_rules n slots)) (test (rule_of (get_or slots n filler))) (k + n)
  unfolding lowest
  lowest-more [] k n filler l = absurd (omega arith)
  lowest-more (slot ∷ slots) k zero filler l = rw (add-zero k)
  lowest-more (slot ∷ slots) k (suc n) filler l = go (test slot.rule) (lowest-more slots (suc k) n filler (omega arith))
    where
      go : (b : Bool) → lowest test (suc k) (first_rules (suc n) slots) ≡ or_next (lowest test (suc k) (first_rules n slots)) (test (rule_of (get_or slots n filler))) (suc k + n) →
          cond b (lowest test (suc k) (first_rules (suc n) slots)) (Some k) ≡ or_next (cond b (lowest test (suc k) (first_rules n slots)) (Some k)) (test (rule_of (get_or slots n filler))) (k + suc n)
      go true h = h ∙ ap (or_next (lowest test (suc k) (first_rules n slots)) (test (rule_of (get_or slots n filler)))) (suc-add k n ∙ sym (add-suc k n))
      go false h = refl

  pub number_more : (slots : List Slot) (n : ℕ) (filler : Slot) → n < length slots → selected_number test (first_rules (suc n) slots) ≡ selected_number test (first_rules n slots) + one_if (test (rule_of (get_or slots n filler)))
  unfolding selected_number
  number_more [] n filler l = absurd (omega arith)
  number_more (slot ∷ slots) zero filler l = omega arith
  number_more (slot ∷ slots) (suc n) filler l = let h = number_more slots n filler (omega arith) in omega arith

pub number-le : (test : Rule → Bool) (slots : List Slot) (n : ℕ) → n ≤ length slots → selected_number test (first_rules n slots) ≤ n
unfolding selected_number
number-le test [] zero l = omega arith
number-le test [] (suc n) l = absurd (omega arith)
number-le test (slot ∷ slots) zero l = omega arith
number-le test (slot ∷ slots) (suc n) l = at_most (test slot.rule) (number-le test slots n (omega arith))
  where
    at_most : (b : Bool) → selected_number test (first_rules n slots) ≤ n → one_if b + selected_number test (first_rules n slots) ≤ suc n
    at_most true h = omega arith
    at_most false h = omega arith

-- ---- the loop's turns

abbrev judgement : Option ℕ → ℕ → Judged
judgement low number = record { broken = low; selected = number }

-- a rule that is not selected changes nothing
unless : (low : Option ℕ) (n : ℕ) → or_next low true n ≡ low
unless None n = refl
unless (Some m) n = refl

module _ (selected : Rule → Bool) (v : View) (slots : List Slot) where
  pub judged-none : record { broken = None; selected = 0 } ≡ judged_of selected v []
  unfolding judged_of lowest selected_number
  judged-none = refl

  module _ (n : ℕ) (filler : Slot) (below : n < length slots) where
    judged-next : (b : Bool) → selected (rule_of (get_or slots n filler)) ≡ b →
        judgement (or_next (lowest (λ rule. not (selected rule) || holds rule v) 1 (first_rules n slots)) (not b || holds (rule_of (get_or slots n filler)) v) (1 + n)) (selected_number selected (first_rules n slots) + one_if b)
        ≡ judged_of selected v (first_rules (n + 1) slots)
    unfolding judged_of
    judged-next b e =
        ap₂ judgement
        (rw (← e) (sym (lowest-more (λ rule. not (selected rule) || holds rule v) slots 1 n filler below)))
        (rw (← e) (sym (number_more selected slots n filler below)))
        ∙ ap (λ (k : ℕ). judged_of selected v (first_rules k slots)) (sym (add-one n))

    pub judged-selected : selected (rule_of (get_or slots n filler)) ≡ true
        → visited (holds (rule_of (get_or slots n filler)) v) (judged_of selected v (first_rules n slots)) (n + 1) ≡ judged_of selected v (first_rules (n + 1) slots)
    unfolding judged_of visited
    judged-selected e =
        ap (λ (k : ℕ). judgement (or_next (lowest (λ rule. not (selected rule) || holds rule v) 1 (first_rules n slots)) (holds (rule_of (get_or slots n filler)) v) k) (selected_number selected (first_rules n slots) + 1)) (add_comm n 1)
        ∙ judged-next true e

    pub judged-unselected : selected (rule_of (get_or slots n filler)) ≡ false → judged_of selected v (first_rules n slots) ≡ judged_of selected v (first_rules (n + 1) slots)
    unfolding judged_of
    judged-unselected e =
        ap₂ judgement (sym (unless (lowest (λ rule. not (selected rule) || holds rule v) 1 (first_rules n slots)) (1 + n))) (sym (add-zero (selected_number selected (first_rules n slots))))
        ∙ judged-next false e

  pub judged-small : (judged : Judged) (n : ℕ) → n ≤ length slots → judged ≡ judged_of selected v (first_rules n slots) → judged.selected ≤ n
  unfolding judged_of
  judged-small judged n l e = rw e (number-le selected slots n l)

pub ruleset judged_turns = (judged-none, judged-selected, judged-unselected, judged-small)

-- ---- what is judged by a choice is so by the table

pub judged-told : (choice : Choice) (action : Action) → ((k : Rule) → chosen choice k ≡ selects action k) → (rules : List Rule) (v : View) (judged : Judged) → judged ≡ judged_of (chosen choice) v rules → judged ≡ judged_of (selects action) v rules
judged-told choice action same rules v judged e = e ∙ ap (λ (selected : Rule → Bool). judged_of selected v rules) (fun_ext same)
