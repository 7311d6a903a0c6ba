-- THEOREMS on writing a rule list: 40 and 18 each for its own cause alone, no other number, and what the lent space then holds.
-- Assumes nothing.
use mathlib.Core.Path.{◌≡◌}
use mathlib.Core.Bool.{true, false}
use mathlib.Core.Logic.{◌↔◌, ◌⊎◌}
use mathlib.Core.List.{List}
use Prim.Native.Nat.{ℕ, ◌≤◌, ◌<◌}
use lib.ListN.{length}
use Rattle.forms.specs.Writing.{TextWritten}
use Rattle.std.specs.Prelude.{Ok, Err}
use Rattle.forms.proofs.Room as room
use Rattle.rules.specs.Acceptance.{list_accepted}
use Rattle.rules.specs.declared.lists.RuleList.{RuleList}
use Rattle.rule_text.specs.Writing.{text_of, written_rules, lent_after_rules}

module _ (list : RuleList) (lent : List ℕ) where
  -- a list that fits: its length, its text, and the bytes past it stay
  pub written : list_accepted list ≡ true → length (text_of list) ≤ length lent → TextWritten (text_of list) lent (written_rules list lent) (lent_after_rules list lent)
  unfolding written_rules lent_after_rules
  written accepted fits = rw accepted (room.text-written (text_of list) lent fits)

  -- a length is answered exactly where an accepted list's text fits, and it is the text's
  pub written-length : (n : ℕ) → (written_rules list lent ≡ Ok n) ↔ ((list_accepted list ≡ true) × (length (text_of list) ≤ length lent) × (n ≡ length (text_of list)))
  unfolding written_rules
  written-length n = room.written-length (text_of list) lent (list_accepted list) n

  -- 40 exactly where the list is not accepted
  pub refused-40 : (written_rules list lent ≡ Err 40) ↔ (list_accepted list ≡ false)
  unfolding written_rules
  refused-40 = room.written-40 (text_of list) lent (list_accepted list)

  -- 18 exactly where an accepted list's text is longer than the lent space
  pub refused-18 : (written_rules list lent ≡ Err 18) ↔ ((list_accepted list ≡ true) × (length lent < length (text_of list)))
  unfolding written_rules
  refused-18 = room.written-18 (text_of list) lent (list_accepted list)

  -- no other number is ever given
  pub refused-number : (number : ℕ) → written_rules list lent ≡ Err number → (number ≡ 40) ⊎ (number ≡ 18)
  unfolding written_rules
  refused-number number = room.written-number (text_of list) lent (list_accepted list) number

  -- a refusal leaves every byte
  pub refused-leaves : (number : ℕ) → written_rules list lent ≡ Err number → lent_after_rules list lent ≡ lent
  unfolding written_rules lent_after_rules
  refused-leaves number = room.lent-refused (text_of list) lent (list_accepted list) number
