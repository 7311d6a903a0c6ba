-- The turns of the loop that looks for the lowest rule that fails a test.
-- Assumes nothing.
use Rattle.std.proofs.Common.{◌≡◌, Bool, true, false, List, map, ℕ, suc, ◌+◌, ◌<◌, ◌≤◌, length, get_or, drop, add-one, drop-cons, Some, None}
use Rattle.std.proofs.lemmas.List.{drop_all}
use Rattle.rules.specs.Acceptance.{rule_of}
use Rattle.rules.specs.Lowest.{lowest}
use Rattle.rules.specs.declared.families.Rule.{Rule}
use Rattle.rules.specs.declared.lists.Slot.{Slot}

module _ (test : Rule → Bool) (slots : List Slot) (i : ℕ) where
  module _ (filler : Slot) (below : i < length slots) where
    pub rule-passes : test (rule_of (get_or slots i filler)) ≡ true → lowest test (i + 1) (map rule_of (drop i slots)) ≡ lowest test (i + 1 + 1) (map rule_of (drop (i + 1) slots))
    unfolding lowest
    rule-passes passed = rw (drop-cons slots i filler, add-one i, add-one (suc i), passed)

    pub rule-fails : test (rule_of (get_or slots i filler)) ≡ false → lowest test (i + 1) (map rule_of (drop i slots)) ≡ Some (i + 1)
    unfolding lowest
    rule-fails failed = rw (drop-cons slots i filler, failed)

  pub none-left : length slots ≤ i → lowest test (i + 1) (map rule_of (drop i slots)) ≡ None
  unfolding lowest
  none-left past = rw (drop_all i slots past)
