-- The selection as the code makes it, by sets of families. No reader has to believe it: proofs/Choosing.antt shows that it is `selects`.
-- Assumes nothing.
use Rattle.std.specs.Prelude.{ℕ, Bool, ◌&&◌, ◌||◌}
use Rattle.sets.specs.Sets.{member, union}
use Rattle.rules.specs.declared.families.Rule.{Rule}
use Rattle.selection.specs.Selection.{family, has_first, has_second}
use Rattle.selection.specs.declared.selection.Choice.{Choice}

-- the rules of some families, and of others those that name the number first, or second
abbrev pub choice_of : ℕ → ℕ → ℕ → ℕ → Choice
choice_of whole by_first by_second named =
    record { families = union (union whole by_first) by_second; whole = whole; by_first = by_first; by_second = by_second; named = named }

-- what a choice says of a rule of family f that names its number first, or second
abbrev pub chosen_at : Choice → ℕ → Bool → Bool → Bool
chosen_at choice f is_first is_second =
    member choice.families f && (member choice.whole f || ((member choice.by_first f && is_first) || (member choice.by_second f && is_second)))

unfoldable pub chosen : Choice → Rule → Bool
chosen choice rule = chosen_at choice (family rule) (has_first choice.named rule) (has_second choice.named rule)
