-- The lowest broken rule of a list. Both gates share it.
-- Assumes nothing.
use Rattle.std.specs.Prelude.{ℕ, suc, Bool, cond, List, [], ◌∷◌, Option, Some, None}
use Rattle.rules.specs.declared.families.Rule.{Rule}

-- of rules numbered from n on, the first that fails the test
unfoldable pub lowest : (Rule → Bool) → ℕ → List Rule → Option ℕ
lowest test n [] = None
lowest test n (rule ∷ rules) = cond (test rule) (lowest test (suc n) rules) (Some n)
