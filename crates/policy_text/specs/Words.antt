-- 2026-06: each policy in the request's words, as it stands in a line. That the text of a rule reads so is proved in proofs/Words.antt.
-- Assumes nothing.
use Rattle.std.specs.Prelude.{List, [], ◌∷◌, ℕ}
use Rattle.forms.specs.Numbers.{digits_of}
use Rattle.forms.specs.Tables.{bytes, joined}
use Rattle.rules.specs.declared.families.Rule.{Rule}
use Rattle.policy_text.specs.Causes.{OfFiveKinds, before, max_users, max_roles, max_active, needs}

-- "`PL1: assign-role r4 prerequisite r2;` (before), `maxUsers = 3 only-for-role r4;`, `maxRoles-User = 5;`, `maxActiveRoles = 2;` and
-- `enable r4 if active r2 deactivation-dependency;` (needs)"
abbrev pub kind_words : {rule : Rule} → OfFiveKinds rule → List ℕ
kind_words (before r q) = joined (bytes "assign-role r" ∷ digits_of r ∷ bytes " prerequisite r" ∷ digits_of q ∷ bytes ";" ∷ [])
kind_words (max_users r limit) = joined (bytes "maxUsers = " ∷ digits_of limit ∷ bytes " only-for-role r" ∷ digits_of r ∷ bytes ";" ∷ [])
kind_words (max_roles limit) = joined (bytes "maxRoles-User = " ∷ digits_of limit ∷ bytes ";" ∷ [])
kind_words (max_active limit) = joined (bytes "maxActiveRoles = " ∷ digits_of limit ∷ bytes ";" ∷ [])
kind_words (needs r q) =
    joined (bytes "enable r" ∷ digits_of r ∷ bytes " if active r" ∷ digits_of q ∷ bytes " deactivation-dependency;" ∷ [])

-- "each with its `PL` number"; a line feed after each
abbrev pub policy_words : ℕ → {rule : Rule} → OfFiveKinds rule → List ℕ
policy_words n kind = joined (bytes "PL" ∷ digits_of n ∷ bytes ": " ∷ kind_words kind ∷ bytes "\n" ∷ [])
