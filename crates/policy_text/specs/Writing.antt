-- 2026-06: "56 on writing, with the lowest rule that has no such line; a right line gives 56 with rule 0. Writing refuses in the order 40, 56,
-- 18." Document 01: "A writer returns the text's length; bytes past it stay."
-- Assumes nothing.
use Rattle.std.specs.Prelude.{Bool, true, false, cond, ◌&&◌, List, [], ◌∷◌, ℕ, suc, length, ltb, leb, Option, Some, None, Result, Ok, Err}
use Rattle.sets.specs.Sets.{any}
use Rattle.forms.specs.Writing.{lent_if}
use Rattle.rules.specs.Acceptance.{right_at, rules_of, list_accepted}
use Rattle.rules.specs.declared.families.Rule.{Rule}
use Rattle.rules.specs.declared.rights.RightSlot.{RightSlot}
use Rattle.rules.specs.declared.lists.RuleList.{RuleList}
use Rattle.rule_text.specs.Lines.{list_text, line_count}
use Rattle.policy_text.specs.Lines.{policy_text, has_policy}
use Rattle.policy_text.specs.declared.refusals.WriteRefusal.{WriteRefusal}
use Rattle.policy_text.specs.declared.refusals.WriteRefusal.TheVariants.{NotAccepted, WithoutPolicy, NoRoom}

-- ---- what has no policy

abbrev pub is_nothing : Option ℕ → Bool
is_nothing None = true
is_nothing (Some n) = false

-- "the lowest rule that has no such line", the first of the rules being rule n
unfoldable pub without_from : ℕ → List Rule → Option ℕ
without_from n [] = None
without_from n (rule ∷ rules) = cond (has_policy rule) (without_from (suc n) rules) (Some n)

-- "a right line"
unfoldable pub has_right_line : List RightSlot → Bool
has_right_line rights = any 6 (λ kind. ltb 0 (line_count (right_at rights kind)))

-- "a right line gives 56 with rule 0"
unfoldable pub without_policy : RuleList → Option ℕ
without_policy list = cond (has_right_line list.rights) (Some 0) (without_from 1 (rules_of list))

-- ---- what is answered

-- the bytes of the text that was written; or the refusal: its number, and for 56 the rule, for 18 the bytes that the space needs, else 0
pub data PoliciesWritten : Type 0 where
  Length : ℕ → PoliciesWritten
  Refused : ℕ → ℕ → PoliciesWritten

abbrev pub number_of : WriteRefusal → ℕ
number_of NotAccepted = 40
number_of (WithoutPolicy rule) = 56
number_of (NoRoom bytes) = 18

abbrev pub place_of : WriteRefusal → ℕ
place_of NotAccepted = 0
place_of (WithoutPolicy rule) = rule
place_of (NoRoom bytes) = bytes

-- what the code returns, by the number of each refusal
abbrev pub by_number : Result ℕ WriteRefusal → PoliciesWritten
by_number (Ok length) = Length length
by_number (Err refusal) = Refused (number_of refusal) (place_of refusal)

-- ---- the text

abbrev pub policies_text : RuleList → List ℕ
policies_text list = list_text policy_text 1 (rules_of list)

-- "lent space shorter than the text" is 18, with the bytes that it needs
abbrev pub policies_fitted : List ℕ → List ℕ → PoliciesWritten
policies_fitted text lent = cond (leb (length text) (length lent)) (Length (length text)) (Refused 18 (length text))

abbrev pub unless_without : Option ℕ → PoliciesWritten → PoliciesWritten
unless_without None written = written
unless_without (Some n) written = Refused 56 n

-- "in the order 40, 56, 18"
unfoldable pub written_policies : RuleList → List ℕ → PoliciesWritten
written_policies list lent = cond (list_accepted list) (unless_without (without_policy list) (policies_fitted (policies_text list) lent)) (Refused 40 0)

unfoldable pub lent_after_policies : RuleList → List ℕ → List ℕ
lent_after_policies list lent = lent_if (list_accepted list && is_nothing (without_policy list)) (policies_text list) lent
