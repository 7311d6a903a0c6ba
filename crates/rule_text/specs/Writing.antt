-- Document 01: "in writing a text too, 40 comes before 18"; "A writer returns the text's length; bytes past it stay."
-- Assumes nothing.
use Rattle.std.specs.Prelude.{cond, List, ℕ, length}
use Rattle.forms.specs.Writing.{written_if, lent_if}
use Rattle.std.specs.Prelude.{Result}
use Rattle.rules.specs.Acceptance.{rules_of, list_accepted}
use Rattle.rules.specs.declared.lists.RuleList.{RuleList}
use Rattle.rule_text.specs.Lines.{lines_text}

-- a rule list as text
abbrev pub text_of : RuleList → List ℕ
text_of list = lines_text list.rights (rules_of list)

-- the bytes that it takes; a list that 40 refuses has no text
unfoldable pub rules_length : RuleList → ℕ
rules_length list = cond (list_accepted list) (length (text_of list)) 0

unfoldable pub written_rules : RuleList → List ℕ → Result ℕ ℕ
written_rules list lent = written_if (list_accepted list) (text_of list) lent

unfoldable pub lent_after_rules : RuleList → List ℕ → List ℕ
lent_after_rules list lent = lent_if (list_accepted list) (text_of list) lent
