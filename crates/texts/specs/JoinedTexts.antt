-- 2026-07: two rule lists joined, as texts. "order 40, 58, 57, then 18, nothing written on any": each text is refused by its own first bad line,
-- the first text before the second, so that 40 does not occur.
-- Assumes nothing.
use Rattle.std.specs.Prelude.{ℕ, ◌+◌, ◌≡◌, cond, List, take, eqb}
use Rattle.rules.specs.declared.rights.RightSlot.{RightSlot}
use Rattle.rules.specs.declared.lists.RuleList.{RuleList}
use Rattle.rule_text.specs.Lines.{right_lines}
use Rattle.rule_text.specs.Reading.{read_rules}
use Rattle.rule_text.specs.Causes.{FirstBad}
use Rattle.rule_text.specs.Reading.{LoadedRules}
use Rattle.joining.specs.Joining.{Joined, join_of}
use Rattle.joining.specs.Claims.{JoinRefused}
use Rattle.texts.specs.SavedRuns.{rules_in, refused_report, list_report}
use Rattle.texts.specs.declared.saved_runs.Text.{Text}
use Rattle.texts.specs.SavedRuns.{Report}

-- how many lines the rights of the kinds below one have
abbrev pub lines_before : List RightSlot → ℕ → ℕ
lines_before rights kind = right_lines (take kind rights)

-- the line of the second text, whose rights stand before its rules: for 58 that of the kind's right, for 57 that of the rule
unfoldable pub line_in : List RightSlot → ℕ → ℕ → ℕ
line_in rights number place = cond (eqb number 58) (lines_before rights place + 1) (cond (eqb number 57) (lines_before rights 6 + place) 0)

abbrev pub with_line : List RightSlot → Joined → LoadedRules
with_line rights joined = record { number = joined.number; line = line_in rights joined.number joined.place; list = joined.list }

-- a list joined with what was read of the second text
unfoldable pub joined_with : RuleList → LoadedRules → LoadedRules
joined_with first read = cond (eqb read.number 0) (with_line read.list.rights (join_of first read.list)) read

-- what was read of both: the text of the joined list, or which of the two is refused, with its number and line
unfoldable pub join_report : LoadedRules → LoadedRules → ℕ → Report
join_report first second room =
    cond (eqb first.number 0) (list_report Text.SecondRules (joined_with first.list second) room) (refused_report Text.Rules first.number first.line)

-- ---- the causes, in plain words

-- a first bad line of either, the first before the second; or the lists are good, and joining them is refused at a right or at a rule of the second
pub data JoinBad (first second : List ℕ) : Text → ℕ → ℕ → Type 0 where
  first_bad : (number line : ℕ) → FirstBad first number line → JoinBad first second Text.Rules number line
  second_bad : (number line : ℕ) → (read_rules first).number ≡ 0 → FirstBad second number line → JoinBad first second Text.SecondRules number line
  rights_differ : (kind : ℕ) → (read_rules first).number ≡ 0 → (read_rules second).number ≡ 0 → JoinRefused (rules_in first) (rules_in second) 58 kind
      → JoinBad first second Text.SecondRules 58 (lines_before (rules_in second).rights kind + 1)
  too_many : (n : ℕ) → (read_rules first).number ≡ 0 → (read_rules second).number ≡ 0 → JoinRefused (rules_in first) (rules_in second) 57 n
      → JoinBad first second Text.SecondRules 57 (lines_before (rules_in second).rights 6 + n)
