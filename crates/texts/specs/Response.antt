-- Document 01, 'Texts': "The program `gate` reads at most 65,536 bytes from standard input: rules, `(steps)`, steps."; 2026-05: rights stand
-- "before the rules".
-- Assumes nothing.
use Rattle.std.specs.Prelude.{ℕ, ◌+◌, Bool, cond, List, length, drop, eqb, ltb}
use Rattle.forms.specs.Tables.{bytes, found}
use Rattle.rules.specs.declared.lists.RuleList.{RuleList}
use Rattle.enforcement.specs.States.{fresh}
use Rattle.enforcement.specs.Gate.{run_of}
use Rattle.steps.specs.declared.steps.Step.{Step}
use Rattle.rule_text.specs.Lines.{next_line}
use Rattle.rule_text.specs.Reading.{LinesRead, read_lines, list_of}
use Rattle.step_text.specs.Lines.{StepsRead, steps, bad, read_steps}
use Rattle.step_text.specs.Answers.{bad_text, answers_text}

-- the line `(steps)`, a table of one form
unfoldable pub steps_form : List ℕ
steps_form = bytes "(steps)\n"

unfoldable pub starts_steps : List ℕ → Bool
starts_steps text = eqb (found steps_form text).form 0

-- what comes of an input: a number and a line, or a list of rules and the steps that run under it
pub data Outcome : Type 0 where
  bad_at : ℕ → ℕ → Outcome
  ran : RuleList → List Step → Outcome

-- lines are counted over the whole input; `line` is that of `(steps)`
unfoldable pub steps_outcome : RuleList → ℕ → StepsRead → Outcome
steps_outcome list line (steps read) = ran list read
steps_outcome list line (bad k) = bad_at 10 (line + k)

-- "A missing `(steps)` is 10 at the line after the last"
unfoldable pub number_without_steps : ℕ → ℕ
number_without_steps number = cond (eqb number 0) 10 number

-- what follows the good lines of the rights and the rules
unfoldable pub after_rules : LinesRead → List ℕ → Outcome
after_rules lines rest =
    cond (starts_steps rest)
    (steps_outcome (list_of lines.rights lines.rules) (next_line lines.rights lines.rules) (read_steps 1 (drop 8 rest)))
    (bad_at (number_without_steps lines.number) (next_line lines.rights lines.rules))

-- "19 has line 0 and comes before all else"
unfoldable pub outcome_of : List ℕ → Outcome
outcome_of input = cond (ltb 65536 (length input)) (bad_at 19 0) (after_rules (read_lines input) (drop (read_lines input).length input))

-- "It prints `(yes selected ended)` or `(no number rule selected)` for each step, or only `(bad number line)`."
unfoldable pub outcome_text : Outcome → List ℕ
outcome_text (bad_at number line) = bad_text number line
outcome_text (ran list read) = answers_text (run_of list fresh read)

abbrev pub response_of : List ℕ → List ℕ
response_of input = outcome_text (outcome_of input)
