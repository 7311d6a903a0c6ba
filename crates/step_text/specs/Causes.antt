-- Document 01, 'Refused': "line is no form of its text", "10 alone (steps)", "the first bad line counts"; in plain words over the rows of the
-- table of steps, reading is not used.
-- Assumes nothing.
use Rattle.std.specs.Prelude.{ℕ, ◌+◌, ◌<◌, ◌≡◌, List, [], ◌∷◌, ◌++◌, length}
use Rattle.steps.specs.declared.steps.Step.{Step}
use Rattle.step_text.specs.Rows.{Row, row_text, Writable, HasNumbers, StepStands}

-- no step, with any numbers, is the front of the text
abbrev pub NoStep : List ℕ → Type 0
NoStep text = (row : Row) → StepStands text row → ⊥

-- ---- lines one after the other

unfoldable pub rows_text : List Row → List ℕ
rows_text [] = []
rows_text (row ∷ rows) = row_text row ++ rows_text rows

-- the numbers of each line have at most ten digits, and `by` stands where it can
pub data AllWritable : List Row → Type 0 where
  no_lines : AllWritable []
  line_more : {row : Row} {rows : List Row} → Writable row → AllWritable rows → AllWritable (row ∷ rows)

-- each step has the kind and the numbers of its line, and who acts
pub data AllNumbers : List Step → List Row → Type 0 where
  no_steps : AllNumbers [] []
  step_more : (step : Step) (row : Row) {steps : List Step} {rows : List Row} → HasNumbers step row → AllNumbers steps rows
      → AllNumbers (step ∷ steps) (row ∷ rows)

-- good lines from line m on, and after them line n, at which no step stands
pub record FirstBadStep (m : ℕ) (text : List ℕ) (n : ℕ) : Type 0 where
  pub lines : List Row
  pub good : AllWritable lines
  pub rest : List ℕ
  pub whole : text ≡ rows_text lines ++ rest
  pub place : n ≡ m + length lines
  pub some : 0 < length rest
  pub none : NoStep rest

-- every line of the text is a step
pub record GoodSteps (text : List ℕ) (lines : List Row) : Type 0 where
  pub good : AllWritable lines
  pub whole : text ≡ rows_text lines
