-- The steps at the front of a text, a batch of them at a time, as the code reads and answers them.
-- Assumes nothing.
use Rattle.std.specs.Prelude.{ℕ, zero, suc, ◌+◌, ◌≡◌, List, [], ◌∷◌, ◌++◌, length, drop, Result, Ok, Err}
use Rattle.steps.specs.declared.steps.Step.{Step}
use Rattle.enforcement.specs.Batches.{batch_steps}
use Rattle.enforcement.specs.declared.batches.Entry.{Entry}
use Rattle.step_text.specs.Lines.{read_step, line_length}
use Rattle.step_text.specs.Answers.{answer_text}
use Rattle.step_text.specs.declared.batches.BatchRead.{BatchRead}
use Rattle.step_text.specs.declared.lines.StepLine.{StepLine}

-- ---- reading

-- steps, and how many bytes their lines have
pub record Front : Type 0 where
  pub steps : List Step
  pub bytes : ℕ

abbrev pub empty_front : Front
empty_front = record { steps = []; bytes = 0 }

-- a line that was read, and the steps after it
abbrev pub line_then : Result StepLine ℕ → Front → Front
line_then (Ok line) front = record { steps = line.step ∷ front.steps; bytes = line.length + front.bytes }
line_then (Err number) front = empty_front

-- at most so many steps of a text, as long as its lines are steps
unfoldable pub front_of : ℕ → List ℕ → Front
front_of zero text = empty_front
front_of (suc most) [] = empty_front
front_of (suc most) (c ∷ text) = line_then (read_step (c ∷ text)) (front_of most (drop (line_length (read_step (c ∷ text))) (c ∷ text)))

-- what is read at the front of a text
pub record ReadsFront (text : List ℕ) (read : BatchRead) : Type 0 where
  pub steps : batch_steps read.batch ≡ (front_of 32 text).steps
  pub number : read.batch.length ≡ length (front_of 32 text).steps
  pub bytes : read.length ≡ (front_of 32 text).bytes

-- ---- writing

unfoldable pub entries_text : List Entry → List ℕ
entries_text [] = []
entries_text (entry ∷ entries) = answer_text entry.answer ++ entries_text entries
