-- What comes of the lines of a text as the code goes through them: our gate's answers to its steps, as long as the lines are steps. That
-- it is the run over the steps that were read is proved in proofs/Runs.antt.
-- Assumes nothing.
use Rattle.std.specs.Prelude.{ℕ, zero, suc, List, [], ◌∷◌, length, drop, Result, Ok, Err}
use Rattle.rules.specs.declared.lists.RuleList.{RuleList}
use Rattle.enforcement.specs.Gate.{step_of}
use Rattle.enforcement.specs.declared.states.State.{State}
use Rattle.enforcement.specs.declared.states.Next.{Next}
use Rattle.step_text.specs.Lines.{read_step, line_length}
use Rattle.step_text.specs.declared.lines.StepLine.{StepLine}

-- a step's answer and state, and what follows from that state
abbrev pub followed : Next → (State → List Next) → List Next
followed next rest = next ∷ rest next.state

-- the answer to a line that was read, and what follows it
abbrev pub line_run : RuleList → State → Result StepLine ℕ → (State → List Next) → List Next
line_run list s (Ok line) rest = followed (step_of list s line.step) rest
line_run list s (Err number) rest = []

-- the first argument bounds the lines
unfoldable pub run_from : ℕ → RuleList → State → List ℕ → List Next
run_from zero list s text = []
run_from (suc bound) list s [] = []
run_from (suc bound) list s (c ∷ text) =
    line_run list s (read_step (c ∷ text)) (λ next. run_from bound list next (drop (line_length (read_step (c ∷ text))) (c ∷ text)))

-- a line has a byte at least, so that as many lines as bytes are enough
abbrev pub text_run : RuleList → State → List ℕ → List Next
text_run list s text = run_from (length text) list s text
