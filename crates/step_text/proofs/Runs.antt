-- What comes of the lines as they are gone through is our gate's run over the steps that were read.
-- Assumes nothing.
use mathlib.Core.Path.{◌≡◌, refl, sym, ap, ◌∙◌}
use mathlib.Core.List.{List, [], ◌∷◌}
use Prim.Native.Nat.{ℕ, zero, suc}
use lib.ListN.{length, drop}
use Rattle.std.specs.Prelude.{Result, Ok, Err}
use Rattle.rules.specs.declared.lists.RuleList.{RuleList}
use Rattle.enforcement.specs.Gate.{step_of, run_of}
use Rattle.enforcement.specs.declared.states.State.{State}
use Rattle.steps.specs.declared.steps.Step.{Step}
use Rattle.enforcement.specs.declared.states.Next.{Next}
use Rattle.step_text.specs.Lines.{read_step, StepsRead, steps, bad, line_length, after, read_from, read_steps}
use Rattle.step_text.specs.Running.{line_run, run_from, text_run}
use Rattle.step_text.specs.declared.lines.StepLine.{StepLine}

-- where every line is a step, what comes of the lines is the run over them
abbrev pub Runs : RuleList → State → List Next → StepsRead → Type 0
Runs rules s run (steps list) = run ≡ run_of rules s list
Runs rules s run (bad line) = Unit {0}

run-next : (rules : RuleList) (s : State) (step : Step) (list : List Step) → run_of rules s (step ∷ list) ≡ step_of rules s step ∷ run_of rules (step_of rules s step).state list
unfolding run_of
run-next rules s step list = refl

runs_after : (rules : RuleList) (s : State) (n : ℕ) (a : Result StepLine ℕ) (rest : State → List Next) (r : StepsRead) → ((next : State) → Runs rules next (rest next) r)
    → Runs rules s (line_run rules s a rest) (after n a r)
runs_after rules s n (Err number) rest r h = tt
runs_after rules s n (Ok line) rest (bad k) h = tt
runs_after rules s n (Ok line) rest (steps list) h =
    ap (λ (run : List Next). step_of rules s line.step ∷ run) (h (step_of rules s line.step).state) ∙ sym (run-next rules s line.step list)

runs-from : (bound n : ℕ) (rules : RuleList) (s : State) (text : List ℕ) → Runs rules s (run_from bound rules s text) (read_from bound n text)
unfolding run_from read_from
runs-from zero n rules s text = unfold run_of in refl
runs-from (suc bound) n rules s [] = unfold run_of in refl
runs-from (suc bound) n rules s (c ∷ text) =
    runs_after rules s n (read_step (c ∷ text)) (λ next. run_from bound rules next (drop (line_length (read_step (c ∷ text))) (c ∷ text)))
    (read_from bound (suc n) (drop (line_length (read_step (c ∷ text))) (c ∷ text)))
    (λ next. runs-from bound (suc n) rules next (drop (line_length (read_step (c ∷ text))) (c ∷ text)))

pub answers-run : (n : ℕ) (rules : RuleList) (s : State) (text : List ℕ) → Runs rules s (text_run rules s text) (read_steps n text)
unfolding read_steps
answers-run n rules s text = runs-from (length text) n rules s text
