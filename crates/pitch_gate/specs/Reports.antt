-- What a C function returns, what it fills in, and what it leaves in a lent space. Assumes nothing.
use Rattle.std.specs.Prelude.{ℕ, ◌≡◌, cond, List, [], ◌∷◌, length, eqb}
use Rattle.std.proofs.lemmas.List.Edits.{sets}
use Rattle.std.specs.Prelude.{Result, Ok, Err}
use Rattle.rule_text.specs.Reading.{LoadedRules}
use Rattle.texts.specs.SavedRuns.{Texts, holding, refused_in, refused_report, written_report, lent_to, SavedOutcome, answers_of, state_of, run_report}
use Rattle.texts.specs.declared.saved_runs.Text.{Text}
use Rattle.texts.specs.SavedRuns.{Report}

-- 2.4.0
abbrev pub version : ℕ
version = 20400

-- ---- a report as numbers

unfoldable pub text_number : Text → ℕ
text_number Text.None = 0
text_number Text.Rules = 1
text_number Text.State = 2
text_number Text.Steps = 3
text_number Text.OutputSpace = 4
text_number Text.StateSpace = 5
text_number Text.Policies = 6
text_number Text.SecondRules = 7

-- the number is returned, the rest is written to the four lent numbers, from the first on
pub record Told (report : Report) (number : ℕ) (numbers numbers' : List ℕ) : Type 0 where
  pub returned : number ≡ report.number
  pub filled : numbers' ≡ sets numbers 0 (text_number report.text ∷ report.place ∷ report.output ∷ report.state ∷ [])

-- and a text is in a lent space, or every byte of it is as it was
pub record Given (report : Report) (text lent : List ℕ) (number : ℕ) (numbers lent' numbers' : List ℕ) : Type 0 where
  pub told : Told report number numbers numbers'
  pub left : lent' ≡ lent_to report text lent

-- the same for the answers to steps and the state after them
pub record Handed (outcome : SavedOutcome) (answers next : List ℕ) (number : ℕ) (numbers answers' next' numbers' : List ℕ) : Type 0 where
  pub told : Told (run_report outcome (length answers) (length next)) number numbers numbers'
  pub answered : answers' ≡ lent_to (run_report outcome (length answers) (length next)) (answers_of outcome) answers
  pub saved : next' ≡ lent_to (run_report outcome (length answers) (length next)) (state_of outcome) next

-- ---- what is reported

-- a response that was written, or its 18 with the length that is needed
abbrev pub response_report : Result ℕ ℕ → ℕ → Report
response_report (Ok n) needed = written_report n 0
response_report (Err number) needed = refused_report Text.OutputSpace number needed

-- a text that was read, or its refusal
abbrev pub read_report : Text → ℕ → ℕ → Report
read_report text number place = cond (eqb number 0) (written_report 0 0) (refused_report text number place)

abbrev pub rules_report : LoadedRules → Report
rules_report read = read_report Text.Rules read.number read.line

unfoldable pub texts_report : Texts → Report
texts_report (holding list s) = written_report 0 0
texts_report (refused_in text number place) = refused_report text number place
