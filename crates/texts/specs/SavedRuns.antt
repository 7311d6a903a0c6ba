-- Steps run over a saved state: document 01, 'State and steps', "from one read from a saved text under the rules in force", and 'Refused'.
-- One end writes the state, the other reads it and goes on.
-- Assumes nothing.
use Rattle.std.specs.Prelude.{ℕ, ◌≡◌, ◌<◌, ⊤, cond, List, [], ◌++◌, length, drop, eqb, ltb, leb, Result, Ok, Err}
use Rattle.rules.specs.declared.lists.RuleList.{RuleList}
use Rattle.enforcement.specs.States.{fresh}
use Rattle.enforcement.specs.Gate.{run_of}
use Rattle.enforcement.specs.Runs.{last_state}
use Rattle.enforcement.specs.declared.states.State.{State}
use Rattle.steps.specs.declared.steps.Step.{Step}
use Rattle.rule_text.specs.Reading as rule_text
use Rattle.rule_text.specs.Writing.{text_of}
use Rattle.rule_text.specs.Reading.{LoadedRules}
use Rattle.state_text.specs.Reading.{Loading, loaded, refused, read_state}
use Rattle.state_text.specs.Saving.{saved_text}
use Rattle.step_text.specs.Lines.{StepsRead, steps, bad, read_steps}
use Rattle.step_text.specs.Answers.{answers_text}
use Rattle.texts.specs.declared.saved_runs.Text.{Text}
use Rattle.texts.specs.declared.saved_runs.LoadedTexts.{LoadedTexts}
use Rattle.texts.specs.declared.saved_runs.Refused.{Refused}
use Rattle.texts.specs.declared.saved_runs.Written.{Written}

-- ---- the rules, and the state under them

-- what two texts hold, or the one that is refused, with its number and its line (for 17 its rule)
pub data Texts : Type 0 where
  holding : RuleList → State → Texts
  refused_in : Text → ℕ → ℕ → Texts

unfoldable pub state_under : RuleList → Loading → Texts
state_under list (loaded s) = holding list s
state_under list (refused number place) = refused_in Text.State number place

unfoldable pub rules_first : LoadedRules → List ℕ → Texts
rules_first read saved =
    cond (eqb read.number 0) (state_under read.list (read_state read.list saved)) (refused_in Text.Rules read.number read.line)

unfoldable pub load_texts : List ℕ → List ℕ → Texts
load_texts rules saved = rules_first (rule_text.loaded_of (rule_text.read_lines rules)) saved

-- the list that was read, which is empty where the rules are refused; "nothing loaded": beside a refusal stands a fresh state
unfoldable pub loaded_texts : RuleList → Texts → LoadedTexts
loaded_texts read (holding list s) = record { text = Text.None; number = 0; place = 0; list = read; state = s }
loaded_texts read (refused_in text number place) = record { text = text; number = number; place = place; list = read; state = fresh }

abbrev pub rules_in : List ℕ → RuleList
rules_in rules = (rule_text.loaded_of (rule_text.read_lines rules)).list

-- ---- what is reported

-- number 0 with the bytes of output and of state that were written; or the refusal, with its text and place
pub record Report : Type 0 where
  pub text : Text
  pub number : ℕ
  pub place : ℕ
  pub output : ℕ
  pub state : ℕ

abbrev pub refused_report : Text → ℕ → ℕ → Report
refused_report text number place = record { text = text; number = number; place = place; output = 0; state = 0 }

abbrev pub written_report : ℕ → ℕ → Report
written_report output state = record { text = Text.None; number = 0; place = 0; output = output; state = state }

-- what a function answers
abbrev pub report_of : Result Written Refused → Report
report_of (Ok written) = written_report written.output written.state
report_of (Err refusal) = refused_report refusal.text refusal.number refusal.place

-- an Err has the number of a refusal, which is not 0: so the report tells whether Ok or Err is answered
abbrev pub ErrIsRefusal : Result Written Refused → Type 0
ErrIsRefusal (Ok written) = ⊤
ErrIsRefusal (Err refusal) = 0 < refusal.number

-- a lent list: the text and the bytes past it, or every byte as it was
unfoldable pub lent_to : Report → List ℕ → List ℕ → List ℕ
lent_to report text lent = cond (eqb report.number 0) (text ++ drop (length text) lent) lent

-- ---- a text written

-- "lent space shorter than the text" is 18; its place is the length that is needed
unfoldable pub output_report : List ℕ → ℕ → Report
output_report text room = cond (leb (length text) room) (written_report (length text) 0) (refused_report Text.OutputSpace 18 (length text))

-- the same of a saved state
unfoldable pub saved_report : List ℕ → ℕ → Report
saved_report text room = cond (leb (length text) room) (written_report 0 (length text)) (refused_report Text.StateSpace 18 (length text))

-- ---- a rule list read and written again

-- what was read of a text of rules, in either language: written as our text, or refused
unfoldable pub list_report : Text → LoadedRules → ℕ → Report
list_report source read room = cond (eqb read.number 0) (output_report (text_of read.list) room) (refused_report source read.number read.line)

abbrev pub rules_copy_report : LoadedRules → ℕ → Report
rules_copy_report read room = list_report Text.Rules read room

-- ---- a saved state read and written again

unfoldable pub state_in : Texts → List ℕ
state_in (holding list s) = saved_text s
state_in (refused_in text number place) = []

unfoldable pub copy_report : Texts → ℕ → Report
copy_report (holding list s) room = saved_report (saved_text s) room
copy_report (refused_in text number place) room = refused_report text number place

-- ---- steps

-- a list, a state and the steps that run from it; or the text that is refused
pub data SavedOutcome : Type 0 where
  ran_from : RuleList → State → List Step → SavedOutcome
  refused_at : Text → ℕ → ℕ → SavedOutcome

unfoldable pub steps_under : RuleList → State → StepsRead → SavedOutcome
steps_under list s (steps read) = ran_from list s read
steps_under list s (bad line) = refused_at Text.Steps 10 line

unfoldable pub steps_after : Texts → List ℕ → SavedOutcome
steps_after (holding list s) text = steps_under list s (read_steps 1 text)
steps_after (refused_in refused_text number place) text = refused_at refused_text number place

-- the steps are held to the program's length: "19 has line 0 and comes before all else"
unfoldable pub saved_outcome : List ℕ → List ℕ → List ℕ → SavedOutcome
saved_outcome rules saved text = cond (ltb 65536 (length text)) (refused_at Text.Steps 19 0) (steps_after (load_texts rules saved) text)

-- the answers, a line a step
unfoldable pub answers_of : SavedOutcome → List ℕ
answers_of (ran_from list s read) = answers_text (run_of list s read)
answers_of (refused_at text number place) = []

-- the state after the last step
unfoldable pub state_of : SavedOutcome → List ℕ
state_of (ran_from list s read) = saved_text (last_state s (run_of list s read))
state_of (refused_at text number place) = []

-- "lent space shorter than the text or answers" is 18, with the length that is needed; the answers' space comes first
unfoldable pub fitted : List ℕ → List ℕ → ℕ → ℕ → Report
fitted answers state answers_room state_room =
    cond (leb (length answers) answers_room)
    (cond (leb (length state) state_room) (written_report (length answers) (length state)) (refused_report Text.StateSpace 18 (length state)))
    (refused_report Text.OutputSpace 18 (length answers))

unfoldable pub run_report : SavedOutcome → ℕ → ℕ → Report
run_report (ran_from list s read) answers_room state_room = fitted (answers_of (ran_from list s read)) (state_of (ran_from list s read)) answers_room state_room
run_report (refused_at text number place) answers_room state_room = refused_report text number place

-- the report, and every lent byte of both spaces
pub record Ran (outcome : SavedOutcome) (answers next : List ℕ) (report : Report) (answers' next' : List ℕ) : Type 0 where
  pub reported : report ≡ run_report outcome (length answers) (length next)
  pub answered : answers' ≡ lent_to report (answers_of outcome) answers
  pub saved : next' ≡ lent_to report (state_of outcome) next
