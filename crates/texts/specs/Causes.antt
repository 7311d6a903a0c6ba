-- Document 01, 'Texts' and 'Refused': why the program prints `(bad number line)`, and why steps over a saved state are refused, in plain
-- words over the bytes. Reading is used of steps over a saved state alone, where every line is one: `steps-good` of step_text says what it
-- gives. That what is reported has its cause, and no other, is proved in proofs/Causes.antt and proofs/SavedCauses.antt.
-- Assumes nothing.
use Rattle.std.specs.Prelude.{ℕ, suc, ◌+◌, ◌≤◌, ◌<◌, ◌≡◌, true, false, List, [], ◌++◌, length, get_or}
use Rattle.forms.specs.Tables.{bytes}
use Rattle.rules.specs.declared.families.Rule.{Rule}
use Rattle.rules.specs.declared.rights.RightSlot.{RightSlot}
use Rattle.rules.specs.declared.lists.RuleList.{RuleList}
use Rattle.enforcement.specs.States.{rule_holds}
use Rattle.enforcement.specs.Plain.{obeys}
use Rattle.enforcement.specs.Gate.{run_of}
use Rattle.enforcement.specs.Runs.{last_state}
use Rattle.enforcement.specs.declared.states.State.{State}
use Rattle.steps.specs.declared.steps.Step.{Step}
use Rattle.rule_text.specs.Lines.{lines_text, next_line, filler}
use Rattle.rule_text.specs.Reading.{list_of}
use Rattle.rule_text.specs.Causes as rule
use Rattle.state_text.specs.Saving.{saved_text}
use Rattle.state_text.specs.Causes.{NoForm, OutOfRange, OutOfOrder, Unrested, ThirtyThird, BadLine, GoodText}
use Rattle.step_text.specs.Lines.{steps, read_steps}
use Rattle.step_text.specs.Rows.{Row}
use Rattle.step_text.specs.Answers.{answers_text}
use Rattle.step_text.specs.Causes as step
use Rattle.texts.specs.declared.saved_runs.Text.{Text}

-- accepted rights, 2026-05: "one line a kind in that order", accepted rules, "numbered from 1 by ones", and what follows them
pub record RulesThen (text : List ℕ) (rights : List RightSlot) (rules : List Rule) (rest : List ℕ) : Type 0 where
  pub good : rule.GoodLines rights rules
  pub reads : text ≡ lines_text rights rules ++ rest

-- ---- the program

-- "only `(bad number line)`": lines are counted over the whole input
pub data BadInput (input : List ℕ) : ℕ → ℕ → Type 0 where
  -- "program input too long"; "19 has line 0 and comes before all else"
  too_long : 65536 < length input → BadInput input 19 0
  -- "A missing `(steps)` is 10 at the line after the last"
  missing_steps : (rights : List RightSlot) (rules : List Rule) → length input ≤ 65536 → RulesThen input rights rules [] → BadInput input 10 (next_line rights rules)
  -- 10 to 14: the line after good rights and rules is not `(steps)`, and has the cause of the number
  bad_rule : (number : ℕ) (rights : List RightSlot) (rules : List Rule) (rest : List ℕ) → length input ≤ 65536 → RulesThen input rights rules rest → 0 < length rest
      → ((more : List ℕ) → rest ≡ bytes "(steps)\n" ++ more → ⊥) → rule.Cause rights (suc (length rules)) rest number → BadInput input number (next_line rights rules)
  -- 10: after `(steps)` the first line that is no step
  bad_step : (rights : List RightSlot) (rules : List Rule) (text : List ℕ) (n : ℕ) → length input ≤ 65536 → RulesThen input rights rules (bytes "(steps)\n" ++ text)
      → step.FirstBadStep 1 text n → BadInput input 10 (next_line rights rules + n)

-- "rules, `(steps)`, steps": nothing is bad, and these lines are run under these rules
pub record RunsSteps (input : List ℕ) (list : RuleList) (lines : List Row) : Type 0 where
  pub short : length input ≤ 65536
  pub rights : List RightSlot
  pub rules : List Rule
  pub text : List ℕ
  pub before : RulesThen input rights rules (bytes "(steps)\n" ++ text)
  pub same : list ≡ list_of rights rules
  pub given : step.GoodSteps text lines

-- ---- steps over a saved state

-- the saved text, where the rules are accepted: "10, 11, 15, 16 (saved) ..; the first bad line counts, then 17"; 2026-01: "a thirty-third is
-- 51 with its line, looked for after 16"
pub data StateCause (rules : List Rule) (saved : List ℕ) : ℕ → ℕ → Type 0 where
  state_no_form : (n : ℕ) → BadLine NoForm saved n → StateCause rules saved 10 n
  state_out_of_range : (n : ℕ) → BadLine (λ earlier rest. OutOfRange rest) saved n → StateCause rules saved 11 n
  state_out_of_order : (n : ℕ) → BadLine OutOfOrder saved n → StateCause rules saved 15 n
  state_unrested : (n : ℕ) → BadLine Unrested saved n → StateCause rules saved 16 n
  state_thirty_third : (n : ℕ) → BadLine ThirtyThird saved n → StateCause rules saved 51 n
  -- "saved state breaks a rule", with the "lowest rule"
  state_breaks : (s : State) (n : ℕ) → GoodText saved s → n < length rules → rule_holds (get_or rules n filler) s ≡ false
      → ((k : ℕ) → k < n → rule_holds (get_or rules k filler) s ≡ true) → StateCause rules saved 17 (suc n)

-- both texts are accepted
pub record TextsHold (rules saved : List ℕ) (rights : List RightSlot) (read : List Rule) (s : State) : Type 0 where
  pub all_rules : RulesThen rules rights read []
  pub all_lines : GoodText saved s
  pub all_hold : obeys read s ≡ true

-- steps run over a saved state
pub record RunsSaved (rules saved text : List ℕ) (list : RuleList) (s : State) (given : List Step) : Type 0 where
  pub short : length text ≤ 65536
  pub rights : List RightSlot
  pub read : List Rule
  pub texts : TextsHold rules saved rights read s
  pub same : list ≡ list_of rights read
  pub all_steps : read_steps 1 text ≡ steps given

-- which text or space is refused, by which number, at which place (a line, for 17 a rule, for 18 the length that is needed)
pub data RunRefused (rules saved text : List ℕ) (answers_room state_room : ℕ) : Text → ℕ → ℕ → Type 0 where
  -- the steps are held to the program's length: "19 has line 0 and comes before all else"
  long_steps : 65536 < length text → RunRefused rules saved text answers_room state_room Text.Steps 19 0
  bad_rules : (number n : ℕ) → length text ≤ 65536 → rule.FirstBad rules number n → RunRefused rules saved text answers_room state_room Text.Rules number n
  bad_state : (rights : List RightSlot) (read : List Rule) (number place : ℕ) → length text ≤ 65536 → RulesThen rules rights read [] → StateCause read saved number place
      → RunRefused rules saved text answers_room state_room Text.State number place
  bad_steps : (rights : List RightSlot) (read : List Rule) (s : State) (n : ℕ) → length text ≤ 65536 → TextsHold rules saved rights read s → step.FirstBadStep 1 text n
      → RunRefused rules saved text answers_room state_room Text.Steps 10 n
  -- "lent space shorter than the text or answers"; the answers' space comes first
  short_answers : (list : RuleList) (s : State) (given : List Step) → RunsSaved rules saved text list s given
      → answers_room < length (answers_text (run_of list s given))
      → RunRefused rules saved text answers_room state_room Text.OutputSpace 18 (length (answers_text (run_of list s given)))
  short_state : (list : RuleList) (s : State) (given : List Step) → RunsSaved rules saved text list s given
      → length (answers_text (run_of list s given)) ≤ answers_room → state_room < length (saved_text (last_state s (run_of list s given)))
      → RunRefused rules saved text answers_room state_room Text.StateSpace 18 (length (saved_text (last_state s (run_of list s given))))

-- and nothing is: the steps run, and the answers and the state after the last step fit their spaces
pub record RunWritten (rules saved text : List ℕ) (answers_room state_room answers state : ℕ) : Type 0 where
  pub list : RuleList
  pub start : State
  pub given : List Step
  pub runs : RunsSaved rules saved text list start given
  pub answered : answers ≡ length (answers_text (run_of list start given))
  pub left : state ≡ length (saved_text (last_state start (run_of list start given)))
  pub answers_fit : answers ≤ answers_room
  pub state_fits : state ≤ state_room
