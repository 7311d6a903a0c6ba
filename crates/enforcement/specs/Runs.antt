-- Document 01, 'The plain gate': "A list of steps is handed over whole, with a list for its answers; entries beyond the steps stay. First
-- 40, then 18, refuse the list as a whole, and neither gate then runs a step of it".
-- Assumes nothing.
use Rattle.std.specs.Prelude.{ℕ, ◌≤◌, ◌≡◌, true, cond, ◌&&◌, List, [], ◌∷◌, ◌++◌, map, eqb, ltb, length, drop, Result, Ok, Err}
use Rattle.rules.specs.Acceptance.{rules_of, list_accepted}
use Rattle.rules.specs.declared.families.Rule.{Rule}
use Rattle.rules.specs.declared.lists.RuleList.{RuleList}
use Rattle.selection.specs.Selection.{selects, selected_number}
use Rattle.enforcement.specs.States.{fresh, state_accepted}
use Rattle.steps.specs.Steps.{action_of}
use Rattle.enforcement.specs.Decisions.{Decision, granted, refused, Verdict}
use Rattle.enforcement.specs.Plain.{plain_run}
use Rattle.enforcement.specs.Gate.{run_of}
use Rattle.steps.specs.Answers.{packed_of, word_of}
use Rattle.enforcement.specs.declared.states.State.{State}
use Rattle.steps.specs.declared.steps.Step.{Step}
use Rattle.enforcement.specs.declared.states.Next.{Next}
use Rattle.enforcement.specs.declared.runs.Ran.{Ran}
use Rattle.enforcement.specs.declared.runs.RunRefusal.{RunRefusal}
use Rattle.enforcement.specs.declared.runs.RunRefusal.TheVariants.{NotAccepted, NoRoom}

-- ---- our gate

-- the number that refuses a list of steps as a whole; 0 where none does
unfoldable pub refusal_of : RuleList → State → ℕ → ℕ → ℕ
refusal_of list s steps room = cond (list_accepted list && state_accepted s) (cond (ltb room steps) 18 0) 40

abbrev pub run_number : RunRefusal → ℕ
run_number NotAccepted = 40
run_number NoRoom = 18

-- the number of an admission: 0 where the steps run
abbrev pub admitted : Result Unit RunRefusal → ℕ
admitted (Ok passed) = 0
admitted (Err refusal) = run_number refusal

-- the state that the last step hands back
unfoldable pub last_state : State → List Next → State
last_state s [] = s
last_state s (next ∷ rest) = last_state next.state rest

unfoldable pub ran_of : RuleList → State → List Step → ℕ → Ran
ran_of list s steps room =
    record {
      number = refusal_of list s (length steps) room;
      state = cond (eqb (refusal_of list s (length steps) room) 0) (last_state s (run_of list s steps)) s;
    }

-- the answers as numbers
abbrev pub entries_of : List Next → List ℕ
entries_of run = map (λ (next : Next). word_of next.answer) run

unfoldable pub entries_written : RuleList → State → List Step → List ℕ → List ℕ
entries_written list s steps entries =
    cond (eqb (refusal_of list s (length steps) (length entries)) 0) (entries_of (run_of list s steps) ++ drop (length steps) entries) entries

-- ---- the plain gate, "the number selected is fixed by the table instead"

-- "the decision (yes or the refusal's number)" as one number: yes is 0
abbrev pub decision_number : Decision → ℕ
decision_number granted = 0
decision_number (refused number) = number

-- what the table says: the number of rules selected for a granted step and a 30, else 0
abbrev pub table_number : List Rule → Step → Decision → ℕ
table_number rules step granted = selected_number (selects (action_of step)) rules
table_number rules step (refused number) = cond (eqb number 30) (selected_number (selects (action_of step)) rules) 0

unfoldable pub plain_words : List Rule → List Step → List Verdict → List ℕ
plain_words rules [] verdicts = []
plain_words rules (step ∷ steps) [] = []
plain_words rules (step ∷ steps) (v ∷ verdicts) =
    packed_of (decision_number v.decision) v.rule (table_number rules step v.decision) v.ended_number ∷ plain_words rules steps verdicts

abbrev pub plain_entries : RuleList → List Step → List ℕ
plain_entries list steps = plain_words (rules_of list) steps (plain_run list fresh steps)

unfoldable pub last_verdict : State → List Verdict → State
last_verdict s [] = s
last_verdict s (v ∷ verdicts) = last_verdict v.state verdicts

abbrev pub plain_state : RuleList → List Step → State
plain_state list steps = last_verdict fresh (plain_run list fresh steps)

-- ---- what `run` promises

-- "entries beyond the steps stay": from any state the number, the state and every entry
abbrev pub RunGiven : RuleList → State → List Step → List ℕ → Ran → List ℕ → Type 0
RunGiven list s steps before ran after = (ran ≡ ran_of list s steps (length before)) × (after ≡ entries_written list s steps before)

-- from a fresh state, under an accepted list and with room for the answers, they are the plain gate's
abbrev pub RunPlain : RuleList → State → List Step → List ℕ → Ran → List ℕ → Type 0
RunPlain list s steps before ran after =
    s ≡ fresh → list_accepted list ≡ true → length steps ≤ length before →
    (ran.number ≡ 0) × (ran.state ≡ plain_state list steps) × (after ≡ plain_entries list steps ++ drop (length steps) before)
