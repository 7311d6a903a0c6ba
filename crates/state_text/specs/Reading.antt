-- Document 01, 'Refused': "For each text line in order .. 10, 11, 15, 16 (saved) ..; the first bad line counts, then 17. The 40 of rules
-- handed in with a saved text comes before them all." Request 2026-01: "a thirty-third is 51 with its line, looked for after 16".
-- Assumes nothing.
use Rattle.std.specs.Prelude.{ℕ, zero, suc, cond, List, [], ◌∷◌, length, drop, ltb, Option, Some, None, Result, Ok, Err}
use Rattle.forms.specs.Forms.{all_in_range}
use Rattle.forms.specs.Tables.{form_at, found}
use Rattle.forms.specs.declared.tables.Found.{Found}
use Rattle.rules.specs.Acceptance.{rules_of, list_accepted}
use Rattle.rules.specs.declared.lists.RuleList.{RuleList}
use Rattle.rules.specs.Lowest.{lowest}
use Rattle.enforcement.specs.States.{fresh, rule_holds}
use Rattle.enforcement.specs.declared.states.State.{State}
use Rattle.state_text.specs.Entries.{saved_forms, entry_of, rank, in_order, with_line, rests, has_room}
use Rattle.state_text.specs.Refusals.{number_of, place_of}
use Rattle.state_text.specs.declared.entries.Entry.{Entry}
use Rattle.state_text.specs.declared.entries.Entry.TheVariants.{Now}
use Rattle.state_text.specs.declared.reading.Parsed.{Parsed}
use Rattle.state_text.specs.declared.causes.Refusal.{Refusal}

-- ---- one line: "line is no form of its text" is 10, "number outside its range" is 11

unfoldable pub line_after : Found → Result Parsed ℕ
line_after f =
    cond (ltb f.form 9)
    (cond (all_in_range (form_at saved_forms f.form) f.values) (Ok (record { entry = entry_of f.form f.values; length = f.length })) (Err 11))
    (Err 10)

-- the line at the front of a text
unfoldable pub read_line : List ℕ → Result Parsed ℕ
read_line text = line_after (found saved_forms text)

abbrev pub entry_in : Result Parsed ℕ → Entry
entry_in (Ok parsed) = parsed.entry
entry_in (Err number) = Now 0

abbrev pub length_in : Result Parsed ℕ → ℕ
length_in (Ok parsed) = parsed.length
length_in (Err number) = 0

-- ---- all lines: the state, or the first refusal with its line

pub data Loading : Type 0 where
  loaded : State → Loading
  refused : ℕ → ℕ → Loading

-- line n after the state s; `later` is what follows where the line is good
abbrev pub line_verdict : ℕ → ℕ → State → Result Parsed ℕ → Loading → Loading
line_verdict n next s (Err number) later = refused number n
line_verdict n next s (Ok parsed) later =
    cond (in_order next parsed.entry)
    (cond (rests s parsed.entry) (cond (has_room s parsed.entry) later (refused 51 n)) (refused 16 n))
    (refused 15 n)

-- the text from line n on; the first number bounds the lines that are read
unfoldable pub read_from : ℕ → ℕ → ℕ → State → List ℕ → Loading
read_from zero n next s [] = loaded s
read_from zero n next s (c ∷ text) = refused 10 n
read_from (suc bound) n next s [] = loaded s
read_from (suc bound) n next s (c ∷ text) =
    line_verdict n next s (read_line (c ∷ text))
    (read_from bound (suc n) (suc (rank (entry_in (read_line (c ∷ text))))) (with_line s (entry_in (read_line (c ∷ text)))) (drop (length_in (read_line (c ∷ text))) (c ∷ text)))

-- "an empty saved text is 10 at line 1"; a line has a byte at least, so that as many lines as bytes are enough
unfoldable pub read_lines : List ℕ → Loading
read_lines [] = refused 10 1
read_lines (c ∷ text) = read_from (suc (length text)) 1 0 fresh (c ∷ text)

-- ---- "saved state breaks a rule" is 17, with the "lowest rule"

abbrev pub unless_broken : State → Option ℕ → Loading
unless_broken s None = loaded s
unless_broken s (Some n) = refused 17 n

abbrev pub under_rules : RuleList → Loading → Loading
under_rules list (loaded s) = unless_broken s (lowest (λ rule. rule_holds rule s) 1 (rules_of list))
under_rules list (refused number place) = refused number place

unfoldable pub read_state : RuleList → List ℕ → Loading
read_state list text = cond (list_accepted list) (under_rules list (read_lines text)) (refused 40 0)

-- what is returned: the state, or the number of the refusal with its line or rule
abbrev pub outcome : Result State Refusal → Loading
outcome (Ok s) = loaded s
outcome (Err refusal) = refused (number_of refusal) (place_of refusal)

-- the same of the lines alone, which are read into a state that is lent
abbrev pub outcome_in : State → Result Unit Refusal → Loading
outcome_in s (Ok done) = loaded s
outcome_in s (Err refusal) = refused (number_of refusal) (place_of refusal)
