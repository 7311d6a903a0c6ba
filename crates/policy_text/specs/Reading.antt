-- 2026-06: what reading policies gives. "Range and number refusals are 11, 12 and 13."; "55 line outside this subset, with its line, in the
-- place of 10". Document 01: "the first bad line counts"; "nothing loaded". What each refusal says of the text is proved in proofs/Causes.antt.
-- Assumes nothing.
use Rattle.std.specs.Prelude.{cond, not, Result, Err, List, ℕ, get_or, eqb}
use Rattle.forms.specs.Forms.{all_in_range}
use Rattle.forms.specs.Tables.{form_at, found}
use Rattle.forms.specs.declared.tables.Found.{Found}
use Rattle.rule_text.specs.Reading.{rule_read, read_from, LinesRead, LoadedRules, rights_then, no_rights, loaded_of}
use Rattle.rule_text.specs.declared.rights.RightsRead.{RightsRead}
use Rattle.rule_text.specs.declared.reading.Parsed.{Parsed}
use Rattle.policy_text.specs.Lines.{policy_forms, policy_count, rule_of_policy}

-- what was found at the front of a text, where rule n is the next
unfoldable pub policy_after : ℕ → Found → Result Parsed ℕ
policy_after n f =
    -- "line outside this subset"
    cond (eqb f.form policy_count) (Err 55)
    -- "number outside its range"
    (cond (not (all_in_range (form_at policy_forms f.form) f.values)) (Err 11)
    -- "rule number not the next"
    (cond (not (eqb (get_or f.values 0 0) n)) (Err 12)
    -- "same role .. twice in a rule" is 13; 14 is about terms and shapes, and no policy has one
    (rule_read (rule_of_policy f.form f.values) f.length)))

unfoldable pub read_policy : ℕ → List ℕ → Result Parsed ℕ
read_policy n text = policy_after n (found policy_forms text)

-- no line of this language states a right
abbrev pub no_right_lines : RightsRead
no_right_lines = record { rights = no_rights; length = 0; lines = 0 }

-- "counted as ours are": from 1 by ones, to 128
unfoldable pub policies_read : List ℕ → LinesRead
policies_read text = rights_then no_right_lines (read_from read_policy 129 1 text)

-- 0, 0 and the list; or the number and line of the first bad line and the empty list
abbrev pub read_policies : List ℕ → LoadedRules
read_policies text = loaded_of (policies_read text)
