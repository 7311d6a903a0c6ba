-- Document 01, 'Texts' and 'Refused': what reading a rule list gives. "For each text line in order 10, 11, 12, 13, 14 (rules)"; "the
-- first bad line counts". 2026-05: right lines come before the rules. What each refusal says of the text is proved in proofs/Causes.antt.
-- Assumes nothing.
use Rattle.std.specs.Prelude.{Option, Some, None, ◌≡◌, cond, not, ◌&&◌, List, [], ◌∷◌, map, Result, Ok, Err, ℕ, zero, suc, ◌+◌, ◌≤◌, ◌<◌, length, drop, get_or, replicate, eqb, leb}
use Rattle.std.proofs.lemmas.List.Edits.{sets}
use Rattle.forms.specs.Forms.{all_in_range}
use Rattle.forms.specs.Tables.{form_at, found}
use Rattle.forms.specs.declared.tables.Found.{Found}
use Rattle.rules.specs.Acceptance.{rule_distinct, rule_sound, unstated, right_at}
use Rattle.rules.specs.declared.families.Rule.{Rule}
use Rattle.rules.specs.declared.rights.Right.{Right}
use Rattle.rules.specs.declared.rights.Right.TheVariants.{Unstated, Permission}
use Rattle.rules.specs.declared.rights.RightSlot.{RightSlot}
use Rattle.rules.specs.declared.lists.Slot.{Slot}
use Rattle.rules.specs.declared.lists.RuleList.{RuleList}
use Rattle.rule_text.specs.Refusals.{refusal_number, number_if}
use Rattle.rule_text.specs.Lines.{rule_forms, form_count, rule_form_count, narrow, line_count, next_line, rule_of_form, filler}
use Rattle.rule_text.specs.declared.rights.RightRead.{RightRead}
use Rattle.rule_text.specs.declared.rights.RightsRead.{RightsRead}
use Rattle.rule_text.specs.declared.reading.Parsed.{Parsed}
use Rattle.rule_text.specs.declared.reading.Prefix.{Prefix}
use Rattle.rule_text.specs.declared.refusals.BadLine.{BadLine}

-- ---- the rights

abbrev pub no_right : RightRead
no_right = record { right = Unstated; length = 0 }

abbrev pub right_told : Option RightRead → RightRead
right_told None = no_right
right_told (Some read) = read

-- what was found at the front of a text, where a kind's line may stand: it is that line, with its permission in range, or is left for the rules
unfoldable pub right_after : ℕ → Found → RightRead
right_after kind f =
    cond (eqb f.form (rule_form_count + kind) && all_in_range (form_at rule_forms f.form) f.values)
    (record { right = Permission (narrow (get_or f.values 0 0)); length = f.length })
    no_right

unfoldable pub read_right : ℕ → List ℕ → RightRead
read_right kind text = right_after kind (found rule_forms text)

abbrev pub right_slot : Right → RightSlot
right_slot right = record { right = right }

abbrev pub right_then : RightRead → RightsRead → RightsRead
right_then read next = record { rights = right_slot read.right ∷ next.rights; length = read.length + next.length; lines = line_count read.right + next.lines }

-- so many kinds from one on: "one line a kind in that order"
unfoldable pub rights_from : ℕ → ℕ → List ℕ → RightsRead
rights_from zero kind text = record { rights = []; length = 0; lines = 0 }
rights_from (suc kinds) kind text = right_then (read_right kind text) (rights_from kinds (suc kind) (drop (read_right kind text).length text))

abbrev pub read_rights : List ℕ → RightsRead
read_rights text = rights_from 6 0 text

-- ---- a line after the rights

-- the rule that was found is accepted, or refused
unfoldable pub rule_read : Rule → ℕ → Result Parsed ℕ
rule_read rule length =
    -- "same role or permission twice in a rule"
    cond (not (rule_distinct rule)) (Err 13)
    -- "no such date, A after B, h = k, box a > c or b > d"
    (cond (not (rule_sound rule)) (Err 14)
    (Ok (record { rule = rule; length = length })))

-- what was found at the front of a text, where rule n is the next and the rights were read
unfoldable pub line_after : ℕ → Found → Result Parsed ℕ
line_after n f =
    -- "line is no form of its text"
    cond (eqb f.form form_count) (Err 10)
    -- "number outside its range"
    (cond (not (all_in_range (form_at rule_forms f.form) f.values)) (Err 11)
    -- 2026-05: "A right line that is second of its kind, out of order or after a rule is 12."
    (cond (leb rule_form_count f.form) (Err 12)
    -- "rule number not the next"
    (cond (not (eqb (get_or f.values 0 0) n)) (Err 12)
    (rule_read (rule_of_form f.form f.values) f.length))))

unfoldable pub read_line : ℕ → List ℕ → Result Parsed ℕ
read_line n text = line_after n (found rule_forms text)

-- ---- lines, as long as they are good

-- the rules of the good lines, their bytes, and the refusal of the line after them: 0 where the text ends there
pub record RulesRead : Type 0 where
  pub rules : List Rule
  pub length : ℕ
  pub number : ℕ

abbrev pub stopped : ℕ → RulesRead
stopped number = record { rules = []; length = 0; number = number }

abbrev pub length_in : Result Parsed ℕ → ℕ
length_in (Ok entry) = entry.length
length_in (Err number) = 0

abbrev pub number_in : Result Parsed ℕ → ℕ
number_in (Ok entry) = 0
number_in (Err number) = number

abbrev pub line_then : Result Parsed ℕ → RulesRead → RulesRead
line_then (Ok entry) lines = record { rules = entry.rule ∷ lines.rules; length = entry.length + lines.length; number = lines.number }
line_then (Err number) lines = stopped number

-- from rule n on, by what reading a line gives; the second argument bounds the lines that are read
unfoldable pub read_from : (ℕ → List ℕ → Result Parsed ℕ) → ℕ → ℕ → List ℕ → RulesRead
read_from read zero n text = stopped 0
read_from read (suc bound) n [] = stopped 0
read_from read (suc bound) n (c ∷ text) = line_then (read n (c ∷ text)) (read_from read bound (suc n) (drop (length_in (read n (c ∷ text))) (c ∷ text)))

-- the rights before them, and the bytes of both
pub record LinesRead : Type 0 where
  pub rights : List RightSlot
  pub rules : List Rule
  pub length : ℕ
  pub number : ℕ

abbrev pub rights_then : RightsRead → RulesRead → LinesRead
rights_then before lines = record { rights = before.rights; rules = lines.rules; length = before.length + lines.length; number = lines.number }

-- "Rules are numbered 1 to 128.": no line after the 128th rule's is good, so that 129 lines are enough
unfoldable pub read_lines : List ℕ → LinesRead
read_lines text = rights_then (read_rights text) (read_from read_line 129 1 (drop (read_rights text).length text))

-- ---- as the code returns it

abbrev pub slot : Rule → Slot
slot rule = record { rule = rule }

unfoldable pub unused_slots : List Slot
unused_slots = replicate 128 (slot filler)

-- no kind has a right
unfoldable pub no_rights : List RightSlot
no_rights = replicate 6 unstated

-- the rights, and the rules in 128 slots with the filler after them
unfoldable pub list_of : List RightSlot → List Rule → RuleList
list_of rights rules = record { slots = sets unused_slots 0 (map slot rules); length = length rules; rights = rights }

-- the same list: its length, the rules below it, past it the filler, and the right of each kind
pub record SameRules (list read : RuleList) : Type 0 where
  pub same_length : read.length ≡ list.length
  pub below : (i : ℕ) → i < list.length → get_or read.slots i (slot filler) ≡ get_or list.slots i (slot filler)
  pub past : (i : ℕ) → list.length ≤ i → i < 128 → get_or read.slots i (slot filler) ≡ slot filler
  pub same_rights : (kind : ℕ) → kind < 6 → right_at read.rights kind ≡ right_at list.rights kind

-- the good lines at the front of a text, and the line after them with the number of its refusal
pub record PrefixRead : Type 0 where
  pub list : RuleList
  pub length : ℕ
  pub number : ℕ
  pub line : ℕ

unfoldable pub prefix_of : LinesRead → PrefixRead
prefix_of lines =
    record { list = list_of lines.rights lines.rules; length = lines.length; number = lines.number; line = next_line lines.rights lines.rules }

abbrev pub prefix_told : Prefix → PrefixRead
prefix_told prefix = record { list = prefix.list; length = prefix.length; number = number_if prefix.refusal; line = prefix.line }

-- 0, 0 and the list; or the number and line of the first bad line, "nothing loaded"
pub record LoadedRules : Type 0 where
  pub number : ℕ
  pub line : ℕ
  pub list : RuleList

unfoldable pub loaded_of : LinesRead → LoadedRules
loaded_of lines =
    cond (eqb lines.number 0)
    (record { number = 0; line = 0; list = list_of lines.rights lines.rules })
    (record { number = lines.number; line = next_line lines.rights lines.rules; list = list_of no_rights [] })

-- what reading a text returns
abbrev pub read_rules : List ℕ → LoadedRules
read_rules text = loaded_of (read_lines text)

abbrev pub loaded_as : Result RuleList BadLine → LoadedRules
loaded_as (Ok list) = record { number = 0; line = 0; list = list }
loaded_as (Err bad) = record { number = refusal_number bad.refusal; line = bad.line; list = list_of no_rights [] }
