-- Document 01, 'Refused': the cause of each number, in plain words over the text of a line; reading is not used. That a line is refused
-- with a number where it has that cause, and only there, is proved in proofs/Causes.antt.
-- Assumes nothing.
use Rattle.std.specs.Prelude.{◌≡◌, true, false, List, ◌++◌, ℕ, suc, ◌≤◌, ◌<◌, length}
use Rattle.forms.specs.Forms.{fill, values_fit}
use Rattle.forms.specs.Tables.{form_at}
use Rattle.rules.specs.Acceptance.{is_permission, rule_in_range, rule_distinct, rule_sound, rule_accepted, right_at, right_accepted, every}
use Rattle.rules.specs.declared.families.Rule.{Rule}
use Rattle.rules.specs.declared.rights.Right.TheVariants.{Permission}
use Rattle.rules.specs.declared.rights.RightSlot.{RightSlot}
use Rattle.rule_text.specs.Lines.{rule_forms, form_count, rule_text, right_text, lines_text, next_line}
use Rattle.rule_text.specs.declared.reading.Parsed.{Parsed}

-- form k with these values is the front of the text
pub record Stands (text : List ℕ) (k : ℕ) (values : List ℕ) : Type 0 where
  pub form : k < form_count
  pub fits : values_fit (form_at rule_forms k) values ≡ true
  pub rest : List ℕ
  pub reads : text ≡ fill (form_at rule_forms k) values ++ rest

-- rule n is the front of the text, each number in its range
pub record RuleStands (text : List ℕ) (n : ℕ) (rule : Rule) : Type 0 where
  pub first : 1 ≤ n
  pub last : n ≤ 128
  pub fits_range : rule_in_range rule ≡ true
  pub rest : List ℕ
  pub reads : text ≡ rule_text n rule ++ rest

-- the line of the kind's right is the front of the text, its permission in range
pub record RightStands (text : List ℕ) (kind permission : ℕ) : Type 0 where
  pub known : kind < 6
  pub fits_range : is_permission permission ≡ true
  pub rest : List ℕ
  pub reads : text ≡ right_text kind (Permission permission) ++ rest

-- 2026-05: "A right line that is second of its kind, out of order or after a rule is 12.": a kind's line after the lines of these rights, where
-- rule n is the next
pub data Misplaced (rights : List RightSlot) (n kind : ℕ) : Type 0 where
  second_of_kind : (earlier : ℕ) → right_at rights kind ≡ Permission earlier → Misplaced rights n kind
  out_of_order : (later earlier : ℕ) → kind < later → right_at rights later ≡ Permission earlier → Misplaced rights n kind
  after_rule : 1 < n → Misplaced rights n kind

-- a line after the lines of these rights, where rule n is the next
pub data Cause (rights : List RightSlot) (n : ℕ) (text : List ℕ) : ℕ → Type 0 where
  -- "line is no form of its text"
  no_form : ((k : ℕ) (values : List ℕ) → Stands text k values → ⊥) → Cause rights n text 10
  -- "number outside its range": a form with some numbers stands there, and no rule in range, under no number in range, and no right in range
  out_of_range : (k : ℕ) (values : List ℕ) → Stands text k values → ((m : ℕ) (rule : Rule) → RuleStands text m rule → ⊥)
      → ((kind permission : ℕ) → RightStands text kind permission → ⊥) → Cause rights n text 11
  -- "rule number not the next"
  not_next : (m : ℕ) (rule : Rule) → RuleStands text m rule → (m ≡ n → ⊥) → Cause rights n text 12
  misplaced : (kind permission : ℕ) → RightStands text kind permission → Misplaced rights n kind → Cause rights n text 12
  -- "same role or permission twice in a rule"
  same_twice : (rule : Rule) → RuleStands text n rule → rule_distinct rule ≡ false → Cause rights n text 13
  -- "no such date, A after B, h = k, box a > c or b > d"
  unsound : (rule : Rule) → RuleStands text n rule → rule_distinct rule ≡ true → rule_sound rule ≡ false → Cause rights n text 14

-- a good line: rule n, which none of the causes has
pub record GoodLine (n : ℕ) (text : List ℕ) (entry : Parsed) : Type 0 where
  pub stands : RuleStands text n entry.rule
  pub distinct : rule_distinct entry.rule ≡ true
  pub sound : rule_sound entry.rule ≡ true
  pub length : entry.length ≡ length (rule_text n entry.rule)

-- no good line of a right stands there: each that stands there is misplaced
abbrev pub RightsEnd : List RightSlot → ℕ → List ℕ → Type 0
RightsEnd rights n text = (kind permission : ℕ) → RightStands text kind permission → Misplaced rights n kind

-- rights and rules that are accepted: at most one right a kind, at most 128 rules
pub record GoodLines (rights : List RightSlot) (rules : List Rule) : Type 0 where
  pub kinds : length rights ≡ 6
  pub fits_range : (kind : ℕ) → kind < 6 → right_accepted (right_at rights kind) ≡ true
  pub few : length rules ≤ 128
  pub accepted : every rule_accepted rules ≡ true

-- "the first bad line counts": good lines of rights and rules stand before line n, and it has the cause of the number
pub record FirstBad (text : List ℕ) (number n : ℕ) : Type 0 where
  pub rights : List RightSlot
  pub rules : List Rule
  pub good : GoodLines rights rules
  pub before : n ≡ next_line rights rules
  pub rest : List ℕ
  pub some : 0 < length rest
  pub reads : text ≡ lines_text rights rules ++ rest
  pub cause : Cause rights (suc (length rules)) rest number
