-- 2026-06: the cause of each number, in plain words over the text of a line or over the list that is to be written; neither reading nor
-- writing is used. That a number is given where its cause is there, and only there, is proved in proofs/Causes.antt, proofs/Back.antt and
-- proofs/Room.antt.
-- Assumes nothing.
use Rattle.std.specs.Prelude.{◌≡◌, true, false, List, ◌++◌, ℕ, suc, ◌≤◌, ◌<◌, length, get_or}
use Rattle.forms.specs.Forms.{fill, values_fit}
use Rattle.forms.specs.Tables.{form_at}
use Rattle.rules.specs.Acceptance.{rule_in_range, rule_distinct, rule_accepted, right_at, every, rules_of}
use Rattle.rules.specs.declared.families.Rule.{Rule}
use Rattle.rules.specs.declared.families.Rule.TheVariants.{Prerequisite, MaxUsers, MaxRoles, MaxActive, Dependency}
use Rattle.rules.specs.declared.rights.Right.TheVariants.{Unstated, Permission}
use Rattle.rules.specs.declared.lists.RuleList.{RuleList}
use Rattle.rule_text.specs.Lines.{list_text, filler}
use Rattle.policy_text.specs.Lines.{policy_forms, policy_count, policy_text}

-- "these five kinds"
pub data OfFiveKinds : Rule → Type 0 where
  before : (r q : ℕ) → OfFiveKinds (Prerequisite r q)
  max_users : (r limit : ℕ) → OfFiveKinds (MaxUsers r limit)
  max_roles : (limit : ℕ) → OfFiveKinds (MaxRoles limit)
  max_active : (limit : ℕ) → OfFiveKinds (MaxActive limit)
  needs : (r q : ℕ) → OfFiveKinds (Dependency r q)

-- ---- reading

-- form k with these values is the front of the text
pub record Stands (text : List ℕ) (k : ℕ) (values : List ℕ) : Type 0 where
  pub form : k < policy_count
  pub fits : values_fit (form_at policy_forms k) values ≡ true
  pub rest : List ℕ
  pub reads : text ≡ fill (form_at policy_forms k) values ++ rest

-- the policy of a rule of the five kinds, under the number n, is the front of the text, each number in its range
pub record PolicyStands (text : List ℕ) (n : ℕ) (rule : Rule) : Type 0 where
  pub first : 1 ≤ n
  pub last : n ≤ 128
  pub kind : OfFiveKinds rule
  pub fits_range : rule_in_range rule ≡ true
  pub rest : List ℕ
  pub reads : text ≡ policy_text n rule ++ rest

-- a line where rule n is the next
pub data Cause (n : ℕ) (text : List ℕ) : ℕ → Type 0 where
  -- "55 line outside this subset"
  outside_subset : ((k : ℕ) (values : List ℕ) → Stands text k values → ⊥) → Cause n text 55
  -- "number outside its range": a form with some numbers stands there, and no policy in range, under no number in range
  out_of_range : (k : ℕ) (values : List ℕ) → Stands text k values → ((m : ℕ) (rule : Rule) → PolicyStands text m rule → ⊥) → Cause n text 11
  -- "rule number not the next"
  not_next : (m : ℕ) (rule : Rule) → PolicyStands text m rule → (m ≡ n → ⊥) → Cause n text 12
  -- "same role or permission twice in a rule"
  same_twice : (rule : Rule) → PolicyStands text n rule → rule_distinct rule ≡ false → Cause n text 13

-- rules that can stand in a text of policies
pub record GoodPolicies (rules : List Rule) : Type 0 where
  pub few : length rules ≤ 128
  pub accepted : every rule_accepted rules ≡ true
  pub kinds : (i : ℕ) → i < length rules → OfFiveKinds (get_or rules i filler)

-- "the first bad line counts": good policies stand before line n, and it has the cause of the number
pub record FirstBad (text : List ℕ) (number n : ℕ) : Type 0 where
  pub rules : List Rule
  pub good : GoodPolicies rules
  pub before : n ≡ suc (length rules)
  pub rest : List ℕ
  pub some : 0 < length rest
  pub reads : text ≡ list_text policy_text 1 rules ++ rest
  pub cause : Cause (suc (length rules)) rest number

-- ---- writing

-- no kind has a right
abbrev pub NoRight : RuleList → Type 0
NoRight list = (kind : ℕ) → kind < 6 → right_at list.rights kind ≡ Unstated

-- "56 on writing, with the lowest rule that has no such line; a right line gives 56 with rule 0"
pub data HasNoLine (list : RuleList) : ℕ → Type 0 where
  right_line : (kind permission : ℕ) → kind < 6 → right_at list.rights kind ≡ Permission permission → HasNoLine list 0
  lowest_rule : (i : ℕ) → NoRight list → i < length (rules_of list) → (OfFiveKinds (get_or (rules_of list) i filler) → ⊥)
      → ((j : ℕ) → j < i → OfFiveKinds (get_or (rules_of list) j filler)) → HasNoLine list (suc i)

-- a list that can be written: "A list of these five kinds", and no right line
pub record Expressible (list : RuleList) : Type 0 where
  pub no_right : NoRight list
  pub kinds : (i : ℕ) → i < length (rules_of list) → OfFiveKinds (get_or (rules_of list) i filler)
