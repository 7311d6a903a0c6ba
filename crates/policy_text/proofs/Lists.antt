-- A whole text of policies: what reading its lines gives, and what text gives it.
-- Assumes nothing.
use mathlib.Core.Path.{◌≡◌}
use mathlib.Core.Bool.{true}
use mathlib.Core.Logic.{◌⊎◌}
use mathlib.Core.List.{List, [], ◌++◌}
use Prim.Native.Nat.{ℕ, suc, ◌+◌, ◌≤◌, ◌<◌}
use native.Mathlib.Nat.{zero-add}
use native.Mathlib.Omega.{arith}
use lib.ListN.{length, get_or}
use Rattle.sets.proofs.Booleans.{both_true, left-true, right-true}
use Rattle.rules.specs.Acceptance.{rule_accepted, every}
use Rattle.rules.specs.declared.families.Rule.{Rule}
use Rattle.rules.proofs.Every.{every_of, every-both}
use Rattle.rules.proofs.RuleLists.{passes-at, passes-all}
use Rattle.rule_text.specs.Lines.{filler, list_text}
use Rattle.rule_text.specs.Reading.{LinesRead, read_from, no_rights}
use Rattle.rule_text.specs.Causes.{GoodLines}
use Rattle.rule_text.proofs.NumberedLines.{reads-from, lines-whole, lines-until}
use Rattle.rule_text.proofs.Slots.{none-good}
use Rattle.policy_text.specs.Lines.{has_policy, policy_text}
use Rattle.policy_text.specs.Reading.{read_policy, policies_read}
use Rattle.policy_text.specs.Causes.{Cause, outside_subset, out_of_range, not_next, same_twice, GoodPolicies}
use Rattle.policy_text.proofs.Table.{has-kind, kind-has}
use Rattle.policy_text.proofs.Causes.{passes, policy-language}

-- ---- rules that pass

pub good-passes : {rules : List Rule} → GoodPolicies rules → every passes rules ≡ true
good-passes {rules} good =
    every-both rule_accepted has_policy passes (λ rule. both_true (rule_accepted rule) (has_policy rule)) rules good.accepted (passes-all has_policy filler rules (λ i low. kind-has (good.kinds i low)))

passes-good : (rules : List Rule) → length rules ≤ 128 → every passes rules ≡ true → GoodPolicies rules
passes-good rules few passed = record {
  few = few;
  accepted = every_of (Unit {0}) (λ _. passes) rule_accepted (λ rule e. left-true (rule_accepted rule) (has_policy rule) (e tt)) rules (λ _. passed);
  kinds = λ i low.
      let rule = get_or rules i filler in
      has-kind rule (right-true (rule_accepted rule) (has_policy rule) (passes-at passes filler rules passed i low));
}

-- with no right they are good lines of a rule list
pub good-lines : {rules : List Rule} → GoodPolicies rules → GoodLines no_rights rules
good-lines good = record { kinds = none-good.kinds; fits_range = none-good.fits_range; few = good.few; accepted = good.accepted }

-- ---- the refusals

-- a line is refused with 55, 11, 12 or 13 alone
pub data GivenNumber : ℕ → Type 0 where
  given_55 : GivenNumber 55
  given_11 : GivenNumber 11
  given_12 : GivenNumber 12
  given_13 : GivenNumber 13

pub cause-number : {n : ℕ} {text : List ℕ} {number : ℕ} → Cause n text number → GivenNumber number
cause-number (outside_subset none) = given_55
cause-number (out_of_range k values st outside) = given_11
cause-number (not_next m rule st other) = given_12
cause-number (same_twice rule st same) = given_13

-- no refusal is 0
pub cause-some : {n : ℕ} {text : List ℕ} {number : ℕ} → Cause n text number → 0 < number
cause-some cause = go (cause-number cause)
  where
    go : {number : ℕ} → GivenNumber number → 0 < number
    go given_55 = omega arith
    go given_11 = omega arith
    go given_12 = omega arith
    go given_13 = omega arith

-- ---- the lines of a text, as read

-- the text is the policies of the rules, and ends, or goes on with a line that has the cause of the number
pub record Reads (text : List ℕ) (lines : LinesRead) : Type 0 where
  pub good : GoodPolicies lines.rules
  pub rest : List ℕ
  pub reads : text ≡ list_text policy_text 1 lines.rules ++ rest
  pub stops : ((lines.number ≡ 0) × (rest ≡ [])) ⊎ ((0 < length rest) × Cause (suc (length lines.rules)) rest lines.number)

pub reads_lines : (text : List ℕ) → Reads text (policies_read text)
unfolding policies_read
reads_lines text =
    let lines = read_from read_policy 129 1 text in
    let there = reads-from policy-language 129 1 text (omega arith) (omega arith) (omega arith) tt in
    let next : 1 + length lines.rules ≡ suc (length lines.rules) = omega arith in
    record {
      good = passes-good lines.rules (omega (arith, there.few)) there.passed;
      rest = there.rest;
      reads = there.reads;
      stops = rw next at there.stops;
    }

-- ---- and policies, where the text ends or goes on with a line that has a cause, are read so

-- the lines of these rules
abbrev pub lines_of : List Rule → ℕ → LinesRead
lines_of rules number = record { rights = no_rights; rules = rules; length = length (list_text policy_text 1 rules); number = number }

module _ (rules : List Rule) (good : GoodPolicies rules) where
  pub reads_whole : policies_read (list_text policy_text 1 rules) ≡ lines_of rules 0
  unfolding policies_read
  reads_whole = rw (lines-whole policy-language rules good.few (good-passes good), zero-add)

  pub reads-until : (rest : List ℕ) (number : ℕ) → 0 < length rest → Cause (suc (length rules)) rest number → policies_read (list_text policy_text 1 rules ++ rest) ≡ lines_of rules number
  unfolding policies_read
  reads-until rest number some cause = rw (lines-until policy-language rules good.few (good-passes good) rest number some cause, zero-add)
