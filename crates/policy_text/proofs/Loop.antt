-- The loop of `read_policies`: what was read and what reading the rest gives are together what reading the text gives.
-- Assumes nothing.
use mathlib.Core.Path.{◌≡◌, refl, sym, ap, ◌∙◌}
use mathlib.Core.List.{List, []}
use Prim.Native.Nat.{ℕ, suc, ◌+◌, ◌-◌, ◌≤◌, ◌<◌}
use native.Mathlib.Omega.{arith}
use lib.ListN.{length, take, drop, length-drop}
use Rattle.forms.proofs.Turns as turns
use Rattle.rules.specs.declared.lists.RuleList.{RuleList}
use Rattle.rule_text.specs.Lines.{right_lines}
use Rattle.rule_text.specs.Reading.{number_in, read_from, no_rights, list_of, unused_slots, prefix_of}
use Rattle.rule_text.specs.declared.reading.Parsed.{Parsed}
use Rattle.std.specs.Prelude.{Result, Ok, Err}
use Rattle.rule_text.proofs.LineLoop.{onto, Inv, with_rule, fits, small, turn, stop, end}
use Rattle.rule_text.proofs.Prefixes.{start-same}
use Rattle.rule_text.proofs.Loaded.{load-bad, load-whole}
use Rattle.policy_text.specs.Reading.{read_policy, no_right_lines, policies_read, read_policies}
use Rattle.policy_text.proofs.Causes.{policy-language, line_refused}
use Rattle.policy_text.proofs.Lists.{cause-some}

no_lines : right_lines no_rights ≡ 0
unfolding no_rights right_lines
no_lines = refl

-- the list so far has no right, so that its rules are the lines before
pub record Read (text : List ℕ) (list : RuleList) (rest : List ℕ) : Type 0 where
  pub inv : Inv read_policy (prefix_of (policies_read text)) text list rest (length text - length rest) (list.length + 1)
  pub rights : list.rights ≡ no_rights

start-list : (text : List ℕ) {list : RuleList} {bytes : ℕ} → list ≡ list_of no_rights [] → bytes ≡ 0
    → onto (list_of no_rights []) 0 (read_from read_policy 129 1 text) ≡ onto list bytes (read_from read_policy (129 - list.length) (suc list.length) text)
unfolding list_of
start-list text empty none = rw (empty, none)

first-same : (text : List ℕ) → prefix_of (policies_read text) ≡ onto (list_of no_rights []) 0 (read_from read_policy 129 1 text)
unfolding policies_read
first-same text = start-same no_right_lines (read_from read_policy 129 1 text)

pub begin : (text : List ℕ) (list : RuleList) → list ≡ list_of no_rights [] → Read text list text
begin text list e =
    let none : list.length ≡ 0 = ap (λ (l : RuleList). l.length) e ∙ (unfold list_of in refl) in
    let lines : right_lines list.rights ≡ 0 = ap (λ (l : RuleList). right_lines l.rights) e ∙ (unfold list_of in no_lines) in
    record {
      inv = record {
        counted = omega (arith, lines);
        few = omega (arith, lines);
        last = omega (arith, none);
        slots = ap (λ (l : RuleList). length l.slots) e ∙ (unfold list_of unused_slots in refl);
        size = omega arith;
        same = first-same text ∙ start-list text e (omega arith);
      };
      rights = ap (λ (l : RuleList). l.rights) e ∙ (unfold list_of in refl);
    }

module _ {text : List ℕ} {list : RuleList} {rest : List ℕ} (read : Read text list rest) (some : 0 < length rest)
    {answer : Result Parsed ℕ} (given : answer ≡ read_policy (list.length + 1) rest) where
  module _ {entry : Parsed} (good : answer ≡ Ok entry) where
    pub within : entry.length ≤ length rest
    within = fits policy-language read.inv some given good

    pub room : list.length < 128
    room = small policy-language read.inv some given good

    pub next : Read text (with_rule list entry.rule) (take (length rest - entry.length) (drop entry.length rest))
    next = record { inv = moved; rights = read.rights }
      where
        left : List ℕ
        left = take (length rest - entry.length) (drop entry.length rest)

        bytes : length text - length rest + entry.length ≡ length text - length (take (length rest - entry.length) (drop entry.length rest))
        bytes =
            let shorter : length (take (length rest - entry.length) (drop entry.length rest)) ≡ length rest - entry.length =
            ap length (turns.rest rest entry.length) ∙ length-drop entry.length rest in
            omega (arith, shorter, within, read.inv.size)

        moved : Inv read_policy (prefix_of (policies_read text)) text (with_rule list entry.rule) (take (length rest - entry.length) (drop entry.length rest))
            (length text - length (take (length rest - entry.length) (drop entry.length rest))) (list.length + 1 + 1)
        moved = rw bytes at (turn policy-language read.inv some given good)

  -- the refusal, with its line and nothing loaded
  pub refused : (number : ℕ) → answer ≡ Err number → record { number = number; line = list.length + 1; list = list_of no_rights [] } ≡ read_policies text
  refused number bad =
      let whole = stop policy-language read.inv some given bad (sym (ap number_in bad)) in
      let cause = (line_refused (list.length + 1) rest number).0 (sym given ∙ bad) in
      load-bad (policies_read text) (record { list = list; length = length text - length rest; number = number; line = list.length + 1 }) whole
      (λ z. omega (arith, cause-some cause)) (list_of no_rights []) refl

-- the text is at its end
pub whole : {text : List ℕ} {list : RuleList} (rest : List ℕ) → Read text list rest → length rest ≤ 0 → record { number = 0; line = 0; list = list } ≡ read_policies text
whole {text} {list} rest read none =
    load-whole (policies_read text) (record { list = list; length = length text - length rest; number = 0; line = list.length + 1 }) (end rest read.inv none) refl
