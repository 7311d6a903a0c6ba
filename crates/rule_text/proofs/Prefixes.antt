-- The loop of `read_prefix` begins with the rights that were read.
-- Assumes nothing.
use mathlib.Core.Path.{◌≡◌, refl, ap, ◌∙◌, subst⁻¹}
use mathlib.Core.List.{List, []}
use Prim.Native.Nat.{ℕ, suc, ◌+◌, ◌-◌, ◌≤◌}
use native.Mathlib.Omega.{arith}
use lib.ListN.{length, take, drop, length-append, length-drop}
use Rattle.rules.specs.declared.lists.RuleList.{RuleList}
use Rattle.rules.specs.declared.rights.RightSlot.{RightSlot}
use Rattle.rule_text.specs.Lines.{rights_text, right_lines}
use Rattle.rule_text.specs.Reading.{read_line, RulesRead, read_from, read_rights, rights_then, read_lines, unused_slots, no_rights, list_of, prefix_of}
use Rattle.rule_text.specs.declared.rights.RightsRead.{RightsRead}
use Rattle.rule_text.proofs.RightLists.{lines-few, reads-rights}
use Rattle.rule_text.proofs.LineLoop.{onto, Inv}
use Rattle.forms.proofs.Turns as turns

pub start-same : (before : RightsRead) (lines : RulesRead) → prefix_of (rights_then before lines) ≡ onto (list_of before.rights []) before.length lines
unfolding prefix_of list_of
start-same before lines =
    let a : 0 + length lines.rules ≡ length lines.rules = omega arith in
    rw a

-- the empty list with the rights that were read
abbrev with_rights : RuleList → List RightSlot → RuleList
with_rights list rights = record { slots = list.slots; length = list.length; rights = rights }

start-list : (text : List ℕ) {read : RightsRead} → read ≡ read_rights text → {list : RuleList} → list ≡ list_of no_rights []
    → onto (list_of (read_rights text).rights []) (read_rights text).length (read_from read_line 129 1 (drop (read_rights text).length text))
    ≡ onto (with_rights list read.rights) read.length (read_from read_line (129 - list.length) (suc list.length) (drop read.length text))
unfolding list_of
start-list text given empty = rw (given, empty)

module _ (text : List ℕ) {read : RightsRead} (given : read ≡ read_rights text) where
  pub rights-within : read.length ≤ length text
  rights-within =
      let there = reads-rights 6 0 text (omega arith) in
      rw given (omega (arith, there.bytes, ap length there.reads, length-append (rights_text 0 (read_rights text).rights) there.rest))

  pub lines-most : read.lines ≤ 6
  lines-most =
      let there = reads-rights 6 0 text (omega arith) in
      rw given (omega (arith, there.counted, lines-few (read_rights text).rights, there.count))

  first-same : prefix_of (read_lines text) ≡ onto (list_of (read_rights text).rights []) (read_rights text).length (read_from read_line 129 1 (drop (read_rights text).length text))
  unfolding read_lines
  first-same = start-same (read_rights text) (read_from read_line 129 1 (drop (read_rights text).length text))

  pub start : (list : RuleList) → list ≡ list_of no_rights []
      → Inv read_line (prefix_of (read_lines text)) text (with_rights list read.rights) (take (length text - read.length) (drop read.length text)) read.length (read.lines + 1)
  start list e =
      let there = reads-rights 6 0 text (omega arith) in
      let empty : list.length ≡ 0 = ap (λ (l : RuleList). l.length) e ∙ (unfold list_of in refl) in
      let counted : read.lines ≡ right_lines read.rights = rw given there.counted in
      let kinds : length read.rights ≡ 6 = rw given there.count in
      subst⁻¹ (λ (l : List ℕ). Inv read_line (prefix_of (read_lines text)) text (with_rights list read.rights) l read.length (read.lines + 1)) (turns.rest text read.length)
      (record {
        counted = omega (arith, counted, empty);
        few = omega (arith, kinds, lines-few read.rights);
        last = omega (arith, empty);
        slots = ap (λ (l : RuleList). length l.slots) e ∙ (unfold list_of unused_slots in refl);
        size = omega (arith, rights-within, length-drop read.length text);
        same = first-same ∙ start-list text given e;
      })
