use Rattle.std.proofs.Common.{List, ◌++◌, map, length, drop, ap, ◌∙◌, arith, length-take}
use Rattle.rules.specs.Acceptance.{rule_of}
use Rattle.rules.specs.declared.lists.Slot.{Slot}
use Rattle.rule_text.specs.Reading.{list_of}
use Rattle.joining.specs.Joining.{joined_rights}
use Rattle.joining.proofs.Loops.{empty-slots, list_with, used-few}
use Rattle.joining.proofs.lists.with_both_rights.Goals as goal

pub slice_bounds-slots-end : goal.slice_bounds-slots-end
slice_bounds-slots-end c = omega (arith, used-few _ c.used-rules.ensures c.requires)

pub slice_bounds-copy_from_slice-end : goal.slice_bounds-copy_from_slice-end
slice_bounds-copy_from_slice-end c = omega (arith, length-take {A = Slot}, used-few _ c.used-rules.ensures c.requires)

pub copy_from_slice-requires : goal.copy_from_slice-requires
copy_from_slice-requires c = omega (arith, length-take {A = Slot}, used-few _ c.used-rules.ensures c.requires)

pub returns : goal.returns
returns c =
    (λ j. record {
      slots = c.copy_from_slice.ensures.after j ++ drop (length c.used-rules.result.now) (empty-slots c.no_rules.ensures j);
      length = length c.used-rules.result.now;
      rights = c.rights_of_both.ensures j;
    })
    ∙ list_with (joined_rights c.args.first.now.rights c.args.second.now.rights) c.used-rules.result.now (used-few _ c.used-rules.ensures c.requires)
    ∙ ap (λ (slots : List Slot). list_of (joined_rights c.args.first.now.rights c.args.second.now.rights) (map rule_of slots)) c.used-rules.ensures
