use Rattle.std.proofs.Common.{List, map, ap, sym, ◌∙◌, arith}
use Rattle.rules.specs.Acceptance.{rule_of, rules_of}
use Rattle.rules.specs.declared.lists.Slot.{Slot}
use Rattle.rule_text.proofs.Slots.{list-few}
use Rattle.joining.specs.Joining.{joined_rights, rules_joined}
use Rattle.joining.proofs.Loops.{joining-start, joining-few, joining-end, joining-stop, joining-equal, joining-new}
use Rattle.joining.proofs.lists.join_rules.Goals as goal

pub loop-i-init : goal.loop-i-init
loop-i-init c = joining-start _ _ _ c.with_both_rights-list.ensures (list-few _ c.requires)

pub loop-i-preserved-then-not-equals_none : goal.loop-i-preserved-then-not-equals_none
loop-i-preserved-then-not-equals_none c = joining-equal c.loop-i.invariant c.loop-i-test.true _ (sym c.equals_none.ensures ∙ c.if-not-equals_none.true)

pub returns-then-list-eq-MOST : goal.returns-then-list-eq-MOST
returns-then-list-eq-MOST c =
    joining-stop c.loop-i.invariant c.loop-i-test.true _ (sym c.equals_none.ensures ∙ c.if-not-equals_none.false) c.if-list-eq-MOST.true
    ∙ ap (λ (slots : List Slot). rules_joined 1 (joined_rights c.args.first.now.rights c.args.second.now.rights) (rules_of c.args.first.now) (map rule_of slots)) c.used-slot-items.ensures

pub offset_bounds-list-list : goal.offset_bounds-list-list
offset_bounds-list-list c = omega (arith, joining-few c.loop-i.invariant)

pub bounds-list-list : goal.bounds-list-list
bounds-list-list c = omega (arith, joining-few c.loop-i.invariant, c.if-list-eq-MOST.false)

pub overflow_add-list : goal.overflow_add-list
overflow_add-list c = omega (arith, joining-few c.loop-i.invariant)

pub loop-i-preserved : goal.loop-i-preserved
loop-i-preserved c = joining-new c.loop-i.invariant c.loop-i-test.true _ (sym c.equals_none.ensures ∙ c.if-not-equals_none.false) c.if-list-eq-MOST.false

pub returns : goal.returns
returns c =
    joining-end c.loop-i.invariant c.loop-i-test.false
    ∙ ap (λ (slots : List Slot). rules_joined 1 (joined_rights c.args.first.now.rights c.args.second.now.rights) (rules_of c.args.first.now) (map rule_of slots)) c.used-slot-items.ensures
