use mathlib.Core.Path.{sym, ◌∙◌}
use native.Mathlib.Omega.{arith}
use Rattle.forms.proofs.Turns.{range-start, range-plain, range-turn, range-stop, range-end}
use Rattle.forms.proofs.tables.values_in_range.Goals as goal

pub loop-mark-init : goal.loop-mark-init
loop-mark-init c = range-start _ _

pub loop-mark-preserved-then-not-is_slot : goal.loop-mark-preserved-then-not-is_slot
loop-mark-preserved-then-not-is_slot c = range-plain c.loop-mark.invariant (omega arith) (sym c.is_slot.ensures ∙ c.if-not-is_slot.true)

pub returns-then-not-is_in_range : goal.returns-then-not-is_in_range
returns-then-not-is_in_range c = sym (range-stop c.loop-mark.invariant (omega arith) c.value_at.ensures c.is_in_range.ensures c.if-not-is_in_range.true)

pub overflow_add-count : goal.overflow_add-count
overflow_add-count c = omega (arith, c.loop-mark.invariant.few)

pub loop-mark-preserved : goal.loop-mark-preserved
loop-mark-preserved c =
    range-turn c.loop-mark.invariant (omega arith) c.value_at.ensures c.is_in_range.ensures c.if-not-is_in_range.false (rw (sym c.is_slot.ensures ∙ c.if-not-is_slot.false))

pub returns : goal.returns
returns c = sym (range-end c.loop-mark.invariant (omega arith))
