use mathlib.Core.Path.{sym, ◌∙◌}
use native.Mathlib.Omega.{arith}
use Rattle.forms.proofs.Turns.{put-start, put-plain, put-turn, put-end}
use Rattle.forms.proofs.Puts.{same_length}
use Rattle.forms.proofs.writing.put_form.Goals as goal

pub loop-mark-init : goal.loop-mark-init
loop-mark-init c = put-start _ _ _ _ (omega arith)

pub loop-mark-preserved-then-not-is_slot : goal.loop-mark-preserved-then-not-is_slot
loop-mark-preserved-then-not-is_slot c =
    let written = c.put-place.ensures in
    let plain = sym c.is_slot.ensures ∙ c.if-not-is_slot.true in
    put-plain c.loop-mark.invariant (omega arith) (omega arith) plain written (same_length written)

pub put_item-place-requires : goal.put_item-place-requires
put_item-place-requires c = sym c.is_slot.ensures ∙ c.if-not-is_slot.false

pub overflow_add-count : goal.overflow_add-count
overflow_add-count c = omega (arith, c.loop-mark.invariant.few)

pub loop-mark-preserved : goal.loop-mark-preserved
loop-mark-preserved c =
    let written = c.put_item-place.ensures in
    let slot = sym c.is_slot.ensures ∙ c.if-not-is_slot.false in
    put-turn c.loop-mark.invariant (omega arith) (omega arith) c.value_at.ensures written (same_length written) (rw slot)

pub shape_of-out : goal.shape_of-out
shape_of-out c = c.loop-mark.invariant.same

pub returns : goal.returns
returns c = put-end c.loop-mark.invariant (omega arith)
