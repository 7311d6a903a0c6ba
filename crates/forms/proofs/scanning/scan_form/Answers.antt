use mathlib.Core.Path.{sym, ap, ◌∙◌}
use native.Mathlib.Omega.{arith}
use Rattle.forms.specs.Forms.{scanned_told}
use Rattle.forms.proofs.Turns.{scan-start, number-missing, number-fits, number-turn, byte-missed, byte_fits, byte-turn, scan-end}
use Rattle.forms.proofs.scanning.scan_form.Goals as goal

pub loop-mark-init : goal.loop-mark-init
loop-mark-init c = rw c.nothing-scanned.ensures (scan-start _ _)

pub slice_bounds-rest-count : goal.slice_bounds-rest-count
slice_bounds-rest-count c = omega (arith, c.loop-mark.invariant.in_text)

pub slice_bounds-rest-start : goal.slice_bounds-rest-start
slice_bounds-rest-start c = omega (arith, c.loop-mark.invariant.in_text)

pub returns-in_err-number : goal.returns-in_err-number
returns-in_err-number c =
    ap scanned_told c.from_residual.ensures
    ∙ number-missing _ _ _ _ _ _ c.loop-mark.invariant c.loop-mark-test.true (sym c.is_slot.ensures ∙ c.if-is_slot.true) c.in_err-number.ensures

pub add-requires : goal.add-requires
add-requires c =
    let fits = number-fits _ _ _ _ _ _ c.loop-mark.invariant c.loop-mark-test.true (sym c.is_slot.ensures ∙ c.if-is_slot.true) _ c.in_ok-number.ensures in
    (omega (arith, c.loop-mark.invariant.few), omega (arith, fits))

pub loop-mark-preserved-then-is_slot : goal.loop-mark-preserved-then-is_slot
loop-mark-preserved-then-is_slot c =
    rw c.add.ensures
    (number-turn _ _ _ _ _ _ c.loop-mark.invariant c.loop-mark-test.true (sym c.is_slot.ensures ∙ c.if-is_slot.true) _ c.in_ok-number.ensures)

pub returns-then-not-stands : goal.returns-then-not-stands
returns-then-not-stands c =
    byte-missed _ _ _ _ _ _ c.loop-mark.invariant c.loop-mark-test.true (sym c.is_slot.ensures ∙ c.if-is_slot.false) c.stands.result c.stands.ensures c.if-not-stands.true

pub overflow_add-scanned : goal.overflow_add-scanned
overflow_add-scanned c =
    let fits = byte_fits _ _ _ _ _ _ c.loop-mark.invariant c.loop-mark-test.true (sym c.is_slot.ensures ∙ c.if-is_slot.false) c.stands.result c.stands.ensures c.if-not-stands.false in
    omega (arith, fits)

pub loop-mark-preserved : goal.loop-mark-preserved
loop-mark-preserved c =
    byte-turn _ _ _ _ _ _ c.loop-mark.invariant c.loop-mark-test.true (sym c.is_slot.ensures ∙ c.if-is_slot.false) c.stands.result c.stands.ensures c.if-not-stands.false

pub returns : goal.returns
returns c = scan-end _ _ _ _ c.loop-mark.invariant c.loop-mark-test.false
