use native.Mathlib.Omega.{arith}
use Rattle.state_text.proofs.Measures.{sum-start, rows-turn}
use Rattle.state_text.proofs.measuring.rows_length.Goals as goal

pub loop-i-init : goal.loop-i-init
loop-i-init c = (omega arith, λ line each. sum-start _)

pub loop-i-preserved : goal.loop-i-preserved
loop-i-preserved c =
    let at = c.loop-i in
    let set = rw (c.width.ensures.0, c.from.ensures) at c.set_length-total.ensures in
    (omega (arith, c.set_length-total.ensures.bounded), rows-turn _ _ at.invariant.1 (omega arith) (omega (arith, c.type_inv.words at.i)) set)
