use native.Mathlib.Omega.{arith}
use Rattle.state_text.proofs.Measures.{sum-start, history-turn}
use Rattle.state_text.proofs.measuring.history_length.Goals as goal

pub loop-i-init : goal.loop-i-init
loop-i-init c = (omega arith, sum-start _)

pub loop-i-preserved : goal.loop-i-preserved
loop-i-preserved c =
    let at = c.loop-i in
    let set = rw (c.width.ensures.0, c.width-in-loop-i.ensures.0) at c.set_length-total.ensures in
    (omega (arith, c.set_length-total.ensures.bounded), history-turn _ at.i at.invariant.1 (omega arith) set)
