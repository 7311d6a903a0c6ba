use native.Mathlib.Omega.{arith}
use Rattle.state_text.specs.Parts.{session_parts_at}
use Rattle.state_text.proofs.Measures.{sum-start, sum-turn}
use Rattle.state_text.proofs.measuring.sessions_length.Goals as goal

pub loop-i-init : goal.loop-i-init
loop-i-init c = (omega arith, sum-start _)

pub loop-i-preserved : goal.loop-i-preserved
unfolding session_parts_at
loop-i-preserved c =
    let at = c.loop-i in
    (omega (arith, c.session_length-total.ensures.bounded), sum-turn _ at.i at.invariant.1 c.session_length-total.ensures.bytes)
