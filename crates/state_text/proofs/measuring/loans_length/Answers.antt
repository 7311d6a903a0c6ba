use native.Mathlib.Omega.{arith}
use Rattle.state_text.proofs.Measures.{loans-start, loans-turn}
use Rattle.state_text.proofs.measuring.loans_length.Goals as goal

pub loop-loan-init : goal.loop-loan-init
loop-loan-init c = (omega arith, loans-start)

pub loop-loan-preserved : goal.loop-loan-preserved
loop-loan-preserved c =
    let at = c.loop-loan in
    (omega (arith, c.loan_length-total.ensures.bounded), loans-turn _ at.loan-index _ at.invariant.1 (omega arith) c.loan_length-total.ensures)
