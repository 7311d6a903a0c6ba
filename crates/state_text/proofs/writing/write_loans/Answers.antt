use native.Mathlib.Omega.{arith}
use Rattle.state_text.proofs.Writes.{list-start, list-turn, list-end}
use Rattle.state_text.proofs.writing.write_loans.Goals as goal

pub loop-loan-init : goal.loop-loan-init
loop-loan-init c = list-start _ _ _ (omega arith) (omega arith)

pub loop-loan-preserved : goal.loop-loan-preserved
loop-loan-preserved c = list-turn c.loop-loan.invariant _ (omega arith) (rw c.loan_line.ensures at c.write_line-place.ensures)

pub returns : goal.returns
returns c = list-end c.loop-loan.invariant (omega arith)
