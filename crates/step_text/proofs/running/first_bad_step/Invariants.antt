use lib.ListN.{length}
use Rattle.step_text.proofs.Stepping.{Check}
use Rattle.step_text.proofs.running.first_bad_step.Given as goal

abbrev pub invariant-loop-rest : goal.invariant-loop-rest
invariant-loop-rest l = Check l.text l.rest l.line

abbrev pub decreases-loop-rest : goal.decreases-loop-rest
decreases-loop-rest l = length l.rest
