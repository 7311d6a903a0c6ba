use lib.ListN.{length}
use Rattle.step_text.proofs.Stepping.{Answering}
use Rattle.step_text.proofs.running.put_answers.Given as goal

abbrev pub invariant-loop-rest : goal.invariant-loop-rest
invariant-loop-rest l = Answering l.list l.fn.state l.text l.initial.out l.at l.out l.state l.rest l.place

abbrev pub decreases-loop-rest : goal.decreases-loop-rest
decreases-loop-rest l = length l.rest
