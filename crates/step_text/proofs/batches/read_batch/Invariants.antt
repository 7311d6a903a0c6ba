use lib.ListN.{length}
use Rattle.step_text.proofs.Batching.{Reading}
use Rattle.step_text.proofs.batches.read_batch.Given as goal

abbrev pub invariant-loop-batch : goal.invariant-loop-batch
invariant-loop-batch l = Reading l.text l.batch l.rest

abbrev pub decreases-loop-batch : goal.decreases-loop-batch
decreases-loop-batch l = length l.rest
