use native.Mathlib.Omega.{arith}
use Rattle.step_text.proofs.Batching.{writing_start, writing-turn, writing-end}
use Rattle.step_text.proofs.batches.put_entries.Goals as goal

pub loop-entry-init : goal.loop-entry-init
loop-entry-init c = writing_start _ _ _ (omega arith) (omega arith)

pub loop-entry-preserved : goal.loop-entry-preserved
loop-entry-preserved c = writing-turn c.loop-entry.invariant _ (omega arith) c.put_answer-place.ensures

pub returns : goal.returns
returns c = writing-end c.loop-entry.invariant (omega arith)
