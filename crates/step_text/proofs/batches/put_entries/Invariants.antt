use Rattle.step_text.proofs.Batching.{Writing}
use Rattle.step_text.proofs.batches.put_entries.Given as goal

abbrev pub invariant-loop-entry : goal.invariant-loop-entry
invariant-loop-entry l = Writing l.entries l.initial.out l.at l.out l.place l.entry-index
