use mathlib.Core.Path.{◌≡◌}
use Rattle.enforcement.specs.Batches.{entry_of, unanswered}
use Rattle.enforcement.proofs.Running.{state_at, values_at}
use Rattle.enforcement.proofs.states.State.run_batch.Given as goal

abbrev pub invariant-loop-i : goal.invariant-loop-i
invariant-loop-i l = (l.self ≡ state_at l.list l.fn.self l.step-items l.i) × (l.entries ≡ values_at entry_of l.list l.fn.self l.step-items unanswered l.i)
