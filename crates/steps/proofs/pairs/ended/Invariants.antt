use mathlib.Core.Path.{◌≡◌}
use Prim.Native.Nat.{◌≤◌, ◌*◌}
use lib.ListN.{length, take}
use Rattle.steps.specs.Pairs.{ended_pairs, pair_count}
use Rattle.steps.proofs.pairs.ended.Given as goal

abbrev pub invariant-loop-roles : goal.invariant-loop-roles
invariant-loop-roles l = (l.total ≡ pair_count (take (length l.yielded) (ended_pairs l.before l.after))) × (l.total ≤ 32 * length l.yielded)
