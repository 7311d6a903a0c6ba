use mathlib.Core.Path.{◌≡◌}
use Prim.Native.Nat.{suc}
use lib.ListN.{length}
use Rattle.steps.specs.Pairs.{pair_count}
use Rattle.selection.specs.Ending.{settled, plan_round, plan_settled}
use Rattle.selection.proofs.Parts.{HasRoles}
use Rattle.selection.proofs.rounds.plan_settled.Given as goal

abbrev pub invariant-loop-less : goal.invariant-loop-less
invariant-loop-less l = (length l.kept ≡ 32) × HasRoles l.kept × (settled (suc (pair_count l.kept)) (plan_round l.dead l.out l.needs) l.kept ≡ plan_settled l.dead l.out l.needs l.initial.kept)

abbrev pub decreases-loop-less : goal.decreases-loop-less
decreases-loop-less l = pair_count l.kept
