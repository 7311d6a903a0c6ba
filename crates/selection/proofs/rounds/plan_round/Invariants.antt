use mathlib.Core.Path.{◌≡◌}
use lib.ListN.{length, take}
use Rattle.selection.specs.Ending.{plan_round}
use Rattle.selection.proofs.rounds.plan_round.Given as goal

abbrev pub invariant-loop-i : goal.invariant-loop-i
invariant-loop-i l = (length l.less ≡ 32) × (take l.i l.less ≡ take l.i (plan_round l.dead l.out l.needs l.active))
