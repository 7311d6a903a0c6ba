use Prim.Native.Nat.{◌-◌}
use Rattle.policy_text.proofs.Loop.{Read}
use Rattle.policy_text.proofs.reading.read_policies.Given as goal

abbrev pub invariant-loop-rest : goal.invariant-loop-rest
invariant-loop-rest l = Read l.text l.list l.rest

abbrev pub decreases-loop-rest : goal.decreases-loop-rest
decreases-loop-rest l = 129 - l.list.length
