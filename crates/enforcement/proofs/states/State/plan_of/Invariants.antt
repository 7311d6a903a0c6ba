use Rattle.selection.specs.Choices.{chosen}
use Rattle.enforcement.specs.Deciding.{Planned}
use Rattle.selection.proofs.Judgement.{first_rules}
use Rattle.enforcement.proofs.states.State.plan_of.Given as goal

abbrev pub invariant-loop-slot : goal.invariant-loop-slot
invariant-loop-slot l = Planned (chosen l.choice) (first_rules l.slot-index l.slot-items) l.self l.plan
