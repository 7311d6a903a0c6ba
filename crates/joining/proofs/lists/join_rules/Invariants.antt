use Rattle.rules.specs.Acceptance.{rules_of}
use Rattle.joining.specs.Joining.{joined_rights}
use Rattle.joining.proofs.Loops.{Joining}
use Rattle.joining.proofs.lists.join_rules.Given as goal

abbrev pub invariant-loop-i : goal.invariant-loop-i
invariant-loop-i l = Joining (joined_rights l.first.rights l.second.rights) (rules_of l.first) l.slot-items l.list l.i
