use Rattle.rule_text.proofs.RightLoop.{Inv}
use Rattle.rule_text.proofs.rights.read_rights.Given as goal

abbrev pub invariant-loop-kind : goal.invariant-loop-kind
invariant-loop-kind l = Inv l.text l.read l.kind
