use lib.ListN.{take}
use Rattle.forms.specs.Writing.{Wrote}
use Rattle.rule_text.specs.Lines.{rights_text}
use Rattle.rule_text.proofs.writing.put_rights.Given as goal

abbrev pub invariant-loop-kind : goal.invariant-loop-kind
invariant-loop-kind l = Wrote l.initial.out 0 (rights_text 0 (take l.kind l.rights)) l.at l.out
