use lib.ListN.{length}
use Rattle.forms.proofs.Lines.{Search}
use Rattle.forms.proofs.tables.find.Given as goal

abbrev pub invariant-loop-rest : goal.invariant-loop-rest
invariant-loop-rest l = Search l.table l.text l.rest l.form

abbrev pub decreases-loop-rest : goal.decreases-loop-rest
decreases-loop-rest l = length l.rest
