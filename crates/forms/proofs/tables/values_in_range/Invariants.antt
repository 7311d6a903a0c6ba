use Rattle.forms.proofs.Turns.{Ranged}
use Rattle.forms.proofs.tables.values_in_range.Given as goal

abbrev pub invariant-loop-mark : goal.invariant-loop-mark
invariant-loop-mark l = Ranged l.form l.values l.count l.mark-index
