use Rattle.forms.proofs.Turns.{Put}
use Rattle.forms.proofs.writing.put_form.Given as goal

abbrev pub invariant-loop-mark : goal.invariant-loop-mark
invariant-loop-mark l = Put l.initial.out l.at l.form l.values l.out l.place l.count l.mark-index
