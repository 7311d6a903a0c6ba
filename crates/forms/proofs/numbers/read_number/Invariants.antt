use Rattle.forms.proofs.Turns.{Digits}
use Rattle.forms.proofs.numbers.read_number.Given as goal

abbrev pub invariant-loop-i : goal.invariant-loop-i
invariant-loop-i l = Digits l.text l.rest l.value l.i
