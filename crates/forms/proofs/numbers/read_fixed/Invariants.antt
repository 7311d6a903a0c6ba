use Rattle.forms.proofs.Turns.{Fixed}
use Rattle.forms.proofs.numbers.read_fixed.Given as goal

abbrev pub invariant-loop-byte : goal.invariant-loop-byte
invariant-loop-byte l = Fixed l.count l.byte-items l.value l.byte-index
