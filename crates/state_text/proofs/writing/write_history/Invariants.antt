use Rattle.state_text.specs.Parts.{history_lines}
use Rattle.state_text.proofs.Writes.{Loop}
use Rattle.state_text.proofs.writing.write_history.Given as goal

abbrev pub invariant-loop-i : goal.invariant-loop-i
invariant-loop-i l = Loop (history_lines l.words) l.initial.out l.at l.out l.place l.i
