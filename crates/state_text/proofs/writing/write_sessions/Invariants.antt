use Rattle.state_text.specs.Parts.{session_parts_at}
use Rattle.state_text.proofs.Writes.{Loop}
use Rattle.state_text.proofs.writing.write_sessions.Given as goal

abbrev pub invariant-loop-i : goal.invariant-loop-i
invariant-loop-i l = Loop (session_parts_at l.sessions l.active) l.initial.out l.at l.out l.place l.i
