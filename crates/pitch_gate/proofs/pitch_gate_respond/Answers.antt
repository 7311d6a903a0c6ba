use Rattle.pitch_gate.proofs.Telling.{responded}
use Rattle.pitch_gate.proofs.pitch_gate_respond.Goals as goal

pub returns : goal.returns
returns c = responded c.respond.ensures c.response_report.ensures c.tell.ensures
