use Rattle.pitch_gate.proofs.Telling.{given}
use Rattle.pitch_gate.proofs.pitch_gate_join_rules.Goals as goal

pub returns : goal.returns
returns c = given c.join_rules.ensures.given c.tell.ensures
