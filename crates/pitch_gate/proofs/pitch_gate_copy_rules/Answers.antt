use Rattle.pitch_gate.proofs.Telling.{given}
use Rattle.pitch_gate.proofs.pitch_gate_copy_rules.Goals as goal

pub returns : goal.returns
returns c = given c.copy_rules.ensures.given c.tell.ensures
