use Rattle.pitch_gate.proofs.Telling.{given}
use Rattle.pitch_gate.proofs.pitch_gate_fresh_state.Goals as goal

pub returns : goal.returns
returns c = given c.fresh_state.ensures.given c.tell.ensures
