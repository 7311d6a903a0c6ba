use Rattle.pitch_gate.proofs.Telling.{handed}
use Rattle.pitch_gate.proofs.pitch_gate_run_steps.Goals as goal

pub returns : goal.returns
returns c = handed c.run_saved.ensures.given c.tell.ensures
