use Rattle.pitch_gate.proofs.Telling.{given}
use Rattle.pitch_gate.proofs.pitch_gate_policies_from_rules.Goals as goal

pub returns : goal.returns
returns c = given c.policies_from_rules.ensures.given c.tell.ensures
