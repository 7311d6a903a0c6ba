use Rattle.pitch_gate.proofs.Telling.{given}
use Rattle.pitch_gate.proofs.pitch_gate_rules_from_policies.Goals as goal

pub returns : goal.returns
returns c = given c.rules_from_policies.ensures.given c.tell.ensures
