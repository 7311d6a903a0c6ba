use Rattle.texts.specs.Response.{steps_form}
use Rattle.texts.proofs.Responding.{line-answered}
use Rattle.texts.proofs.responses.starts_steps.Goals as goal

pub returns : goal.returns
unfolding steps_form
returns c = line-answered _ c.find.ensures c.is_some.ensures
