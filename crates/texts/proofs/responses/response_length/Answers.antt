use Rattle.texts.proofs.Measuring.{measured}
use Rattle.texts.proofs.responses.response_length.Goals as goal

pub returns : goal.returns
returns c = measured c.args.input.now c.put_response.ensures
