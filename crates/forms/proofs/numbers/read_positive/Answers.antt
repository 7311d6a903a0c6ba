use mathlib.Core.Path.{◌∙◌}
use Rattle.forms.proofs.Turns.{positive-none, positive-some}
use Rattle.forms.proofs.numbers.read_positive.Goals as goal

pub returns-in_err-number : goal.returns-in_err-number
returns-in_err-number c = c.from_residual.ensures ∙ positive-none _ c.in_err-number.ensures

pub returns : goal.returns
returns c = c.then_some.ensures ∙ positive-some _ c.in_ok-number.ensures
