use mathlib.Core.Path.{◌∙◌}
use native.Mathlib.Omega.{arith}
use Rattle.forms.proofs.Turns.{found-none, first-none, digits-none, digits-start, digits-stop, digits-turn, digits-end, tail-length}
use Rattle.forms.proofs.numbers.read_number.Goals as goal

pub returns-in_default : goal.returns-in_default
returns-in_default c = found-none (first-none _ (omega arith))

pub returns-in_err-value : goal.returns-in_err-value
returns-in_err-value c = c.from_residual.ensures ∙ digits-none _ (omega arith) (λ e. omega arith) c.in_err-value.ensures

pub loop-i-init : goal.loop-i-init
loop-i-init c = digits-start _ (omega arith) (λ e. omega arith) c.in_ok-value.ensures

pub returns-in_default-continued : goal.returns-in_default-continued
returns-in_default-continued c = digits-stop c.loop-i.invariant (omega arith) c.in_default-continued.ensures

pub loop-i-preserved : goal.loop-i-preserved
loop-i-preserved c = digits-turn c.loop-i.invariant (omega arith) c.in-Some.ensures

pub returns : goal.returns
returns c = digits-end c.loop-i.invariant (omega arith) (omega (arith, tail-length c.args.text.now))
