use mathlib.Core.Path.{ap, ◌∙◌}
use native.Mathlib.Omega.{arith}
use Rattle.forms.specs.Numbers.{found_number}
use Rattle.forms.proofs.Turns.{fixed-none, fixed-front, fixed-start, fixed-stop, fixed-turn, fixed-end}
use Rattle.forms.proofs.numbers.read_fixed.Goals as goal

pub returns-in_err-byte-items : goal.returns-in_err-byte-items
returns-in_err-byte-items c = c.from_residual.ensures ∙ fixed-none _ _ (let h = c.in_err-byte-items.ensures.lookup in omega arith)

pub loop-byte-init : goal.loop-byte-init
loop-byte-init c = fixed-start _ _

pub returns-in_err-value : goal.returns-in_err-value
returns-in_err-value c =
    let part = c.in_ok-byte-items.ensures.lookup.0 in
    c.from_residual-in_err-value.ensures
    ∙ fixed-stop c.loop-byte.invariant c.requires.1 (omega arith) c.loop-byte-test.true c.in_err-value.ensures
    ∙ ap found_number (fixed-front _ _ part.2)

pub loop-byte-preserved : goal.loop-byte-preserved
loop-byte-preserved c =
    let part = c.in_ok-byte-items.ensures.lookup.0 in
    fixed-turn c.loop-byte.invariant c.requires.1 (omega arith) c.loop-byte-test.true c.in_ok-value.ensures

pub returns : goal.returns
returns c =
    let part = c.in_ok-byte-items.ensures.lookup.0 in
    fixed-end c.loop-byte.invariant c.requires.0 (omega arith) ∙ ap found_number (fixed-front _ _ part.2)
