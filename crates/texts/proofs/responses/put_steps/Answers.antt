use native.Mathlib.Omega.{arith}
use Rattle.forms.proofs.Puts.{like}
use Rattle.texts.proofs.Responding.{steps-answered, steps-refused, bad-most}
use Rattle.texts.proofs.responses.put_steps.Goals as goal

pub overflow_add-line : goal.overflow_add-line
overflow_add-line c =
    let start = c.args in
    let most = bad-most start.list start.line start.text.now _ c.first_bad_step.ensures _ c.in-Some.is in
    omega (arith, most, c.requires)

pub returns-in-Some : goal.returns-in-Some
returns-in-Some c =
    let start = c.args in
    like (steps-refused start.list start.line start.text.now _ c.first_bad_step.ensures _ c.in-Some.is) c.put_bad.ensures

pub returns : goal.returns
returns c =
    let start = c.args in
    like (steps-answered start.list start.line start.text.now _ c.first_bad_step.ensures _ c.fresh.ensures c.in_default.is) c.put_answers.ensures.0
