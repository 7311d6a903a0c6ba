use mathlib.Core.Path.{sym, ◌∙◌}
use native.Mathlib.Omega.{arith}
use borrow.Author.Tests.{not-true, not-false}
use Rattle.state_text.proofs.Writes.{unaccepted, accepted, too_short, fitting}
use Rattle.state_text.proofs.writing.write_state.Goals as goal

pub returns-then-not-is_accepted : goal.returns-then-not-is_accepted
returns-then-not-is_accepted c = unaccepted _ _ (sym c.is_accepted.ensures ∙ not-true _ c.if-not-is_accepted.true-raw)

pub returns-then-out-saved_length : goal.returns-then-out-saved_length
returns-then-out-saved_length c =
    let e = sym c.is_accepted.ensures ∙ not-false _ c.if-not-is_accepted.false-raw in
    accepted _ _ e (too_short _ _ (omega (arith, c.saved_length.ensures)))

pub returns : goal.returns
returns c =
    let e = sym c.is_accepted.ensures ∙ not-false _ c.if-not-is_accepted.false-raw in
    accepted _ _ e (fitting _ _ (omega (arith, c.saved_length.ensures)) (omega arith) c.write_lines.ensures)
