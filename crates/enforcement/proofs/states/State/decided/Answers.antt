use mathlib.Core.Path.{◌≡◌, sym, subst}
use Rattle.std.proofs.lemmas.Result.{err_from_is_err_and}
use Rattle.steps.specs.declared.refusals.Refusal.{Refusal}
use Rattle.enforcement.specs.Deciding.{Ranged}
use Rattle.enforcement.proofs.Answering.{read-refused, read-decided}
use Rattle.enforcement.proofs.Ranges.{action-ranged}
use Rattle.enforcement.proofs.states.State.decided.Goals as goal

pub carry_out-requires : goal.carry_out-requires
carry_out-requires c = subst Ranged (sym c.action-action.ensures) (action-ranged c.args.step)

pub returns-in_err-check_right : goal.returns-in_err-check_right
returns-in_err-check_right c =
    let refusal = c.in_err-check_right.field-0.0 in
    let exit = err_from_is_err_and {Q = λ (given : Refusal). given ≡ refusal} c.from_residual.result c.from_residual.ensures.1 in
    rw (exit.1, exit.2) (read-refused c.args.list.now c.args.self.now c.args.step _ c.action-action.ensures _ c.in_err-check_right.ensures)

pub returns : goal.returns
returns c = read-decided _ _ _ _ c.action-action.ensures c.in_ok-check_right.ensures _ c.carry_out.ensures
