use mathlib.Core.Path.{sym, subst, ◌∙◌}
use Rattle.enforcement.specs.Deciding.{RightChecked}
use Rattle.enforcement.proofs.Answering.{unbound-checked, bound-checked}
use Rattle.enforcement.proofs.states.State.check_right.Goals as goal

pub returns-then-not-is_bound : goal.returns-then-not-is_bound
returns-then-not-is_bound c = unbound-checked c.args.list.now.rights c.args.self.now c.args.by c.args.action (sym c.is_bound.ensures ∙ c.if-not-is_bound.true)

pub returns : goal.returns
returns c =
    let bound = bound-checked c.args.list.now.rights c.args.self.now c.args.by c.args.action (sym c.is_bound.ensures ∙ c.if-not-is_bound.false) in
    subst (RightChecked c.args.list.now.rights c.args.self.now c.args.by c.args.action) (sym c.refusal.ensures) bound
