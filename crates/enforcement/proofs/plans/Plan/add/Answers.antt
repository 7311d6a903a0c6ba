use mathlib.Core.Path.{sym, ◌∙◌}
use native.Mathlib.Omega.{arith}
use Rattle.enforcement.proofs.Planning.{adds-nothing, adds-dead, adds-out, keeps-in-term, keeps-past-term, keeps-other}
use Rattle.enforcement.proofs.plans.Plan.add.Goals as goal

pub returns-in-Dependency : goal.returns-in-Dependency
returns-in-Dependency c = rw c.in-Dependency.is (c.need.ensures c.args.state.now)

pub returns-then-not-holds : goal.returns-then-not-holds
returns-then-not-holds c =
    rw (c.in-TimeContext.is, c.with-self.ensures) (adds-dead c.args.state.now c.args.self.now (omega arith) (omega arith) _ _ (keeps-past-term _ _ _ (sym c.holds.ensures ∙ c.if-not-holds.true)))

pub returns-else-not-holds : goal.returns-else-not-holds
returns-else-not-holds c = rw c.in-TimeContext.is (adds-nothing c.args.state.now c.args.self.now (omega arith) (omega arith) _ (keeps-in-term _ _ _ (sym c.holds.ensures ∙ c.if-not-holds.false)))

pub returns-in-LocationContext : goal.returns-in-LocationContext
returns-in-LocationContext c = rw c.in-LocationContext.is (adds-out c.args.state.now c.args.self.now (omega arith) (omega arith) _ _ _ c.rule_out.ensures)

pub returns-in_default : goal.returns-in_default
returns-in_default c =
    let others = c.in_default in
    adds-nothing c.args.state.now c.args.self.now (omega arith) (omega arith) _ (keeps-other _ _ others.not-Dependency others.not-TimeContext others.not-LocationContext)
