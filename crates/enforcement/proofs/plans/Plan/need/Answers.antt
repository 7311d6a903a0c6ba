use native.Mathlib.Omega.{arith}
use Rattle.enforcement.proofs.Planning.{adds-nothing, adds-dead, adds-needs, keeps-past-first, keeps-past-second}
use Rattle.enforcement.proofs.plans.Plan.need.Goals as goal

pub returns-then-needed-ge-ROLES : goal.returns-then-needed-ge-ROLES
returns-then-needed-ge-ROLES c = λ s. rw c.with-self.ensures (adds-dead s c.args.self.now (omega arith) (omega arith) _ _ (keeps-past-second s _ _ c.if-needed-ge-ROLES.true))

pub returns-then-role-lt-ROLES : goal.returns-then-role-lt-ROLES
returns-then-role-lt-ROLES c = λ s. rw c.with.ensures (adds-needs s c.args.self.now (omega arith) (omega arith) _ _ (omega arith) (omega arith))

pub returns-else-role-lt-ROLES : goal.returns-else-role-lt-ROLES
returns-else-role-lt-ROLES c = λ s. adds-nothing s c.args.self.now (omega arith) (omega arith) _ (keeps-past-first s _ _ (omega arith))
