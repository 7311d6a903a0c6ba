use mathlib.Core.Path.{◌≡◌}
use native.Mathlib.Omega.{arith}
use Rattle.enforcement.proofs.Planning.{ruled-none, ruled-in, ruled_out}
use Rattle.enforcement.proofs.plans.rule_out.Goals as goal
use Rattle.enforcement.proofs.plans.rule_out.Goals.{else-is_misplaced, then-is_misplaced}

pub loop-i-preserved : goal.loop-i-preserved
loop-i-preserved c =
    let now = c.loop-i in
    elim c.if-is_misplaced.branch [
      | then-is_misplaced w ↦ rw (w.out-is, w.with.ensures) (ruled-in _ _ _ _ _ now.i now.out c.loop-i-test.true now.invariant (rw (← c.is_misplaced.ensures) w.if-is_misplaced.true))
      | else-is_misplaced w ↦ rw w.out-is (ruled_out _ _ _ _ _ now.i now.out c.loop-i-test.true now.invariant (rw (← c.is_misplaced.ensures) w.if-is_misplaced.false))
    ]

pub returns : goal.returns
returns c = let end : c.loop-i.i ≡ 32 = omega arith in rw end at c.loop-i.invariant

pub loop-i-init : goal.loop-i-init
loop-i-init c = ruled-none _ _ _ _ _ (omega arith)
