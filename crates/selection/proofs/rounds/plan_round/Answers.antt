use mathlib.Core.Path.{◌≡◌, refl, ◌∙◌}
use Prim.Native.Nat.{ℕ}
use native.Mathlib.Omega.{arith}
use lib.ListN.{length, length-replicate}
use Rattle.selection.specs.Ending.{plan_round}
use Rattle.selection.proofs.Settling.{filled_next, filled-all, round-word, length-round}
use borrow.Author.Rules.{rules}
use Rattle.selection.proofs.rounds.plan_round.Goals as goal

pub loop-i-init : goal.loop-i-init
loop-i-init c = (length-replicate {A = ℕ} 32 0, refl)

pub loop-i-preserved : goal.loop-i-preserved
loop-i-preserved c =
    let now = c.loop-i in
    let a = c.args in
    let long : length (plan_round a.dead a.out.now a.needs.now a.active.now) ≡ 32 = length-round a.dead a.out.now a.needs.now a.active.now ∙ c.told-active in (
      search rules,
      filled_next _ _ now.i _ (omega arith) (omega arith) now.invariant.1
          (c.difference.ensures ∙ rw (c.intersection.ensures, c.staying_roles-staying.ensures, c.active_somewhere.ensures) (round-word a.dead a.out.now a.needs.now a.active.now now.i)),
    )

pub returns : goal.returns
returns c =
    let now = c.loop-i in
    let end : now.i ≡ 32 = omega arith in
    filled-all _ _ 32 now.invariant.0 (length-round _ _ _ _ ∙ c.told-active) (rw end at now.invariant.1)
