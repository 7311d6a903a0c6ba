use mathlib.Core.Path.{◌≡◌, refl, sym, ◌∙◌}
use mathlib.Core.Bool.{and-false}
use native.Mathlib.Omega.{arith}
use borrow.Author.Tests.{eq-eqb, ne_eqb}
use Rattle.sets.specs.Sets.{any}
use Rattle.sets.proofs.Booleans.{both_true}
use Rattle.sets.proofs.Bounded.{any_of, any_next}
use Rattle.rules.specs.Families.{is_active_for}
use Rattle.enforcement.proofs.states.State.is_active_for.Goals as goal
use Rattle.enforcement.proofs.states.State.is_active_for.Goals.{else-session-user-via-then-session-user+else-contains, else-session-user-via-else-session-user}

pub loop-i-init : goal.loop-i-init
unfolding any
loop-i-init c = refl

pub returns-then-contains : goal.returns-then-contains
unfolding is_active_for
returns-then-contains c = sym (any_of 32 c.loop-i.i _ c.loop-i-test.true (both_true _ _ (eq-eqb _ _ c.if-session-user.true) (sym c.contains.ensures.member ∙ c.if-contains.true)))

pub loop-i-preserved : goal.loop-i-preserved
loop-i-preserved c =
    any_next _ _ c.loop-i.invariant
    (elim c.else-session-user.branch [
      | else-session-user-via-then-session-user+else-contains w ↦ rw (sym w.contains.ensures.member ∙ w.if-contains.false, and-false) refl
      | else-session-user-via-else-session-user w ↦ rw (ne_eqb _ _ w.if-session-user.false) refl
    ])

pub returns : goal.returns
unfolding is_active_for
returns c = let end : c.loop-i.i ≡ 32 = omega arith in sym (rw end at c.loop-i.invariant)
