use mathlib.Core.Path.{refl, sym, ◌∙◌}
use mir.Syntax.{w32}
use mir.Val.{Fits}
use Rattle.rules.specs.Families.{word_at}
use Rattle.selection.specs.Ending.{plan_settled}
use Rattle.selection.proofs.Settling.{pointwise-same, small-roles, turn-roles, turn_end, turn-less, turn-next}
use borrow.Author.Rules.{rules}
use Rattle.selection.proofs.rounds.plan_settled.Goals as goal

pub loop-less-init : goal.loop-less-init
unfolding plan_settled
loop-less-init c = (search rules, small-roles c.args.active (λ j. let fits : Fits w32 (word_at c.args.active j) = search rules in fits.fits), refl)

pub returns-then-eq : goal.returns-then-eq
returns-then-eq c =
    let now = c.loop-less in
    sym (turn_end _ _ _ now.kept _ now.invariant.1 c.plan_round-less.ensures (sym (c.eq.ensures ∙ pointwise-same _ _) ∙ c.if-eq.true)) ∙ now.invariant.2

pub loop-less-smaller : goal.loop-less-smaller
loop-less-smaller c =
    let now = c.loop-less in
    turn-less _ _ _ now.kept _ now.invariant.1 c.plan_round-less.ensures (sym (c.eq.ensures ∙ pointwise-same _ _) ∙ c.if-eq.false)

pub loop-less-preserved : goal.loop-less-preserved
loop-less-preserved c =
    let now = c.loop-less in
    let round = c.plan_round-less in (
      search rules,
      turn-roles _ _ _ now.kept _ now.invariant.1 round.ensures,
      turn-next _ _ _ now.kept _ now.invariant.1 round.ensures (sym (c.eq.ensures ∙ pointwise-same _ _) ∙ c.if-eq.false) ∙ now.invariant.2,
    )
