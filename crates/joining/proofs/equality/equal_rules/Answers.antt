use Rattle.std.proofs.Common.{Bool, ◌&&◌, eqb, arith, ap, ◌∙◌}
use Rattle.joining.specs.Joining.{same_line, equal_rules}
use Rattle.joining.proofs.EqualRules.{same-values}
use Rattle.joining.proofs.equality.equal_rules.Goals as goal

pub returns : goal.returns
unfolding equal_rules
returns c =
    c.eq.ensures
    ∙ ap (λ (b : Bool). eqb c.line_of.result.form c.line_of-2.result.form && b) (same-values _ _ (omega arith) (omega arith))
    ∙ (λ j. same_line (c.line_of.ensures j) (c.line_of-2.ensures j))
