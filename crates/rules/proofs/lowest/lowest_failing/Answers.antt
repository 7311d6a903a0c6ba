use Rattle.std.proofs.Common.{sym, ◌∙◌}
use Rattle.rules.proofs.FirstFailing.{rule-passes, rule-fails, none-left}
use Rattle.rules.proofs.lowest.lowest_failing.Goals as goal

pub returns-then-not-passes : goal.returns-then-not-passes
returns-then-not-passes g c = λ test is. sym (c.loop-i.invariant test is ∙ rule-fails test _ _ _ c.loop-i-test.true (sym (is _ _ c.passes.ensures) ∙ c.if-not-passes.true))

pub loop-i-preserved : goal.loop-i-preserved
loop-i-preserved g c = λ test is. c.loop-i.invariant test is ∙ rule-passes test _ _ _ c.loop-i-test.true (sym (is _ _ c.passes.ensures) ∙ c.if-not-passes.false)

pub returns : goal.returns
returns g c = λ test is. sym (c.loop-i.invariant test is ∙ none-left test _ _ c.loop-i-test.false)
