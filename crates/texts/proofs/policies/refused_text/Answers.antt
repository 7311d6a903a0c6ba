use borrow.Author.Tests.{eq-eqb, ne_eqb}
use Rattle.texts.proofs.policies.refused_text.Goals as goal

pub returns-then-number-eq18 : goal.returns-then-number-eq18
returns-then-number-eq18 c = rw (eq-eqb _ _ c.if-number-eq18.true)

pub returns : goal.returns
returns c = rw (ne_eqb _ _ c.if-number-eq18.false)
