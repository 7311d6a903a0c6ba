use native.Mathlib.Omega.{arith}
use Rattle.texts.proofs.JoinedTexts.{line-58, line-57, line-none}
use Rattle.texts.proofs.joined_rules.line_in.Goals as goal

pub lines_before-requires : goal.lines_before-requires
lines_before-requires c = let below = c.requires.1 c.if-number-eq58.true in omega (arith, below)

pub returns-then-number-eq58 : goal.returns-then-number-eq58
returns-then-number-eq58 c = line-58 _ _ _ c.if-number-eq58.true c.lines_before.ensures.0

pub returns-then-number-eq57 : goal.returns-then-number-eq57
returns-then-number-eq57 c = line-57 _ _ _ c.if-number-eq58.false c.if-number-eq57.true c.lines_before-then-number-eq57.ensures.0

pub returns : goal.returns
returns c = line-none _ _ _ c.if-number-eq58.false c.if-number-eq57.false
