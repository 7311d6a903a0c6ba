use native.Mathlib.Omega.{arith}
use Rattle.state_text.specs.Parts.{open_lines}
use Rattle.state_text.proofs.Writes.{only_yes, only_no}
use Rattle.state_text.proofs.writing.write_open.Goals as goal

pub returns-then-is_open : goal.returns-then-is_open
unfolding open_lines
returns-then-is_open c = only_yes _ _ c.if-is_open.true c.write_line.ensures

pub returns : goal.returns
unfolding open_lines
returns c = only_no _ _ c.if-is_open.false _ _ (omega arith)
