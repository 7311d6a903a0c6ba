use native.Mathlib.Omega.{arith}
use Rattle.state_text.specs.Parts.{open_lines}
use Rattle.state_text.proofs.Measures.{open-measured, none-measured}
use Rattle.state_text.proofs.measuring.open_length.Goals as goal

pub returns-then-is_open : goal.returns-then-is_open
unfolding open_lines
returns-then-is_open c = rw c.if-is_open.true (open-measured _ _ (omega arith) (omega arith) c.line_length.ensures)

pub returns : goal.returns
unfolding open_lines
returns c = rw c.if-is_open.false (none-measured 100)
