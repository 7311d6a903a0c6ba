use native.Mathlib.Omega.{arith}
use Rattle.state_text.proofs.Measures.{now-measured}
use Rattle.state_text.proofs.measuring.time_length.Goals as goal

pub returns : goal.returns
returns c = now-measured _ (omega arith) c.line_length.ensures
