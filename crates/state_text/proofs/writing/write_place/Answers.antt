use native.Mathlib.Omega.{arith}
use Rattle.state_text.proofs.Writes.{one_line, no_line}
use Rattle.state_text.proofs.writing.write_place.Goals as goal

pub returns-in-Unknown : goal.returns-in-Unknown
returns-in-Unknown c = rw c.in-Unknown.is (no_line _ _ (omega arith))

pub returns-in-Known : goal.returns-in-Known
returns-in-Known c =
    rw c.in-Known.is
    (one_line _ (rw c.place_line.ensures at c.write_line.ensures))
