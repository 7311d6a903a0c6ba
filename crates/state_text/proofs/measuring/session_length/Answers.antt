use native.Mathlib.Omega.{arith}
use Rattle.state_text.proofs.Measures.{session-measured}
use Rattle.state_text.proofs.measuring.session_length.Goals as goal

pub returns : goal.returns
returns c =
    let set = rw (c.width.ensures.0, c.from-2.ensures) at c.set_length.ensures in
    session-measured _ _ _ (omega arith) (omega arith) (rw c.from.ensures at c.open_length-opened.ensures) c.place_length-placed.ensures set
