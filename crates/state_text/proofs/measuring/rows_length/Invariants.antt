use Prim.Native.Nat.{◌*◌, ◌≤◌}
use Rattle.state_text.proofs.Measures.{RowsTill}
use Rattle.state_text.proofs.measuring.rows_length.Given as goal

abbrev pub invariant-loop-i : goal.invariant-loop-i
invariant-loop-i l = (l.total ≤ l.i * 2048) × RowsTill l.bytes l.words l.total l.i
