use mathlib.Core.Path.{◌≡◌}
use Prim.Native.Nat.{◌*◌, ◌≤◌}
use lib.ListN.{length}
use Rattle.state_text.specs.Saving.{over, lines_text}
use Rattle.state_text.specs.Parts.{session_parts_at}
use Rattle.state_text.proofs.measuring.sessions_length.Given as goal

abbrev pub invariant-loop-i : goal.invariant-loop-i
invariant-loop-i l = (l.total ≤ l.i * 4096) × (l.total ≡ length (lines_text (over l.i (session_parts_at l.sessions l.active))))
