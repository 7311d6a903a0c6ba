use mathlib.Core.Path.{◌≡◌}
use Prim.Native.Nat.{◌*◌, ◌≤◌}
use lib.ListN.{length}
use Rattle.state_text.specs.Saving.{over, lines_text}
use Rattle.state_text.specs.Parts.{history_lines}
use Rattle.state_text.proofs.measuring.history_length.Given as goal

abbrev pub invariant-loop-i : goal.invariant-loop-i
invariant-loop-i l = (l.total ≤ l.i * 2048) × (l.total ≡ length (lines_text (over l.i (history_lines l.words))))
