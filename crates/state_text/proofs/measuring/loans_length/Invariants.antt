use mathlib.Core.Path.{◌≡◌}
use mathlib.Core.List.{map}
use Prim.Native.Nat.{◌*◌, ◌≤◌}
use lib.ListN.{length, take}
use Rattle.state_text.specs.Saving.{loan_line, lines_text}
use Rattle.state_text.proofs.measuring.loans_length.Given as goal

abbrev pub invariant-loop-loan : goal.invariant-loop-loan
invariant-loop-loan l = (l.total ≤ l.loan-index * 100) × (l.total ≡ length (lines_text (map loan_line (take l.loan-index l.loans))))
