use mathlib.Core.Path.{◌≡◌}
use lib.ListN.{length}
use Rattle.enforcement.specs.States.{held_roles}
use Rattle.state_text.specs.Parts.{next_of}
use Rattle.state_text.proofs.Loads.{Unread}
use Rattle.state_text.proofs.reading.read_lines.Given as goal

abbrev pub invariant-loop-rest : goal.invariant-loop-rest
invariant-loop-rest l = Unread l.text l.state l.rest l.line (next_of l.last) × (held_roles l.state ≡ l.held)

abbrev pub decreases-loop-rest : goal.decreases-loop-rest
decreases-loop-rest l = length l.rest
