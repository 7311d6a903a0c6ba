use mathlib.Core.Path.{◌≡◌}
use mathlib.Core.Bool.{true}
use Rattle.sets.specs.Sets.{all}
use Rattle.rules.specs.Acceptance.{right_at, right_accepted}
use Rattle.rules.proofs.rights.rights_accepted.Given as goal

abbrev pub invariant-loop-slot : goal.invariant-loop-slot
invariant-loop-slot l = all l.slot-index (λ kind. right_accepted (right_at l.rights kind)) ≡ true
