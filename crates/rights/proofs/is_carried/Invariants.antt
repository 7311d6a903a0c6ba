use mathlib.Core.Path.{◌≡◌}
use mathlib.Core.Bool.{false}
use Rattle.sets.specs.Sets.{any}
use Rattle.rights.proofs.Carrying.{carried_by}
use Rattle.rights.proofs.is_carried.Given as goal

abbrev pub invariant-loop-role : goal.invariant-loop-role
invariant-loop-role l = any l.role (carried_by l.granted l.roles l.permission) ≡ false
