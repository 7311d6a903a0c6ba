use mathlib.Core.Path.{◌≡◌}
use mathlib.Core.Bool.{false, ◌&&◌}
use lib.Dec.{eqb}
use Rattle.sets.specs.Sets.{any}
use Rattle.rules.specs.Families.{has_role, session_at}
use Rattle.enforcement.proofs.states.State.is_active_for.Given as goal

abbrev pub invariant-loop-i : goal.invariant-loop-i
invariant-loop-i l = any l.i (λ s. eqb (session_at l.self.sessions s).user l.user && has_role l.self.active s l.role) ≡ false
