use mathlib.Core.Path.{sym, ◌∙◌}
use native.Mathlib.Omega.{arith}
use Rattle.sets.proofs.Bounded.{all-stop}
use Rattle.rules.proofs.rights.rights_accepted.Goals as goal

pub returns-then-not-is_accepted : goal.returns-then-not-is_accepted
returns-then-not-is_accepted c = sym (all-stop 6 _ c.loop-slot.slot-index (omega arith) (sym c.is_accepted.ensures ∙ c.if-not-is_accepted.true))
