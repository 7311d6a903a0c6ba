use mathlib.Core.Path.{◌≡◌}
use Rattle.rules.specs.Breach.{first_broken}
use Rattle.rules.specs.Families.{location_context_at}
use Rattle.std.specs.Prelude.{None}
use Rattle.rules.proofs.tests.location_context.Given as goal

abbrev pub invariant-loop-i : goal.invariant-loop-i
invariant-loop-i l = first_broken l.i (location_context_at l.sessions l.active l.role l.side) ≡ None
