use mathlib.Core.Path.{◌≡◌}
use Rattle.rules.specs.Breach.{first_broken}
use Rattle.rules.specs.Families.{inactive_at}
use Rattle.std.specs.Prelude.{None}
use Rattle.rules.proofs.tests.first_active.Given as goal

abbrev pub invariant-loop-session : goal.invariant-loop-session
invariant-loop-session l = first_broken l.session (inactive_at l.active l.role) ≡ None
