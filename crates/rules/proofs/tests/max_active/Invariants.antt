use mathlib.Core.Path.{◌≡◌}
use Rattle.rules.specs.Breach.{first_broken}
use Rattle.rules.specs.Families.{max_active_at}
use Rattle.std.specs.Prelude.{None}
use Rattle.rules.proofs.tests.max_active.Given as goal

abbrev pub invariant-loop-session : goal.invariant-loop-session
invariant-loop-session l = first_broken l.session (max_active_at l.active l.limit) ≡ None
