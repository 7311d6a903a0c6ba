use mathlib.Core.Path.{◌≡◌}
use Rattle.rules.specs.Breach.{first_broken}
use Rattle.rules.specs.Families.{max_roles_at}
use Rattle.std.specs.Prelude.{None}
use Rattle.rules.proofs.tests.max_roles.Given as goal

abbrev pub invariant-loop-user : goal.invariant-loop-user
invariant-loop-user l = first_broken l.user (max_roles_at l.held l.limit) ≡ None
