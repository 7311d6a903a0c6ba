use mathlib.Core.Path.{◌≡◌}
use Rattle.rules.specs.Breach.{first_broken}
use Rattle.rules.specs.Families.{prerequisite_at}
use Rattle.std.specs.Prelude.{None}
use Rattle.rules.proofs.tests.prerequisite.Given as goal

abbrev pub invariant-loop-user : goal.invariant-loop-user
invariant-loop-user l = first_broken l.user (prerequisite_at l.assigned l.role l.required) ≡ None
