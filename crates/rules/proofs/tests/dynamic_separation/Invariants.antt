use mathlib.Core.Path.{◌≡◌}
use Rattle.rules.specs.Breach.{first_broken}
use Rattle.rules.specs.Families.{dynamic_separation_at}
use Rattle.std.specs.Prelude.{None}
use Rattle.rules.proofs.tests.dynamic_separation.Given as goal

abbrev pub invariant-loop-user : goal.invariant-loop-user
invariant-loop-user l = first_broken l.user (dynamic_separation_at l.sessions l.active l.first l.second) ≡ None
