use mathlib.Core.Path.{◌≡◌}
use Rattle.rules.specs.Breach.{first_broken}
use Rattle.rules.specs.Families.{history_separation_at}
use Rattle.std.specs.Prelude.{None}
use Rattle.rules.proofs.tests.history_separation.Given as goal

abbrev pub invariant-loop-object : goal.invariant-loop-object
invariant-loop-object l = first_broken l.object (history_separation_at l.history l.first l.second) ≡ None
