use mathlib.Core.Path.{◌≡◌}
use Rattle.sets.specs.Sets.{union_of}
use Rattle.rules.specs.Families.{word_at}
use Rattle.rules.proofs.tests.active_somewhere.Given as goal

abbrev pub invariant-loop-roles : goal.invariant-loop-roles
invariant-loop-roles l = l.somewhere ≡ union_of l.roles-index (word_at l.active)
