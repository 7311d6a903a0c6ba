use mathlib.Core.Path.{◌≡◌}
use Rattle.sets.specs.Sets.{set_of}
use Rattle.rules.specs.Families.{has_role}
use Rattle.rules.proofs.tests.users_of.Given as goal

abbrev pub invariant-loop-user : goal.invariant-loop-user
invariant-loop-user l = l.users ≡ set_of l.user (λ u. has_role l.held u l.role)
