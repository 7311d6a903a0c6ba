use mathlib.Core.Path.{◌≡◌}
use mathlib.Core.Bool.{not, ◌&&◌}
use Rattle.sets.specs.Sets.{member, subset, set_of}
use Rattle.rules.specs.Families.{word_at}
use Rattle.selection.proofs.rounds.staying_roles.Given as goal

abbrev pub invariant-loop-role : goal.invariant-loop-role
invariant-loop-role l = l.staying ≡ set_of l.role (λ r. not (member l.dead r) && subset (word_at l.needs r) l.live)
