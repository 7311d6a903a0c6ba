use mathlib.Core.Path.{◌≡◌}
use mathlib.Core.Bool.{true}
use Rattle.sets.specs.Sets.{all}
use Rattle.rules.specs.Families.{word_at, session_at}
use Rattle.enforcement.specs.States.{session_accepted}
use Rattle.enforcement.proofs.states.State.sessions_accepted.Given as goal

abbrev pub invariant-loop-i : goal.invariant-loop-i
invariant-loop-i l = all l.i (λ i. session_accepted (session_at l.self.sessions i) (word_at l.self.active i)) ≡ true
