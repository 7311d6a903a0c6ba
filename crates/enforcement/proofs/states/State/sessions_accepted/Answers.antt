use mathlib.Core.Path.{sym, ◌∙◌}
use Rattle.sets.proofs.Bounded.{all-stop}
use Rattle.enforcement.proofs.states.State.sessions_accepted.Goals as goal

pub returns-then-not-session_accepted : goal.returns-then-not-session_accepted
returns-then-not-session_accepted c = sym (all-stop 32 _ c.loop-i.i c.loop-i-test.true (sym c.session_accepted.ensures ∙ c.if-not-session_accepted.true))
