use mathlib.Core.Path.{◌≡◌}
use lib.ListN.{length}
use Rattle.rules.proofs.Steps.{active_users}
use Rattle.rules.proofs.tests.users_active.Given as goal

abbrev pub invariant-loop-session : goal.invariant-loop-session
invariant-loop-session l = l.users ≡ active_users l.sessions l.active l.role (length l.yielded)
