use mathlib.Core.Path.{◌≡◌}
use mathlib.Core.List.{List}
use Prim.Native.Nat.{ℕ}
use lib.ListN.{length, take}
use Rattle.rules.specs.Families.{has_role, session_at}
use Rattle.rules.specs.declared.sessions.Session.{Session}
use Rattle.steps.specs.Pairs.{sifted}
use Rattle.selection.proofs.rounds.held_active.Given as goal

abbrev pub held_active : List ℕ → List Session → List ℕ → List ℕ
held_active held sessions active = sifted 0 (λ i r. has_role held (session_at sessions i).user r) active

abbrev pub invariant-loop-i : goal.invariant-loop-i
invariant-loop-i l = (length l.kept ≡ 32) × (take l.i l.kept ≡ take l.i (held_active l.held l.sessions l.active))
