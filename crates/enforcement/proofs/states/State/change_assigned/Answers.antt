use mathlib.Core.Path.{sym}
use mathlib.Core.Logic.{inl}
use lib.Seq.{set-set, set-get_or}
use Rattle.enforcement.proofs.EndedPairs.{none-ended}
use Rattle.enforcement.proofs.RequestLaws.{request-granted, request-broken}
use Rattle.enforcement.proofs.states.State.change_assigned.Goals as goal

pub returns : goal.returns
returns c = rw c.granted.ensures (request-granted _ _ _ _ _ _ c.judge-judged.ensures (inl c.held-held.ensures) _ c.in_default.is (sym (none-ended _)))

pub returns-in-Some : goal.returns-in-Some
returns-in-Some c = rw (c.broken.ensures, set-set, set-get_or) (request-broken _ _ _ _ _ _ c.judge-judged.ensures (inl c.held-held.ensures) _ c.in-Some.is)
