use mathlib.Core.Path.{sym}
use mathlib.Core.Logic.{inr}
use lib.Seq.{set-set, set-get_or}
use Rattle.enforcement.proofs.EndedPairs.{none-ended}
use Rattle.enforcement.proofs.RequestLaws.{request-granted, request-broken}
use Rattle.enforcement.proofs.states.State.change_granted.Goals as goal

pub returns : goal.returns
returns c = rw c.granted.ensures (request-granted _ _ _ _ _ _ c.judge-judged.ensures (inr c.requires.1) _ c.in_default.is (sym (none-ended _)))

pub returns-in-Some : goal.returns-in-Some
returns-in-Some c = rw (c.broken.ensures, set-set, set-get_or) (request-broken _ _ _ _ _ _ c.judge-judged.ensures (inr c.requires.1) _ c.in-Some.is)
