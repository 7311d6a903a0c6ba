use mathlib.Core.Path.{◌∙◌}
use mathlib.Core.Logic.{inr}
use native.Mathlib.Omega.{arith}
use lib.Seq.{set-set, set-get_or}
use Rattle.enforcement.proofs.RequestLaws.{request-granted, request-broken, ended-one}
use Rattle.enforcement.proofs.states.State.change_active.Goals as goal

pub returns : goal.returns
returns c = rw c.granted.ensures (request-granted _ _ _ _ _ _ c.judge-judged.ensures (inr c.requires.1) _ c.in_default.is (c.fewer.ensures.number ∙ ended-one _ _ _ (omega arith)))

pub returns-in-Some : goal.returns-in-Some
returns-in-Some c = rw (c.broken.ensures, set-set, set-get_or) (request-broken _ _ _ _ _ _ c.judge-judged.ensures (inr c.requires.1) _ c.in-Some.is)
