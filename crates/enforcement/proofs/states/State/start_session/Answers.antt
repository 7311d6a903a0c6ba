use mathlib.Core.Path.{refl, ◌∙◌}
use Rattle.enforcement.specs.Steps.{check, target}
use Rattle.selection.specs.Selection.{selects}
use Rattle.enforcement.proofs.RequestLaws.{decide-request, request-free}
use Rattle.enforcement.proofs.states.State.start_session.Goals as goal

pub returns : goal.returns
unfolding check target selects
returns c = λ rules. rw c.granted.ensures (request-free _ _ _ _ (λ rule. refl) refl ∙ decide-request _ _ _ (rw c.if-self-session.false) refl)
