use mathlib.Core.Path.{refl, ◌∙◌}
use Rattle.rights.proofs.Carrying.{carries-word}
use Rattle.enforcement.proofs.RequestLaws.{decide-request, not-told, request-free}
use Rattle.enforcement.specs.Steps.{check, target}
use Rattle.selection.specs.Selection.{selects}
use Rattle.enforcement.proofs.states.State.take_permission.Goals as goal

pub returns : goal.returns
unfolding check target selects
returns c = λ rules. rw (c.granted.ensures, c.without.ensures) (request-free _ _ _ _ (λ rule. refl) refl ∙ decide-request _ _ _ (rw (not-told (c.contains.ensures.member ∙ carries-word c.args.self.now.granted c.args.role c.args.permission c.requires) c.if-not-contains.false-raw)) refl)
