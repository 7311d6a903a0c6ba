use native.Mathlib.Omega.{arith}
use Rattle.forms.proofs.Puts.{nothing_written, then, like}
use Rattle.rule_text.specs.Lines.{rights_text}
use Rattle.rule_text.proofs.Texts.{next-right}
use Rattle.rule_text.proofs.writing.put_rights.Goals as goal

pub loop-kind-init : goal.loop-kind-init
unfolding rights_text
loop-kind-init c = nothing_written _ 0 (omega arith)

pub loop-kind-preserved : goal.loop-kind-preserved
loop-kind-preserved c = like (next-right c.args.rights.now c.loop-kind.kind _ (omega arith)) (then (omega arith) c.loop-kind.invariant c.put_right-at.ensures)
