use native.Mathlib.Omega.{arith}
use Rattle.forms.proofs.Puts.{nothing_written, then, like}
use Rattle.rule_text.specs.Lines.{list_text, rule_text}
use Rattle.rule_text.proofs.Texts.{next-text}
use Rattle.rule_text.proofs.writing.put_rules.Goals as goal

pub loop-i-init : goal.loop-i-init
unfolding list_text
loop-i-init c = nothing_written _ _ (omega arith)

pub loop-i-preserved : goal.loop-i-preserved
loop-i-preserved c = like (next-text rule_text c.used-slot-items.result.now c.loop-i.i _ c.loop-i-test.true) (then (omega arith) c.loop-i.invariant c.put_rule-at.ensures)
