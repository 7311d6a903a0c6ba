use Rattle.std.proofs.Common.{arith}
use Rattle.forms.proofs.Puts.{nothing_written, then, like}
use Rattle.rule_text.specs.Lines.{list_text}
use Rattle.rule_text.proofs.Texts.{next-text}
use Rattle.policy_text.specs.Lines.{policy_text}
use Rattle.policy_text.proofs.writing.put_policies.Goals as goal

pub loop-i-init : goal.loop-i-init
unfolding list_text
loop-i-init c = nothing_written _ 0 (omega arith)

pub loop-i-preserved : goal.loop-i-preserved
loop-i-preserved c = like (next-text policy_text c.used-slot-items.result.now c.loop-i.i _ c.loop-i-test.true) (then (omega arith) c.loop-i.invariant c.put_policy-at.ensures)
