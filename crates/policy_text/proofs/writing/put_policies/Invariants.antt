use Rattle.forms.specs.Writing.{Wrote}
use Rattle.rule_text.specs.Lines.{list_text}
use Rattle.rule_text.proofs.Texts.{first_rules}
use Rattle.policy_text.specs.Lines.{policy_text}
use Rattle.policy_text.proofs.writing.put_policies.Given as goal

abbrev pub invariant-loop-i : goal.invariant-loop-i
invariant-loop-i l = Wrote l.initial.out 0 (list_text policy_text 1 (first_rules l.i l.slot-items)) l.at l.out
