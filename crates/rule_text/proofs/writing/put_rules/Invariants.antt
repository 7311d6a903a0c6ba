use Rattle.forms.specs.Writing.{Wrote}
use Rattle.rule_text.specs.Lines.{list_text, rule_text}
use Rattle.rule_text.proofs.Texts.{first_rules}
use Rattle.rule_text.proofs.writing.put_rules.Given as goal

abbrev pub invariant-loop-i : goal.invariant-loop-i
invariant-loop-i l = Wrote l.initial.out l.start (list_text rule_text 1 (first_rules l.i l.slot-items)) l.at l.out
