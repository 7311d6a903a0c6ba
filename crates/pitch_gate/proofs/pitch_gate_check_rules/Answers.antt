use mathlib.Core.Path.{sym, ap, ◌∙◌}
use borrow.Author.Tests.{ne_eqb}
use Rattle.rule_text.specs.Refusals.{refusal_number}
use Rattle.rule_text.proofs.Loaded.{refusal-number}
use Rattle.pitch_gate.specs.Reports.{rules_report}
use Rattle.pitch_gate.proofs.Telling.{told}
use Rattle.pitch_gate.proofs.pitch_gate_check_rules.Goals as goal

pub returns-in-Ok : goal.returns-in-Ok
returns-in-Ok c = told (ap rules_report c.in-Ok.ensures) c.tell.ensures

pub returns-in-Err : goal.returns-in-Err
returns-in-Err c =
    let refusal = c.in-Err.bad.refusal in
    told (c.of_line.ensures.given ∙ sym (rw (ne_eqb (refusal_number refusal) 0 (refusal-number refusal))) ∙ ap rules_report c.in-Err.ensures) c.tell-in-Err.ensures
