use mathlib.Core.Path.{refl, sym, ap, ◌∙◌}
use Rattle.forms.specs.Refusals.{numbered, write_number}
use Rattle.rule_text.proofs.Loaded.{refusal-number}
use Rattle.texts.proofs.ListWriting.{list-refused, list-short, list_written}
use Rattle.texts.proofs.saved_runs.write_list.Goals as goal

pub returns-in-Err-clause-given : goal.returns-in-Err-clause-given
returns-in-Err-clause-given c = rw c.in-Err.is (list-refused _ _ _ (refusal-number _) c.of_line.ensures.given)

pub returns-in_default-clause-given : goal.returns-in_default-clause-given
returns-in_default-clause-given c =
    let written = c.write_rules in
    rw c.in-Ok.is (list-short _ _ _ (rw c.in-Ok.is at c.requires) refl written.ensures.1 _ (sym (ap (numbered write_number) c.in_default.is) ∙ written.ensures.0) c.rules_length.ensures c.short.ensures.given)

pub returns-clause-given : goal.returns-clause-given
returns-clause-given c =
    let written = c.write_rules in
    rw c.in-Ok.is (list_written _ _ _ (rw c.in-Ok.is at c.requires) refl written.ensures.1 _ (sym (ap (numbered write_number) c.in-Ok-write_rules.is) ∙ written.ensures.0) refl)
