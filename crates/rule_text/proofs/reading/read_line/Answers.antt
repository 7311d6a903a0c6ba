use mathlib.Core.Path.{sym, ◌∙◌}
use mathlib.Core.Logic.{inl, inr}
use native.Mathlib.Omega.{arith}
use Rattle.rule_text.specs.Lines.{rule_forms}
use Rattle.rule_text.proofs.FoundLines.{is-no-form, is-out-of-range, is-not-next, is-rule}
use Rattle.rule_text.proofs.reading.read_line.Goals as goal
use Rattle.rule_text.proofs.reading.read_line.Goals.{then-found-ge-RULE_FORM_COUNT-via-then-found-ge-RULE_FORM_COUNT, then-found-ge-RULE_FORM_COUNT-via-else-found-ge-RULE_FORM_COUNT+then-found-number}

pub returns-in_default : goal.returns-in_default
unfolding rule_forms
returns-in_default c = is-no-form _ _ _ c.in_default.ensures

pub returns-then-not-line_in_range : goal.returns-then-not-line_in_range
unfolding rule_forms
returns-then-not-line_in_range c = is-out-of-range _ _ _ _ c.in-Some.ensures (sym c.line_in_range.ensures ∙ c.if-not-line_in_range.true)

pub returns-then-found-ge-RULE_FORM_COUNT : goal.returns-then-found-ge-RULE_FORM_COUNT
unfolding rule_forms
returns-then-found-ge-RULE_FORM_COUNT c =
    is-not-next _ _ _ _ c.in-Some.ensures (sym c.line_in_range.ensures ∙ c.if-not-line_in_range.false)
    (elim c.then-found-ge-RULE_FORM_COUNT.branch [
      | then-found-ge-RULE_FORM_COUNT-via-then-found-ge-RULE_FORM_COUNT w ↦ inl (omega arith)
      | then-found-ge-RULE_FORM_COUNT-via-else-found-ge-RULE_FORM_COUNT+then-found-number w ↦ inr w.if-found-number.true
    ])

pub returns : goal.returns
unfolding rule_forms
returns c =
    rw c.rule_of.ensures at c.rule_read.ensures
    ∙ is-rule _ _ _ _ c.in-Some.ensures (sym c.line_in_range.ensures ∙ c.if-not-line_in_range.false)
    (omega arith) c.if-found-number.false
