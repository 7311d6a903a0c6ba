use mathlib.Core.Path.{sym, ap, ◌∙◌}
use Rattle.rule_text.specs.Lines.{rule_forms}
use Rattle.rule_text.specs.Reading.{right_told}
use Rattle.rule_text.proofs.FoundLines.{is-no-right, is-other, is-outside, is-right}
use Rattle.rule_text.proofs.RightLines.{third-byte}
use Rattle.rule_text.proofs.rights.read_right.Goals as goal

pub returns-then-byte_at-ne105 : goal.returns-then-byte_at-ne105
returns-then-byte_at-ne105 c = sym (third-byte c.args.kind c.args.text.now c.requires (λ e. c.if-byte_at-ne105.true (c.byte_at.ensures ∙ e)))

pub returns-in_err-found : goal.returns-in_err-found
unfolding rule_forms
returns-in_err-found c = ap right_told c.from_residual.ensures ∙ is-no-right _ _ _ c.requires c.in_err-found.ensures

pub returns-then-found-kind : goal.returns-then-found-kind
unfolding rule_forms
returns-then-found-kind c = is-other _ _ _ c.requires _ c.in_ok-found.ensures c.if-found-kind.true

pub returns-then-not-line_in_range : goal.returns-then-not-line_in_range
unfolding rule_forms
returns-then-not-line_in_range c = is-outside _ _ _ c.requires _ c.in_ok-found.ensures c.if-found-kind.false (sym c.line_in_range.ensures ∙ c.if-not-line_in_range.true)

pub returns : goal.returns
unfolding rule_forms
returns c = is-right _ _ _ c.requires _ c.in_ok-found.ensures c.if-found-kind.false (sym c.line_in_range.ensures ∙ c.if-not-line_in_range.false) c.narrow.ensures
