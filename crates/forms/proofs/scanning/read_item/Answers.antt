use mathlib.Core.Path.{refl, ap, ◌∙◌}
use Rattle.forms.specs.Numbers.{found_number}
use Rattle.forms.specs.Forms.{read_by}
use Rattle.forms.specs.declared.kinds.Syntax.TheVariants as syntax
use Rattle.forms.proofs.Marks.{syntax-read}
use Rattle.forms.proofs.scanning.read_item.Goals as goal

pub returns-then-is_plain : goal.returns-then-is_plain
unfolding read_by
returns-then-is_plain c =
    let mark = c.args.mark in
    let plain = c.is_plain.ensures c.if-is_plain.true c.requires in
    c.read_number.ensures ∙ ap found_number (syntax-read mark _ syntax.Number plain refl _)

pub returns-in-Literal : goal.returns-in-Literal
unfolding read_by
returns-in-Literal c = c.read_byte.ensures ∙ ap found_number (syntax-read _ _ syntax.Literal c.syntax_of.ensures c.in-Literal.is _)

pub returns-in-Number : goal.returns-in-Number
unfolding read_by
returns-in-Number c = c.read_number-in-Number.ensures ∙ ap found_number (syntax-read _ _ syntax.Number c.syntax_of.ensures c.in-Number.is _)

pub returns-in-Positive : goal.returns-in-Positive
unfolding read_by
returns-in-Positive c = c.read_positive.ensures ∙ ap found_number (syntax-read _ _ syntax.Positive c.syntax_of.ensures c.in-Positive.is _)

pub returns-in-Signed : goal.returns-in-Signed
unfolding read_by
returns-in-Signed c = c.read_signed.ensures ∙ ap found_number (syntax-read _ _ syntax.Signed c.syntax_of.ensures c.in-Signed.is _)

pub returns-in-Date : goal.returns-in-Date
unfolding read_by
returns-in-Date c = c.read_fixed.ensures ∙ ap found_number (syntax-read _ _ syntax.Date c.syntax_of.ensures c.in-Date.is _)

pub returns-in-TimeOfDay : goal.returns-in-TimeOfDay
unfolding read_by
returns-in-TimeOfDay c = c.read_fixed-in-TimeOfDay.ensures ∙ ap found_number (syntax-read _ _ syntax.TimeOfDay c.syntax_of.ensures c.in-TimeOfDay.is _)
