use mathlib.Core.Path.{refl}
use mathlib.Core.Logic.{⊎_elim}
use Rattle.forms.specs.Forms.{text_by}
use Rattle.forms.specs.declared.kinds.Syntax.TheVariants as syntax
use Rattle.forms.proofs.Marks.{syntax-text}
use Rattle.forms.proofs.Puts.{like}
use Rattle.forms.proofs.writing.put_item.Goals as goal

pub returns-then-is_plain : goal.returns-then-is_plain
unfolding text_by
returns-then-is_plain c =
    let mark = c.args.mark in
    let plain = c.is_plain.ensures c.if-is_plain.true c.requires in
    like (syntax-text mark _ syntax.Number plain refl _) c.put_number.ensures

pub returns-in-Literal : goal.returns-in-Literal
unfolding text_by
returns-in-Literal c = like (syntax-text _ _ syntax.Literal c.syntax_of.ensures c.in-Literal.is _) c.put.ensures

pub returns-in-Number : goal.returns-in-Number
unfolding text_by
returns-in-Number c =
    let wrote = c.put_number-in-Number.ensures in
    ⊎_elim
    (λ e. like (syntax-text _ _ syntax.Number c.syntax_of.ensures e _) wrote)
    (λ e. like (syntax-text _ _ syntax.Positive c.syntax_of.ensures e _) wrote)
    c.in-Number.is

pub returns-in-Signed : goal.returns-in-Signed
unfolding text_by
returns-in-Signed c = like (syntax-text _ _ syntax.Signed c.syntax_of.ensures c.in-Signed.is _) c.put_signed.ensures

pub returns-in-Date : goal.returns-in-Date
unfolding text_by
returns-in-Date c = like (syntax-text _ _ syntax.Date c.syntax_of.ensures c.in-Date.is _) c.put_fixed.ensures

pub returns-in-TimeOfDay : goal.returns-in-TimeOfDay
unfolding text_by
returns-in-TimeOfDay c = like (syntax-text _ _ syntax.TimeOfDay c.syntax_of.ensures c.in-TimeOfDay.is _) c.put_fixed-in-TimeOfDay.ensures
