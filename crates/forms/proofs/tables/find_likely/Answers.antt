use mathlib.Core.Path.{refl, ap, ◌∙◌}
use native.Mathlib.Omega.{arith}
use Rattle.forms.specs.Tables.{found_form}
use Rattle.forms.proofs.Turns.{some_left, none_left}
use Rattle.forms.proofs.Index.{first-empty, first-missed, first-found}
use Rattle.forms.proofs.tables.find_likely.Goals as goal

pub returns-then-is_empty : goal.returns-then-is_empty
returns-then-is_empty c =
    let none = none_left c.is_empty.ensures c.if-is_empty.true in
    c.find.ensures ∙ ap found_form (first-empty c.line_at-form.ensures _ _ _ (omega arith) refl)

pub returns-in-Some : goal.returns-in-Some
returns-in-Some c =
    let some = some_left c.is_empty.ensures c.if-is_empty.false in
    first-found c.line_at-form.ensures _ _ _ (λ none. omega arith) _ c.in-Some.ensures refl c.found_as.ensures

pub returns-in-None : goal.returns-in-None
returns-in-None c =
    let some = some_left c.is_empty.ensures c.if-is_empty.false in
    c.find-in-None.ensures ∙ ap found_form (first-missed c.line_at-form.ensures _ _ _ (λ none. omega arith) _ c.in-None.ensures refl refl)
