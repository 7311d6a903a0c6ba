use mathlib.Core.Path.{◌≡◌, sym, ap, ◌∙◌}
use mir.Syntax.{w32, w64}
use mir.Val.{to_z, of_z}
use mir.ValLaws.{to_z-of_z}
use borrow.Author.Tests.{not-true, not-false}
use Rattle.forms.specs.Numbers.{signed_value}
use Rattle.places.specs.Places.{on_grid}
use Rattle.places.proofs.Grid.{grid-fits}
use Rattle.forms.proofs.Coordinates.{coordinate-off, coordinate-on}
use borrow.Author.Rules.{rules}
use Rattle.forms.proofs.numbers.coordinate.Goals as goal

pub returns-then-not-on_grid : goal.returns-then-not-on_grid
returns-then-not-on_grid c =
    let z : to_z w64 (of_z w64 c.signed_value-number.result) ≡ c.signed_value-number.result = search rules in
    let e : c.on_grid.result ≡ on_grid (signed_value c.args.value) = c.on_grid.ensures ∙ ap on_grid (z ∙ c.signed_value-number.ensures) in
    coordinate-off _ (sym e ∙ not-true _ c.if-not-on_grid.true-raw)

pub overflow_cast-result : goal.overflow_cast-result
overflow_cast-result c =
    let z : to_z w64 (of_z w64 c.signed_value-number.result) ≡ c.signed_value-number.result = search rules in
    let e : c.on_grid.result ≡ on_grid (signed_value c.args.value) = c.on_grid.ensures ∙ ap on_grid (z ∙ c.signed_value-number.ensures) in
    rw (z ∙ c.signed_value-number.ensures) (grid-fits _ (sym e ∙ not-false _ c.if-not-on_grid.false-raw))

pub returns : goal.returns
returns c =
    let z : to_z w64 (of_z w64 c.signed_value-number.result) ≡ c.signed_value-number.result = search rules in
    let e : c.on_grid.result ≡ on_grid (signed_value c.args.value) = c.on_grid.ensures ∙ ap on_grid (z ∙ c.signed_value-number.ensures) in
    rw (z ∙ c.signed_value-number.ensures) (to_z-of_z w32 _ (grid-fits _ (sym e ∙ not-false _ c.if-not-on_grid.false-raw)) ∙ coordinate-on _ (sym e ∙ not-false _ c.if-not-on_grid.false-raw))
