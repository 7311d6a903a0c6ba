use Rattle.forms.specs.Tables.{found_form}
use mathlib.Core.Path.{ap, refl, ◌∙◌}
use Rattle.forms.proofs.Turns.{some_left, none_left}
use Rattle.forms.proofs.Lines.{end-within, cut-length, search-start, search-found, search-less, search-turn, search-end}
use Rattle.forms.proofs.tables.find.Goals as goal

pub loop-rest-init : goal.loop-rest-init
loop-rest-init c = search-start _ _

pub slice_bounds-scan_form-end : goal.slice_bounds-scan_form-end
slice_bounds-scan_form-end c = cut-length _ c.line_end-end.ensures

pub returns-in-Some : goal.returns-in-Some
returns-in-Some c =
    search-found c.loop-rest.invariant (some_left c.is_empty.ensures c.loop-rest-test.true) c.line_end-end.ensures _ c.in-Some.ensures refl c.found_as.ensures

pub slice_bounds-rest-count : goal.slice_bounds-rest-count
slice_bounds-rest-count c = end-within _ c.line_end-end.ensures

pub slice_bounds-rest-start : goal.slice_bounds-rest-start
slice_bounds-rest-start c = end-within _ c.line_end-end.ensures

pub loop-rest-smaller : goal.loop-rest-smaller
loop-rest-smaller c =
    search-less c.loop-rest.invariant (some_left c.is_empty.ensures c.loop-rest-test.true) c.line_end-end.ensures _ c.in_default.ensures

pub loop-rest-preserved : goal.loop-rest-preserved
loop-rest-preserved c =
    search-turn c.loop-rest.invariant (some_left c.is_empty.ensures c.loop-rest-test.true) c.line_end-end.ensures _ c.in_default.ensures refl

pub returns : goal.returns
returns c = ap found_form (search-end c.loop-rest.invariant (none_left c.is_empty.ensures c.loop-rest-test.false))
