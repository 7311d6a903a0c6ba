use mathlib.Core.Path.{ap, ◌∙◌}
use native.Mathlib.Omega.{arith}
use Rattle.forms.specs.Refusals.{numbered}
use Rattle.rule_text.specs.Refusals.{refusal_number, number_if}
use Rattle.forms.proofs.Turns.{some_left, none_left}
use Rattle.rule_text.specs.Reading.{no_rights}
use Rattle.rule_text.proofs.Lists.{own-language}
use Rattle.rule_text.proofs.LineLoop.{number_told, fits, small, turn, stop, end}
use Rattle.rule_text.proofs.Prefixes.{rights-within, lines-most, start}
use Rattle.rule_text.proofs.reading.read_prefix.Goals as goal

pub slice_bounds-rest-count : goal.slice_bounds-rest-count
slice_bounds-rest-count c = omega (arith, rights-within _ c.read_rights-read.ensures)

pub slice_bounds-rest-start : goal.slice_bounds-rest-start
slice_bounds-rest-start c = omega (arith, rights-within _ c.read_rights-read.ensures)

pub slice_bounds-rest-end : goal.slice_bounds-rest-end
slice_bounds-rest-end c = omega (arith, rights-within _ c.read_rights-read.ensures)

pub overflow_add-line : goal.overflow_add-line
overflow_add-line c = omega (arith, lines-most _ c.read_rights-read.ensures)

pub loop-rest-init : goal.loop-rest-init
loop-rest-init c = start _ c.read_rights-read.ensures _ c.no_rules-list.ensures

pub overflow_add-at : goal.overflow_add-at
overflow_add-at c = omega (arith, c.loop-rest.invariant.last)

pub returns-in_default : goal.returns-in_default
returns-in_default c = let l = c.loop-rest in let r = c.read_line-answer in stop (own-language no_rights) l.invariant (some_left c.is_empty.ensures c.loop-rest-test.true) r.ensures (ap (numbered refusal_number) c.in_default.is) (ap number_if c.err.ensures.value ∙ number_told r.result)

pub bounds-list-at : goal.bounds-list-at
bounds-list-at c = let l = c.loop-rest in let r = c.read_line-answer in omega (arith, l.invariant.slots, small (own-language no_rights) l.invariant (some_left c.is_empty.ensures c.loop-rest-test.true) r.ensures (ap (numbered refusal_number) c.in-Ok.is))

pub overflow_add-list : goal.overflow_add-list
overflow_add-list c = omega (arith, c.loop-rest.invariant.last)

pub slice_bounds-rest-count-in-loop-rest : goal.slice_bounds-rest-count-in-loop-rest
slice_bounds-rest-count-in-loop-rest c = let l = c.loop-rest in let r = c.read_line-answer in omega (arith, fits (own-language no_rights) l.invariant (some_left c.is_empty.ensures c.loop-rest-test.true) r.ensures (ap (numbered refusal_number) c.in-Ok.is))

pub slice_bounds-rest-start-in-loop-rest : goal.slice_bounds-rest-start-in-loop-rest
slice_bounds-rest-start-in-loop-rest c = let l = c.loop-rest in let r = c.read_line-answer in omega (arith, fits (own-language no_rights) l.invariant (some_left c.is_empty.ensures c.loop-rest-test.true) r.ensures (ap (numbered refusal_number) c.in-Ok.is))

pub slice_bounds-rest-end-in-loop-rest : goal.slice_bounds-rest-end-in-loop-rest
slice_bounds-rest-end-in-loop-rest c = let l = c.loop-rest in let r = c.read_line-answer in omega (arith, fits (own-language no_rights) l.invariant (some_left c.is_empty.ensures c.loop-rest-test.true) r.ensures (ap (numbered refusal_number) c.in-Ok.is))

pub overflow_add-length : goal.overflow_add-length
overflow_add-length c = let l = c.loop-rest in let r = c.read_line-answer in omega (arith, l.invariant.size, fits (own-language no_rights) l.invariant (some_left c.is_empty.ensures c.loop-rest-test.true) r.ensures (ap (numbered refusal_number) c.in-Ok.is))

pub overflow_add-line-in-loop-rest : goal.overflow_add-line-in-loop-rest
overflow_add-line-in-loop-rest c = let l = c.loop-rest in omega (arith, l.invariant.counted, l.invariant.few, l.invariant.last)

pub loop-rest-smaller : goal.loop-rest-smaller
loop-rest-smaller c = let l = c.loop-rest in let r = c.read_line-answer in omega (arith, small (own-language no_rights) l.invariant (some_left c.is_empty.ensures c.loop-rest-test.true) r.ensures (ap (numbered refusal_number) c.in-Ok.is))

pub loop-rest-preserved : goal.loop-rest-preserved
loop-rest-preserved c = let l = c.loop-rest in let r = c.read_line-answer in turn (own-language no_rights) l.invariant (some_left c.is_empty.ensures c.loop-rest-test.true) r.ensures (ap (numbered refusal_number) c.in-Ok.is)

pub returns : goal.returns
returns c = end _ c.loop-rest.invariant (none_left c.is_empty.ensures c.loop-rest-test.false)
