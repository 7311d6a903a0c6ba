use native.Mathlib.Omega.{arith}
use Rattle.forms.proofs.Turns.{some_left, none_left}
use Rattle.state_text.proofs.Loads.{none, start, fresh_held, bad-line, good-line, end}
use Rattle.state_text.proofs.reading.read_lines.Goals as goal

pub returns-then-is_empty : goal.returns-then-is_empty
returns-then-is_empty c = none _ (none_left c.is_empty.ensures c.if-is_empty.true)

pub loop-rest-init : goal.loop-rest-init
loop-rest-init c = (start _ (some_left c.is_empty.ensures c.if-is_empty.false) c.requires, fresh_held c.requires)

pub returns-in_default : goal.returns-in_default
returns-in_default c = bad-line c.loop-rest.invariant.0 (some_left c.is_empty-in-loop-rest.ensures c.loop-rest-test.true) c.next_line-read.ensures _ c.unwrap_err.ensures

pub put_line-requires : goal.put_line-requires
put_line-requires c =
    let line = good-line c.loop-rest.invariant.0 (some_left c.is_empty-in-loop-rest.ensures c.loop-rest-test.true) c.next_line-read.ensures _ c.in-Ok.is in
    (line.ranged, c.loop-rest.invariant.0.filled, line.room, line.before, c.loop-rest.invariant.1)

pub rank-requires : goal.rank-requires
rank-requires c = (good-line c.loop-rest.invariant.0 (some_left c.is_empty-in-loop-rest.ensures c.loop-rest-test.true) c.next_line-read.ensures _ c.in-Ok.is).ranged

pub slice_bounds-rest-count : goal.slice_bounds-rest-count
slice_bounds-rest-count c = (good-line c.loop-rest.invariant.0 (some_left c.is_empty-in-loop-rest.ensures c.loop-rest-test.true) c.next_line-read.ensures _ c.in-Ok.is).within

pub slice_bounds-rest-start : goal.slice_bounds-rest-start
slice_bounds-rest-start c =
    let line = good-line c.loop-rest.invariant.0 (some_left c.is_empty-in-loop-rest.ensures c.loop-rest-test.true) c.next_line-read.ensures _ c.in-Ok.is in
    omega (arith, line.within)

pub loop-rest-smaller : goal.loop-rest-smaller
loop-rest-smaller c = (good-line c.loop-rest.invariant.0 (some_left c.is_empty-in-loop-rest.ensures c.loop-rest-test.true) c.next_line-read.ensures _ c.in-Ok.is).less

pub loop-rest-preserved : goal.loop-rest-preserved
loop-rest-preserved c =
    let line = good-line c.loop-rest.invariant.0 (some_left c.is_empty-in-loop-rest.ensures c.loop-rest-test.true) c.next_line-read.ensures _ c.in-Ok.is in
    (line.turn c.put_line.ensures.0 c.rank.ensures, c.put_line.ensures.1)

pub returns : goal.returns
returns c = end c.loop-rest.invariant.0 (none_left c.is_empty-in-loop-rest.ensures c.loop-rest-test.false)
