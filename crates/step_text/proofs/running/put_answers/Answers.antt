use native.Mathlib.Omega.{arith}
use Rattle.forms.proofs.Turns.{some_left, none_left}
use Rattle.step_text.proofs.Stepping.{answers-start, answers-end}
use Rattle.step_text.proofs.Batching.{batch-stop, batch-fits, batch-less, batch-turn}
use Rattle.step_text.proofs.running.put_answers.Goals as goal

pub loop-rest-init : goal.loop-rest-init
loop-rest-init c = answers-start _ _ _ _ _ (omega arith) (omega arith)

pub slice_bounds-rest-count : goal.slice_bounds-rest-count
slice_bounds-rest-count c = omega (arith, batch-fits c.loop-rest.invariant (some_left c.is_empty.ensures c.loop-rest-test.true) _ c.read_batch-read.ensures c.if-read-eq0.false)

pub slice_bounds-rest-start : goal.slice_bounds-rest-start
slice_bounds-rest-start c = omega (arith, batch-fits c.loop-rest.invariant (some_left c.is_empty.ensures c.loop-rest-test.true) _ c.read_batch-read.ensures c.if-read-eq0.false)

pub loop-rest-smaller : goal.loop-rest-smaller
loop-rest-smaller c = batch-less c.loop-rest.invariant (some_left c.is_empty.ensures c.loop-rest-test.true) _ c.read_batch-read.ensures c.if-read-eq0.false

pub loop-rest-preserved : goal.loop-rest-preserved
loop-rest-preserved c = batch-turn c.loop-rest.invariant (some_left c.is_empty.ensures c.loop-rest-test.true) _ c.read_batch-read.ensures c.if-read-eq0.false _ c.run_batch-ran.ensures c.put_entries-place.ensures

pub returns-after-loop-rest : goal.returns-after-loop-rest
returns-after-loop-rest c = answers-end c.loop-rest.invariant (none_left c.is_empty.ensures c.loop-rest-test.false)

pub returns-then-read-eq0 : goal.returns-then-read-eq0
returns-then-read-eq0 c = batch-stop c.loop-rest.invariant (some_left c.is_empty.ensures c.loop-rest-test.true) _ c.read_batch-read.ensures c.if-read-eq0.true
