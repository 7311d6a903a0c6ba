use native.Mathlib.Omega.{arith}
use Rattle.rule_text.proofs.RightLoop.{start, fits, turn, turn-unstated, end}
use Rattle.rule_text.proofs.rights.read_rights.Goals as goal
use Rattle.rule_text.proofs.rights.read_rights.Goals.{in-Some, in_default}

pub loop-kind-init : goal.loop-kind-init
loop-kind-init c = start _

pub slice_bounds-rest-count : goal.slice_bounds-rest-count
slice_bounds-rest-count c = omega (arith, c.loop-kind.invariant.within)

pub slice_bounds-rest-start : goal.slice_bounds-rest-start
slice_bounds-rest-start c = omega (arith, c.loop-kind.invariant.within)

pub overflow_add-read : goal.overflow_add-read
overflow_add-read c = omega (arith, fits c.loop-kind.invariant c.loop-kind-test.true c.in-Some.ensures)

pub loop-kind-preserved : goal.loop-kind-preserved
loop-kind-preserved c =
    elim c.match-read_right.branch [
      | in-Some w ↦ rw w.read-is (turn c.loop-kind.invariant c.loop-kind-test.true w.in-Some.ensures w.line_count.ensures.0 w.line_count.ensures.1)
      | in_default w ↦ rw w.read-is (turn-unstated c.loop-kind.invariant c.loop-kind-test.true w.in_default.ensures)
    ]

pub returns : goal.returns
returns c = end c.loop-kind.invariant (omega arith)
