use mathlib.Core.Path.{ap}
use native.Mathlib.Omega.{arith}
use Rattle.forms.specs.Refusals.{numbered}
use Rattle.rule_text.specs.Refusals.{refusal_number}
use Rattle.forms.proofs.Turns.{some_left, none_left}
use Rattle.policy_text.proofs.Loop.{begin, within, room, next, refused, whole}
use Rattle.policy_text.proofs.reading.read_policies.Goals as goal

pub loop-rest-init : goal.loop-rest-init
loop-rest-init c = begin _ _ c.no_rules-list.ensures

pub overflow_add-line : goal.overflow_add-line
overflow_add-line c = omega (arith, c.loop-rest.invariant.inv.last)

pub returns-in_default : goal.returns-in_default
returns-in_default c = refused c.loop-rest.invariant (some_left c.is_empty.ensures c.loop-rest-test.true) c.read_policy-answer.ensures _ (ap (numbered refusal_number) c.unwrap_err.ensures)

pub bounds-list-list : goal.bounds-list-list
bounds-list-list c = let l = c.loop-rest.invariant in let r = c.read_policy-answer.ensures in let g = ap (numbered refusal_number) c.in-Ok.is in omega (arith, l.inv.slots, room l (some_left c.is_empty.ensures c.loop-rest-test.true) r g)

pub slice_bounds-rest-count : goal.slice_bounds-rest-count
slice_bounds-rest-count c = let l = c.loop-rest.invariant in let r = c.read_policy-answer.ensures in let g = ap (numbered refusal_number) c.in-Ok.is in omega (arith, within l (some_left c.is_empty.ensures c.loop-rest-test.true) r g)

pub slice_bounds-rest-start : goal.slice_bounds-rest-start
slice_bounds-rest-start c = let l = c.loop-rest.invariant in let r = c.read_policy-answer.ensures in let g = ap (numbered refusal_number) c.in-Ok.is in omega (arith, within l (some_left c.is_empty.ensures c.loop-rest-test.true) r g)

pub slice_bounds-rest-end : goal.slice_bounds-rest-end
slice_bounds-rest-end c = let l = c.loop-rest.invariant in let r = c.read_policy-answer.ensures in let g = ap (numbered refusal_number) c.in-Ok.is in omega (arith, within l (some_left c.is_empty.ensures c.loop-rest-test.true) r g)

pub loop-rest-smaller : goal.loop-rest-smaller
loop-rest-smaller c = let l = c.loop-rest.invariant in let r = c.read_policy-answer.ensures in let g = ap (numbered refusal_number) c.in-Ok.is in omega (arith, room l (some_left c.is_empty.ensures c.loop-rest-test.true) r g)

pub loop-rest-preserved : goal.loop-rest-preserved
loop-rest-preserved c = let l = c.loop-rest.invariant in let r = c.read_policy-answer.ensures in let g = ap (numbered refusal_number) c.in-Ok.is in next l (some_left c.is_empty.ensures c.loop-rest-test.true) r g

pub returns : goal.returns
returns c = whole _ c.loop-rest.invariant (none_left c.is_empty.ensures c.loop-rest-test.false)
