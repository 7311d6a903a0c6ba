use Prim.Native.Nat.{◌+◌, ◌≤◌}
use native.Mathlib.Omega.{arith}
use lib.ListN.{length, get_or}
use Rattle.forms.proofs.Index.{part-bounds, line-past, line-within, line-outside}
use Rattle.forms.proofs.tables.line_at.Goals as goal

pub returns-then-starts-i : goal.returns-then-starts-i
returns-then-starts-i c = line-past _ _ _ (omega arith)

pub returns-then-starts-next : goal.returns-then-starts-next
returns-then-starts-next c = line-past _ _ _ (omega arith)

pub slice_bounds-result-count-then-start-end : goal.slice_bounds-result-count-then-start-end
slice_bounds-result-count-then-start-end c =
    let bounds : let x = c.args in (get_or x.starts.now x.i 0 ≤ get_or x.starts.now (x.i + 1) 0) × (get_or x.starts.now (x.i + 1) 0 ≤ length x.table.now) = let x = c.args in part-bounds (get_or x.starts.now x.i 0) (get_or x.starts.now (x.i + 1) 0) (length x.table.now) c.if-start-end.true in
    (bounds).0

pub slice_bounds-result-start-then-start-end : goal.slice_bounds-result-start-then-start-end
slice_bounds-result-start-then-start-end c =
    let bounds : let x = c.args in (get_or x.starts.now x.i 0 ≤ get_or x.starts.now (x.i + 1) 0) × (get_or x.starts.now (x.i + 1) 0 ≤ length x.table.now) = let x = c.args in part-bounds (get_or x.starts.now x.i 0) (get_or x.starts.now (x.i + 1) 0) (length x.table.now) c.if-start-end.true in
    (bounds).0

pub slice_bounds-result-end-then-start-end : goal.slice_bounds-result-end-then-start-end
slice_bounds-result-end-then-start-end c =
    let bounds : let x = c.args in (get_or x.starts.now x.i 0 ≤ get_or x.starts.now (x.i + 1) 0) × (get_or x.starts.now (x.i + 1) 0 ≤ length x.table.now) = let x = c.args in part-bounds (get_or x.starts.now x.i 0) (get_or x.starts.now (x.i + 1) 0) (length x.table.now) c.if-start-end.true in
    (bounds).1

pub returns-then-start-end : goal.returns-then-start-end
returns-then-start-end c = line-within _ _ _ c.if-start-end.true

pub returns : goal.returns
returns c = line-outside _ _ _ c.if-start-end.false
