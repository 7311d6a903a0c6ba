use native.Mathlib.Omega.{arith}
use borrow.Author.Rules.{rules}
use Rattle.state_text.proofs.Writes.{start, end, row-turn}
use Rattle.state_text.proofs.writing.write_rows.Goals as goal

pub loop-i-init : goal.loop-i-init
loop-i-init g c = λ entry told. start _ _ _ (omega arith) (omega arith)

pub loop-i-preserved : goal.loop-i-preserved
loop-i-preserved g c = λ entry told. row-turn entry _ (c.loop-i.invariant entry told) (omega (arith, c.type_inv.words c.loop-i.i)) (rw c.from.ensures at (c.write_set-place.ensures (entry c.loop-i.i) (λ member written ran. told _ _ _ (search rules))))

pub returns : goal.returns
returns g c = λ entry told. end _ (c.loop-i.invariant entry told) (omega arith) (omega arith)
