use native.Mathlib.Omega.{arith}
use borrow.Author.Rules.{rules}
use Rattle.state_text.specs.declared.entries.Entry.TheVariants.{Did}
use Rattle.state_text.proofs.Writes.{start, end, history-turn}
use Rattle.state_text.proofs.writing.write_history.Goals as goal

pub loop-i-init : goal.loop-i-init
loop-i-init c = start _ _ _ (omega arith) (omega arith)

pub loop-i-preserved : goal.loop-i-preserved
loop-i-preserved c = history-turn _ c.loop-i.invariant (c.write_set-place.ensures (Did _ _) (λ user written told. search rules))

pub returns : goal.returns
returns c = end 1024 c.loop-i.invariant (omega arith) (omega arith)
