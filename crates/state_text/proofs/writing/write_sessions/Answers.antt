use native.Mathlib.Omega.{arith}
use Rattle.state_text.proofs.Writes.{start, end, session-turn}
use Rattle.state_text.proofs.writing.write_sessions.Goals as goal

pub loop-i-init : goal.loop-i-init
loop-i-init c = start _ _ _ (omega arith) (omega arith)

pub loop-i-preserved : goal.loop-i-preserved
loop-i-preserved c = session-turn _ _ c.loop-i.invariant c.write_session-place.ensures

pub returns : goal.returns
returns c = end 32 c.loop-i.invariant (omega arith) (omega arith)
