use mathlib.Core.Path.{refl}
use native.Mathlib.Omega.{arith}
use Rattle.pitch_gate.proofs.Telling.{filled}
use Rattle.pitch_gate.proofs.tell.Goals as goal

pub returns-in-Ok : goal.returns-in-Ok
returns-in-Ok c = rw c.in-Ok.is (record { returned = refl; filled = rw c.text_number.ensures (filled _ _ _ _ _ (omega arith)) })

pub returns-in-Err : goal.returns-in-Err
returns-in-Err c = rw c.in-Err.is (record { returned = refl; filled = rw c.text_number-in-Err.ensures (filled _ _ _ _ _ (omega arith)) })
