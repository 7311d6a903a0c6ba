use mathlib.Core.Path.{ap}
use Prim.Native.Nat.{ℕ}
use lib.Dec.{leb}
use Rattle.texts.proofs.Measuring.{room-enough}
use Rattle.texts.proofs.responses.fits.Goals as goal

pub returns-then-room-ge-ROOM : goal.returns-then-room-ge-ROOM
returns-then-room-ge-ROOM c = room-enough _ _ c.if-room-ge-ROOM.true

pub returns : goal.returns
returns c = ap (λ (n : ℕ). leb n c.args.room) c.response_length.ensures
