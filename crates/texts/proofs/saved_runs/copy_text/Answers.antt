use native.Mathlib.Omega.{arith}
use Rattle.texts.proofs.Copying.{copied_whole}
use Rattle.texts.proofs.saved_runs.copy_text.Goals as goal

pub returns : goal.returns
returns c = rw c.copy_from_slice.ensures.after (copied_whole _ _ c.requires (omega arith))
