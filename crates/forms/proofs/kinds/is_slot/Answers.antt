use mathlib.Core.Path.{◌∙◌}
use native.Mathlib.Omega.{arith}
use Rattle.forms.proofs.Marks.{mark-high, mark-low, mark-between}
use Rattle.forms.proofs.kinds.is_slot.Goals as goal

pub returns-then-mark-ge97 : goal.returns-then-mark-ge97
returns-then-mark-ge97 c = mark-high _ (omega arith) c.if-mark-ge97.true

pub returns-then-mark-lt64 : goal.returns-then-mark-lt64
returns-then-mark-lt64 c = c.contains.ensures.member ∙ mark-low _ (omega arith) c.if-mark-lt64.true

pub returns : goal.returns
returns c = c.contains-2.ensures.member ∙ mark-between _ (omega arith) (omega arith) (omega arith)
