use native.Mathlib.Omega.{arith}
use Rattle.forms.proofs.Puts.{then, like}
use Rattle.forms.proofs.Reading.{plus-text, minus-text}
use Rattle.forms.proofs.writing.put_signed.Goals as goal

pub returns-then-value-gt-MINUS : goal.returns-then-value-gt-MINUS
returns-then-value-gt-MINUS c = like (minus-text _ c.if-value-gt-MINUS.true) (then (omega arith) c.put-place.ensures c.put_number.ensures)

pub returns : goal.returns
returns c = like (plus-text _ c.if-value-gt-MINUS.false) c.put_number-2.ensures
