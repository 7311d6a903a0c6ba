use native.Mathlib.Omega.{arith}
use Rattle.forms.proofs.Digits.{digits-small, digits-two}
use Rattle.forms.proofs.Puts.{like, then}
use Rattle.forms.proofs.writing.put_number.Goals as goal

pub returns-then-value-lt10 : goal.returns-then-value-lt10
returns-then-value-lt10 c = like (digits-small _ (omega arith)) c.put.ensures

pub returns : goal.returns
returns c = like (digits-two _ (omega arith) (omega arith)) (then (omega arith) c.put-place.ensures c.put-2.ensures)
