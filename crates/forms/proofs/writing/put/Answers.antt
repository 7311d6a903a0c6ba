use native.Mathlib.Omega.{arith}
use Rattle.forms.proofs.Puts.{byte-within, byte_past, byte_last}
use Rattle.forms.proofs.writing.put.Goals as goal

pub returns-then-at-out : goal.returns-then-at-out
returns-then-at-out c = byte-within _ _ _ c.if-at-out.true (omega arith)

pub returns-then-at-eq18446744073709551615 : goal.returns-then-at-eq18446744073709551615
returns-then-at-eq18446744073709551615 c = byte_last _ _ _ c.if-at-out.false c.if-at-eq18446744073709551615.true

pub returns : goal.returns
returns c = byte_past _ _ _ c.if-at-out.false (omega arith)
