use mathlib.Core.Path.{◌≡◌, sym, ◌∙◌}
use lib.ListN.{length}
use native.Mathlib.Nat.{zero-add}
use native.Mathlib.Omega.{arith}
use Rattle.forms.proofs.Lines.{end-here, end_later, end_none}
use Rattle.forms.proofs.tables.line_end.Goals as goal

pub loop-i-init : goal.loop-i-init
loop-i-init c = rw zero-add

pub returns-then-byte-eq10 : goal.returns-then-byte-eq10
returns-then-byte-eq10 c = sym (c.loop-i.invariant ∙ end-here _ _ (omega arith) c.if-byte-eq10.true)

pub loop-i-preserved : goal.loop-i-preserved
loop-i-preserved c = c.loop-i.invariant ∙ end_later _ _ (omega arith) c.if-byte-eq10.false

pub returns : goal.returns
returns c =
    let all : length c.args.text.now ≡ c.loop-i.i = omega arith in
    all ∙ sym (c.loop-i.invariant ∙ end_none _ _ (omega arith))
