use mathlib.Core.Path.{ap, sym}
use mathlib.Core.List.{List}
use Prim.Native.Nat.{ℕ}
use Rattle.forms.specs.Forms.{fill}
use Rattle.forms.specs.Writing.{Wrote}
use Rattle.forms.proofs.Puts.{like}
use Rattle.forms.proofs.Index.{index-line}
use Rattle.rule_text.specs.Lines.{rule_forms, line_text}
use Rattle.rule_text.proofs.Inverse.{rule_starts, index-right}
use Rattle.rule_text.proofs.writing.put_line.Goals as goal

pub returns : goal.returns
unfolding rule_forms
returns c =
    let wrote-line : Wrote c.args.out.now c.args.at (line_text c.args.line) c.write_line.result c.write_line.new.out = let line = c.args.line in
    like (ap (λ (t : List ℕ). fill t line.values) (sym (index-line rule_forms rule_starts index-right line.form))) c.write_line.ensures in
    wrote-line
