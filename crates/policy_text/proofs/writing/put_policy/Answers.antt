use mathlib.Core.Path.{ap, sym, ◌∙◌}
use mathlib.Core.List.{List}
use Prim.Native.Nat.{ℕ}
use Rattle.forms.specs.Forms.{fill}
use Rattle.forms.specs.Tables.{form_at}
use Rattle.forms.proofs.Puts.{like}
use Rattle.forms.proofs.Index.{index-line}
use Rattle.rule_text.specs.declared.lines.Line.{Line}
use Rattle.policy_text.specs.Lines.{policy_forms, policy_text}
use Rattle.policy_text.proofs.Table.{policy_starts, index-right}
use Rattle.policy_text.proofs.writing.put_policy.Goals as goal

pub returns : goal.returns
unfolding policy_text policy_forms
returns c =
    let line = c.policy_of-line in
    like
    (ap (λ (l : Line). fill (form_at policy_forms l.form) l.values) (sym line.ensures)
    ∙ ap (λ (t : List ℕ). fill t line.result.values) (sym (index-line policy_forms policy_starts index-right line.result.form)))
    c.write_line.ensures
