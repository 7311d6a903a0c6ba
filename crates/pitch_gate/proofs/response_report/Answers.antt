use mathlib.Core.Path.{sym, ap, ◌∙◌}
use Prim.Native.Nat.{ℕ}
use lib.ListN.{length}
use Rattle.std.specs.Prelude.{Result}
use Rattle.forms.specs.Refusals.{numbered, write_number}
use Rattle.forms.specs.declared.writing.WriteRefusal.{WriteRefusal}
use Rattle.texts.specs.Response.{response_of}
use Rattle.texts.specs.SavedRuns.{refused_report}
use Rattle.texts.specs.declared.saved_runs.Text.TheVariants as Text
use Rattle.pitch_gate.specs.Reports.{response_report}
use Rattle.pitch_gate.proofs.response_report.Goals as goal

pub returns-in-Ok : goal.returns-in-Ok
returns-in-Ok c =
    let input = c.args.input.now in
    sym (ap (λ (w : Result ℕ WriteRefusal). response_report (numbered write_number w) (length (response_of input))) c.in-Ok.is)

pub returns-in-Err : goal.returns-in-Err
returns-in-Err c =
    let input = c.args.input.now in
    ap (λ (n : ℕ). refused_report Text.OutputSpace n c.response_length.result) c.number.ensures
    ∙ ap (λ (n : ℕ). refused_report Text.OutputSpace (write_number c.in-Err.refusal) n) c.response_length.ensures
    ∙ sym (ap (λ (w : Result ℕ WriteRefusal). response_report (numbered write_number w) (length (response_of input))) c.in-Err.is)
