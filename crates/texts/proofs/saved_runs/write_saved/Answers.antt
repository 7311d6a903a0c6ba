use mathlib.Core.Path.{refl, sym, ap, ◌∙◌}
use Rattle.forms.specs.Refusals.{numbered, write_number}
use Rattle.texts.proofs.SavedRunning.{saved-refused, saved-written}
use Rattle.texts.proofs.saved_runs.write_saved.Goals as goal

pub returns-in_default-clause-given : goal.returns-in_default-clause-given
returns-in_default-clause-given c =
    let written = c.write_state in
    saved-refused _ c.requires _ written.ensures.1 _ (sym (ap (numbered write_number) c.in_default.is) ∙ written.ensures.0) c.saved_length.ensures c.short.ensures.given

pub returns-clause-given : goal.returns-clause-given
returns-clause-given c =
    let written = c.write_state in
    saved-written _ c.requires _ written.ensures.1 _ (sym (ap (numbered write_number) c.in-Ok.is) ∙ written.ensures.0) refl
