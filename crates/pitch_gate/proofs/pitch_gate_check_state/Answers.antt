use mathlib.Core.Path.{ap, ◌∙◌}
use Rattle.texts.specs.SavedRuns.{refused_report}
use Rattle.texts.specs.declared.saved_runs.Refused.{Refused}
use Rattle.pitch_gate.proofs.Telling.{told, texts-held, texts-refused}
use Rattle.pitch_gate.proofs.pitch_gate_check_state.Goals as goal

pub returns-in-Ok : goal.returns-in-Ok
returns-in-Ok c = told (texts-held _ _ c.load.result c.load.ensures c.in-Ok.ensures) c.tell.ensures

pub returns-in-Err : goal.returns-in-Err
returns-in-Err c =
    told
    (ap (λ (r : Refused). refused_report r.text r.number r.place) c.in-Err.ensures.1 ∙ texts-refused _ _ c.load.result c.load.ensures c.in-Err.ensures.0)
    c.tell-in-Err.ensures
