use mathlib.Core.Path.{sym, ap, ◌∙◌}
use Rattle.state_text.specs.Reading.{outcome}
use Rattle.texts.proofs.SavedRunning.{put-refused, put-loaded}
use Rattle.texts.proofs.saved_runs.under_rules.Goals as goal

pub returns-in-Ok : goal.returns-in-Ok
returns-in-Ok c = put-loaded _ _ _ c.requires _ (sym (ap outcome c.in-Ok.is) ∙ c.read_state.ensures)

pub returns-in-Err : goal.returns-in-Err
returns-in-Err c = rw (c.number-loaded.ensures, c.place-loaded.ensures) (put-refused _ _ _ c.requires _ _ (sym (ap outcome c.in-Err.is) ∙ c.read_state.ensures))
