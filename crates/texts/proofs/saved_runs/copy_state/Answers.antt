use mathlib.Core.Path.{◌≡◌}
use Rattle.std.proofs.lemmas.Result.{err_from_is_err_and}
use Rattle.texts.specs.SavedRuns.{report_of, refused_report}
use Rattle.texts.proofs.SavedRunning.{loaded-refused, loaded-holding, copied, uncopied}
use Rattle.texts.proofs.saved_runs.copy_state.Goals as goal

pub returns-in_err-check-clause-given : goal.returns-in_err-check-clause-given
returns-in_err-check-clause-given c =
    let read = c.load-loaded in
    let p = err_from_is_err_and c.from_residual.result c.from_residual.ensures.1 in
    let told : report_of c.from_residual.result ≡ refused_report read.result.text read.result.number read.result.place = rw (p.1, p.2, c.in_err-check.ensures.1) in
    uncopied _ (loaded-refused _ _ read.result read.ensures c.in_err-check.ensures.0) told

pub write_saved-requires : goal.write_saved-requires
write_saved-requires c = let read = c.load-loaded in (loaded-holding _ _ read.result read.ensures c.in_ok-check.ensures).1.accepted.unrefused

pub returns-clause-given : goal.returns-clause-given
returns-clause-given c = let read = c.load-loaded in copied _ (loaded-holding _ _ read.result read.ensures c.in_ok-check.ensures).0 c.write_saved.ensures.given
