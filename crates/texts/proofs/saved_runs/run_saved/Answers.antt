use mathlib.Core.Path.{◌≡◌, refl, sym, ◌∙◌}
use native.Mathlib.Omega.{arith}
use Rattle.std.proofs.lemmas.Result.{err_from_is_err_and}
use Rattle.texts.specs.SavedRuns.{report_of, refused_report}
use Rattle.texts.proofs.SavedRunning.{loaded-refused, loaded-holding, too_long, texts-refused, texts-held, steps-refused, refused-ran, like-ran}
use Rattle.texts.proofs.saved_runs.run_saved.Goals as goal

pub returns-then-steps-gt-MOST_BYTES-clause-given : goal.returns-then-steps-gt-MOST_BYTES-clause-given
returns-then-steps-gt-MOST_BYTES-clause-given c = refused-ran (too_long _ _ _ c.if-steps-gt-MOST_BYTES.true) (omega arith) refl _ _

pub returns-in_err-check-clause-given : goal.returns-in_err-check-clause-given
returns-in_err-check-clause-given c =
    let read = c.load-loaded in
    let p = err_from_is_err_and c.from_residual.result c.from_residual.ensures.1 in
    let told : report_of c.from_residual.result ≡ refused_report read.result.text read.result.number read.result.place = rw (p.1, p.2, c.in_err-check.ensures.1) in
    let bad = loaded-refused _ _ read.result read.ensures c.in_err-check.ensures.0 in
    refused-ran (texts-refused _ _ _ c.if-steps-gt-MOST_BYTES.false bad.0) bad.1 told _ _

pub returns-in-Some-clause-given : goal.returns-in-Some-clause-given
returns-in-Some-clause-given c =
    let read = c.load-loaded in
    let held = loaded-holding _ _ read.result read.ensures c.in_ok-check.ensures in
    refused-ran (texts-held _ _ _ c.if-steps-gt-MOST_BYTES.false held.0 ∙ steps-refused _ _ _ _ _ c.first_bad_step.ensures c.in-Some.is) (omega arith) refl _ _

pub run_steps-requires : goal.run_steps-requires
run_steps-requires c =
    let read = c.load-loaded in
    let held = loaded-holding _ _ read.result read.ensures c.in_ok-check.ensures in
    (c.if-steps-gt-MOST_BYTES.false, sym c.first_bad_step.ensures ∙ c.in_default.is, held.1.accepted)

pub returns-clause-given : goal.returns-clause-given
returns-clause-given c =
    let read = c.load-loaded in
    let held = loaded-holding _ _ read.result read.ensures c.in_ok-check.ensures in
    like-ran (texts-held _ _ _ c.if-steps-gt-MOST_BYTES.false held.0) c.run_steps.ensures.given
