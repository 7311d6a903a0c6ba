use mathlib.Core.Path.{refl}
use Rattle.rule_text.proofs.Loaded.{refusal-number}
use Rattle.texts.proofs.SavedRunning.{rules-refused, rules-loaded}
use Rattle.texts.specs.SavedRuns.{loaded_texts}
use Rattle.texts.proofs.saved_runs.load.Goals as goal

pub under_rules-requires : goal.under_rules-requires
unfolding loaded_texts
under_rules-requires c = rw c.nothing_read-loaded.ensures refl

pub returns-in-Ok : goal.returns-in-Ok
returns-in-Ok c = rules-loaded _ _ _ c.in-Ok.ensures refl c.under_rules.ensures

pub returns-in-Err : goal.returns-in-Err
unfolding loaded_texts
returns-in-Err c = rw (c.nothing_read-loaded.ensures, c.number.ensures) (rules-refused _ _ _ c.in-Err.ensures (refusal-number _))
