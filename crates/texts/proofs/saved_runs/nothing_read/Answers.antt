use mathlib.Core.Path.{refl}
use Rattle.texts.specs.SavedRuns.{loaded_texts}
use Rattle.texts.proofs.saved_runs.nothing_read.Goals as goal

pub returns : goal.returns
unfolding loaded_texts
returns c = rw (c.no_rules.ensures, c.fresh.ensures) refl
