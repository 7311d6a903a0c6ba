use Rattle.enforcement.proofs.Kept.{fresh-accepted}
use Rattle.texts.proofs.saved_runs.fresh_state.Goals as goal

pub write_saved-requires : goal.write_saved-requires
write_saved-requires c = rw c.fresh.ensures fresh-accepted.unrefused

pub returns-clause-given : goal.returns-clause-given
returns-clause-given c = rw c.fresh.ensures at c.write_saved.ensures.given
