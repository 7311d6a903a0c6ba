use mathlib.Core.Path.{◌≡◌}
use lib.ListN.{length}
use Rattle.state_text.proofs.Measures.{saved-measured}
use borrow.Author.Rules.{rules}
use Rattle.state_text.proofs.measuring.saved_length.Goals as goal

pub returns : goal.returns
returns c =
    let assigned-length : length c.args.state.assigned ≡ 64 = search rules in
    let granted-length : length c.args.state.granted ≡ 32 = search rules in
    saved-measured c.args.state assigned-length granted-length c.time_length-time.ensures c.rows_length-roles.ensures c.rows_length-permissions.ensures (rw c.running.ensures at c.loans_length-lent.ensures) c.sessions_length-opened.ensures c.history_length.ensures
