use mathlib.Core.Path.{◌≡◌}
use native.Mathlib.Omega.{arith}
use lib.ListN.{length}
use borrow.Author.Rules.{rules}
use Rattle.state_text.specs.declared.entries.Entry.TheVariants.{Assigned, Granted}
use Rattle.state_text.proofs.Writes.{state-parts}
use Rattle.state_text.proofs.writing.write_lines.Goals as goal

pub returns : goal.returns
returns c =
    let assigned-length : length c.args.state.now.assigned ≡ 64 = search rules in
    let granted-length : length c.args.state.now.granted ≡ 32 = search rules in
    state-parts c.args.state.now assigned-length granted-length (omega arith) c.write_line-after_time.ensures
    (c.write_rows-after_assigned.ensures Assigned (λ user role written told. search rules))
    (c.write_rows-after_granted.ensures Granted (λ role permission written told. search rules))
    (rw c.running.ensures at c.write_loans-after_loans.ensures) c.write_sessions-after_sessions.ensures c.write_history.ensures
