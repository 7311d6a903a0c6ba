use native.Mathlib.Omega.{arith}
use borrow.Author.Rules.{rules}
use Rattle.state_text.specs.declared.entries.Entry.TheVariants.{Active}
use Rattle.state_text.proofs.Writes.{session-parts}
use Rattle.state_text.proofs.writing.write_session.Goals as goal

pub returns : goal.returns
returns c =
    session-parts _ _ _ (omega arith) (omega arith) (rw c.from.ensures at c.write_open-after_open.ensures) c.write_place-after_place.ensures (rw c.from-2.ensures at (c.write_set.ensures (Active c.args.i) (λ role written told. search rules)))
