use mathlib.Core.Path.{sym, ◌∙◌}
use native.Mathlib.Omega.{arith}
use borrow.Author.Tests.{eqb-true}
use Rattle.state_text.specs.Parts.{set_lines}
use Rattle.state_text.proofs.Writes.{start, end, empty-set, member-turn, other-turn}
use Rattle.state_text.proofs.writing.write_set.Goals as goal
use Rattle.state_text.proofs.writing.write_set.Goals.{then-contains, else-contains}

pub returns-then-is_empty : goal.returns-then-is_empty
returns-then-is_empty g c = λ entry told. empty-set entry _ (eqb-true c.args.set 0 (sym c.is_empty.ensures ∙ c.if-is_empty.true)) _ _ (omega arith)

pub loop-member-init : goal.loop-member-init
loop-member-init g c = λ entry told. start _ _ _ (omega arith) (omega arith)

pub loop-member-preserved : goal.loop-member-preserved
loop-member-preserved g c = λ entry told. elim c.if-contains.branch [
  | then-contains w ↦ rw (w.out-is, w.place-is) (member-turn entry _ (c.loop-member.invariant entry told) (sym c.contains.ensures.member ∙ w.if-contains.true) (told _ _ w.line.ensures) w.write_line-place.ensures)
  | else-contains w ↦ rw (w.out-is, w.place-is) (other-turn entry _ (c.loop-member.invariant entry told) (sym c.contains.ensures.member ∙ w.if-contains.false))
]

pub returns : goal.returns
unfolding set_lines
returns g c = λ entry told. end 64 (c.loop-member.invariant entry told) (omega arith) (omega arith)
