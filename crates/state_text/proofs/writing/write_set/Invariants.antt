use mathlib.Core.Path.{◌≡◌}
use Prim.Native.Nat.{ℕ}
use Rattle.state_text.specs.Parts.{member_lines}
use Rattle.state_text.specs.declared.entries.Entry.{Entry}
use Rattle.state_text.proofs.Writes.{Loop}
use Rattle.state_text.proofs.writing.write_set.Given as goal

abbrev pub invariant-loop-member : goal.invariant-loop-member
invariant-loop-member g l =
    (entry : ℕ → Entry) → ((member : ℕ) (written : Entry) → g.F.Fn.post l.line (member, tt) written → written ≡ entry member)
    → Loop (member_lines entry l.set) l.initial.out l.at l.out l.place l.member
