use mathlib.Core.Path.{◌≡◌}
use Prim.Native.Nat.{ℕ}
use Rattle.state_text.specs.Parts.{row_lines}
use Rattle.state_text.specs.declared.entries.Entry.{Entry}
use Rattle.state_text.proofs.Writes.{Loop}
use Rattle.state_text.proofs.writing.write_rows.Given as goal

abbrev pub invariant-loop-i : goal.invariant-loop-i
invariant-loop-i g l =
    (entry : ℕ → ℕ → Entry) → ((i member : ℕ) (written : Entry) → g.F.Fn.post l.line (i, (member, tt)) written → written ≡ entry i member)
    → Loop (row_lines entry l.words) l.initial.out l.at l.out l.place l.i
