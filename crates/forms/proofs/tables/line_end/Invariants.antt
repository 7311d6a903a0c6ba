use mathlib.Core.Path.{◌≡◌}
use Prim.Native.Nat.{◌+◌}
use lib.ListN.{drop}
use Rattle.forms.specs.Tables.{line_end}
use Rattle.forms.proofs.tables.line_end.Given as goal

abbrev pub invariant-loop-i : goal.invariant-loop-i
invariant-loop-i l = line_end l.text ≡ l.i + line_end (drop l.i l.text)
