use Prim.Native.Nat.{◌-◌}
use Rattle.rule_text.specs.Reading.{read_line, read_lines, prefix_of}
use Rattle.rule_text.proofs.LineLoop.{Inv}
use Rattle.rule_text.proofs.reading.read_prefix.Given as goal

abbrev pub invariant-loop-rest : goal.invariant-loop-rest
invariant-loop-rest l = Inv read_line (prefix_of (read_lines l.text)) l.text l.list l.rest l.length l.line

abbrev pub decreases-loop-rest : goal.decreases-loop-rest
decreases-loop-rest l = 129 - l.list.length
