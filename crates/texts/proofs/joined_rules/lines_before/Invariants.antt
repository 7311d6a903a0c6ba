use Rattle.std.proofs.Common.{length}
use Rattle.texts.proofs.JoinedTexts.{Counted}
use Rattle.texts.proofs.joined_rules.lines_before.Given as goal

abbrev pub invariant-loop-slot : goal.invariant-loop-slot
invariant-loop-slot l = Counted l.slot-items (length l.slot-items) l.lines l.slot-index
