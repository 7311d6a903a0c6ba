use mathlib.Core.Path.{◌≡◌}
use Rattle.rules.specs.Facts.{view_of}
use Rattle.selection.specs.Choices.{chosen}
use Rattle.selection.specs.Judging.{judged_of}
use Rattle.selection.proofs.Judgement.{first_rules}
use Rattle.selection.proofs.judging.judge.Given as goal

abbrev pub invariant-loop-i : goal.invariant-loop-i
invariant-loop-i l = l.judged ≡ judged_of (chosen l.choice) (view_of l.facts) (first_rules l.i l.slot-items)
