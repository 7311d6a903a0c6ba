-- The measure is what is left of the text.
use Rattle.std.proofs.Common.{length}
use Rattle.enforcement_steps.proofs.each.Given as goal

abbrev pub decreases-loop-end : goal.decreases-loop-end
decreases-loop-end g l = length l.rest
