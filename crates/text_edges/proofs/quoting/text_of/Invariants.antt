-- The measure is what is left of the arguments.
use Rattle.std.proofs.Common.{◌≤◌, length}
use Rattle.text_edges.proofs.quoting.text_of.Given as goal

abbrev pub invariant-loop-quote : goal.invariant-loop-quote
invariant-loop-quote l = length l.rest ≤ length l.arguments

abbrev pub decreases-loop-quote : goal.decreases-loop-quote
decreases-loop-quote l = length l.rest
