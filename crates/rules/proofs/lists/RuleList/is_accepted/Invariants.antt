use mathlib.Core.Path.{◌≡◌}
use mathlib.Core.Bool.{true}
use Rattle.rules.specs.Acceptance.{rule_accepted}
use Rattle.rules.proofs.Every.{every_first}
use Rattle.rules.proofs.lists.RuleList.is_accepted.Given as goal

abbrev pub invariant-loop-slot : goal.invariant-loop-slot
invariant-loop-slot l = every_first rule_accepted l.slot-index l.slot-items ≡ true
