use Rattle.std.proofs.Common.{◌≡◌, Bool, map, ◌+◌, drop}
use Rattle.rules.specs.Acceptance.{rule_of}
use Rattle.rules.specs.Lowest.{lowest}
use Rattle.rules.specs.declared.families.Rule.{Rule}
use Rattle.rules.proofs.lowest.lowest_failing.Given as goal

abbrev pub invariant-loop-i : goal.invariant-loop-i
invariant-loop-i g l =
    (test : Rule → Bool) → ((rule : Rule) (b : Bool) → g.F.Fn.post l.passes (rule, tt) b → b ≡ test rule)
    → lowest test 1 (map rule_of l.slots) ≡ lowest test (l.i + 1) (map rule_of (drop l.i l.slots))
