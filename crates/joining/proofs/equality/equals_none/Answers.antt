use Rattle.std.proofs.Common.{rules, tests, List, map, ap, not, ◌∙◌}
use Rattle.std.proofs.lemmas.Iterator.{YieldsList-from_slice}
use Rattle.std.proofs.lemmas.Iterator.Search.{all_from_yields_List}
use Rattle.rules.specs.Acceptance.{rule_of}
use Rattle.rules.specs.declared.families.Rule.{Rule}
use Rattle.rules.specs.declared.lists.Slot.{Slot}
use Rattle.joining.specs.Joining.{equal_rules, equals_none}
use Rattle.joining.proofs.Rules.{every-slots}
use Rattle.joining.proofs.equality.equals_none.Goals as goal

pub returns : goal.returns
unfolding equals_none
returns c =
    all_from_yields_List (λ (slot : Slot). not (equal_rules slot.rule c.args.rule)) c.all.new.self _ _ c.all.ensures.ran (YieldsList-from_slice c.used.result.now cc) (λ x b q k. search (rules, tests))
    ∙ every-slots (λ (other : Rule). not (equal_rules other c.args.rule)) c.used.result.now
    ∙ ap (λ (slots : List Slot). equals_none c.args.rule (map rule_of slots)) c.used.ensures
