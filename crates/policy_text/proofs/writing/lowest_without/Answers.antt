use Rattle.std.proofs.Common.{rules, tests, ◌∙◌, not}
use mathlib.Core.Path.{ap}
use Rattle.std.proofs.lemmas.Iterator.{YieldsList-from_slice}
use Rattle.std.proofs.lemmas.Iterator.Search.{position_from_yields_List}
use Rattle.std.proofs.lemmas.Iterator.Adapters.{position_from-zero}
use Rattle.rules.specs.declared.lists.Slot.{Slot}
use Rattle.policy_text.specs.Lines.{has_policy}
use Rattle.policy_text.proofs.Missing.{from_one, position-lowest}
use Rattle.policy_text.proofs.writing.lowest_without.Goals as goal

pub returns : goal.returns
returns c =
    let test = λ (slot : Slot). not (has_policy slot.rule) in
    let found = position_from_yields_List test c.position-passed.new.self _ _ c.position-passed.ensures.ran (YieldsList-from_slice c.args.slots.now cc) (λ x b q k. search (rules, tests)) in
    search (rules) ∙ ap from_one (found ∙ position_from-zero test c.args.slots.now) ∙ position-lowest 0 c.args.slots.now
