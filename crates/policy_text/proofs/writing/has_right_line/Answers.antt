use Rattle.std.proofs.Common.{rules, tests, ltb, ◌∙◌}
use Rattle.std.proofs.lemmas.Iterator.{YieldsList-from_slice}
use Rattle.std.proofs.lemmas.Iterator.Search.{any_from_yields_List}
use Rattle.rules.specs.declared.rights.RightSlot.{RightSlot}
use Rattle.rule_text.specs.Lines.{line_count}
use Rattle.policy_text.proofs.Missing.{some-line}
use Rattle.policy_text.proofs.writing.has_right_line.Goals as goal

pub returns : goal.returns
returns c =
    any_from_yields_List (λ (slot : RightSlot). ltb 0 (line_count slot.right)) c.any.new.self _ _ c.any.ensures.ran (YieldsList-from_slice c.args.rights.now cc) (λ x b q k. search (rules, tests))
    ∙ some-line c.args.rights.now c.told-rights
