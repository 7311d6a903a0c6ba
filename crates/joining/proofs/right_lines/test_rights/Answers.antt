use Rattle.std.proofs.Common.{rules, tests}
use Rattle.std.proofs.lemmas.Iterator.{YieldsList-from_slice, YieldsList-from_zip, IsFirst-from_position}
use Rattle.joining.proofs.Rights.{Agree, Apart, first_apart}
use Rattle.joining.proofs.right_lines.test_rights.Goals as goal

pub returns : goal.returns
returns c =
    let found = IsFirst-from_position c.position.new.self _ _ Apart Agree c.position.ensures.ran (YieldsList-from_zip (YieldsList-from_slice c.args.first.now cc) (YieldsList-from_slice c.args.second.now cc)) (λ x q k. search (rules, tests)) (λ x q k. search (rules, tests)) in
    first_apart _ _ _ c.told-first c.told-second found
