use mathlib.Core.Path.{sym, ◌∙◌}
use Rattle.std.proofs.Common.{rules, tests}
use Rattle.std.proofs.lemmas.Iterator.{YieldsList-from_slice}
use Rattle.std.proofs.lemmas.Iterator.Search.{any_from_yields_List}
use Rattle.loans.specs.Loans.{running}
use Rattle.loans.specs.Meant.{meant}
use Rattle.loans.proofs.Keeping.{some-any}
use Rattle.loans.proofs.Loans.has_some.Goals as goal

pub returns : goal.returns
returns c =
    any_from_yields_List (meant c.args.which) _ _ _ c.any.ensures.ran (YieldsList-from_slice (running c.args.self.now) (cc)) (λ x b q k. search (rules, tests))
    ∙ sym (some-any (meant c.args.which) (running c.args.self.now))
