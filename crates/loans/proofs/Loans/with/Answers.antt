use mathlib.Core.List.{◌∷◌}
use lib.Dec.{ltb}
use Rattle.loans.specs.Loans.{key, running, kept_loans, inserted}
use Rattle.loans.specs.Meant.{meant, pushed_all}
use Rattle.loans.proofs.Storing.{pushed-all-stored}
use Rattle.loans.proofs.Loans.with.Goals as goal

pub returns : goal.returns
unfolding inserted meant pushed_all
returns c =
    let loan = c.args.loan in
    let all = running c.args.self.now in
    rw (c.gather.ensures, c.push.ensures, c.kept-more.ensures, c.key_of-key.ensures, c.running.ensures)
    (pushed-all-stored (kept_loans (λ other. ltb (key other) (key loan)) all) (loan ∷ kept_loans (λ other. ltb (key loan) (key other)) all))
