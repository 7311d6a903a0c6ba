use mathlib.Core.Path.{◌≡◌}
use Prim.Native.Nat.{◌+◌, ◌≤◌}
use lib.ListN.{drop}
use Rattle.loans.specs.Loans.{kept_loans}
use Rattle.loans.specs.Meant.{meant, pushed_all}
use Rattle.loans.proofs.Loans.gather.Given as goal

abbrev pub invariant-loop-loan : goal.invariant-loop-loan
invariant-loop-loan l =
    (l.self.count ≤ l.initial.self.count + l.loan-index)
    × (pushed_all l.self (kept_loans (meant l.which) (drop l.loan-index l.others)) ≡ pushed_all l.initial.self (kept_loans (meant l.which) l.others))
