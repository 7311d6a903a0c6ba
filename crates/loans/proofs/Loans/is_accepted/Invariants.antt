use mathlib.Core.Path.{◌≡◌}
use lib.ListN.{drop}
use Rattle.loans.specs.Loans.{running, accepted_from}
use Rattle.loans.proofs.Loans.is_accepted.Given as goal

abbrev pub invariant-loop-loan : goal.invariant-loop-loan
invariant-loop-loan l = accepted_from l.least (drop l.loan-index l.loan-items) ≡ accepted_from 0 (running l.fn.self)
