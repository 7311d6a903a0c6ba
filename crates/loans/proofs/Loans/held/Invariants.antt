use mathlib.Core.Path.{◌≡◌}
use lib.ListN.{length, drop}
use Rattle.loans.specs.Loans.{running, held_with}
use Rattle.loans.proofs.Loans.held.Given as goal

abbrev pub invariant-loop-loan : goal.invariant-loop-loan
invariant-loop-loan l = (length l.held ≡ 64) × (held_with l.held (drop l.loan-index l.loan-items) ≡ held_with l.fn.assigned (running l.fn.self))
