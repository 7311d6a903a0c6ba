use Rattle.state_text.proofs.Writes.{Listed}
use Rattle.state_text.proofs.writing.write_loans.Given as goal

abbrev pub invariant-loop-loan : goal.invariant-loop-loan
invariant-loop-loan l = Listed l.loans l.initial.out l.at l.out l.place l.loan-index
