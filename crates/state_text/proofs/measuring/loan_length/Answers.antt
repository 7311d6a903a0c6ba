use Rattle.state_text.proofs.Measures.{loan-measured}
use borrow.Author.Rules.{rules}
use Rattle.state_text.proofs.measuring.loan_length.Goals as goal

pub returns : goal.returns
returns c = loan-measured c.args.loan (search rules) (search rules) (search rules) (search rules) (rw c.loan_line.ensures at c.line_length.ensures)
