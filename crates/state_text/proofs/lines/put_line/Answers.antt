use borrow.Author.Tests.{not-true, leb-false}
use Rattle.state_text.specs.Entries.{form_of}
use Rattle.state_text.proofs.Fields.{assigned_put, loan_put}
use Rattle.state_text.proofs.lines.put_line.Goals as goal

pub push-requires : goal.push-requires
unfolding form_of
push-requires c = leb-false 32 _ (not-true _ (rw c.in-Loan.is at c.requires.2))

pub returns-in-Assigned : goal.returns-in-Assigned
returns-in-Assigned c = assigned_put _ _ _ c.requires.3 c.requires.4 c.in-Assigned.is c.put_member.ensures c.put_member-in-Assigned.ensures

pub returns-in-Loan : goal.returns-in-Loan
returns-in-Loan c = loan_put _ _ _ _ _ c.requires.1 c.requires.2 c.requires.4 c.in-Loan.is c.push.ensures c.put_member-in-Loan.ensures
