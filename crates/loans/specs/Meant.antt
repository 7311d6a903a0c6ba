-- Which loans a caller means: what `has_some` and `kept` promise is read with `meant`. And how the code puts loans together: no reader has to
-- believe that, since the promises name `stored`.
-- Assumes nothing.
use Rattle.std.specs.Prelude.{◌+◌, Bool, not, ◌&&◌, List, [], ◌∷◌, eqb, ltb, set}
use Rattle.loans.specs.Loans.{key, is_named, runs_at}
use Rattle.loans.specs.declared.Loan.{Loan}
use Rattle.loans.specs.declared.Loans.{Loans}
use Rattle.loans.specs.declared.Which.{Which}
use Rattle.loans.specs.declared.Which.TheVariants.{Borrowed, LentOut, Named, Others, Longer, Before, After}

unfoldable pub meant : Which → Loan → Bool
meant (Borrowed v r) loan = eqb loan.borrower v && eqb loan.role r
meant (LentOut u r) loan = eqb loan.lender u && eqb loan.role r
meant (Named u v r) loan = is_named u v r loan
meant (Others u v r) loan = not (is_named u v r loan)
meant (Longer time) loan = runs_at time loan
meant (Before k) loan = ltb (key loan) k
meant (After k) loan = ltb k (key loan)

-- ---- on the way

-- one more after the last
unfoldable pub pushed : Loans → Loan → Loans
pushed loans loan = record { entries = set loans.entries loans.count loan; count = loans.count + 1 }

-- and so each of a list, in its order
unfoldable pub pushed_all : Loans → List Loan → Loans
pushed_all loans [] = loans
pushed_all loans (loan ∷ more) = pushed_all (pushed loans loan) more
