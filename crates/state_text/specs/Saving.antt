-- Document 01, 'Texts': a state's lines in their order, its text, and what writing it gives. Assumes nothing.
use Rattle.std.specs.Prelude.{ℕ, zero, suc, Bool, true, false, cond, List, [], ◌∷◌, ◌++◌, map, eqb}
use Rattle.forms.specs.Writing.{written_if, lent_if}
use Rattle.std.specs.Prelude.{Result}
use Rattle.places.specs.declared.Point.{Point}
use Rattle.places.specs.declared.Position.{Position}
use Rattle.places.specs.declared.Position.TheVariants.{Unknown, Known}
use Rattle.loans.specs.declared.Loan.{Loan}
use Rattle.enforcement.specs.States.{assigned_role, carries, loans_of, is_open, user_of, position_of, active_role, did, state_accepted}
use Rattle.enforcement.specs.declared.states.State.{State}
use Rattle.state_text.specs.Entries.{line_text}
use Rattle.state_text.specs.declared.entries.Entry.{Entry}
use Rattle.state_text.specs.declared.entries.Entry.TheVariants.{Now, Assigned, Granted, Loan as LoanLine, Open, Place, Active, Did, PlaceWithError}

-- ---- a state's lines

-- the parts f 0, f 1, .., f (n - 1), one after the other
unfoldable pub over : {A : Type 0} → ℕ → (ℕ → List A) → List A
over zero f = []
over (suc n) f = over n f ++ f n

-- a where the test holds, and else nothing
abbrev pub only : {A : Type 0} → Bool → A → List A
only true a = a ∷ []
only false a = []

-- 2026-01: "saved as `(loan u v r t)`"
abbrev pub loan_line : Loan → Entry
loan_line loan = LoanLine loan.lender loan.borrower loan.role loan.until

-- 2026-04: an error of 0 is left out
unfoldable pub place_line : ℕ → Point → Entry
place_line i point = cond (eqb point.error 0) (Place i point.x point.y) (PlaceWithError i point.x point.y point.error)

-- "(place s x y) if known"
abbrev pub place_lines : ℕ → Position → List Entry
place_lines i Unknown = []
place_lines i (Known point) = place_line i point ∷ []

-- "per session (open s u), (place s x y) if known, (active s r)"
unfoldable pub session_lines : State → ℕ → List Entry
session_lines s i =
    only (is_open s i) (Open i (user_of s i)) ++ (place_lines i (position_of s i) ++ over 32 (λ r. only (active_role s i r) (Active i r)))

-- "Saved state, ascending: (now t), (assigned u r), (granted r p), then per session ..; then (did o p u)"; 2026-01: loans "after `granted`,
-- ascending", as the state keeps them
unfoldable pub lines_of : State → List Entry
lines_of s =
    (Now s.time ∷ [])
    ++ (over 64 (λ u. over 32 (λ r. only (assigned_role s u r) (Assigned u r)))
    ++ (over 32 (λ r. over 32 (λ p. only (carries s r p) (Granted r p)))
    ++ (map loan_line (loans_of s)
    ++ (over 32 (session_lines s)
    ++ over 32 (λ o. over 32 (λ p. over 64 (λ u. only (did s o p u) (Did o p u))))))))

-- ---- its text

unfoldable pub lines_text : List Entry → List ℕ
lines_text [] = []
lines_text (e ∷ es) = line_text e ++ lines_text es

unfoldable pub saved_text : State → List ℕ
saved_text s = lines_text (lines_of s)

-- ---- "in writing a text too, 40 comes before 18"

unfoldable pub written_state : State → List ℕ → Result ℕ ℕ
written_state s lent = written_if (state_accepted s) (saved_text s) lent

unfoldable pub lent_state : State → List ℕ → List ℕ
lent_state s lent = lent_if (state_accepted s) (saved_text s) lent
