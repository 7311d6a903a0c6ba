-- How many lines of a state are loans: as many as run.
-- Assumes nothing.
use mathlib.Core.Path.{◌≡◌, refl, ap, ◌∙◌, subst⁻¹}
use mathlib.Core.Bool.{Bool, true, false, cond}
use mathlib.Core.List.{List, [], ◌∷◌, ◌++◌, map}
use Prim.Native.Nat.{ℕ, zero, suc, ◌+◌}
use native.Mathlib.Omega.{arith}
use lib.ListN.{length}
use lib.Dec.{eqb}
use Rattle.loans.specs.declared.Loan.{Loan}
use Rattle.places.specs.declared.Position.{Position}
use Rattle.places.specs.declared.Position.TheVariants.{Unknown, Known}
use Rattle.enforcement.specs.States.{assigned_role, carries, loans_of, is_open, user_of, position_of, active_role, did}
use Rattle.enforcement.specs.declared.states.State.{State}
use Rattle.state_text.specs.Entries.{form_of, is_loan}
use Rattle.state_text.specs.Saving.{over, only, loan_line, place_line, place_lines, session_lines, lines_of}
use Rattle.state_text.specs.Causes.{loan_lines}
use Rattle.state_text.specs.declared.entries.Entry.{Entry}
use Rattle.state_text.specs.declared.entries.Entry.TheVariants.{Now, Assigned, Granted, Open, Place, Active, Did, PlaceWithError}
use Rattle.state_text.proofs.Rows.{over_zero, over-suc}

-- n of the lines are loans
record Numbered (es : List Entry) (n : ℕ) : Type 0 where
  number : loan_lines es ≡ n

both-number : (a b : List Entry) → loan_lines (a ++ b) ≡ loan_lines a + loan_lines b
unfolding loan_lines
both-number [] b = omega arith
both-number (e ∷ a) b = go (is_loan e) (both-number a b)
  where
    go : (test : Bool) → loan_lines (a ++ b) ≡ loan_lines a + loan_lines b → cond test (suc (loan_lines (a ++ b))) (loan_lines (a ++ b)) ≡ cond test (suc (loan_lines a)) (loan_lines a) + loan_lines b
    go true h = omega (arith, h)
    go false h = h

none_then : (a b : List Entry) {n : ℕ} → Numbered a 0 → Numbered b n → Numbered (a ++ b) n
none_then a b ha hb = record { number = both-number a b ∙ omega (arith, ha.number, hb.number) }

then-none : (a b : List Entry) {n : ℕ} → Numbered a n → Numbered b 0 → Numbered (a ++ b) n
then-none a b ha hb = record { number = both-number a b ∙ omega (arith, ha.number, hb.number) }

none_over : (n : ℕ) (f : ℕ → List Entry) → ((i : ℕ) → Numbered (f i) 0) → Numbered (over n f) 0
unfolding loan_lines
none_over zero f h = record { number = ap loan_lines (over_zero f) }
none_over (suc n) f h = subst⁻¹ (λ (es : List Entry). Numbered es 0) (over-suc n f) (none_then (over n f) (f n) (none_over n f h) (h n))

none_only : (b : Bool) (e : Entry) → is_loan e ≡ false → Numbered (only b e) 0
unfolding loan_lines
none_only true e h = record { number = rw h }
none_only false e h = record { number = refl }

none-place : (i : ℕ) (p : Position) → Numbered (place_lines i p) 0
unfolding loan_lines form_of place_line
none-place i Unknown = record { number = refl }
none-place i (Known point) = record { number = go (eqb point.error 0) }
  where
    go : (b : Bool) → loan_lines (cond b (Place i point.x point.y) (PlaceWithError i point.x point.y point.error) ∷ []) ≡ 0
    go true = refl
    go false = refl

each-loan : (l : List Loan) → Numbered (map loan_line l) (length l)
unfolding loan_lines form_of
each-loan [] = record { number = refl }
each-loan (loan ∷ l) = record { number = ap suc (each-loan l).number }

none-session : (s : State) (i : ℕ) → Numbered (session_lines s i) 0
unfolding session_lines form_of
none-session s i =
    none_then _ _ (none_only (is_open s i) (Open i (user_of s i)) refl)
    (none_then _ _ (none-place i (position_of s i)) (none_over 32 _ (λ r. none_only (active_role s i r) (Active i r) refl)))

all-numbered : (s : State) → Numbered (lines_of s) (length (loans_of s))
unfolding lines_of form_of
all-numbered s =
    none_then _ _ (none_only true (Now s.time) refl)
    (none_then _ _ (none_over 64 _ (λ u. none_over 32 _ (λ r. none_only (assigned_role s u r) (Assigned u r) refl)))
    (none_then _ _ (none_over 32 _ (λ r. none_over 32 _ (λ p. none_only (carries s r p) (Granted r p) refl)))
    (then-none _ _ (each-loan (loans_of s))
    (none_then _ _ (none_over 32 _ (none-session s))
    (none_over 32 _ (λ o. none_over 32 _ (λ p. none_over 64 _ (λ u. none_only (did s o p u) (Did o p u) refl))))))))

pub loan-number : (s : State) → loan_lines (lines_of s) ≡ length (loans_of s)
loan-number s = (all-numbered s).number
