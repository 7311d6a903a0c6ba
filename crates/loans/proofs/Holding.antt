-- The roles held with loans: what they are for a user and a role.
-- Assumes nothing.
use mathlib.Core.Path.{◌≡◌, refl, sym, ap, ◌∙◌}
use mathlib.Core.Bool.{Bool, true, false, ◌&&◌, ◌||◌, or-false, or_assoc}
use mathlib.Core.List.{List, [], ◌∷◌}
use Prim.Native.Nat.{ℕ, zero, suc, ◌^◌, ◌≤◌, ◌<◌}
use native.Mathlib.Decide.{ℕ_discrete}
use native.Mathlib.Omega.{arith}
use borrow.Author.Tests.{eq-eqb, ne_eqb, lt-ltb}
use lib.Dec.{eqb, ltb}
use lib.ListN.{length, set, take, length-set, get_or-eq_default}
use lib.Seq.{get_or-set_same, get_or-set_other}
use Rattle.sets.specs.Sets.{member, with}
use Rattle.sets.proofs.Booleans.{left_or}
use Rattle.sets.proofs.Members.{member-empty, member-with}
use Rattle.sets.proofs.Width.{with-lt}
use Rattle.rules.specs.Families.{word_at, has_role}
use Rattle.loans.specs.Loans.{accepted_from, is_borrowed, some_loan, held_with}
use Rattle.loans.specs.declared.Loan.{Loan}
use Rattle.loans.proofs.Ranges.{in-range-means}
use Rattle.loans.proofs.Order.{accepted-first}

-- ---- one loan

-- the words with role q of user v
abbrev with_role : List ℕ → ℕ → ℕ → List ℕ
with_role roles v q = set roles v (with 32 (word_at roles v) q)

with-role-small : (roles : List ℕ) (v q u : ℕ) → word_at roles u < 2 ^ 32 → word_at (with_role roles v q) u < 2 ^ 32
with-role-small [] v q u h = h
with-role-small (word ∷ roles) zero q zero h = with-lt 32 word q h
with-role-small (word ∷ roles) zero q (suc u) h = h
with-role-small (word ∷ roles) (suc v) q zero h = h
with-role-small (word ∷ roles) (suc v) q (suc u) h = with-role-small roles v q u h

with-role-keeps : (roles : List ℕ) (v q u r : ℕ) → has_role roles u r ≡ true → has_role (with_role roles v q) u r ≡ true
with-role-keeps [] v q u r h = h
with-role-keeps (word ∷ roles) zero q zero r h = member-with 32 word q r ∙ left_or (member word r) (ltb q 32 && eqb q r) h
with-role-keeps (word ∷ roles) zero q (suc u) r h = h
with-role-keeps (word ∷ roles) (suc v) q zero r h = h
with-role-keeps (word ∷ roles) (suc v) q (suc u) r h = with-role-keeps roles v q u r h

with-role-means : (roles : List ℕ) (v q u r : ℕ) → v < length roles → q < 32 → has_role (with_role roles v q) u r ≡ (has_role roles u r || (eqb v u && eqb q r))
with-role-means roles v q u r user role = go (ℕ_discrete v u)
  where
    go : Dec (v ≡ u) → has_role (with_role roles v q) u r ≡ (has_role roles u r || (eqb v u && eqb q r))
    go (yes e) =
        rw (← e, get_or-set_same roles v (with 32 (word_at roles v) q) 0 user, member-with 32 (word_at roles v) q r, lt-ltb q 32 role, eq-eqb v v refl)
    go (no n) =
        rw (get_or-set_other roles v u (with 32 (word_at roles v) q) 0 (λ e. n (sym e)), ne_eqb v u n, or-false)

-- ---- all loans

pub length-held : (roles : List ℕ) (l : List Loan) → length (held_with roles l) ≡ length roles
unfolding held_with
length-held roles [] = refl
length-held roles (loan ∷ l) =
    length-held (with_role roles loan.borrower loan.role) l ∙ length-set roles loan.borrower (with 32 (word_at roles loan.borrower) loan.role)

-- a word of 32 digits stays one
pub held_small : (roles : List ℕ) (l : List Loan) (u : ℕ) → word_at roles u < 2 ^ 32 → word_at (held_with roles l) u < 2 ^ 32
unfolding held_with
held_small roles [] u h = h
held_small roles (loan ∷ l) u h = held_small (with_role roles loan.borrower loan.role) l u (with-role-small roles loan.borrower loan.role u h)

-- what is assigned is held, whatever the loans
pub held-assigned : (roles : List ℕ) (l : List Loan) (u r : ℕ) → has_role roles u r ≡ true → has_role (held_with roles l) u r ≡ true
unfolding held_with
held-assigned roles [] u r h = h
held-assigned roles (loan ∷ l) u r h = held-assigned (with_role roles loan.borrower loan.role) l u r (with-role-keeps roles loan.borrower loan.role u r h)

-- without a loan nothing else is
pub held-none : (roles : List ℕ) (n : ℕ) (l : List Loan) → n ≡ 0 → held_with roles (take n l) ≡ roles
unfolding held_with
held-none roles n l e = rw e refl

-- "A role is held when assigned or on loan"
pub held-means : (roles : List ℕ) (least : ℕ) (l : List Loan) (u r : ℕ) → length roles ≡ 64 → accepted_from least l ≡ true →
    has_role (held_with roles l) u r ≡ (has_role roles u r || is_borrowed l u r)
unfolding held_with some_loan
held-means roles least [] u r long accepted = sym (or-false (has_role roles u r))
held-means roles least (loan ∷ l) u r long accepted =
    let v = loan.borrower in
    let q = loan.role in
    let first = accepted-first least loan l accepted in
    let ranged = (in-range-means loan).0 first.0 in
    held-means (with_role roles v q) _ l u r (length-set roles v (with 32 (word_at roles v) q) ∙ long) first.2
    ∙ ap (λ (b : Bool). b || is_borrowed l u r) (with-role-means roles v q u r (omega (arith, ranged.1, long)) ranged.2)
    ∙ or_assoc (has_role roles u r) (eqb v u && eqb q r) (is_borrowed l u r)

-- ---- a user past the last

pub outside-none : (words : List ℕ) (i x : ℕ) → length words ≤ i → has_role words i x ≡ false
outside-none words i x l = ap (λ (n : ℕ). member n x) (get_or-eq_default words 0 {n = i} l) ∙ member-empty x

pub ruleset no_roles_past = (outside-none)

pub ruleset held_rules = (held-assigned, held-none)
