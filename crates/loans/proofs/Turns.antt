-- A turn of a loop over loans, and its end: what the definitions say of the loans still to come.
-- Assumes nothing.
use mathlib.Core.Path.{◌≡◌, refl, ap, ◌∙◌}
use mathlib.Core.Bool.{Bool, true, false}
use mathlib.Core.List.{List}
use Prim.Native.Nat.{ℕ, ◌+◌, ◌≤◌, ◌<◌}
use native.Mathlib.Numerals.{add-one}
use borrow.Author.Tests.{le-leb, lt-leb}
use lib.Seq.{set_out}
use lib.ListN.{length, drop, get_or, set}
use Rattle.std.proofs.lemmas.List.{at_drop_more, at_drop_all}
use Rattle.std.proofs.lemmas.Grind.{common_steps}
use Rattle.sets.specs.Sets.{with}
use Rattle.rules.specs.Families.{word_at}
use Rattle.loans.specs.Loans.{key, loan_in_range, accepted_from, kept_loans, held_with}
use Rattle.loans.specs.Meant.{pushed, pushed_all}
use Rattle.loans.specs.declared.Loan.{Loan}
use Rattle.loans.specs.declared.Loans.{Loans}
use Rattle.loans.proofs.Ranges.{key-small}

-- ---- putting in those that pass a test

pub gather-kept : (test : Loan → Bool) (loans : Loans) (l : List Loan) (i : ℕ) (d : Loan) → i < length l → test (get_or l i d) ≡ true →
    pushed_all loans (kept_loans test (drop i l)) ≡ pushed_all (pushed loans (get_or l i d)) (kept_loans test (drop (i + 1) l))
unfolding kept_loans pushed_all
gather-kept test loans l i d h e = at_drop_more (λ (r : List Loan). pushed_all loans (kept_loans test r)) l i d h ∙ rw e refl

pub gather-passed : (test : Loan → Bool) (loans : Loans) (l : List Loan) (i : ℕ) (d : Loan) → i < length l → test (get_or l i d) ≡ false →
    pushed_all loans (kept_loans test (drop i l)) ≡ pushed_all loans (kept_loans test (drop (i + 1) l))
unfolding kept_loans
gather-passed test loans l i d h e = at_drop_more (λ (r : List Loan). pushed_all loans (kept_loans test r)) l i d h ∙ rw e refl

pub gather-end : (test : Loan → Bool) (loans : Loans) (l : List Loan) (i : ℕ) → length l ≤ i → pushed_all loans (kept_loans test (drop i l)) ≡ loans
unfolding kept_loans pushed_all
gather-end test loans l i h = at_drop_all (λ (r : List Loan). pushed_all loans (kept_loans test r)) l i h

-- ---- each in range, in ascending order

pub accepted-more : (least : ℕ) (l : List Loan) (i : ℕ) (d : Loan) → i < length l → loan_in_range (get_or l i d) ≡ true → least ≤ key (get_or l i d) →
    accepted_from least (drop i l) ≡ accepted_from (key (get_or l i d) + 1) (drop (i + 1) l)
unfolding accepted_from
accepted-more least l i d h ranged order =
    at_drop_more (λ (r : List Loan). accepted_from least r) l i d h ∙ rw (ranged, le-leb least (key (get_or l i d)) order, add-one (key (get_or l i d))) refl

pub unaccepted-range : (least : ℕ) (l : List Loan) (i : ℕ) (d : Loan) → i < length l → loan_in_range (get_or l i d) ≡ false → accepted_from least (drop i l) ≡ false
unfolding accepted_from
unaccepted-range least l i d h past = at_drop_more (λ (r : List Loan). accepted_from least r) l i d h ∙ rw past refl

pub unaccepted-order : (least : ℕ) (l : List Loan) (i : ℕ) (d : Loan) → i < length l → loan_in_range (get_or l i d) ≡ true → key (get_or l i d) < least → accepted_from least (drop i l) ≡ false
unfolding accepted_from
unaccepted-order least l i d h ranged order =
    at_drop_more (λ (r : List Loan). accepted_from least r) l i d h ∙ rw (ranged, lt-leb least (key (get_or l i d)) order) refl

pub accepted-end : (least : ℕ) (l : List Loan) (i : ℕ) → length l ≤ i → accepted_from least (drop i l) ≡ true
unfolding accepted_from
accepted-end least l i h = at_drop_all (λ (r : List Loan). accepted_from least r) l i h

-- ---- the roles that are held

pub held-more : (held : List ℕ) (l : List Loan) (i : ℕ) (d : Loan) → i < length l →
    held_with held (drop i l) ≡ held_with (set held (get_or l i d).borrower (with 32 (word_at held (get_or l i d).borrower) (get_or l i d).role)) (drop (i + 1) l)
unfolding held_with
held-more held l i d h = at_drop_more (λ (r : List Loan). held_with held r) l i d h

-- a loan to no user adds nothing
pub held-passed : (held : List ℕ) (l : List Loan) (i : ℕ) (d : Loan) → i < length l → length held ≤ (get_or l i d).borrower →
    held_with held (drop i l) ≡ held_with held (drop (i + 1) l)
unfolding held_with
held-passed held l i d h past =
    at_drop_more (λ (r : List Loan). held_with held r) l i d h
    ∙ ap (λ (words : List ℕ). held_with words (drop (i + 1) l)) (set_out held (get_or l i d).borrower (with 32 (word_at held (get_or l i d).borrower) (get_or l i d).role) past)

pub held-end : (held : List ℕ) (l : List Loan) (i : ℕ) → length l ≤ i → held_with held (drop i l) ≡ held
unfolding held_with
held-end held l i h = at_drop_all (λ (r : List Loan). held_with held r) l i h

pub ruleset gather_turns = (gather-kept, gather-passed, gather-end, common_steps)

pub ruleset accepted_turns = (accepted-more, unaccepted-range, unaccepted-order, accepted-end, key-small, common_steps)

pub ruleset held_turns = (held-more, held-passed, held-end, common_steps)

pub ruleset entries_past = (set_out)
