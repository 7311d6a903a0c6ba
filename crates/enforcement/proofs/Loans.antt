-- The loans of a state that 40 does not refuse, and the roles held with them.
-- Assumes nothing.
use mathlib.Core.Path.{◌≡◌, sym, ap, ◌∙◌}
use mathlib.Core.Bool.{Bool, true, false, not, ◌&&◌, ◌||◌}
use mathlib.Core.Logic.{◌↔◌, ◌⊎◌, ⊎_elim}
use mathlib.Core.List.{List, Memᴰ}
use Prim.Native.Nat.{ℕ, suc, ◌≤◌, ◌<◌}
use native.Mathlib.Nat.{le_trans, zero-add, min-le_left}
use native.Mathlib.Omega.{arith}
use lib.Dec.{eqb, ltb, leb}
use lib.ListN.{length, length-take}
use borrow.Author.Tests.{le-leb, leb-true, leb-false, not-false}
use Rattle.sets.specs.Sets.{all}
use Rattle.sets.proofs.Booleans.{both, both_true, left-true, right-true, left_or, right_or, of_or, clash, not_so}
use Rattle.rules.specs.Families.{word_at, has_role, session_at}
use Rattle.steps.specs.Steps.{is_time}
use Rattle.steps.specs.Pairs.{sifted, Part}
use Rattle.steps.specs.declared.actions.Action.TheVariants.{Lend}
use Rattle.selection.proofs.Parts.{has-sifted, length-sifted}
use Rattle.loans.specs.Loans.{kept_loans, is_named, loan_of, loans_accepted, accepted_from, some_loan, stored, inserted, is_borrowed, held_with}
use Rattle.loans.specs.declared.Loan.{Loan}
use Rattle.loans.proofs.Keeping.{some-means, kept-length}
use Rattle.loans.proofs.Ranges.{in-range-means}
use Rattle.loans.proofs.Order.{kept-accepted}
use Rattle.loans.proofs.Holding.{held-means}
use Rattle.loans.proofs.Storing.{length-stored, count-stored, running-stored}
use Rattle.loans.proofs.Inserting.{Absent, absent-of, inserted-means, some-inserted, length_inserted, inserted-accepted}
use Rattle.enforcement.specs.States.{assigned_role, loans_of, borrowed_role, holds_role, user_of, active_role, session_accepted, state_accepted}
use Rattle.enforcement.specs.Steps.{passes, check, with_loans, with_time, loans_left}
use Rattle.enforcement.specs.Reached.{Typed, Accepted}
use Rattle.enforcement.specs.declared.states.State.{State}
use Rattle.enforcement.proofs.Checks.{not-refused, later-passes}

-- the loans of a state are no more than their number
pub loans-counted : (s : State) → length (loans_of s) ≤ s.loans.count
loans-counted s = rw (length-take s.loans.count s.loans.entries) (min-le_left s.loans.count (length s.loans.entries))

-- ---- what 40 looked at

module _ (s : State) (accepted : Accepted s) where
  pub unrefused : (is_time s.time ≡ true) × (loans_accepted s.loans ≡ true) × (all 32 (λ i. session_accepted (session_at s.sessions i) (word_at s.active i)) ≡ true)
  unfolding state_accepted
  unrefused =
      let each = all 32 (λ i. session_accepted (session_at s.sessions i) (word_at s.active i)) in
      let t = both (is_time s.time) (loans_accepted s.loans && each) accepted.unrefused in
      let rest = both (loans_accepted s.loans) each t.1 in
      (t.0, rest.0, rest.1)

  pub sessions-unrefused : all 32 (λ i. session_accepted (session_at s.sessions i) (word_at s.active i)) ≡ true
  sessions-unrefused = unrefused.2

  pub loans-ordered : accepted_from 0 (loans_of s) ≡ true
  unfolding loans_accepted
  loans-ordered = right-true (leb s.loans.count 32) (accepted_from 0 (loans_of s)) unrefused.1

  pub loans-few : length (loans_of s) ≤ 32
  unfolding loans_accepted
  loans-few =
      let few = leb-true s.loans.count 32 (left-true (leb s.loans.count 32) (accepted_from 0 (loans_of s)) unrefused.1) in
      le_trans (loans-counted s) few

  -- a role is held where it is assigned or on loan
  pub holds-means : (u r : ℕ) → holds_role s u r ≡ (assigned_role s u r || borrowed_role s u r)
  holds-means u r = held-means s.assigned 0 (loans_of s) u r accepted.typed.users loans-ordered

  -- ---- other times and other loans

  pub accepted-time : (t : ℕ) → t ≤ 3155759999 → Accepted (with_time s t)
  unfolding state_accepted
  accepted-time t low = record {
    typed = typed-same t;
    unrefused = both_true (is_time t) _ (le-leb t 3155759999 low) (both_true (loans_accepted s.loans) _ unrefused.1 unrefused.2);
  }
    where
      typed-same : (t : ℕ) → Typed (with_time s t)
      typed-same t = record {
        users = accepted.typed.users;
        roles = accepted.typed.roles;
        all_loans = accepted.typed.all_loans;
        all_sessions = accepted.typed.all_sessions;
        actives = accepted.typed.actives;
        records = accepted.typed.records;
        small_assigned = accepted.typed.small_assigned;
        small_granted = accepted.typed.small_granted;
        small_active = accepted.typed.small_active;
        small_history = accepted.typed.small_history;
      }

  pub accepted-loans : (l : List Loan) → accepted_from 0 l ≡ true → length l ≤ 32 → Accepted (with_loans s (stored l))
  unfolding state_accepted loans_accepted
  accepted-loans l ordered few = record {
    typed = record {
      users = accepted.typed.users;
      roles = accepted.typed.roles;
      all_loans = length-stored l;
      all_sessions = accepted.typed.all_sessions;
      actives = accepted.typed.actives;
      records = accepted.typed.records;
      small_assigned = accepted.typed.small_assigned;
      small_granted = accepted.typed.small_granted;
      small_active = accepted.typed.small_active;
      small_history = accepted.typed.small_history;
    };
    unrefused = both_true (is_time s.time) _ unrefused.0 (both_true (loans_accepted (stored l)) _ in_order unrefused.2);
  }
    where
      in_order : loans_accepted (stored l) ≡ true
      in_order = both_true (leb (stored l).count 32) (accepted_from 0 (loans_of (with_loans s (stored l)))) (le-leb (stored l).count 32 (rw (count-stored l) few)) (rw (running-stored l few) ordered)

pub accepted-left : (test : Loan → Bool) (s : State) → Accepted s → Accepted (loans_left test s)
accepted-left test s accepted =
    accepted-loans s accepted (kept_loans test (loans_of s)) (kept-accepted test 0 (loans_of s) (loans-ordered s accepted))
    (le_trans (kept-length test (loans_of s)) (loans-few s accepted))

pub left-loans : (test : Loan → Bool) (s : State) → Accepted s → loans_of (loans_left test s) ≡ kept_loans test (loans_of s)
left-loans test s accepted = running-stored (kept_loans test (loans_of s)) (le_trans (kept-length test (loans_of s)) (loans-few s accepted))

-- ---- the active roles that are held

pub has-held : (s : State) (i r : ℕ) → has_role (sifted 0 (λ j q. holds_role s (user_of s j) q) s.active) i r ≡ (ltb r 32 && (active_role s i r && holds_role s (user_of s i) r))
has-held s i r = has-sifted 0 (λ j q. holds_role s (user_of s j) q) s.active i r ∙ rw (zero-add i)

pub unheld-part : (s : State) → Part (sifted 0 (λ j q. holds_role s (user_of s j) q) s.active) s.active
unheld-part s = record {
  same_length = length-sifted 0 (λ j q. holds_role s (user_of s j) q) s.active;
  within = λ i r h.
      left-true (active_role s i r) (holds_role s (user_of s i) r)
      (right-true (ltb r 32) (active_role s i r && holds_role s (user_of s i) r) (sym (has-held s i r) ∙ h));
}

-- ---- a loan that passes the checks

-- what they say
pub record Free (s : State) (u v r t : ℕ) : Type 0 where
  pub lender : assigned_role s u r ≡ true
  pub borrower : holds_role s v r ≡ false
  pub later : s.time < t
  pub room : s.loans.count < 32

pub lend-passes : (s : State) (u v r t : ℕ) → check s (Lend u v r t) ≡ passes → Free s u v r t
unfolding check
lend-passes s u v r t pass =
    let one = later-passes (not (assigned_role s u r)) 50 _ pass in
    let two = later-passes (holds_role s v r) 24 _ one in
    let three = later-passes (leb t s.time) 52 _ two in
    record {
      lender = not-false (assigned_role s u r) (not-refused (not (assigned_role s u r)) 50 _ pass);
      borrower = not-refused (holds_role s v r) 24 _ one;
      later = leb-false t s.time (not-refused (leb t s.time) 52 _ two);
      room = leb-false 32 s.loans.count (not-refused (leb 32 s.loans.count) 51 passes three);
    }

module _ (s : State) (accepted : Accepted s) (u v r t : ℕ) (free : Free s u v r t) where
  -- its numbers are in range
  abbrev Numbers : Type 0
  Numbers = (u < 64) × (v < 64) × (r < 32) × (t ≤ 3155759999)

  -- nobody has lent it to the borrower
  pub lent-unborrowed : borrowed_role s v r ≡ false
  lent-unborrowed = not_so (borrowed_role s v r) (λ h. clash (holds-means s accepted v r ∙ right_or (assigned_role s v r) (borrowed_role s v r) h) free.borrower)

  pub lent-unassigned : assigned_role s v r ≡ false
  lent-unassigned = not_so (assigned_role s v r) (λ h. clash (holds-means s accepted v r ∙ left_or (assigned_role s v r) (borrowed_role s v r) h) free.borrower)

  lent-unnamed : some_loan (is_named u v r) (loans_of s) ≡ false
  lent-unnamed =
      not_so (some_loan (is_named u v r) (loans_of s))
      (λ h.
      let some = (some-means (is_named u v r) (loans_of s)).0 h in
      clash
      ((some-means (λ loan. eqb loan.borrower v && eqb loan.role r) (loans_of s)).1
      (some.0, some.1, right-true (eqb some.0.lender u) (eqb some.0.borrower v && eqb some.0.role r) some.2))
      lent-unborrowed)

  pub lent-ordered : Numbers → accepted_from 0 (inserted (loan_of u v r t) (loans_of s)) ≡ true
  lent-ordered numbers = inserted-accepted (loan_of u v r t) (loans_of s) (loans-ordered s accepted) ((in-range-means (loan_of u v r t)).1 numbers) lent-unnamed

  lent-absent : Numbers → Absent (loan_of u v r t) (loans_of s)
  lent-absent numbers = absent-of 0 (loan_of u v r t) (loans_of s) (loans-ordered s accepted) ((in-range-means (loan_of u v r t)).1 numbers) lent-unnamed

  -- one loan more
  lent_length : Numbers → length (inserted (loan_of u v r t) (loans_of s)) ≡ suc (length (loans_of s))
  lent_length numbers = length_inserted (loan_of u v r t) (loans_of s) (lent-absent numbers)

  pub lent-few : Numbers → length (inserted (loan_of u v r t) (loans_of s)) ≤ 32
  lent-few numbers = let counted = loans-counted s in let room = free.room in let more = lent_length numbers in omega (arith, counted, room, more)

  pub lent-loans : Numbers → loans_of (with_loans s (stored (inserted (loan_of u v r t) (loans_of s)))) ≡ inserted (loan_of u v r t) (loans_of s)
  lent-loans numbers = running-stored (inserted (loan_of u v r t) (loans_of s)) (lent-few numbers)

  pub lent-member : Numbers → (loan : Loan) → Memᴰ loan (inserted (loan_of u v r t) (loans_of s)) ↔ ((loan ≡ loan_of u v r t) ⊎ Memᴰ loan (loans_of s))
  lent-member numbers loan = inserted-means (loan_of u v r t) loan (loans_of s) (lent-absent numbers)

  pub lent-borrowed : Numbers → (w q : ℕ) → is_borrowed (inserted (loan_of u v r t) (loans_of s)) w q ≡ ((eqb v w && eqb r q) || borrowed_role s w q)
  lent-borrowed numbers w q = some-inserted (loan_of u v r t) (λ loan. eqb loan.borrower w && eqb loan.role q) (loans_of s) (lent-absent numbers)

  -- what is held stays held
  pub lent-held : Numbers → (w q : ℕ) → holds_role s w q ≡ true → holds_role (with_loans s (stored (inserted (loan_of u v r t) (loans_of s)))) w q ≡ true
  lent-held numbers w q h =
      ap (λ (l : List Loan). has_role (held_with s.assigned l) w q) (lent-loans numbers)
      ∙ held-means s.assigned 0 (inserted (loan_of u v r t) (loans_of s)) w q accepted.typed.users (lent-ordered numbers)
      ∙ ⊎_elim (left_or (assigned_role s w q) _) (λ b. right_or (assigned_role s w q) _ (lent-borrowed numbers w q ∙ right_or (eqb v w && eqb r q) (borrowed_role s w q) b))
      (of_or (assigned_role s w q) (borrowed_role s w q) (sym (holds-means s accepted w q) ∙ h))
