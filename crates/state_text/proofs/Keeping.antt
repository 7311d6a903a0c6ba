-- What 40 does not refuse stays so with one line more, in a state that has no such line yet.
-- Assumes nothing.
use mathlib.Core.Path.{◌≡◌, refl, sym, ap, ◌∙◌, subst⁻¹}
use mathlib.Core.Bool.{Bool, true, false, not, ◌&&◌}
use mathlib.Core.List.Memᴰ
use mathlib.Core.List.{List, [], Memᴰ}
use Prim.Native.Nat.{ℕ, suc, ◌+◌, ◌*◌, ◌^◌, ◌≤◌, ◌<◌}
use native.Mathlib.Decide.{ℕ_discrete}
use native.Mathlib.Omega.{arith}
use lib.Dec.{ltb, leb, eqb}
use lib.ListN.{set, length-set}
use lib.Seq.{get_or-set_same, get_or-set_other}
use borrow.Author.Tests.{eqb-true, ltb-true, leb-true, le-leb, lt-leb, le-ltb, not-true}
use Rattle.sets.specs.Sets.{with, all, is_empty}
use Rattle.sets.proofs.Booleans.{clash, both, both_true, right-true}
use Rattle.sets.proofs.Bounded.{of-all}
use Rattle.sets.proofs.Width.{with-lt}
use Rattle.places.specs.Places.{on_grid, position_in_range, point_in_range}
use Rattle.places.specs.declared.Position.{Position}
use Rattle.places.specs.declared.Position.TheVariants.{Unknown, Known}
use Rattle.rules.specs.Families.{word_at, has_role, closed_session, session_at}
use Rattle.rules.specs.declared.sessions.Session.{Session}
use Rattle.steps.specs.declared.actions.Action.{Action}
use Rattle.steps.specs.declared.actions.Action.TheVariants as step
use Rattle.steps.specs.Steps.{is_time}
use Rattle.loans.specs.Loans.{key, loan_of, loans_accepted, stored, held_with}
use Rattle.loans.specs.declared.Loan.{Loan}
use Rattle.loans.proofs.Keeping.{kept-means}
use Rattle.enforcement.specs.States.{fresh, assigned_role, loans_of, holds_role, is_open, user_of, position_of, active_role, is_unknown, session_accepted, state_accepted}
use Rattle.enforcement.specs.Steps.{passes, check, target, put, session, with_loans, with_sessions}
use Rattle.enforcement.specs.Reached.{Typed, Accepted, Held, Lending}
use Rattle.enforcement.specs.declared.states.State.{State}
use Rattle.enforcement.proofs.Kept.{accepted-target, held-target, fresh-accepted, fresh-held}
use Rattle.enforcement.proofs.Lending.{lending-target, fresh-lending}
use Rattle.enforcement.proofs.Loans.{loans-ordered, accepted-time}
use Rattle.enforcement.proofs.Ranges as ranges
use Rattle.state_text.specs.Entries.{form_of, rank, with_line, rests, has_room}
use Rattle.state_text.specs.Saving.{only}
use Rattle.state_text.specs.Causes.{Ranged}
use Rattle.state_text.specs.declared.entries.Entry.{Entry}
use Rattle.state_text.specs.declared.entries.Entry.TheVariants.{Now, Assigned, Granted, Loan as LoanLine, Open, Place, Active, Did, PlaceWithError}
use Rattle.state_text.proofs.Rows.{by-test}
use Rattle.state_text.proofs.LoanCells.{kept-none, inserted-last}
use Rattle.state_text.proofs.Cells.{Ended, at-now, at-assigned, at-granted, at-session, carries-word, loans-till}

-- 40 does not refuse it, each active role is held by its session's user, and its loans run as they were lent
pub record Kept (s : State) : Type 0 where
  pub accepted : Accepted s
  pub held : Held s
  pub lending : Lending s

-- ---- what 40 looks for

module _ (s : State) (unrefused : state_accepted s ≡ true) where
  tests : (is_time s.time ≡ true) × (all 32 (λ i. session_accepted (session_at s.sessions i) (word_at s.active i)) ≡ true)
  unfolding state_accepted
  tests =
      let each = all 32 (λ i. session_accepted (session_at s.sessions i) (word_at s.active i)) in
      let parts = both (is_time s.time) (loans_accepted s.loans && each) unrefused in
      (parts.0, right-true (loans_accepted s.loans) each parts.1)

  pub time-accepted : s.time ≤ 3155759999
  time-accepted = leb-true s.time 3155759999 tests.0

  session-test : (i : ℕ) → i < 32 → session_accepted (session_at s.sessions i) (word_at s.active i) ≡ true
  session-test = of-all 32 (λ i. session_accepted (session_at s.sessions i) (word_at s.active i)) tests.1

  unknown : (p : Position) → is_unknown p ≡ true → p ≡ Unknown
  unknown Unknown h = refl
  unknown (Known point) h = clash h refl

  -- a closed session keeps nothing
  pub closed-empty : (i : ℕ) → i < 32 → is_open s i ≡ false → session_at s.sessions i ≡ closed_session
  unfolding session_accepted
  closed-empty i h e =
      let x = session_at s.sessions i in
      let t : (eqb x.user 0 && (is_unknown x.position && is_empty (word_at s.active i))) ≡ true = rw e at (session-test i h) in
      let user = both (eqb x.user 0) (is_unknown x.position && is_empty (word_at s.active i)) t in
      let rest = both (is_unknown x.position) (is_empty (word_at s.active i)) user.1 in
      λ j. record { is_open = e j; user = eqb-true x.user 0 user.0 j; position = unknown x.position rest.0 j }

  -- an open one has a user and a position in range
  pub open-ranged : (i : ℕ) → i < 32 → is_open s i ≡ true → (user_of s i < 64) × (position_in_range (position_of s i) ≡ true)
  unfolding session_accepted
  open-ranged i h e =
      let t = both (ltb (user_of s i) 64) (position_in_range (position_of s i)) (rw e at (session-test i h)) in
      (ltb-true (user_of s i) 64 t.0, t.1)

  pub position-ranged : (i : ℕ) → i < 32 → position_in_range (position_of s i) ≡ true
  unfolding position_in_range
  position-ranged i h =
      by-test (is_open s i)
      (λ e. (open-ranged i h e).1)
      (λ e. ap (λ (v : Session). position_in_range v.position) (closed-empty i h e))

-- ---- one line more

only_none : (b : Bool) (e : Entry) → only b e ≡ [] → b ≡ false
only_none true e h = absurd (let z : ◌≡◌ {A = ℕ} 0 1 = cc in omega arith)
only_none false e h = refl

module _ (s : State) (kept : Kept s) where
  by-target : (action : Action) → ranges.Ranged action → check s action ≡ passes → Kept (target s action)
  by-target action ranged pass = record {
    accepted = accepted-target action s kept.accepted ranged pass;
    held = held-target action s kept.accepted ranged pass kept.held;
    lending = lending-target action s kept.accepted ranged pass kept.lending;
  }

  -- before the first loan every role that is held is assigned
  no-loans : Ended 3073 s → loans_of s ≡ []
  no-loans ended =
      sym (loans-till s (loans-ordered s kept.accepted) 0 (omega arith) ended)
      ∙ kept-none (λ loan. ltb (key loan) 0) (loans_of s) (λ loan m. le-ltb (key loan) 0 (omega arith))

  assigned-alone : Ended 3073 s → (u r : ℕ) → holds_role s u r ≡ assigned_role s u r
  unfolding held_with
  assigned-alone ended u r = ap (λ (l : List Loan). has_role (held_with s.assigned l) u r) (no-loans ended)

  -- a loan after all others
  loan-line : (u v r t : ℕ) → (u < 64) × (v < 64) × (r < 32) × (t ≤ 3155759999) → Ended (1 + (2048 + (1024 + ((u * 64 + v) * 32 + r)))) s
      → with_line s (LoanLine u v r t) ≡ target s (step.Lend u v r t)
  unfolding with_line target key
  loan-line u v r t h ended =
      let till = loans-till s (loans-ordered s kept.accepted) ((u * 64 + v) * 32 + r) (omega (arith, h.0, h.1, h.2)) ended in
      let below : (other : Loan) → Memᴰ other (loans_of s) → key other < key (loan_of u v r t) =
      λ other m. ltb-true (key other) ((u * 64 + v) * 32 + r) ((kept-means (λ loan. ltb (key loan) ((u * 64 + v) * 32 + r)) other (loans_of s)).0 (rw till m)).1 in
      ap (λ (l : List Loan). with_loans s (stored l)) (sym (inserted-last (loans_of s) (loan_of u v r t) below))

  -- what it rests on and the room for it are the checks of `lend`
  loan-passes : (u v r t : ℕ) → rests s (LoanLine u v r t) ≡ true → has_room s (LoanLine u v r t) ≡ true → check s (step.Lend u v r t) ≡ passes
  unfolding rests form_of check
  loan-passes u v r t rest room =
      let parts = both (assigned_role s u r) (not (holds_role s v r) && ltb s.time t) rest in
      let later = both (not (holds_role s v r)) (ltb s.time t) parts.1 in
      rw (parts.0, not-true (holds_role s v r) later.0, lt-leb t s.time (ltb-true s.time t later.1), not-true (leb 32 s.loans.count) room)

  open-line : (i u : ℕ) → i < 32 → is_open s i ≡ false → with_line s (Open i u) ≡ target s (step.Open i u)
  unfolding with_line target
  open-line i u h e = ap (λ (p : Position). with_sessions s (set s.sessions i (session true u p))) (ap (λ (v : Session). v.position) (closed-empty s kept.accepted.unrefused i h e))

  did_line : (o p u : ℕ) → o < 32 → p < 32 → Kept (with_line s (Did o p u))
  unfolding with_line state_accepted
  did_line o p u ho hp = record {
    accepted = record {
      typed = record {
        users = typed.users;
        roles = typed.roles;
        all_loans = typed.all_loans;
        all_sessions = typed.all_sessions;
        actives = typed.actives;
        records = length-set s.history (o * 32 + p) _ ∙ typed.records;
        small_assigned = typed.small_assigned;
        small_granted = typed.small_granted;
        small_active = typed.small_active;
        small_history = λ k. small k (ℕ_discrete k (o * 32 + p));
      };
      unrefused = kept.accepted.unrefused;
    };
    held = kept.held;
    lending = record {
      unended = kept.lending.unended;
      lent = kept.lending.lent;
      borrowed = kept.lending.borrowed;
      single = kept.lending.single;
      filled = kept.lending.filled;
    };
  }
    where
      typed : Typed s
      typed = kept.accepted.typed

      small : (k : ℕ) → Dec (k ≡ o * 32 + p) → word_at (put 64 s.history (o * 32 + p) u) k < 2 ^ 64
      small k (yes e) =
          rw (e, get_or-set_same s.history (o * 32 + p) (with 64 (word_at s.history (o * 32 + p)) u) 0 (omega (arith, typed.records)))
          (with-lt 64 (word_at s.history (o * 32 + p)) u (typed.small_history (o * 32 + p)))
      small k (no n) = rw (get_or-set_other s.history (o * 32 + p) k (with 64 (word_at s.history (o * 32 + p)) u) 0 n) (typed.small_history k)

  pub line_kept : (e : Entry) → Ranged e → Ended (rank e) s → rests s e ≡ true → has_room s e ≡ true → Kept (with_line s e)
  unfolding with_line rank rests check target point_in_range
  line_kept (Now t) h ended rest room = absurd (let z : ◌≡◌ {A = ℕ} 0 1 = cc (sym (at-now s) ∙ ended 0 (omega arith)) in omega arith)
  line_kept (Assigned u r) h ended rest room =
      let l = h.0 in
      let m = h.1 in
      let none = ended (1 + (u * 32 + r)) (omega arith) in
      by-target (step.Assign u r) h
      (rw (assigned-alone (λ j q. ended j (omega arith)) u r ∙ only_none (assigned_role s u r) (Assigned u r) (sym (at-assigned s u r h.0 h.1) ∙ none)))
  line_kept (Granted r p) h ended rest room =
      let none = ended (1 + (2048 + (r * 32 + p))) (omega arith) in
      by-target (step.Grant r p) h (rw (carries-word s r p h.0 ∙ only_none (has_role s.granted r p) (Granted r p) (sym (at-granted s r p h.0 h.1) ∙ none)))
  line_kept (LoanLine u v r t) h ended rest room = subst⁻¹ Kept (loan-line u v r t h ended) (by-target (step.Lend u v r t) h (loan-passes u v r t rest room))
  line_kept (Open i u) h ended rest room =
      let none = ended (1 + (2048 + (1024 + (131072 + (i * 34 + 0))))) (omega arith) in
      let shut = only_none (is_open s i) (Open i (user_of s i)) (sym (at-session s i 0 h.0 (omega arith)) ∙ none) in
      subst⁻¹ Kept (open-line i u h.0 shut) (by-target (step.Open i u) h (rw shut))
  line_kept (Place i x y) h ended rest room =
      by-target (step.Move i (record { x = x; y = y; error = 0 })) (h.0, both_true (on_grid x && on_grid y) true (both_true (on_grid x) (on_grid y) h.1 h.2) refl) (rw rest)
  line_kept (Active i r) h ended rest room =
      let m : suc (suc r) < 34 = omega (arith, h.1) in
      let parts = both (is_open s i) (holds_role s (user_of s i) r) rest in
      let none = ended (1 + (2048 + (1024 + (131072 + (i * 34 + suc (suc r)))))) (omega arith) in
      by-target (step.Activate i r) h
      (rw (parts.0, only_none (active_role s i r) (Active i r) (sym (at-session s i (suc (suc r)) h.0 m) ∙ none), parts.1))
  line_kept (Did o p u) h ended rest room = did_line o p u h.0 h.1
  line_kept (PlaceWithError i x y e) h ended rest room =
      by-target (step.Move i (record { x = x; y = y; error = e })) (h.0, both_true (on_grid x && on_grid y) (leb e 1000) (both_true (on_grid x) (on_grid y) h.1 h.2) (le-leb e 1000 h.4)) (rw rest)

-- the first line of a text
pub now-kept : (t : ℕ) → t ≤ 3155759999 → Kept (with_line fresh (Now t))
unfolding with_line fresh
now-kept t h = record {
  accepted = accepted-time fresh fresh-accepted t h;
  held = fresh-held;
  lending = record {
    unended = λ loan member. absurd (Memᴰ.not-nil member);
    lent = fresh-lending.lent;
    borrowed = fresh-lending.borrowed;
    single = fresh-lending.single;
    filled = fresh-lending.filled;
  };
}
