-- A rule that held before a step and that the step does not select holds in the target; and at an event under each part of its pairs.
-- Assumes nothing.
use mathlib.Core.Path.{◌≡◌, refl, sym, ap, ap₂, subst, ◌∙◌}
use mathlib.Core.Bool.{Bool, true, false, not, cond, ◌&&◌, ◌||◌, or-true, false≢true}
use mathlib.Core.Logic.{◌⊎◌, inl, inr, ⊎_elim}
use mathlib.Core.List.{List}
use Prim.Native.Nat.{ℕ, ◌+◌, ◌*◌, ◌%◌, ◌≤◌, ◌<◌}
use native.Mathlib.Nat.{le_trans}
use native.Mathlib.Omega.{arith}
use lib.Dec.{eqb, ltb, leb}
use lib.ListN.{length, set, length-set}
use borrow.Author.Tests.{eq-eqb, eqb-true, ltb-true}
use Rattle.sets.specs.Sets.{member, is_empty}
use Rattle.sets.proofs.Booleans.{clash, both, both_true, left-true, right-true, left_or, right_or, of_or, neither, or-both, of-not-both}
use Rattle.sets.proofs.Bounded.{of-all}
use Rattle.sets.proofs.Members.{member-empty}
use Rattle.sets.proofs.Counting.{count-mono}
use Rattle.places.specs.declared.Position.{Position}
use Rattle.places.specs.declared.Position.TheVariants.{Unknown, Known}
use Rattle.rules.specs.Families.{word_at, has_role, closed_session, session_at, permissions_of, users_who}
use Rattle.rules.specs.declared.families.Rule.{Rule}
use Rattle.rules.specs.declared.families.Rule.TheVariants.{Prerequisite, MaxUsers, MaxRoles, MaxPermissions, MaxActive, StaticSeparation, DynamicSeparation, Dependency, TimeContext, LocationContext, HistorySeparation, BindingOfDuty}
use Rattle.rules.specs.declared.sessions.Session.{Session}
use Rattle.steps.specs.Pairs.{Part}
use Rattle.selection.specs.Selection.{is_before, is_needs, is_during, is_at, has_first, selects}
use Rattle.steps.specs.declared.actions.Action.{Action}
use Rattle.steps.specs.declared.actions.Action.TheVariants.{Malformed, Assign, Withdraw, Grant, Take, Open, Activate, Deactivate, Access, Finish, Close, Move, Lost, Clock, Lend, Recall}
use Rattle.loans.specs.Loans.{kept_loans, is_named, runs_at, loan_of, stored, inserted, accepted_from, is_borrowed, held_with}
use Rattle.loans.specs.declared.Loan.{Loan}
use Rattle.loans.proofs.Storing.{running-stored}
use Rattle.loans.proofs.Keeping.{some-means, kept-means, kept-length}
use Rattle.loans.proofs.Holding.{held-assigned, held-means}
use Rattle.loans.proofs.Order.{kept-accepted}
use Rattle.enforcement.specs.States.{assigned_role, loans_of, borrowed_role, held_roles, holds_role, carries, is_open, user_of, position_of, active_role, did, rule_holds, is_unknown, session_accepted, state_accepted}
use Rattle.steps.specs.Steps.{is_event}
use Rattle.enforcement.specs.Steps.{passes, check, with_loans, with_sessions, with_active, with_time, put, take_out, emptied, session, placed, loans_left, unheld_closed, target}
use Rattle.enforcement.specs.Reached.{Accepted}
use Rattle.enforcement.specs.declared.states.State.{State}
use Rattle.enforcement.proofs.Words.{has-put, has-take-out, has-set-empty, word-emptied, session-set}
use Rattle.enforcement.specs.Claims.{Holds}
use Rattle.enforcement.proofs.Holding.{rule-means}
use Rattle.enforcement.proofs.Ranges.{Ranged}
use Rattle.enforcement.proofs.Checks.{not-refused}
use Rattle.enforcement.proofs.Loans.{sessions-unrefused, loans-ordered, loans-few, holds-means, unheld-part, accepted-time, accepted-left, lend-passes, lent-ordered, lent-few, lent-borrowed}

-- ---- tests

-- a number is itself
same : (x : ℕ) → eqb x x ≡ true
same x = eq-eqb x x refl

-- ---- lists of sets

-- from l to m no member is gained whose gain matters, and none lost whose loss matters
pub record SetsChange (gain lose : ℕ → ℕ → Bool) (l m : List ℕ) : Type 0 where
  pub gained : (i r : ℕ) → gain i r ≡ true → has_role m i r ≡ true → has_role l i r ≡ true
  pub lost : (i r : ℕ) → lose i r ≡ true → has_role l i r ≡ true → has_role m i r ≡ true

same-sets : {gain lose : ℕ → ℕ → Bool} {l : List ℕ} → SetsChange gain lose l l
same-sets = record { gained = λ i r e h. h; lost = λ i r e h. h }

-- other assigned roles, seen through what is held with the same loans
held-sets : {gain lose : ℕ → ℕ → Bool} (s : State) → Accepted s → (roles : List ℕ) → length roles ≡ length s.assigned → SetsChange gain lose s.assigned roles → SetsChange gain (λ u r. false) (held_roles s) (held_with roles (loans_of s))
held-sets {gain} s accepted roles long change = record {
  gained = λ u r e h. holds-means s accepted u r
      ∙ ⊎_elim (λ a. left_or (assigned_role s u r) (borrowed_role s u r) (change.gained u r e a)) (right_or (assigned_role s u r) (borrowed_role s u r))
      (of_or (has_role roles u r) (borrowed_role s u r) (sym (held-means roles 0 (loans_of s) u r (long ∙ accepted.typed.users) (loans-ordered s accepted)) ∙ h));
  lost = λ u r e h. absurd (false≢true e);
}

module _ {gain lose : ℕ → ℕ → Bool} (l : List ℕ) where
  put-sets : (width i k : ℕ) → i < length l → gain i k ≡ false → SetsChange gain lose l (put width l i k)
  put-sets width i k within unselected = record {
    gained = λ j r e h. new j r e (of_or (has_role l j r) (eqb i j && (ltb k width && eqb k r)) (rw (has-put l i within width k j r) at h));
    lost = λ j r e h. rw (has-put l i within width k j r) (left_or (has_role l j r) (eqb i j && (ltb k width && eqb k r)) h);
  }
    where
      new : (j r : ℕ) → gain j r ≡ true → (has_role l j r ≡ true) ⊎ ((eqb i j && (ltb k width && eqb k r)) ≡ true) → has_role l j r ≡ true
      new j r e (inl h) = h
      new j r e (inr h) =
          let test = both (eqb i j) (ltb k width && eqb k r) h in
          let role = right-true (ltb k width) (eqb k r) test.1 in
          clash (ap₂ gain (eqb-true i j test.0) (eqb-true k r role) ∙ e) unselected

  take-out-sets : (i k : ℕ) → i < length l → lose i k ≡ false → SetsChange gain lose l (take_out l i k)
  take-out-sets i k within unselected = record {
    gained = λ j r e h. left-true (has_role l j r) (not (eqb i j && eqb k r)) (rw (has-take-out l i within k j r) at h);
    lost = λ j r e h. rw (has-take-out l i within k j r) (both_true (has_role l j r) (not (eqb i j && eqb k r)) h (other j r e));
  }
    where
      other : (j r : ℕ) → lose j r ≡ true → not (eqb i j && eqb k r) ≡ true
      other j r e = of-not-both (eqb i j) (eqb k r) (λ x y. clash (ap₂ lose (eqb-true i j x) (eqb-true k r y) ∙ e) unselected)

  -- fewer members, where no loss matters
  fewer-sets : (m : List ℕ) → ((i r : ℕ) → has_role m i r ≡ true → has_role l i r ≡ true) → ((i r : ℕ) → lose i r ≡ false) → SetsChange gain lose l m
  fewer-sets m fewer harmless = record { gained = λ i r e h. fewer i r h; lost = λ i r e h. clash e (harmless i r) }

-- a set emptied has no member
pub emptied-fewer : (k : ℕ) (l : List ℕ) (start j r : ℕ) → start + k ≤ length l → has_role (emptied k l start) j r ≡ true → has_role l j r ≡ true
emptied-fewer k l start j r within h = go (leb start j && ltb j (start + k)) (rw (word-emptied k l start j within) at h)
  where
    go : (b : Bool) → member (cond b 0 (word_at l j)) r ≡ true → has_role l j r ≡ true
    go true e = clash e (member-empty r)
    go false e = e

-- ---- from one state to another: a gain or loss matters to a rule where an action that makes it selects the rule

-- of what is assigned only `before` reads
abbrev AssignedChange : Rule → List ℕ → List ℕ → Type 0
AssignedChange rule = SetsChange (λ u r. is_before rule && has_first r rule) (λ u r. selects (Withdraw u r) rule)

-- a role that is held no more breaks no rule
abbrev HeldChange : Rule → List ℕ → List ℕ → Type 0
HeldChange rule = SetsChange (λ u r. selects (Lend 0 u r 0) rule) (λ u r. false)

abbrev GrantedChange : Rule → List ℕ → List ℕ → Type 0
GrantedChange rule = SetsChange (λ r p. selects (Grant r p) rule) (λ r p. selects (Take r p) rule)

abbrev ActiveChange : Rule → List ℕ → List ℕ → Type 0
ActiveChange rule = SetsChange (λ i r. selects (Activate i r) rule) (λ i r. selects (Deactivate i r) rule)

-- the table looks at the permission alone, and not at the session or the object
abbrev HistoryChange : Rule → List ℕ → List ℕ → Type 0
HistoryChange rule = SetsChange (λ k u. selects (Access 0 (k % 32) 0) rule) (λ k u. selects (Finish 0) rule)

-- nothing that matters to a rule changes from s to t
record Change (rule : Rule) (s t : State) : Type 0 where
  assigned : AssignedChange rule s.assigned t.assigned
  held : HeldChange rule (held_roles s) (held_roles t)
  granted : GrantedChange rule s.granted t.granted
  active : ActiveChange rule s.active t.active
  history : HistoryChange rule s.history t.history
  user : (i r : ℕ) → active_role t i r ≡ true → user_of t i ≡ user_of s i
  position : is_at rule ≡ true → (i r : ℕ) → active_role t i r ≡ true → position_of t i ≡ position_of s i
  time : is_during rule ≡ true → t.time ≡ s.time

-- a set that is read only where a test passes
where-read : (b : Bool) (x y k : ℕ) → (b ≡ true → member x k ≡ true → member y k ≡ true) → member (cond b x 0) k ≡ true → member (cond b y 0) k ≡ true
where-read true x y k f h = f refl h
where-read false x y k f h = h

-- a record of a permission that the rule names was there before
done-before : {rule : Rule} {s t : State} → Change rule s t → (o p u : ℕ) → selects (Access 0 p 0) rule ≡ true → did t o p u ≡ true → did s o p u ≡ true
unfolding users_who
done-before c o p u selected =
    where-read (ltb p 32) _ _ u (λ b. c.history.gained (o * 32 + p) u (rw (permission (ltb-true p 32 b)) selected))
  where
    permission : p < 32 → (o * 32 + p) % 32 ≡ p
    permission l = omega arith

-- so a rule that holds in s holds in t
change-keeps : (rule : Rule) (s t : State) → Change rule s t → Holds rule s → Holds rule t
unfolding selects permissions_of
change-keeps (Prerequisite r q) s t c h =
    λ u l e. c.assigned.lost u q (same q) (h u l (c.assigned.gained u r (same r) e))
change-keeps (MaxUsers r n) s t c h =
    le_trans (count-mono 64 (λ u. holds_role t u r) (λ u. holds_role s u r) (λ u l. c.held.gained u r (rw (same r)))) h
change-keeps (MaxRoles n) s t c h =
    λ u l. le_trans (count-mono 32 (holds_role t u) (holds_role s u) (λ r m. c.held.gained u r refl)) (h u l)
change-keeps (MaxPermissions r n) s t c h =
    le_trans (count-mono 32 (carries t r) (carries s r) (λ p l. where-read (ltb r 32) _ _ p (λ b. c.granted.gained r p (same r)))) h
change-keeps (MaxActive n) s t c h =
    λ i l. le_trans (count-mono 32 (active_role t i) (active_role s i) (λ r m. c.active.gained i r refl)) (h i l)
change-keeps (StaticSeparation r q) s t c h =
    λ u l x y. h u l (c.held.gained u r (rw (same r)) x) (c.held.gained u q (rw (same q, or-true)) y)
change-keeps (DynamicSeparation r q) s t c h =
    λ u i j lu li lj x y.
    h u i j lu li lj (sym (c.user i r x.1) ∙ x.0, c.active.gained i r (rw (same r)) x.1)
    (sym (c.user j q y.1) ∙ y.0, c.active.gained j q (rw (same q, or-true)) y.1)
change-keeps (Dependency r q) s t c h =
    λ i l x.
    let found = h i l (c.active.gained i r (rw (same r)) x) in
    (found.0, found.1, c.active.lost found.0 q (same q) found.2)
change-keeps (TimeContext r term) s t c h =
    λ i l x. rw (c.time refl) (h i l (c.active.gained i r (rw (same r)) x))
change-keeps (LocationContext r side) s t c h =
    λ i l x. rw (c.position refl i r x) (h i l (c.active.gained i r (same r) x))
change-keeps (HistorySeparation p q) s t c h =
    λ o l u lu x y. h o l u lu (done-before c o p u (rw (same p)) x) (done-before c o q u (rw (same q, or-true)) y)
change-keeps (BindingOfDuty p q) s t c h =
    λ o l i j li lj x y. h o l i j li lj (either o i x) (either o j y)
  where
    either : (o u : ℕ) → (did t o p u || did t o q u) ≡ true → (did s o p u || did s o q u) ≡ true
    either o u =
        or-both (did t o p u) (did t o q u) (did s o p u) (did s o q u)
        (done-before c o p u (rw (same p))) (done-before c o q u (rw (same q, or-true)))

keep : {rule : Rule} {s t : State} → Change rule s t → rule_holds rule s ≡ true → rule_holds rule t ≡ true
keep {rule} {s} {t} c held = (rule-means rule t).1 (change-keeps rule s t c ((rule-means rule s).0 held))

-- ---- the lists, the time or one session changed

module _ (rule : Rule) (s : State) where
  lists-change :
      {assigned granted active history : List ℕ}
      → AssignedChange rule s.assigned assigned
      → HeldChange rule (held_roles s) (held_with assigned (loans_of s))
      → GrantedChange rule s.granted granted
      → ActiveChange rule s.active active
      → HistoryChange rule s.history history
      → Change rule s (record { time = s.time; assigned = assigned; granted = granted; loans = s.loans; sessions = s.sessions; active = active; history = history })
  lists-change assigned held granted active history = record {
    assigned = assigned;
    held = held;
    granted = granted;
    active = active;
    history = history;
    user = λ i r h. refl;
    position = λ e i r h. refl;
    time = λ e. refl;
  }

  time-change : (t : ℕ) → is_during rule ≡ false → Change rule s (with_time s t)
  time-change t unselected =
      record {
        assigned = same-sets;
        held = same-sets;
        granted = same-sets;
        active = same-sets;
        history = same-sets;
        user = λ i r h. refl;
        position = λ e i r h. refl;
        time = λ e. clash e unselected;
      }

  module _ (i : ℕ) (x : Session) (within : i < length s.sessions) where
    -- a part of each session with an active role stays, where it stays for session i
    part_stays :
        {A : Type 0} (part : Session → A)
        → ((r : ℕ) → active_role s i r ≡ true → part x ≡ part (session_at s.sessions i))
        → (j r : ℕ)
        → active_role s j r ≡ true
        → part (session_at (set s.sessions i x) j) ≡ part (session_at s.sessions j)
    part_stays part stays j r h = ap part (session-set s.sessions i j x within) ∙ go (eqb i j) refl
      where
        go : (b : Bool) → eqb i j ≡ b → part (cond b x (session_at s.sessions j)) ≡ part (session_at s.sessions j)
        go true e = rw (eqb-true i j e) at (stays r (rw (eqb-true i j e) h))
        go false e = refl

    session-change :
        ((r : ℕ) → active_role s i r ≡ true → x.user ≡ user_of s i)
        → (is_at rule ≡ true → (r : ℕ) → active_role s i r ≡ true → x.position ≡ position_of s i)
        → Change rule s (with_sessions s (set s.sessions i x))
    session-change same_user same_position = record {
      assigned = same-sets;
      held = same-sets;
      granted = same-sets;
      active = same-sets;
      history = same-sets;
      user = part_stays (λ (y : Session). y.user) same_user;
      position = λ e. part_stays (λ (y : Session). y.position) (same_position e);
      time = λ e. refl;
    }

    -- a session with no active role may change in any part
    inactive-change : ((r : ℕ) → active_role s i r ≡ false) → Change rule s (with_sessions s (set s.sessions i x))
    inactive-change inactive = session-change (λ r h. clash h (inactive r)) (λ e r h. clash h (inactive r))

  position-change : (i : ℕ) (position : Position) → i < length s.sessions → is_at rule ≡ false → Change rule s (placed s i position)
  position-change i position within unselected =
      session-change i (session (is_open s i) (user_of s i) position) within (λ r h. refl) (λ e r h. clash e unselected)

-- ---- the loans changed, and the active roles closed that are not held

module _ (rule : Rule) (s : State) (accepted : Accepted s) where
  -- other loans: what they add to the held roles matters to no rule that lend does not select
  loans-change : (l : List Loan) → accepted_from 0 l ≡ true → length l ≤ 32 → ((u r : ℕ) → selects (Lend 0 u r 0) rule ≡ true → is_borrowed l u r ≡ true → holds_role s u r ≡ true) → Change rule s (with_loans s (stored l))
  loans-change l ordered few harmless = record {
    assigned = same-sets;
    held = record { gained = gained; lost = λ u r e h. absurd (false≢true e) };
    granted = same-sets;
    active = same-sets;
    history = same-sets;
    user = λ i r h. refl;
    position = λ e i r h. refl;
    time = λ e. refl;
  }
    where
      gained : (u r : ℕ) → selects (Lend 0 u r 0) rule ≡ true → holds_role (with_loans s (stored l)) u r ≡ true → holds_role s u r ≡ true
      gained u r e h =
          ⊎_elim (held-assigned s.assigned (loans_of s) u r) (harmless u r e)
          (of_or (assigned_role s u r) (is_borrowed l u r)
          (sym (ap (λ (m : List Loan). has_role (held_with s.assigned m) u r) (running-stored l few) ∙ held-means s.assigned 0 l u r accepted.typed.users ordered) ∙ h))

  left-change : (test : Loan → Bool) → Change rule s (loans_left test s)
  left-change test =
      loans-change (kept_loans test (loans_of s)) (kept-accepted test 0 (loans_of s) (loans-ordered s accepted))
      (le_trans (kept-length test (loans_of s)) (loans-few s accepted))
      (λ u r e h.
      let some = (some-means (λ loan. eqb loan.borrower u && eqb loan.role r) (kept_loans test (loans_of s))).0 h in
      holds-means s accepted u r ∙ right_or (assigned_role s u r) (borrowed_role s u r)
      ((some-means (λ loan. eqb loan.borrower u && eqb loan.role r) (loans_of s)).1 (some.0, ((kept-means test some.0 (loans_of s)).0 some.1).0, some.2)))

  closed-change : ((i r : ℕ) → selects (Deactivate i r) rule ≡ false) → Change rule s (unheld_closed s)
  unfolding unheld_closed
  closed-change harmless =
      lists-change rule s same-sets same-sets same-sets (fewer-sets s.active _ (unheld-part s).within harmless) same-sets

-- ---- what the checks and the table say

-- a closed session has no active role
pub closed-inactive : (s : State) → Accepted s → (i r : ℕ) → i < 32 → is_open s i ≡ false → active_role s i r ≡ false
unfolding state_accepted session_accepted
closed-inactive s accepted i r l shut =
    let each = sessions-unrefused s accepted in
    let here : session_accepted (session_at s.sessions i) (word_at s.active i) ≡ true = of-all 32 _ each i l in
    let kept = right-true (eqb (user_of s i) 0) (is_unknown (position_of s i) && is_empty (word_at s.active i)) (rw shut at here) in
    let empty = right-true (is_unknown (position_of s i)) (is_empty (word_at s.active i)) kept in
    ap (λ (n : ℕ). member n r) (eqb-true (word_at s.active i) 0 empty) ∙ member-empty r

-- every event selects the rules that an ended role can break
no-loss : (action : Action) (rule : Rule) → is_event action ≡ true → selects action rule ≡ false → (i r : ℕ) → selects (Deactivate i r) rule ≡ false
unfolding selects
no-loss action rule event unselected i r = rw (needs action event unselected)
  where
    needs : (action : Action) → is_event action ≡ true → selects action rule ≡ false → is_needs rule ≡ false
    needs Malformed event e = clash event refl
    needs (Assign u r) event e = clash event refl
    needs (Withdraw u r) event e = clash event refl
    needs (Grant r p) event e = clash event refl
    needs (Take r p) event e = clash event refl
    needs (Open i u) event e = clash event refl
    needs (Activate i r) event e = clash event refl
    needs (Deactivate i r) event e = clash event refl
    needs (Access i p o) event e = clash event refl
    needs (Finish o) event e = clash event refl
    needs (Close i) event e = e
    needs (Move i point) event e = (neither (is_at rule) (is_needs rule) e).1
    needs (Lost i) event e = (neither (is_at rule) (is_needs rule) e).1
    needs (Clock t) event e = (neither (is_during rule) (is_needs rule) e).1
    needs (Lend u v r t) event e = clash event refl
    needs (Recall u v r) event e = e

-- ---- the two theorems

-- only the rules that a step selects can be broken by its target
pub frame : (action : Action) (rule : Rule) (s : State) → Accepted s → Ranged action → check s action ≡ passes → selects action rule ≡ false → rule_holds rule s ≡ true → rule_holds rule (target s action) ≡ true
unfolding target selects check
frame Malformed rule s accepted ranged pass unselected held = held
frame (Assign u r) rule s accepted ranged pass unselected held =
    let neither-one = neither (is_before rule && has_first r rule) (selects (Lend 0 u r 0) rule) unselected in
    let within : u < length s.assigned = rw accepted.typed.users ranged.0 in
    keep (lists-change rule s (put-sets s.assigned 32 u r within neither-one.0)
    (held-sets {lose = λ v q. false} s accepted (put 32 s.assigned u r) (length-set s.assigned u _) (put-sets s.assigned 32 u r within neither-one.1)) same-sets same-sets same-sets) held
frame (Withdraw u r) rule s accepted ranged pass unselected held =
    let within : u < length s.assigned = rw accepted.typed.users ranged.0 in
    keep (lists-change rule s (take-out-sets s.assigned u r within unselected)
    (held-sets s accepted (take_out s.assigned u r) (length-set s.assigned u _) (take-out-sets {gain = λ v q. selects (Lend 0 v q 0) rule} {lose = λ v q. false} s.assigned u r within refl)) same-sets same-sets same-sets) held
frame (Grant r p) rule s accepted ranged pass unselected held =
    keep (lists-change rule s same-sets same-sets (put-sets s.granted 32 r p (rw accepted.typed.roles ranged.0) unselected) same-sets same-sets) held
frame (Take r p) rule s accepted ranged pass unselected held =
    keep (lists-change rule s same-sets same-sets (take-out-sets s.granted r p (rw accepted.typed.roles ranged.0) unselected) same-sets same-sets) held
frame (Open i u) rule s accepted ranged pass unselected held =
    let inactive : (r : ℕ) → active_role s i r ≡ false = λ r. closed-inactive s accepted i r ranged.0 (not-refused (is_open s i) 22 passes pass) in
    keep (inactive-change rule s i (session true u Unknown) (rw accepted.typed.all_sessions ranged.0) inactive) held
frame (Activate i r) rule s accepted ranged pass unselected held =
    keep (lists-change rule s same-sets same-sets same-sets (put-sets s.active 32 i r (rw accepted.typed.actives ranged.0) unselected) same-sets) held
frame (Deactivate i r) rule s accepted ranged pass unselected held =
    keep (lists-change rule s same-sets same-sets same-sets (take-out-sets s.active i r (rw accepted.typed.actives ranged.0) unselected) same-sets) held
frame (Access i p o) rule s accepted ranged pass unselected held =
    let permission : (o * 32 + p) % 32 ≡ p = omega arith in
    let within : o * 32 + p < length s.history = omega (arith, accepted.typed.records) in
    keep (lists-change rule s same-sets same-sets same-sets same-sets (put-sets s.history 64 (o * 32 + p) (user_of s i) within (rw permission unselected))) held
frame (Finish o) rule s accepted ranged pass unselected held =
    let within : o * 32 + 32 ≤ length s.history = omega (arith, accepted.typed.records) in
    let fewer : (k u : ℕ) → has_role (emptied 32 s.history (o * 32)) k u ≡ true → has_role s.history k u ≡ true = λ k u. emptied-fewer 32 s.history (o * 32) k u within in
    keep (lists-change rule s same-sets same-sets same-sets same-sets (fewer-sets s.history _ fewer (λ k u. refl))) held
-- first the session's roles end, then it closes
frame (Close i) rule s accepted ranged pass unselected held =
    let ended = set s.active i 0 in
    let has : (j r : ℕ) → has_role ended j r ≡ (not (eqb i j) && has_role s.active j r) = has-set-empty s.active i (rw accepted.typed.actives ranged) in
    let fewer : (j r : ℕ) → has_role ended j r ≡ true → has_role s.active j r ≡ true = λ j r h. right-true (not (eqb i j)) (has_role s.active j r) (rw (has j r) at h) in
    keep (inactive-change rule (with_active s ended) i closed_session (rw accepted.typed.all_sessions ranged) (λ r. rw (has i r, same i)))
    (keep (lists-change rule s same-sets same-sets same-sets (fewer-sets s.active ended fewer (no-loss (Close i) rule refl unselected)) same-sets) held)
frame (Move i point) rule s accepted ranged pass unselected held =
    keep (position-change rule s i (Known point) (rw accepted.typed.all_sessions ranged.0) (neither (is_at rule) (is_needs rule) unselected).0) held
frame (Lost i) rule s accepted ranged pass unselected held =
    keep (position-change rule s i Unknown (rw accepted.typed.all_sessions ranged) (neither (is_at rule) (is_needs rule) unselected).0) held
-- the time is set, then loans end, then the roles that are not held
frame (Clock t) rule s accepted ranged pass unselected held =
    let timed = with_time s t in
    let still : Accepted timed = accepted-time s accepted t ranged in
    keep (closed-change rule (loans_left (runs_at t) timed) (accepted-left (runs_at t) timed still) (no-loss (Clock t) rule refl unselected))
    (keep (left-change rule timed still (runs_at t)) (keep (time-change rule s t (neither (is_during rule) (is_needs rule) unselected).0) held))
frame (Lend u v r t) rule s accepted ranged pass unselected held =
    let free = lend-passes s u v r t pass in
    keep (loans-change rule s accepted (inserted (loan_of u v r t) (loans_of s)) (lent-ordered s accepted u v r t free ranged) (lent-few s accepted u v r t free ranged)
    (λ w q e h.
    ⊎_elim
    (λ here. clash e (subst (λ (role : ℕ). selects (Lend 0 w role 0) rule ≡ false) (eqb-true r q (right-true (eqb v w) (eqb r q) here)) unselected))
    (λ there. holds-means s accepted w q ∙ right_or (assigned_role s w q) (borrowed_role s w q) there)
    (of_or (eqb v w && eqb r q) (borrowed_role s w q) (rw (lent-borrowed s accepted u v r t free ranged w q) at h)))) held
frame (Recall u v r) rule s accepted ranged pass unselected held =
    let others : Loan → Bool = λ loan. not (is_named u v r loan) in
    keep (closed-change rule (loans_left others s) (accepted-left others s accepted) (no-loss (Recall u v r) rule refl unselected))
    (keep (left-change rule s accepted others) held)

-- a rule that an event does not select passes from a state to each part of its pairs
pub frame-part : (action : Action) (rule : Rule) (s : State) (l : List ℕ) → is_event action ≡ true → selects action rule ≡ false → Part l s.active → rule_holds rule s ≡ true → rule_holds rule (with_active s l) ≡ true
frame-part action rule s l event unselected part held =
    keep (lists-change rule s same-sets same-sets same-sets (fewer-sets s.active l part.within (no-loss action rule event unselected)) same-sets) held
