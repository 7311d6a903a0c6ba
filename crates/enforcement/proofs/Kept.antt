-- What 40 does not refuse stays so: the target of a step that passes its checks, and each part of a state's pairs.
-- Assumes nothing.
use mathlib.Core.Path.{◌≡◌, refl, sym, ◌∙◌}
use mathlib.Core.Bool.{Bool, true, false, not, cond, ◌&&◌}
use mathlib.Core.Logic.{⊎_elim}
use mathlib.Core.List.{List}
use Prim.Native.Nat.{ℕ, zero, suc, ◌+◌, ◌*◌, ◌^◌, ◌≤◌, ◌<◌, zero-le}
use native.Mathlib.Decide.{ℕ_discrete}
use native.Mathlib.Omega.{arith}
use lib.Dec.{eqb, ltb}
use lib.ListN.{length, get_or, set, replicate, length-set, length-replicate}
use lib.Pow.{pow_pos}
use lib.Seq.{get_or-set_same, get_or-set_other, set-get_or}
use borrow.Author.Tests.{eqb-true, eq-eqb, lt-ltb, not-false}
use Rattle.sets.specs.Sets.{member, with, without, all, count}
use Rattle.sets.proofs.Booleans.{clash, both_true, left-true, right-true, left_or, right_or, of_or, neither, of-not-both, not_so}
use Rattle.sets.proofs.Bounded.{all_of, of-all, any_of}
use Rattle.sets.proofs.Counting.{count_none}
use Rattle.sets.proofs.Members.{member-empty, member-with, member-without}
use Rattle.sets.proofs.Width.{same-members, with-lt, without-lt, within-lt}
use Rattle.places.specs.Places.{position_in_range}
use Rattle.places.specs.declared.Position.{Position}
use Rattle.places.specs.declared.Position.TheVariants.{Unknown, Known}
use Rattle.rules.specs.Families.{word_at, has_role, closed_session, session_at, is_active_for, permissions_of, users_who}
use Rattle.rules.specs.declared.families.Rule.{Rule}
use Rattle.rules.specs.declared.families.Rule.TheVariants.{Prerequisite, MaxUsers, MaxRoles, MaxPermissions, MaxActive, StaticSeparation, DynamicSeparation, Dependency, TimeContext, LocationContext, HistorySeparation, BindingOfDuty}
use Rattle.rules.specs.declared.sessions.Session.{Session}
use Rattle.steps.specs.Pairs.{Part}
use Rattle.steps.specs.declared.actions.Action.{Action}
use Rattle.steps.specs.declared.actions.Action.TheVariants.{Malformed, Assign, Withdraw, Grant, Take, Open, Activate, Deactivate, Access, Finish, Close, Move, Lost, Clock, Lend, Recall}
use Rattle.steps.specs.Steps.{is_time}
use Rattle.loans.specs.Loans.{is_named, runs_at, loan_of, no_loan, loans_accepted, accepted_from, inserted, held_with}
use Rattle.loans.proofs.Holding.{held-means}
use Rattle.enforcement.specs.States.{fresh, assigned_role, lent_out_role, loans_of, borrowed_role, holds_role, carries, is_open, user_of, position_of, active_role, did, rule_holds, session_accepted, state_accepted}
use Rattle.enforcement.specs.Steps.{Checked, passes, refuse_if, check, target, loans_left, unheld_closed, with_assigned, with_granted, with_sessions, with_active, with_history, with_time, placed, put, take_out, emptied, session}
use Rattle.enforcement.specs.Reached.{Typed, Accepted, Held}
use Rattle.enforcement.specs.declared.states.State.{State}
use Rattle.enforcement.proofs.Words.{has-put, has-take-out}
use Rattle.enforcement.proofs.Ranges.{Ranged}
use Rattle.enforcement.specs.Claims.{Holds}
use Rattle.enforcement.proofs.Holding.{rule-means}
use Rattle.enforcement.proofs.Checks.{not-refused, later-passes}
use Rattle.enforcement.proofs.Loans.{unrefused, sessions-unrefused, loans-ordered, holds-means, has-held, unheld-part, accepted-time, accepted-loans, accepted-left, lend-passes, lent-ordered, lent-few, lent-held}
use Rattle.enforcement.proofs.Frame.{closed-inactive}
use Rattle.selection.proofs.Parts.{has-below}

is_open_lem : (s : State) (i : ℕ) (later : Checked) → refuse_if (not (is_open s i)) 23 later ≡ passes → is_open s i ≡ true
is_open_lem s i later pass = not-false (is_open s i) (not-refused (not (is_open s i)) 23 later pass)

-- ---- words of one width

-- n words of a width
record Words (n width : ℕ) (l : List ℕ) : Type 0 where
  long : length l ≡ n
  small : (i : ℕ) → word_at l i < 2 ^ width

words-set : {n width : ℕ} {l : List ℕ} (i x : ℕ) → Words n width l → i < n → x < 2 ^ width → Words n width (set l i x)
words-set {n} {width} {l} i x words below fits = record { long = length-set l i x ∙ words.long; small = λ j. go j (ℕ_discrete j i) }
  where
    go : (j : ℕ) → Dec (j ≡ i) → word_at (set l i x) j < 2 ^ width
    go j (yes e) = rw (e, get_or-set_same l i x 0 (rw words.long below)) fits
    go j (no n) = rw (get_or-set_other l i j x 0 n) (words.small j)

words-put : {n width : ℕ} {l : List ℕ} (i r : ℕ) → Words n width l → i < n → Words n width (put width l i r)
words-put {n} {width} {l} i r words below = words-set i (with width (word_at l i) r) words below (with-lt width (word_at l i) r (words.small i))

words-take-out : {n width : ℕ} {l : List ℕ} (i r : ℕ) → Words n width l → i < n → r < width → Words n width (take_out l i r)
words-take-out {n} {width} {l} i r words below place =
    words-set i (without (word_at l i) r) words below (without-lt width (word_at l i) r (words.small i) place)

words-emptied : {n width : ℕ} {l : List ℕ} (k start : ℕ) → Words n width l → start + k ≤ n → Words n width (emptied k l start)
unfolding emptied
words-emptied zero start words within = words
words-emptied {width = width} (suc k) start words within = words-set (start + k) 0 (words-emptied k start words (omega arith)) (omega arith) (pow_pos width)

typed-of : (s : State) → Words 64 32 s.assigned → Words 32 32 s.granted → length s.loans.entries ≡ 32 → length s.sessions ≡ 32 → Words 32 32 s.active → Words 1024 64 s.history → Typed s
typed-of s assigned granted loans sessions active history =
    record {
      users = assigned.long;
      roles = granted.long;
      all_loans = loans;
      all_sessions = sessions;
      actives = active.long;
      records = history.long;
      small_assigned = assigned.small;
      small_granted = granted.small;
      small_active = active.small;
      small_history = history.small;
    }

-- ---- a session

module _ (x : Session) (roles : ℕ) (accepted : session_accepted x roles ≡ true) (opened : x.is_open ≡ true) where
  open-in-range : (ltb x.user 64 && position_in_range x.position) ≡ true
  unfolding session_accepted
  open-in-range = rw opened at accepted

  -- the roles of an open session are not looked at
  open-any-roles : (others : ℕ) → session_accepted x others ≡ true
  unfolding session_accepted
  open-any-roles others = rw opened open-in-range

abbrev accepted_at : List Session → List ℕ → ℕ → Bool
accepted_at sessions active i = session_accepted (session_at sessions i) (word_at active i)

-- session i and its active roles set
abbrev with_session : State → ℕ → Session → ℕ → State
with_session s i x roles = with_active (with_sessions s (set s.sessions i x)) (set s.active i roles)

-- ---- states that differ from an accepted one

module _ (s : State) (accepted : Accepted s) where
  assigned-words : Words 64 32 s.assigned
  assigned-words = record { long = accepted.typed.users; small = accepted.typed.small_assigned }

  granted-words : Words 32 32 s.granted
  granted-words = record { long = accepted.typed.roles; small = accepted.typed.small_granted }

  active-words : Words 32 32 s.active
  active-words = record { long = accepted.typed.actives; small = accepted.typed.small_active }

  history-words : Words 1024 64 s.history
  history-words = record { long = accepted.typed.records; small = accepted.typed.small_history }

  session-accepted : (i : ℕ) → i < 32 → accepted_at s.sessions s.active i ≡ true
  session-accepted = of-all 32 (accepted_at s.sessions s.active) (sessions-unrefused s accepted)

  -- in what is not looked at
  accepted-words : {assigned granted history : List ℕ} → Words 64 32 assigned → Words 32 32 granted → Words 1024 64 history → Accepted (with_history (with_granted (with_assigned s assigned) granted) history)
  unfolding state_accepted
  accepted-words assigned granted history = record {
    typed = typed-of _ assigned granted accepted.typed.all_loans accepted.typed.all_sessions active-words history;
    unrefused = accepted.unrefused;
  }

  -- in sessions and active roles that are accepted
  accepted-sessions : (sessions : List Session) (active : List ℕ) → length sessions ≡ 32 → Words 32 32 active → ((i : ℕ) → i < 32 → accepted_at sessions active i ≡ true) → Accepted (with_active (with_sessions s sessions) active)
  unfolding state_accepted
  accepted-sessions sessions active long words each = record {
    typed = typed-of _ assigned-words granted-words accepted.typed.all_loans long words history-words;
    unrefused = both_true (is_time s.time) _ (unrefused s accepted).0 (both_true (loans_accepted s.loans) (all 32 (accepted_at sessions active)) (unrefused s accepted).1 (all_of 32 (accepted_at sessions active) each));
  }

  -- in one session
  accepted-session : (i : ℕ) (x : Session) (roles : ℕ) → i < 32 → roles < 2 ^ 32 → session_accepted x roles ≡ true → Accepted (with_session s i x roles)
  accepted-session i x roles below fits here =
      accepted-sessions (set s.sessions i x) (set s.active i roles) (length-set s.sessions i x ∙ accepted.typed.all_sessions) (words-set i roles active-words below fits)
      (λ j l. each j l (ℕ_discrete j i))
    where
      each : (j : ℕ) → j < 32 → Dec (j ≡ i) → accepted_at (set s.sessions i x) (set s.active i roles) j ≡ true
      each j l (yes e) = rw (e, get_or-set_same s.sessions i x closed_session (rw accepted.typed.all_sessions below), get_or-set_same s.active i roles 0 (rw accepted.typed.actives below)) here
      each j l (no n) = rw (get_or-set_other s.sessions i j x closed_session n, get_or-set_other s.active i j roles 0 n) (session-accepted j l)

  held-session : (i : ℕ) (x : Session) (roles : ℕ) → i < 32 → Held s → ((r : ℕ) → member roles r ≡ true → holds_role s x.user r ≡ true) → Held (with_session s i x roles)
  held-session i x roles below held here j r e = each (ℕ_discrete j i)
    where
      each : Dec (j ≡ i) → holds_role s (session_at (set s.sessions i x) j).user r ≡ true
      each (yes q) = rw (q, get_or-set_same s.sessions i x closed_session (rw accepted.typed.all_sessions below)) (here r (rw (q, get_or-set_same s.active i roles 0 (rw accepted.typed.actives below)) at e))
      each (no n) = rw (get_or-set_other s.sessions i j x closed_session n) (held j r (rw (get_or-set_other s.active i j roles 0 n) at e))

  -- in the active roles of one session alone, or in its position
  accepted-active : (i roles : ℕ) → i < 32 → roles < 2 ^ 32 → is_open s i ≡ true → Accepted (with_active s (set s.active i roles))
  accepted-active i roles below fits opened =
      rw set-get_or at (accepted-session i (session_at s.sessions i) roles below fits
      (open-any-roles (session_at s.sessions i) (word_at s.active i) (session-accepted i below) opened roles))

  accepted-placed : (i : ℕ) (position : Position) → i < 32 → position_in_range position ≡ true → is_open s i ≡ true → Accepted (placed s i position)
  unfolding session_accepted
  accepted-placed i position below in_range opened =
      rw set-get_or at (accepted-session i (session (is_open s i) (user_of s i) position) (word_at s.active i) below (accepted.typed.small_active i)
      (rw opened (both_true (ltb (user_of s i) 64) (position_in_range position) (left-true (ltb (user_of s i) 64) (position_in_range (position_of s i)) user) in_range)))
    where
      user : (ltb (user_of s i) 64 && position_in_range (position_of s i)) ≡ true
      user = open-in-range (session_at s.sessions i) (word_at s.active i) (session-accepted i below) opened

  held-active : (i roles : ℕ) → i < 32 → Held s → ((r : ℕ) → member roles r ≡ true → holds_role s (user_of s i) r ≡ true) → Held (with_active s (set s.active i roles))
  held-active i roles below held here = rw set-get_or at (held-session i (session_at s.sessions i) roles below held here)

  held-placed : (i : ℕ) (position : Position) → i < 32 → Held s → Held (placed s i position)
  held-placed i position below held =
      rw set-get_or at (held-session i (session (is_open s i) (user_of s i) position) (word_at s.active i) below held (held i))

-- ---- a part of a state's pairs

-- a state with a part of its pairs is not refused
pub accepted-part : (s : State) (l : List ℕ) → Accepted s → Part l s.active → Accepted (with_active s l)
accepted-part s l accepted part =
    accepted-sessions s accepted s.sessions l accepted.typed.all_sessions (record { long = part.same_length ∙ accepted.typed.actives; small = small })
    (λ i below. each i below (is_open s i) refl)
  where
    small : (i : ℕ) → word_at l i < 2 ^ 32
    small i = within-lt 32 (word_at l i) (word_at s.active i) (accepted.typed.small_active i) (part.within i)

    none : (i r : ℕ) → i < 32 → is_open s i ≡ false → has_role l i r ≡ false
    none i r below closed = not_so (has_role l i r) (λ e. clash (part.within i r e) (closed-inactive s accepted i r below closed))

    each : (i : ℕ) → i < 32 → (b : Bool) → is_open s i ≡ b → accepted_at s.sessions l i ≡ true
    each i below true opened = open-any-roles (session_at s.sessions i) (word_at s.active i) (session-accepted s accepted i below) opened (word_at l i)
    each i below false closed =
        rw (same-members 32 (word_at l i) (word_at s.active i) (small i) (accepted.typed.small_active i) (λ r m. none i r below closed ∙ sym (closed-inactive s accepted i r below closed)))
        (session-accepted s accepted i below)

pub accepted-closed : (s : State) → Accepted s → Accepted (unheld_closed s)
unfolding unheld_closed
accepted-closed s accepted = accepted-part s _ accepted (unheld-part s)

-- ---- the target of a step

-- the target of a step that passes its checks is not refused
pub accepted-target : (action : Action) (s : State) → Accepted s → Ranged action → check s action ≡ passes → Accepted (target s action)
unfolding check target state_accepted session_accepted position_in_range
accepted-target Malformed s accepted ranged pass = accepted
accepted-target (Assign u r) s accepted ranged pass =
    accepted-words s accepted (words-put u r (assigned-words s accepted) ranged.0) (granted-words s accepted) (history-words s accepted)
accepted-target (Withdraw u r) s accepted ranged pass =
    accepted-words s accepted (words-take-out u r (assigned-words s accepted) ranged.0 ranged.1) (granted-words s accepted) (history-words s accepted)
accepted-target (Grant r p) s accepted ranged pass =
    accepted-words s accepted (assigned-words s accepted) (words-put r p (granted-words s accepted) ranged.0) (history-words s accepted)
accepted-target (Take r p) s accepted ranged pass =
    accepted-words s accepted (assigned-words s accepted) (words-take-out r p (granted-words s accepted) ranged.0 ranged.1) (history-words s accepted)
accepted-target (Open i u) s accepted ranged pass =
    rw set-get_or at (accepted-session s accepted i (session true u Unknown) (word_at s.active i) ranged.0 (accepted.typed.small_active i) (both_true (ltb u 64) true (lt-ltb u 64 ranged.1) refl))
accepted-target (Activate i r) s accepted ranged pass =
    accepted-active s accepted i (with 32 (word_at s.active i) r) ranged.0 (with-lt 32 (word_at s.active i) r (accepted.typed.small_active i)) (is_open_lem s i _ pass)
accepted-target (Deactivate i r) s accepted ranged pass =
    accepted-active s accepted i (without (word_at s.active i) r) ranged.0 (without-lt 32 (word_at s.active i) r (accepted.typed.small_active i) ranged.1) (is_open_lem s i _ pass)
accepted-target (Access i p o) s accepted ranged pass =
    accepted-words s accepted (assigned-words s accepted) (granted-words s accepted)
    (words-put (o * 32 + p) (user_of s i) (history-words s accepted) (omega (arith, ranged.1, ranged.2)))
accepted-target (Finish o) s accepted ranged pass =
    accepted-words s accepted (assigned-words s accepted) (granted-words s accepted) (words-emptied 32 (o * 32) (history-words s accepted) (omega (arith, ranged)))
accepted-target (Close i) s accepted ranged pass = accepted-session s accepted i closed_session 0 ranged (pow_pos 32) refl
accepted-target (Move i point) s accepted ranged pass = accepted-placed s accepted i (Known point) ranged.0 ranged.1 (is_open_lem s i _ pass)
accepted-target (Lost i) s accepted ranged pass = accepted-placed s accepted i Unknown ranged refl (is_open_lem s i _ pass)
accepted-target (Clock t) s accepted ranged pass = accepted-closed _ (accepted-left (runs_at t) (with_time s t) (accepted-time s accepted t ranged))
accepted-target (Lend u v r t) s accepted ranged pass =
    let free = lend-passes s u v r t pass in
    accepted-loans s accepted (inserted (loan_of u v r t) (loans_of s)) (lent-ordered s accepted u v r t free ranged) (lent-few s accepted u v r t free ranged)
accepted-target (Recall u v r) s accepted ranged pass = accepted-closed _ (accepted-left (λ loan. not (is_named u v r loan)) s accepted)

-- ---- what is held

-- a user who holds a role and, where it was assigned, is still assigned it holds it
held-as : (s : State) → Accepted s → (roles : List ℕ) → length roles ≡ length s.assigned → (u r : ℕ) → (assigned_role s u r ≡ true → has_role roles u r ≡ true) → holds_role s u r ≡ true → has_role (held_with roles (loans_of s)) u r ≡ true
held-as s accepted roles long u r still h =
    held-means roles 0 (loans_of s) u r (long ∙ accepted.typed.users) (loans-ordered s accepted)
    ∙ ⊎_elim (λ a. left_or (has_role roles u r) (borrowed_role s u r) (still a)) (right_or (has_role roles u r) (borrowed_role s u r))
    (of_or (assigned_role s u r) (borrowed_role s u r) (sym (holds-means s accepted u r) ∙ h))

held-grows : (s : State) → Accepted s → (roles : List ℕ) → length roles ≡ length s.assigned → ((u r : ℕ) → assigned_role s u r ≡ true → has_role roles u r ≡ true) → (u r : ℕ) → holds_role s u r ≡ true → has_role (held_with roles (loans_of s)) u r ≡ true
held-grows s accepted roles long more u r = held-as s accepted roles long u r (more u r)

-- once the roles that are not held are closed each active role is held
closed-held : (s : State) → Held (unheld_closed s)
unfolding unheld_closed
closed-held s i r h =
    right-true (active_role s i r) (holds_role s (user_of s i) r) (right-true (ltb r 32) (active_role s i r && holds_role s (user_of s i) r) (sym (has-held s i r) ∙ h))

-- in the target each active role is held by its session's user, where it was before
pub held-target : (action : Action) (s : State) → Accepted s → Ranged action → check s action ≡ passes → Held s → Held (target s action)
unfolding check target is_active_for
held-target Malformed s accepted ranged pass held = held
held-target (Assign u r) s accepted ranged pass held = λ i q e.
    held-grows s accepted (put 32 s.assigned u r) (length-set s.assigned u _)
    (λ w k a. rw (has-put s.assigned u (rw accepted.typed.users ranged.0) 32 r w k) (left_or (assigned_role s w k) (eqb u w && (ltb r 32 && eqb r k)) a)) (user_of s i) q (held i q e)
held-target (Withdraw u r) s accepted ranged pass held = λ i q e.
    let roles = take_out s.assigned u r in
    let within : u < length s.assigned = rw accepted.typed.users ranged.0 in
    let unused = neither (is_active_for s.sessions s.active u r) (lent_out_role s u r) (not-refused _ 27 passes (later-passes (not (assigned_role s u r)) 25 _ pass)) in
    let other : not (eqb u (user_of s i) && eqb r q) ≡ true =
    of-not-both (eqb u (user_of s i)) (eqb r q) (λ same_user same_role.
    clash
    (any_of 32 i (λ j. eqb (user_of s j) u && active_role s j r) (rw accepted.typed.actives at (has-below s.active i q e))
    (both_true (eqb (user_of s i) u) (active_role s i r) (eq-eqb (user_of s i) u (sym (eqb-true u (user_of s i) same_user))) (rw (eqb-true r q same_role) e))) unused.0) in
    held-as s accepted roles (length-set s.assigned u _) (user_of s i) q
    (λ a. rw (has-take-out s.assigned u within r (user_of s i) q) (both_true (assigned_role s (user_of s i) q) (not (eqb u (user_of s i) && eqb r q)) a other)) (held i q e)
held-target (Grant r p) s accepted ranged pass held = held
held-target (Take r p) s accepted ranged pass held = held
held-target (Open i u) s accepted ranged pass held =
    rw set-get_or at (held-session s accepted i (session true u Unknown) (word_at s.active i) ranged.0 held (λ r e.
    clash e (closed-inactive s accepted i r ranged.0 (not-refused (is_open s i) 22 passes pass))))
held-target (Activate i q) s accepted ranged pass held =
    held-active s accepted i (with 32 (word_at s.active i) q) ranged.0 held (λ r e.
    ⊎_elim (held i r)
    (λ same. rw (← eqb-true q r (right-true (ltb q 32) (eqb q r) same))
    (not-false (holds_role s (user_of s i) q) (not-refused (not (holds_role s (user_of s i) q)) 26 passes (later-passes (active_role s i q) 24 _ (later-passes (not (is_open s i)) 23 _ pass)))))
    (of_or (active_role s i r) (ltb q 32 && eqb q r) (rw (member-with 32 (word_at s.active i) q r) at e)))
held-target (Deactivate i q) s accepted ranged pass held =
    held-active s accepted i (without (word_at s.active i) q) ranged.0 held (λ r e.
    held i r (left-true (active_role s i r) (not (eqb q r)) (rw (member-without (word_at s.active i) q r) at e)))
held-target (Access i p o) s accepted ranged pass held = held
held-target (Finish o) s accepted ranged pass held = held
held-target (Close i) s accepted ranged pass held = held-session s accepted i closed_session 0 ranged held (λ r e. clash e (member-empty r))
held-target (Move i point) s accepted ranged pass held = held-placed s accepted i (Known point) ranged.0 held
held-target (Lost i) s accepted ranged pass held = held-placed s accepted i Unknown ranged held
held-target (Clock t) s accepted ranged pass held = closed-held (loans_left (runs_at t) (with_time s t))
held-target (Lend u v r t) s accepted ranged pass held = λ i q e. lent-held s accepted u v r t (lend-passes s u v r t pass) ranged (user_of s i) q (held i q e)
held-target (Recall u v r) s accepted ranged pass held = closed-held (loans_left (λ loan. not (is_named u v r loan)) s)

pub held-part : (s : State) (l : List ℕ) → Held s → Part l s.active → Held (with_active s l)
held-part s l held part = λ i r e. held i r (part.within i r e)

-- ---- the fresh state

pub same-everywhere : {A : Type 0} (n i : ℕ) (x : A) → get_or (replicate n x) i x ≡ x
same-everywhere zero i x = refl
same-everywhere (suc n) zero x = refl
same-everywhere (suc n) (suc i) x = same-everywhere n i x

empty-words : (n width : ℕ) → Words n width (replicate n 0)
empty-words n width = record { long = length-replicate {A = ℕ} n 0; small = λ i. rw (same-everywhere {A = ℕ} n i 0) (pow_pos width) }

no_member : (n i r : ℕ) → has_role (replicate n 0) i r ≡ false
no_member n i r = rw (same-everywhere {A = ℕ} n i 0) (member-empty r)

-- the same where a number past the end is not looked up
no-member-read : (b : Bool) (n i r : ℕ) → member (cond b (word_at (replicate n 0) i) 0) r ≡ false
no-member-read true n i r = no_member n i r
no-member-read false n i r = member-empty r

-- the fresh state is not refused, obeys every rule, and has no active role
pub fresh-accepted : Accepted fresh
unfolding fresh state_accepted loans_accepted accepted_from session_accepted
fresh-accepted = record {
  typed = typed-of fresh (empty-words 64 32) (empty-words 32 32) (length-replicate 32 no_loan) (length-replicate 32 closed_session) (empty-words 32 32) (empty-words 1024 64);
  unrefused = all_of 32 _ (λ i l. rw (same-everywhere 32 i closed_session, same-everywhere {A = ℕ} 32 i 0));
}

pub fresh-held : Held fresh
unfolding fresh
fresh-held i r e = clash e (no_member 32 i r)

count-empty : (k n : ℕ) (p : ℕ → Bool) → ((i : ℕ) → p i ≡ false) → count k p ≤ n
count-empty k n p e = rw (count_none k p (λ i l. e i)) zero-le

fresh_holds : (rule : Rule) → Holds rule fresh
unfolding fresh held_with permissions_of users_who
fresh_holds (Prerequisite r q) = λ u l e. clash e (no_member 64 u r)
fresh_holds (MaxUsers r n) = count-empty 64 n (λ u. holds_role fresh u r) (λ u. no_member 64 u r)
fresh_holds (MaxRoles n) = λ u l. count-empty 32 n (holds_role fresh u) (no_member 64 u)
fresh_holds (MaxPermissions r n) = count-empty 32 n (carries fresh r) (no-member-read (ltb r 32) 32 r)
fresh_holds (MaxActive n) = λ i l. count-empty 32 n (active_role fresh i) (no_member 32 i)
fresh_holds (StaticSeparation r q) = λ u l e f. clash e (no_member 64 u r)
fresh_holds (DynamicSeparation r q) = λ u i j lu li lj e f. clash e.1 (no_member 32 i r)
fresh_holds (Dependency r q) = λ i l e. clash e (no_member 32 i r)
fresh_holds (TimeContext r term) = λ i l e. clash e (no_member 32 i r)
fresh_holds (LocationContext r side) = λ i l e. clash e (no_member 32 i r)
fresh_holds (HistorySeparation p q) = λ o l u m e f. clash e (no-member-read (ltb p 32) 1024 (o * 32 + p) u)
fresh_holds (BindingOfDuty p q) = λ o l i j li lj e f.
    ⊎_elim
    (λ h. clash h (no-member-read (ltb p 32) 1024 (o * 32 + p) i))
    (λ h. clash h (no-member-read (ltb q 32) 1024 (o * 32 + q) i)) (of_or (did fresh o p i) (did fresh o q i) e)

pub fresh-obeys : (rule : Rule) → rule_holds rule fresh ≡ true
fresh-obeys rule = (rule-means rule fresh).1 (fresh_holds rule)
