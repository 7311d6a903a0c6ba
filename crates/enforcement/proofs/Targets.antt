-- What each step's target changes of what can be observed, and that it changes nothing else.
-- Assumes nothing.
use mathlib.Core.Path.{◌≡◌, refl, sym, ap, ◌∙◌}
use mathlib.Core.Bool.{Bool, true, false, not, cond, ◌&&◌, ◌||◌, and-true, and-false, and_assoc, and_comm, false≢true}
use mathlib.Core.List.{List, Memᴰ}
use mathlib.Core.Logic.{◌↔◌, ◌⊎◌}
use Prim.Native.Nat.{ℕ, ◌+◌, ◌*◌, ◌^◌, ◌≤◌, ◌<◌}
use native.Mathlib.Decide.{dec_lt}
use native.Mathlib.Omega.{arith}
use lib.Dec.{eqb, ltb, leb}
use lib.ListN.{length, set, get_or-eq_default}
use lib.Seq.{set_out}
use borrow.Author.Tests.{eq-eqb, ne_eqb, lt-ltb, le-leb, eqb-true, ltb-true, ltb-false, leb-true, not-true}
use Rattle.sets.specs.Sets.{member}
use Rattle.sets.proofs.Booleans.{both, both_true, same_test, clash}
use Rattle.sets.proofs.Members.{member-empty}
use Rattle.sets.proofs.Width.{member_below}
use Rattle.rules.specs.Families.{word_at, has_role, closed_session, session_at, permissions_of, users_who, has_done}
use Rattle.rules.specs.declared.sessions.Session.{Session}
use Rattle.places.specs.declared.Point.{Point}
use Rattle.places.specs.declared.Position.{Position}
use Rattle.places.specs.declared.Position.TheVariants.{Unknown, Known}
use Rattle.steps.specs.declared.actions.Action.{Action}
use Rattle.steps.specs.declared.actions.Action.TheVariants.{Malformed, Assign, Withdraw, Grant, Take, Open, Activate, Deactivate, Access, Finish, Close, Move, Lost, Clock, Lend, Recall}
use Rattle.loans.specs.Loans.{is_named, runs_at, loan_of}
use Rattle.loans.specs.declared.Loan.{Loan}
use Rattle.loans.proofs.Keeping.{kept-means}
use Rattle.enforcement.specs.States.{assigned_role, loans_of, holds_role, carries, is_open, user_of, position_of, active_role, did}
use Rattle.steps.specs.Steps.{is_event}
use Rattle.enforcement.specs.Steps.{passes, check, put, take_out, emptied, session, placed, with_time, loans_left, unheld_closed, target}
use Rattle.enforcement.specs.Reached.{Typed, Accepted}
use Rattle.enforcement.specs.Claims.{SameTime, SameAssigned, SameLoans, SameCarried, SameSessions, SameActive, SameDone, Unclosed}
use Rattle.enforcement.specs.declared.states.State.{State}
use Rattle.enforcement.proofs.Words.{has-put, has-take-out, has-set-empty, word-emptied, session-set}
use Rattle.enforcement.proofs.Loans.{left-loans, has-held, accepted-time, lend-passes, lent-loans, lent-member}

-- ---- one changed list

-- a number that is below the width is put in
put-below : (width : ℕ) (l : List ℕ) (i k j r : ℕ) → i < length l → k < width → has_role (put width l i k) j r ≡ (has_role l j r || (eqb i j && eqb k r))
put-below width l i k j r place low = has-put l i place width k j r ∙ rw (lt-ltb k width low)

-- a set emptied at a place, be it past the end or not
has-emptied : (l : List ℕ) (i j r : ℕ) → has_role (set l i 0) j r ≡ (has_role l j r && not (eqb i j))
has-emptied l i j r = go (dec_lt i (length l))
  where
    past : (b : Bool) → length l ≤ i → eqb i j ≡ b → has_role l j r ≡ (has_role l j r && not b)
    past true h e = rw (← eqb-true i j e, get_or-eq_default l 0 h, member-empty r)
    past false h e = sym (and-true (has_role l j r))

    go : Dec (i < length l) → has_role (set l i 0) j r ≡ (has_role l j r && not (eqb i j))
    go (yes h) = has-set-empty l i h j r ∙ and_comm (not (eqb i j)) (has_role l j r)
    go (no n) = rw (set_out l i 0 (omega arith)) (past (eqb i j) (omega arith) refl)

-- the parts of each session once one is set
sessions-set : (l : List Session) (i : ℕ) (x : Session) → i < length l → (j : ℕ) → let y = session_at (set l i x) j in
    (y.is_open ≡ cond (eqb i j) x.is_open (session_at l j).is_open) × (y.user ≡ cond (eqb i j) x.user (session_at l j).user) × (y.position ≡ cond (eqb i j) x.position (session_at l j).position)
sessions-set l i x place j = rw (session-set l i j x place) (go (eqb i j))
  where
    go : (b : Bool) → let y = cond b x (session_at l j) in
        (y.is_open ≡ cond b x.is_open (session_at l j).is_open) × (y.user ≡ cond b x.user (session_at l j).user) × (y.position ≡ cond b x.position (session_at l j).position)
    go true = (refl, refl, refl)
    go false = (refl, refl, refl)

-- what is set to what it was stays
unchanged : {A : Type 0} (f : ℕ → A) (i j : ℕ) → cond (eqb i j) (f i) (f j) ≡ f j
unchanged f i j = go (eqb i j) refl
  where
    go : (b : Bool) → eqb i j ≡ b → cond b (f i) (f j) ≡ f j
    go true e = ap f (eqb-true i j e)
    go false e = refl

-- ---- a set that is empty where there is no such role or permission

member-cond : (b : Bool) (word k : ℕ) → member (cond b word 0) k ≡ (b && member word k)
member-cond true word k = refl
member-cond false word k = member-empty k

carries-means : (l : List ℕ) (r p : ℕ) → member (permissions_of l r) p ≡ (ltb r 32 && has_role l r p)
unfolding permissions_of
carries-means l r p = member-cond (ltb r 32) (word_at l r) p

did-means : (l : List ℕ) (o p u : ℕ) → has_done l o p u ≡ (ltb p 32 && has_role l (o * 32 + p) u)
unfolding users_who
did-means l o p u = member-cond (ltb p 32) (word_at l (o * 32 + p)) u

-- ---- the places of the objects' records

-- two places are one where their objects and their permissions are
same_place : (o p b k : ℕ) → p < 32 → k < 32 → eqb (o * 32 + p) (b * 32 + k) ≡ (eqb o b && eqb p k)
same_place o p b k low-p low-k = same_test (eqb (o * 32 + p) (b * 32 + k)) (eqb o b && eqb p k) to from
  where
    to : eqb (o * 32 + p) (b * 32 + k) ≡ true → (eqb o b && eqb p k) ≡ true
    to e =
        let place = eqb-true (o * 32 + p) (b * 32 + k) e in
        both_true (eqb o b) (eqb p k) (eq-eqb o b (omega arith)) (eq-eqb p k (omega arith))

    from : (eqb o b && eqb p k) ≡ true → eqb (o * 32 + p) (b * 32 + k) ≡ true
    from e =
        let t = both (eqb o b) (eqb p k) e in
        let object = eqb-true o b t.0 in
        let permission = eqb-true p k t.1 in
        eq-eqb (o * 32 + p) (b * 32 + k) (omega arith)

-- a place is among an object's where its object is that one
same_object : (o b p : ℕ) → p < 32 → (leb (o * 32) (b * 32 + p) && ltb (b * 32 + p) (o * 32 + 32)) ≡ eqb o b
same_object o b p low = same_test (leb (o * 32) (b * 32 + p) && ltb (b * 32 + p) (o * 32 + 32)) (eqb o b) to from
  where
    to : (leb (o * 32) (b * 32 + p) && ltb (b * 32 + p) (o * 32 + 32)) ≡ true → eqb o b ≡ true
    to e =
        let t = both (leb (o * 32) (b * 32 + p)) (ltb (b * 32 + p) (o * 32 + 32)) e in
        let above = leb-true (o * 32) (b * 32 + p) t.0 in
        let below = ltb-true (b * 32 + p) (o * 32 + 32) t.1 in
        eq-eqb o b (omega arith)

    from : eqb o b ≡ true → (leb (o * 32) (b * 32 + p) && ltb (b * 32 + p) (o * 32 + 32)) ≡ true
    from e =
        let object = eqb-true o b e in
        both_true (leb (o * 32) (b * 32 + p)) (ltb (b * 32 + p) (o * 32 + 32)) (le-leb (o * 32) (b * 32 + p) (omega arith)) (lt-ltb (b * 32 + p) (o * 32 + 32) (omega arith))

-- ---- the targets

-- "assign gives u the role r, withdraw removes it"
pub assign_target : (s : State) (u r : ℕ) → Typed s → u < 64 → r < 32 →
    let t = target s (Assign u r) in
    ((v q : ℕ) → assigned_role t v q ≡ (assigned_role s v q || (eqb u v && eqb r q))) × SameTime s t × SameLoans s t × SameCarried s t × SameSessions s t × SameActive s t × SameDone s t
unfolding target
assign_target s u r typed low-user low-role =
    (λ v q. put-below 32 s.assigned u r v q (omega arith) low-role, refl, refl, λ q k. refl, λ j. (refl, refl, refl), λ j q. refl, λ b k v. refl)

pub withdraw-target : (s : State) (u r : ℕ) → Typed s → u < 64 →
    let t = target s (Withdraw u r) in
    ((v q : ℕ) → assigned_role t v q ≡ (assigned_role s v q && not (eqb u v && eqb r q))) × SameTime s t × SameLoans s t × SameCarried s t × SameSessions s t × SameActive s t × SameDone s t
unfolding target
withdraw-target s u r typed low-user =
    (λ v q. has-take-out s.assigned u (omega arith) r v q, refl, refl, λ q k. refl, λ j. (refl, refl, refl), λ j q. refl, λ b k v. refl)

-- "grant gives r the permission p, take removes it"
pub grant-target : (s : State) (r p : ℕ) → Typed s → r < 32 → p < 32 →
    let t = target s (Grant r p) in
    ((q k : ℕ) → carries t q k ≡ (carries s q k || (eqb r q && eqb p k))) × SameTime s t × SameLoans s t × SameAssigned s t × SameSessions s t × SameActive s t × SameDone s t
unfolding target
grant-target s r p typed low-role low-permission =
    (more, refl, refl, λ u q. refl, λ j. (refl, refl, refl), λ j q. refl, λ b k u. refl)
  where
    more : (q k : ℕ) → member (permissions_of (put 32 s.granted r p) q) k ≡ (carries s q k || (eqb r q && eqb p k))
    more q k =
        rw (carries-means (put 32 s.granted r p) q k, put-below 32 s.granted r p q k (omega arith) low-permission, carries-means s.granted q k)
        (go (ltb q 32) refl)
      where
        go : (b : Bool) → ltb q 32 ≡ b → (b && (has_role s.granted q k || (eqb r q && eqb p k))) ≡ ((b && has_role s.granted q k) || (eqb r q && eqb p k))
        go true e = refl
        go false e = rw (ne_eqb r q (let m = ltb-false q 32 e in omega arith))

pub take-target : (s : State) (r p : ℕ) → Typed s → r < 32 →
    let t = target s (Take r p) in
    ((q k : ℕ) → carries t q k ≡ (carries s q k && not (eqb r q && eqb p k))) × SameTime s t × SameLoans s t × SameAssigned s t × SameSessions s t × SameActive s t × SameDone s t
unfolding target
take-target s r p typed low-role =
    (fewer, refl, refl, λ u q. refl, λ j. (refl, refl, refl), λ j q. refl, λ b k u. refl)
  where
    fewer : (q k : ℕ) → member (permissions_of (take_out s.granted r p) q) k ≡ (carries s q k && not (eqb r q && eqb p k))
    fewer q k =
        rw (carries-means (take_out s.granted r p) q k, has-take-out s.granted r (omega arith) p q k, carries-means s.granted q k)
        (sym (and_assoc (ltb q 32) (has_role s.granted q k) (not (eqb r q && eqb p k))))

-- "open opens s for u"; "(position unknown)"
pub open-target : (s : State) (i u : ℕ) → Typed s → i < 32 →
    let t = target s (Open i u) in
    ((j : ℕ) → (is_open t j ≡ cond (eqb i j) true (is_open s j)) × (user_of t j ≡ cond (eqb i j) u (user_of s j)) × (position_of t j ≡ cond (eqb i j) Unknown (position_of s j)))
    × SameTime s t × SameLoans s t × SameAssigned s t × SameCarried s t × SameActive s t × SameDone s t
unfolding target
open-target s i u typed low-session =
    (sessions-set s.sessions i (session true u Unknown) (omega arith), refl, refl, λ v q. refl, λ q k. refl, λ j q. refl, λ b k v. refl)

-- "activate and deactivate add and remove the pair (s, r)"
pub activate-target : (s : State) (i r : ℕ) → Typed s → i < 32 → r < 32 →
    let t = target s (Activate i r) in
    ((j q : ℕ) → active_role t j q ≡ (active_role s j q || (eqb i j && eqb r q))) × SameTime s t × SameLoans s t × SameAssigned s t × SameCarried s t × SameSessions s t × SameDone s t
unfolding target
activate-target s i r typed low-session low-role =
    (λ j q. put-below 32 s.active i r j q (omega arith) low-role, refl, refl, λ u q. refl, λ q k. refl, λ j. (refl, refl, refl), λ b k u. refl)

pub deactivate-target : (s : State) (i r : ℕ) → Typed s → i < 32 →
    let t = target s (Deactivate i r) in
    ((j q : ℕ) → active_role t j q ≡ (active_role s j q && not (eqb i j && eqb r q))) × SameTime s t × SameLoans s t × SameAssigned s t × SameCarried s t × SameSessions s t × SameDone s t
unfolding target
deactivate-target s i r typed low-session =
    (λ j q. has-take-out s.active i (omega arith) r j q, refl, refl, λ u q. refl, λ q k. refl, λ j. (refl, refl, refl), λ b k u. refl)

-- "access records the user of s under o and p"
pub access-target : (s : State) (i p o : ℕ) → Typed s → p < 32 → o < 32 → user_of s i < 64 →
    let t = target s (Access i p o) in
    ((b k u : ℕ) → did t b k u ≡ (did s b k u || (eqb o b && (eqb p k && eqb (user_of s i) u)))) × SameTime s t × SameLoans s t × SameAssigned s t × SameCarried s t × SameSessions s t × SameActive s t
unfolding target
access-target s i p o typed low-permission low-object low-user =
    (more, refl, refl, λ u q. refl, λ q k. refl, λ j. (refl, refl, refl), λ j q. refl)
  where
    more : (b k u : ℕ) → has_done (put 64 s.history (o * 32 + p) (user_of s i)) b k u ≡ (did s b k u || (eqb o b && (eqb p k && eqb (user_of s i) u)))
    more b k u =
        rw (did-means (put 64 s.history (o * 32 + p) (user_of s i)) b k u, put-below 64 s.history (o * 32 + p) (user_of s i) (b * 32 + k) u (omega arith) low-user, did-means s.history b k u)
        (go (ltb k 32) refl)
      where
        go : (c : Bool) → ltb k 32 ≡ c → (c && (has_role s.history (b * 32 + k) u || (eqb (o * 32 + p) (b * 32 + k) && eqb (user_of s i) u))) ≡ ((c && has_role s.history (b * 32 + k) u) || (eqb o b && (eqb p k && eqb (user_of s i) u)))
        go true e = rw (same_place o p b k low-permission (ltb-true k 32 e), and_assoc)
        go false e = rw (ne_eqb p k (let m = ltb-false k 32 e in omega arith), and-false)

-- "finish empties o's record"
pub finish-target : (s : State) (o : ℕ) → Typed s → o < 32 →
    let t = target s (Finish o) in
    ((b p u : ℕ) → did t b p u ≡ (did s b p u && not (eqb o b))) × SameTime s t × SameLoans s t × SameAssigned s t × SameCarried s t × SameSessions s t × SameActive s t
unfolding target
finish-target s o typed low-object =
    (fewer, refl, refl, λ u q. refl, λ q k. refl, λ j. (refl, refl, refl), λ j q. refl)
  where
    fewer : (b p u : ℕ) → has_done (emptied 32 s.history (o * 32)) b p u ≡ (did s b p u && not (eqb o b))
    fewer b p u = rw (did-means (emptied 32 s.history (o * 32)) b p u, did-means s.history b p u) (go (ltb p 32) refl)
      where
        cleared : (c : Bool) (word : ℕ) → member (cond c 0 word) u ≡ (member word u && not c)
        cleared true word = member-empty u ∙ sym (and-false (member word u))
        cleared false word = sym (and-true (member word u))

        go : (c : Bool) → ltb p 32 ≡ c → (c && has_role (emptied 32 s.history (o * 32)) (b * 32 + p) u) ≡ ((c && has_role s.history (b * 32 + p) u) && not (eqb o b))
        go true e =
            rw (word-emptied 32 s.history (o * 32) (b * 32 + p) (omega arith), same_object o b p (ltb-true p 32 e))
            (cleared (eqb o b) (word_at s.history (b * 32 + p)))
        go false e = refl

-- "close leaves s closed and empty"
pub close-target : (s : State) (i : ℕ) → Typed s → i < 32 →
    let t = target s (Close i) in
    ((j : ℕ) → (is_open t j ≡ (is_open s j && not (eqb i j))) × (user_of t j ≡ cond (eqb i j) 0 (user_of s j)) × (position_of t j ≡ cond (eqb i j) Unknown (position_of s j)) × ((r : ℕ) → active_role t j r ≡ (active_role s j r && not (eqb i j))))
    × SameTime s t × SameLoans s t × SameAssigned s t × SameCarried s t × SameDone s t
unfolding target
close-target s i typed low-session =
    (λ j. let now = sessions-set s.sessions i closed_session (omega arith) j in (now.0 ∙ shut (eqb i j) (is_open s j), now.1, now.2, λ r. has-emptied s.active i j r), refl, refl, λ u q. refl, λ q k. refl, λ b k u. refl)
  where
    shut : (b c : Bool) → cond b false c ≡ (c && not b)
    shut true c = sym (and-false c)
    shut false c = sym (and-true c)

-- a session that is placed changes its position alone
placed-sessions : (s : State) (i : ℕ) (position : Position) → Typed s → i < 32 → (j : ℕ) → let t = placed s i position in
    (is_open t j ≡ is_open s j) × (user_of t j ≡ user_of s j) × (position_of t j ≡ cond (eqb i j) position (position_of s j))
placed-sessions s i position typed low-session j =
    let now = sessions-set s.sessions i (session (is_open s i) (user_of s i) position) (omega arith) j in
    (now.0 ∙ unchanged (is_open s) i j, now.1 ∙ unchanged (user_of s) i j, now.2)

-- "move and lost set its position"
pub move-target : (s : State) (i : ℕ) (point : Point) → Typed s → i < 32 →
    let t = target s (Move i point) in
    ((j : ℕ) → (is_open t j ≡ is_open s j) × (user_of t j ≡ user_of s j) × (position_of t j ≡ cond (eqb i j) (Known point) (position_of s j)))
    × SameTime s t × SameLoans s t × SameAssigned s t × SameCarried s t × SameActive s t × SameDone s t
unfolding target
move-target s i point typed low-session = (placed-sessions s i (Known point) typed low-session, refl, refl, λ u q. refl, λ q k. refl, λ j q. refl, λ b k u. refl)

pub lost-target : (s : State) (i : ℕ) → Typed s → i < 32 →
    let t = target s (Lost i) in
    ((j : ℕ) → (is_open t j ≡ is_open s j) × (user_of t j ≡ user_of s j) × (position_of t j ≡ cond (eqb i j) Unknown (position_of s j)))
    × SameTime s t × SameLoans s t × SameAssigned s t × SameCarried s t × SameActive s t × SameDone s t
unfolding target
lost-target s i typed low-session = (placed-sessions s i Unknown typed low-session, refl, refl, λ u q. refl, λ q k. refl, λ j q. refl, λ b k u. refl)

-- what stays where the roles that are not held are closed: an active role that is held
has-closed : (s : State) → ((i : ℕ) → word_at s.active i < 2 ^ 32) → (i r : ℕ) → active_role (unheld_closed s) i r ≡ (active_role s i r && holds_role s (user_of s i) r)
unfolding unheld_closed
has-closed s small i r = has-held s i r ∙ go (active_role s i r) refl
  where
    go : (b : Bool) → active_role s i r ≡ b → (ltb r 32 && (b && holds_role s (user_of s i) r)) ≡ (b && holds_role s (user_of s i) r)
    go true e = rw (lt-ltb r 32 (member_below 32 (word_at s.active i) r (small i) e))
    go false e = and-false (ltb r 32)

-- "clock sets the time"; 2026-01: "A loan ends when the clock reaches t"; it closes "every active role not held"
pub clock-target : (s : State) (time : ℕ) → Accepted s → time ≤ 3155759999 →
    let t = target s (Clock time) in
    (t.time ≡ time) × ((loan : Loan) → Memᴰ loan (loans_of t) ↔ (Memᴰ loan (loans_of s) × (time < loan.until)))
    × ((j q : ℕ) → active_role t j q ≡ (active_role s j q && holds_role t (user_of s j) q)) × SameAssigned s t × SameCarried s t × SameSessions s t × SameDone s t
unfolding target unheld_closed
clock-target s time accepted low =
    let timed = with_time s time in
    let still = accepted-time s accepted time low in (
      refl,
      λ loan. rw (left-loans (runs_at time) timed still) (
        λ h. let t = (kept-means (runs_at time) loan (loans_of s)).0 h in (t.0, ltb-true time loan.until t.1),
        λ h. (kept-means (runs_at time) loan (loans_of s)).1 (h.0, lt-ltb time loan.until h.1),
      ),
      has-closed (loans_left (runs_at time) timed) accepted.typed.small_active,
      λ u q. refl,
      λ q k. refl,
      λ j. (refl, refl, refl),
      λ b k u. refl,
    )

-- 2026-01: "u is assigned r, v gets it until t"
pub lend-target : (s : State) (u v r time : ℕ) → Accepted s → (u < 64) × (v < 64) × (r < 32) × (time ≤ 3155759999) → check s (Lend u v r time) ≡ passes →
    let t = target s (Lend u v r time) in
    ((loan : Loan) → Memᴰ loan (loans_of t) ↔ ((loan ≡ loan_of u v r time) ⊎ Memᴰ loan (loans_of s)))
    × SameTime s t × SameAssigned s t × SameCarried s t × SameSessions s t × SameActive s t × SameDone s t
unfolding target
lend-target s u v r time accepted numbers pass =
    let free = lend-passes s u v r time pass in
    (λ loan. rw (lent-loans s accepted u v r time free numbers) (lent-member s accepted u v r time free numbers loan), refl, λ w q. refl, λ q k. refl, λ j. (refl, refl, refl), λ j q. refl, λ b k w. refl)

-- 2026-01: "`recall u v r` ends one early"; it closes "every active role not held"
pub recall-target : (s : State) (u v r : ℕ) → Accepted s →
    let t = target s (Recall u v r) in
    ((loan : Loan) → Memᴰ loan (loans_of t) ↔ (Memᴰ loan (loans_of s) × (is_named u v r loan ≡ false)))
    × ((j q : ℕ) → active_role t j q ≡ (active_role s j q && holds_role t (user_of s j) q)) × SameTime s t × SameAssigned s t × SameCarried s t × SameSessions s t × SameDone s t
unfolding target unheld_closed
recall-target s u v r accepted =
    let others : Loan → Bool = λ loan. not (is_named u v r loan) in (
      λ loan. rw (left-loans others s accepted) (
        λ h. let t = (kept-means others loan (loans_of s)).0 h in (t.0, not-true (is_named u v r loan) t.1),
        λ h. (kept-means others loan (loans_of s)).1 (h.0, ap not h.1),
      ),
      has-closed (loans_left others s) accepted.typed.small_active,
      refl,
      λ w q. refl,
      λ q k. refl,
      λ j. (refl, refl, refl),
      λ b k w. refl,
    )

-- where the roles that are not held are closed, those left are active roles that are not unheld
unclosed-pairs : (s : State) → ((i : ℕ) → word_at s.active i < 2 ^ 32) → (i r : ℕ) → (active_role (unheld_closed s) i r ≡ true) ↔ ((active_role s i r ≡ true) × (holds_role (unheld_closed s) (user_of s i) r ≡ false → ⊥))
unfolding unheld_closed
unclosed-pairs s small i r = (
  λ h. let t = both (active_role s i r) (holds_role s (user_of s i) r) (sym (has-closed s small i r) ∙ h) in (t.0, λ e. clash t.1 e),
  λ t. has-closed s small i r ∙ both_true (active_role s i r) (holds_role s (user_of s i) r) t.0 (holding (holds_role s (user_of s i) r) refl t.1),
)
  where
    holding : (b : Bool) → holds_role s (user_of s i) r ≡ b → (b ≡ false → ⊥) → b ≡ true
    holding true e h = refl
    holding false e h = absurd (h refl)

-- the pairs of an event's target are those active before that it did not itself close
pub event-pairs : (s : State) (action : Action) → Typed s → is_event action ≡ true → (i r : ℕ) → (active_role (target s action) i r ≡ true) ↔ Unclosed s action i r
unfolding target
event-pairs s Malformed typed event i r = absurd (false≢true event)
event-pairs s (Assign u q) typed event i r = absurd (false≢true event)
event-pairs s (Withdraw u q) typed event i r = absurd (false≢true event)
event-pairs s (Grant q p) typed event i r = absurd (false≢true event)
event-pairs s (Take q p) typed event i r = absurd (false≢true event)
event-pairs s (Open j u) typed event i r = absurd (false≢true event)
event-pairs s (Activate j q) typed event i r = absurd (false≢true event)
event-pairs s (Deactivate j q) typed event i r = absurd (false≢true event)
event-pairs s (Access j p o) typed event i r = absurd (false≢true event)
event-pairs s (Finish o) typed event i r = absurd (false≢true event)
event-pairs s (Close j) typed event i r = (
  λ h.
      let t = both (active_role s i r) (not (eqb j i)) (sym (has-emptied s.active j i r) ∙ h) in
      (t.0, λ e. clash t.1 (ap not (eq-eqb j i e))),
  λ t. has-emptied s.active j i r ∙ rw (t.0, ne_eqb j i t.1),
)
event-pairs s (Move j point) typed event i r = ((λ h. (h, λ closes. closes)), λ t. t.0)
event-pairs s (Lost j) typed event i r = ((λ h. (h, λ closes. closes)), λ t. t.0)
event-pairs s (Clock t) typed event i r = unclosed-pairs (loans_left (runs_at t) (with_time s t)) typed.small_active i r
event-pairs s (Lend u v q t) typed event i r = absurd (false≢true event)
event-pairs s (Recall u v q) typed event i r = unclosed-pairs (loans_left (λ loan. not (is_named u v q loan)) s) typed.small_active i r
