-- A state as one numbered row of lines: what stands at each number, and how a line changes it.
-- Assumes nothing.
use mathlib.Core.Path.{◌≡◌, refl, sym, ap, ◌∙◌}
use mathlib.Core.Bool.{Bool, true}
use mathlib.Core.Logic.{◌≢◌}
use mathlib.Core.List.{List, [], ◌∷◌, ◌++◌, append_assoc}
use Prim.Native.Nat.{ℕ, zero, suc, ◌+◌, ◌*◌, ◌/◌, ◌%◌, ◌≤◌, ◌<◌}
use native.Mathlib.Omega.{arith}
use lib.Dec.{leb}
use lib.ListN.{set, length, length-append}
use lib.Seq.{get_or-set_same, get_or-set_other}
use borrow.Author.Tests.{lt-ltb, leb-false, not-true, ne_eqb}
use Rattle.sets.specs.Sets.{with}
use Rattle.sets.proofs.Members.{member-with-same, member-with-other}
use Rattle.places.specs.declared.Position.{Position}
use Rattle.places.specs.declared.Position.TheVariants.{Known}
use Rattle.rules.specs.Families.{word_at, has_role, closed_session, session_at, permissions_of, users_who}
use Rattle.rules.specs.declared.sessions.Session.{Session}
use Rattle.loans.specs.Loans.{key, loan_of, accepted_from}
use Rattle.loans.proofs.Storing.{running-stored}
use Rattle.enforcement.specs.States.{assigned_role, carries, loans_of, is_open, user_of, position_of, active_role, did}
use Rattle.enforcement.specs.Steps.{with_sessions, put, session}
use Rattle.enforcement.specs.Reached.{Typed}
use Rattle.enforcement.specs.declared.states.State.{State}
use Rattle.enforcement.proofs.Loans.{loans-counted}
use Rattle.state_text.specs.Entries.{form_of, rank, with_line, has_room}
use Rattle.state_text.specs.Saving.{over, only, place_line, place_lines, session_lines, lines_of}
use Rattle.state_text.specs.Causes.{Ranged}
use Rattle.state_text.specs.declared.entries.Entry.{Entry}
use Rattle.state_text.specs.declared.entries.Entry.TheVariants.{Now, Assigned, Granted, Loan as LoanLine, Open, Place, Active, Did, PlaceWithError}
use Rattle.state_text.proofs.Rows.{over_zero, over-suc, over-same, over_add, over-mul, over-join, over-rows, Except, join, join-left, join-right, except-left, except-right, rows, rows_at, rows-except}
use Rattle.state_text.proofs.LoanCells.{loan_cell, keys_below, all-cells, loan-except, loan-there, no_lines, keys-till}

-- how many lines there can be
abbrev pub all_lines : ℕ
all_lines = 200769

-- ---- the cells

abbrev pub now_cell : ℕ → ℕ → List Entry
now_cell t zero = Now t ∷ []
now_cell t (suc k) = []

abbrev pub assigned_cell : State → ℕ → ℕ → List Entry
assigned_cell s u r = only (assigned_role s u r) (Assigned u r)

abbrev pub granted_cell : State → ℕ → ℕ → List Entry
granted_cell s r p = only (has_role s.granted r p) (Granted r p)

abbrev pub open_line : ℕ → Session → List Entry
open_line i v = only v.is_open (Open i v.user)

abbrev pub placed_line : ℕ → Session → List Entry
placed_line i v = place_lines i v.position

abbrev pub session_cell : List Session → List ℕ → ℕ → ℕ → List Entry
session_cell sessions active i zero = open_line i (session_at sessions i)
session_cell sessions active i (suc zero) = placed_line i (session_at sessions i)
session_cell sessions active i (suc (suc r)) = only (has_role active i r) (Active i r)

abbrev pub session_cells : State → ℕ → ℕ → List Entry
session_cells s = session_cell s.sessions s.active

-- at object * 32 + permission
abbrev pub history_cell : State → ℕ → ℕ → List Entry
history_cell s k u = only (has_role s.history k u) (Did (k / 32) (k % 32) u)

-- what stands at a number
unfoldable pub at : State → ℕ → List Entry
at s =
    join 1 (now_cell s.time)
    (join 2048 (rows 32 (assigned_cell s))
    (join 1024 (rows 32 (granted_cell s)) (join 131072 (loan_cell (loans_of s)) (join 1088 (rows 34 (session_cells s)) (rows 64 (history_cell s))))))

-- no line stands at k or past it
abbrev pub Ended : ℕ → State → Type 0
Ended k s = (j : ℕ) → k ≤ j → at s j ≡ []

-- ---- what stands where

pub carries-word : (s : State) (r p : ℕ) → r < 32 → carries s r p ≡ has_role s.granted r p
unfolding permissions_of
carries-word s r p h = rw (lt-ltb r 32 h)

pub did-word : (s : State) (o p u : ℕ) → p < 32 → did s o p u ≡ has_role s.history (o * 32 + p) u
unfolding users_who
did-word s o p u h = rw (lt-ltb p 32 h)

pub object_of : (o p : ℕ) → p < 32 → (o * 32 + p) / 32 ≡ o
object_of o p h = omega arith

pub permission-of : (o p : ℕ) → p < 32 → (o * 32 + p) % 32 ≡ p
permission-of o p h = omega arith

module _ (s : State) where
  pub at-now : at s 0 ≡ Now s.time ∷ []
  unfolding at
  at-now = join-left 1 (now_cell s.time) _ 0 (omega arith)

  pub at-assigned : (u r : ℕ) → u < 64 → r < 32 → at s (1 + (u * 32 + r)) ≡ only (assigned_role s u r) (Assigned u r)
  unfolding at
  at-assigned u r hu hr =
      join-right 1 _ _ (u * 32 + r) ∙ join-left 2048 (rows 32 (assigned_cell s)) _ (u * 32 + r) (omega arith) ∙ rows_at 32 (assigned_cell s) u r hr

  pub at-granted : (r p : ℕ) → r < 32 → p < 32 → at s (1 + (2048 + (r * 32 + p))) ≡ only (has_role s.granted r p) (Granted r p)
  unfolding at
  at-granted r p hr hp =
      join-right 1 _ _ (2048 + (r * 32 + p)) ∙ join-right 2048 _ _ (r * 32 + p)
      ∙ join-left 1024 (rows 32 (granted_cell s)) _ (r * 32 + p) (omega arith) ∙ rows_at 32 (granted_cell s) r p hp

  pub at-loan : (k : ℕ) → k < 131072 → at s (1 + (2048 + (1024 + k))) ≡ loan_cell (loans_of s) k
  unfolding at
  at-loan k h =
      join-right 1 _ _ (2048 + (1024 + k)) ∙ join-right 2048 _ _ (1024 + k) ∙ join-right 1024 _ _ k ∙ join-left 131072 (loan_cell (loans_of s)) _ k h

  pub at-session : (i m : ℕ) → i < 32 → m < 34 → at s (1 + (2048 + (1024 + (131072 + (i * 34 + m))))) ≡ session_cells s i m
  unfolding at
  at-session i m hi hm =
      join-right 1 _ _ (2048 + (1024 + (131072 + (i * 34 + m)))) ∙ join-right 2048 _ _ (1024 + (131072 + (i * 34 + m)))
      ∙ join-right 1024 _ _ (131072 + (i * 34 + m)) ∙ join-right 131072 _ _ (i * 34 + m)
      ∙ join-left 1088 (rows 34 (session_cells s)) _ (i * 34 + m) (omega arith) ∙ rows_at 34 (session_cells s) i m hm

  pub at-did : (o p u : ℕ) → o < 32 → p < 32 → u < 64 → at s (1 + (2048 + (1024 + (131072 + (1088 + ((o * 32 + p) * 64 + u)))))) ≡ only (has_role s.history (o * 32 + p) u) (Did o p u)
  unfolding at
  at-did o p u ho hp hu =
      join-right 1 _ _ (2048 + (1024 + (131072 + (1088 + ((o * 32 + p) * 64 + u))))) ∙ join-right 2048 _ _ (1024 + (131072 + (1088 + ((o * 32 + p) * 64 + u))))
      ∙ join-right 1024 _ _ (131072 + (1088 + ((o * 32 + p) * 64 + u))) ∙ join-right 131072 _ _ (1088 + ((o * 32 + p) * 64 + u)) ∙ join-right 1088 _ _ ((o * 32 + p) * 64 + u)
      ∙ rows_at 64 (history_cell s) (o * 32 + p) u hu ∙ rw (object_of o p hp, permission-of o p hp)

-- ---- all cells in a row are the lines of a state

session-lines : (s : State) (i : ℕ) → over 34 (session_cells s i) ≡ session_lines s i
unfolding session_lines
session-lines s i =
    over_add 32 2 (session_cells s i)
    ∙ rw (
      over-suc 1 (session_cells s i),
      over-suc 0 (session_cells s i),
      over_zero (session_cells s i),
      append_assoc,
      over-same 32 (λ r. session_cells s i (2 + r)) (λ r. only (active_role s i r) (Active i r)) (λ r l. two r),
    )
  where
    two : (r : ℕ) → session_cells s i (2 + r) ≡ only (active_role s i r) (Active i r)
    two r = let e : 2 + r ≡ suc (suc r) = omega arith in rw e

granted-lines : (s : State) → over 1024 (rows 32 (granted_cell s)) ≡ over 32 (λ r. over 32 (λ p. only (carries s r p) (Granted r p)))
granted-lines s =
    over-rows 32 32 (granted_cell s)
    ∙ over-same 32 _ _ (λ r hr. over-same 32 _ _ (λ p hp. ap (λ (b : Bool). only b (Granted r p)) (sym (carries-word s r p hr))))

did-lines : (s : State) → over 65536 (rows 64 (history_cell s)) ≡ over 32 (λ o. over 32 (λ p. over 64 (λ u. only (did s o p u) (Did o p u))))
did-lines s =
    over-rows 64 1024 (history_cell s)
    ∙ over-mul 32 32 (λ k. over 64 (history_cell s k))
    ∙ over-same 32 _ _ (λ o ho. over-same 32 _ _ (λ p hp. over-same 64 _ _ (λ u hu. one o p u hp)))
  where
    one : (o p u : ℕ) → p < 32 → history_cell s (o * 32 + p) u ≡ only (did s o p u) (Did o p u)
    one o p u hp = rw (object_of o p hp, permission-of o p hp, did-word s o p u hp)

-- where the loans are in order
pub lines_at : (s : State) → accepted_from 0 (loans_of s) ≡ true → over all_lines (at s) ≡ lines_of s
unfolding at lines_of
lines_at s ordered =
    over-join 1 200768 (now_cell s.time) _
    ∙ rw (
      over-suc 0 (now_cell s.time),
      over_zero (now_cell s.time),
      over-join 2048 198720 (rows 32 (assigned_cell s)) (join 1024 (rows 32 (granted_cell s)) (join 131072 (loan_cell (loans_of s)) (join 1088 (rows 34 (session_cells s)) (rows 64 (history_cell s))))),
      over-join 1024 197696 (rows 32 (granted_cell s)) (join 131072 (loan_cell (loans_of s)) (join 1088 (rows 34 (session_cells s)) (rows 64 (history_cell s)))),
      over-join 131072 66624 (loan_cell (loans_of s)) (join 1088 (rows 34 (session_cells s)) (rows 64 (history_cell s))),
      over-join 1088 65536 (rows 34 (session_cells s)) (rows 64 (history_cell s)),
      over-rows 32 64 (assigned_cell s),
      granted-lines s,
      all-cells (loans_of s) ordered,
      over-rows 34 32 (session_cells s),
      over-same 32 (λ i. over 34 (session_cells s i)) (session_lines s) (λ i l. session-lines s i),
      did-lines s,
    )

-- where no line stands at the place of key k or past it every loan's key is below k
pub loans-till : (s : State) → accepted_from 0 (loans_of s) ≡ true → (k : ℕ) → k ≤ 131072 → Ended (1 + (2048 + (1024 + k))) s → keys_below k (loans_of s) ≡ loans_of s
loans-till s ordered k h ended = keys-till (loans_of s) ordered k h (λ j a b. sym (at-loan s j b) ∙ ended (1 + (2048 + (1024 + j))) (omega arith))

-- ---- loans with room for one more

pub room-left : (s : State) (u v r t : ℕ) → has_room s (LoanLine u v r t) ≡ true → length (loans_of s) < 32
unfolding form_of
room-left s u v r t room =
    omega (arith, loans-counted s, leb-false 32 s.loans.count (not-true (leb 32 s.loans.count) room))

pub loans-more : (s : State) (u v r t : ℕ) → has_room s (LoanLine u v r t) ≡ true → loans_of (with_line s (LoanLine u v r t)) ≡ loans_of s ++ (loan_of u v r t ∷ [])
unfolding with_line
loans-more s u v r t room =
    running-stored (loans_of s ++ (loan_of u v r t ∷ [])) (rw (length-append (loans_of s) (loan_of u v r t ∷ [])) (omega (arith, room-left s u v r t room)))

-- ---- a line that is put stands at its rank, and nothing else changes

-- one number more in the word at i
word_same : (width : ℕ) (words : List ℕ) (i x : ℕ) → i < length words → x < width → has_role (put width words i x) i x ≡ true
word_same width words i x h l = rw (get_or-set_same words i (with width (word_at words i) x) 0 h) (member-with-same width (word_at words i) x l)

words-except : (w width : ℕ) (line : ℕ → ℕ → Entry) (words : List ℕ) (i x : ℕ) → i < length words →
    Except (i * w + x) (rows w (λ j m. only (has_role words j m) (line j m))) (rows w (λ j m. only (has_role (put width words i x) j m) (line j m)))
words-except w width line words i x h =
    rows-except w (λ j m. only (has_role words j m) (line j m)) (λ j m. only (has_role (put width words i x) j m) (line j m)) i x
    (λ j m n. rw (get_or-set_other words i j (with width (word_at words i) x) 0 n))
    (λ m n. rw (get_or-set_same words i (with width (word_at words i) x) 0 h, member-with-other width (word_at words i) x m (λ e. n (sym e))))

now-except : (t t' : ℕ) → Except 0 (now_cell t) (now_cell t')
now-except t t' zero n = absurd (n refl)
now-except t t' (suc i) n = refl

module _ (s : State) (typed : Typed s) where
  session-at : (i : ℕ) (v : Session) → i < 32 → session_at (set s.sessions i v) i ≡ v
  session-at i v h = get_or-set_same s.sessions i v closed_session (omega (arith, typed.all_sessions))

  session-other : (i j : ℕ) (v : Session) → j ≢ i → session_at (set s.sessions i v) j ≡ session_at s.sessions j
  session-other i j v n = get_or-set_other s.sessions i j v closed_session n

  -- another session in place i, that differs in part m alone
  session-except : (i m : ℕ) (v : Session) → i < 32 → Except m (session_cells s i) (session_cells (with_sessions s (set s.sessions i v)) i)
      → Except (1 + (2048 + (1024 + (131072 + (i * 34 + m))))) (at s) (at (with_sessions s (set s.sessions i v)))
  unfolding at
  session-except i m v h same =
      except-right 1 _ (except-right 2048 _ (except-right 1024 _ (except-right 131072 _ (except-left 1088 _
      (rows-except 34 (session_cells s) (session_cells (with_sessions s (set s.sessions i v))) i m (other i v) same)))))
    where
      other : (i : ℕ) (v : Session) (j k : ℕ) → j ≢ i → session_cells s j k ≡ session_cells (with_sessions s (set s.sessions i v)) j k
      other i v j zero n = ap (open_line j) (sym (session-other i j v n))
      other i v j (suc zero) n = ap (placed_line j) (sym (session-other i j v n))
      other i v j (suc (suc k)) n = refl

  open-except : (i u : ℕ) → i < 32 → Except 0 (session_cells s i) (session_cells (with_sessions s (set s.sessions i (session true u (position_of s i)))) i)
  open-except i u h zero n = absurd (n refl)
  open-except i u h (suc zero) n = ap (placed_line i) (sym (session-at i (session true u (position_of s i)) h))
  open-except i u h (suc (suc r)) n = refl

  place-except : (i : ℕ) (p : Position) → i < 32 → Except 1 (session_cells s i) (session_cells (with_sessions s (set s.sessions i (session (is_open s i) (user_of s i) p))) i)
  place-except i p h zero n = ap (open_line i) (sym (session-at i (session (is_open s i) (user_of s i) p) h))
  place-except i p h (suc zero) n = absurd (n refl)
  place-except i p h (suc (suc r)) n = refl

  -- one role more in session i
  active-except : (i r : ℕ) → i < 32 → Except (i * 34 + (2 + r)) (rows 34 (session_cells s)) (rows 34 (session_cells (with_line s (Active i r))))
  unfolding with_line
  active-except i r h =
      rows-except 34 (session_cells s) (session_cells (with_line s (Active i r))) i (2 + r) other same
    where
      other : (j k : ℕ) → j ≢ i → session_cells s j k ≡ session_cells (with_line s (Active i r)) j k
      other j zero n = refl
      other j (suc zero) n = refl
      other j (suc (suc k)) n = rw (get_or-set_other s.active i j (with 32 (word_at s.active i) r) 0 n)

      same : Except (2 + r) (session_cells s i) (session_cells (with_line s (Active i r)) i)
      same zero n = refl
      same (suc zero) n = refl
      same (suc (suc k)) n =
          rw (get_or-set_same s.active i (with 32 (word_at s.active i) r) 0 (omega (arith, typed.actives)), member-with-other 32 (word_at s.active i) r k (λ e. n (omega arith)))

  -- one loan more
  loan-other : (u v r t : ℕ) → has_room s (LoanLine u v r t) ≡ true → Except ((u * 64 + v) * 32 + r) (loan_cell (loans_of s)) (loan_cell (loans_of (with_line s (LoanLine u v r t))))
  unfolding key
  loan-other u v r t room = rw (loans-more s u v r t room) (loan-except (loans_of s) (loan_of u v r t))

  pub line_other : (e : Entry) → Ranged e → has_room s e ≡ true → Except (rank e) (at s) (at (with_line s e))
  unfolding at with_line rank
  line_other (Now t) h room = except-left 1 _ (now-except s.time t)
  line_other (Assigned u r) h room =
      let l = h.0 in
      except-right 1 _ (except-left 2048 _ (words-except 32 32 Assigned s.assigned u r (omega (arith, typed.users))))
  line_other (Granted r p) h room =
      let l = h.0 in
      except-right 1 _ (except-right 2048 _ (except-left 1024 _ (words-except 32 32 Granted s.granted r p (omega (arith, typed.roles)))))
  line_other (LoanLine u v r t) h room = except-right 1 _ (except-right 2048 _ (except-right 1024 _ (except-left 131072 _ (loan-other u v r t room))))
  line_other (Open i u) h room = session-except i 0 (session true u (position_of s i)) h.0 (open-except i u h.0)
  line_other (Place i x y) h room =
      session-except i 1 (session (is_open s i) (user_of s i) (Known (record { x = x; y = y; error = 0 }))) h.0 (place-except i (Known (record { x = x; y = y; error = 0 })) h.0)
  line_other (Active i r) h room = except-right 1 _ (except-right 2048 _ (except-right 1024 _ (except-right 131072 _ (except-left 1088 _ (active-except i r h.0)))))
  line_other (Did o p u) h room =
      let l = h.0 in
      let m = h.1 in
      except-right 1 _ (except-right 2048 _ (except-right 1024 _ (except-right 131072 _ (except-right 1088 _
      (words-except 64 64 (λ k m. Did (k / 32) (k % 32) m) s.history (o * 32 + p) u (omega (arith, typed.records)))))))
  line_other (PlaceWithError i x y e) h room =
      session-except i 1 (session (is_open s i) (user_of s i) (Known (record { x = x; y = y; error = e }))) h.0 (place-except i (Known (record { x = x; y = y; error = e })) h.0)

  pub line_same : (e : Entry) → Ranged e → has_room s e ≡ true → at s (rank e) ≡ [] → at (with_line s e) (rank e) ≡ e ∷ []
  unfolding with_line rank key place_line
  line_same (Now t) h room none = at-now (with_line s (Now t))
  line_same (Assigned u r) h room none =
      let l = h.0 in
      at-assigned (with_line s (Assigned u r)) u r l h.1 ∙ rw (word_same 32 s.assigned u r (omega (arith, typed.users)) h.1)
  line_same (Granted r p) h room none =
      let l = h.0 in
      at-granted (with_line s (Granted r p)) r p l h.1 ∙ rw (word_same 32 s.granted r p (omega (arith, typed.roles)) h.1)
  line_same (LoanLine u v r t) h room none =
      let small : (u * 64 + v) * 32 + r < 131072 = omega (arith, h.0, h.1, h.2) in
      at-loan (with_line s (LoanLine u v r t)) ((u * 64 + v) * 32 + r) small
      ∙ rw (loans-more s u v r t room) (loan-there (loans_of s) (loan_of u v r t) (no_lines _ (sym (at-loan s ((u * 64 + v) * 32 + r) small) ∙ none)))
  line_same (Open i u) h room none =
      at-session (with_line s (Open i u)) i 0 h.0 (omega arith) ∙ ap (open_line i) (session-at i (session true u (position_of s i)) h.0)
  line_same (Place i x y) h room none =
      at-session (with_line s (Place i x y)) i 1 h.0 (omega arith) ∙ ap (placed_line i) (session-at i (session (is_open s i) (user_of s i) (Known (record { x = x; y = y; error = 0 }))) h.0)
  line_same (Active i r) h room none =
      let l = h.0 in
      let m = h.1 in
      let e : 2 + r ≡ suc (suc r) = omega arith in
      at-session (with_line s (Active i r)) i (2 + r) l (omega arith) ∙ rw (e, word_same 32 s.active i r (omega (arith, typed.actives)) m)
  line_same (Did o p u) h room none =
      let l = h.0 in
      let m = h.1 in
      at-did (with_line s (Did o p u)) o p u l m h.2 ∙ rw (word_same 64 s.history (o * 32 + p) u (omega (arith, typed.records)) h.2)
  line_same (PlaceWithError i x y e) h room none =
      at-session (with_line s (PlaceWithError i x y e)) i 1 h.0 (omega arith)
      ∙ ap (placed_line i) (session-at i (session (is_open s i) (user_of s i) (Known (record { x = x; y = y; error = e }))) h.0)
      ∙ rw (ne_eqb e 0 (λ z. omega (arith, h.3)))
