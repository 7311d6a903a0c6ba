-- Two states that have the same lines are one, where 40 refuses neither and their loans run as they were lent.
-- Assumes nothing.
use mathlib.Core.Path.{◌≡◌, refl, sym, ap, ◌∙◌}
use mathlib.Core.Bool.{Bool, true, false}
use mathlib.Core.List.{List, [], ◌∷◌}
use Prim.Native.Nat.{ℕ, suc, ◌+◌, ◌*◌, ◌/◌, ◌%◌, ◌≤◌, ◌<◌}
use native.Mathlib.Omega.{arith}
use lib.Seq.{ext_get_or}
use Rattle.sets.proofs.Width.{same-members}
use lib.Dec.{eqb}
use borrow.Author.Tests.{eqb-true}
use Rattle.places.specs.declared.Point.{Point}
use Rattle.places.specs.declared.Position.{Position}
use Rattle.places.specs.declared.Position.TheVariants.{Unknown, Known}
use Rattle.rules.specs.Families.{word_at, has_role, closed_session, session_at}
use Rattle.rules.specs.declared.sessions.Session.{Session}
use Rattle.loans.specs.Loans.{stored}
use Rattle.loans.specs.declared.Loan.{Loan}
use Rattle.enforcement.specs.States.{loans_of, is_open, user_of, position_of}
use Rattle.enforcement.specs.Reached.{Accepted}
use Rattle.enforcement.specs.declared.states.State.{State}
use Rattle.enforcement.proofs.Loans.{loans-ordered}
use Rattle.state_text.specs.Saving.{only, place_line, place_lines}
use Rattle.state_text.specs.declared.entries.Entry.{Entry}
use Rattle.state_text.specs.declared.entries.Entry.TheVariants.{Assigned, Granted, Open, Place, Active, Did, PlaceWithError}
use Rattle.state_text.proofs.Cells.{all_lines, session_cells, at, at-now, at-assigned, at-granted, at-loan, at-session, at-did}
use Rattle.state_text.proofs.Keeping.{Kept, closed-empty}
use Rattle.state_text.proofs.LoanCells.{keys_below, cells-below, same_lines, all-keys}
use Rattle.state_text.proofs.Rows.{unequal, over-same}

only_same : (b c : Bool) (e : Entry) → only b e ≡ only c e → b ≡ c
only_same true true e h = refl
only_same true false e h = unequal cc
only_same false true e h = unequal cc
only_same false false e h = refl

-- a line says of which point it is
line-point : (i : ℕ) (point other : Point) (b c : Bool) → eqb point.error 0 ≡ b → eqb other.error 0 ≡ c → place_line i point ≡ place_line i other → point ≡ other
unfolding place_line
line-point i point other true true eb ec h =
    let line : Place i point.x point.y ≡ Place i other.x other.y = rw (eb, ec) at h in
    let x : point.x ≡ other.x = cc in
    let y : point.y ≡ other.y = cc in
    let error : point.error ≡ other.error = eqb-true point.error 0 eb ∙ sym (eqb-true other.error 0 ec) in
    λ j. record { x = x j; y = y j; error = error j }
line-point i point other false false eb ec h =
    let line : PlaceWithError i point.x point.y point.error ≡ PlaceWithError i other.x other.y other.error = rw (eb, ec) at h in
    let x : point.x ≡ other.x = cc in
    let y : point.y ≡ other.y = cc in
    let error : point.error ≡ other.error = cc in
    λ j. record { x = x j; y = y j; error = error j }
line-point i point other true false eb ec h =
    let line : Place i point.x point.y ≡ PlaceWithError i other.x other.y other.error = rw (eb, ec) at h in
    unequal cc
line-point i point other false true eb ec h =
    let line : PlaceWithError i point.x point.y point.error ≡ Place i other.x other.y = rw (eb, ec) at h in
    unequal cc

head-same : {a b : Entry} → a ∷ [] ≡ b ∷ [] → a ≡ b
head-same h = cc

place_same : (i : ℕ) (p q : Position) → place_lines i p ≡ place_lines i q → p ≡ q
place_same i Unknown Unknown h = refl
place_same i Unknown (Known point) h = unequal cc
place_same i (Known point) Unknown h = unequal cc
place_same i (Known point) (Known other) h =
    ap Known (line-point i point other (eqb point.error 0) (eqb other.error 0) refl refl (head-same h))

open-same : (i : ℕ) (b c : Bool) (u v : ℕ) → only b (Open i u) ≡ only c (Open i v) → (b ≡ false → u ≡ 0) → (c ≡ false → v ≡ 0) → (b ≡ c) × (u ≡ v)
open-same i true true u v h p q = (refl, cc)
open-same i true false u v h p q = unequal cc
open-same i false true u v h p q = unequal cc
open-same i false false u v h p q = (refl, p refl ∙ sym (q refl))

closed-user : (s : State) → Accepted s → (i : ℕ) → i < 32 → is_open s i ≡ false → user_of s i ≡ 0
closed-user s accepted i h e = ap (λ (v : Session). v.user) (closed-empty s accepted.unrefused i h e)

-- two states whose lines below n are the same
module _ (s s' : State) (a : Accepted s) (a' : Accepted s') (n : ℕ) (e : (j : ℕ) → j < n → at s j ≡ at s' j) where
  pub time-same : 1 ≤ n → s.time ≡ s'.time
  time-same past = let h = sym (at-now s) ∙ e 0 (omega arith) ∙ at-now s' in cc

  pub assigned-same : 2049 ≤ n → s.assigned ≡ s'.assigned
  assigned-same past =
      ext_get_or 0 s.assigned s'.assigned (a.typed.users ∙ sym a'.typed.users) (λ u l.
      let hu : u < 64 = omega (arith, a.typed.users) in
      same-members 32 (word_at s.assigned u) (word_at s'.assigned u) (a.typed.small_assigned u) (a'.typed.small_assigned u) (λ r hr.
      only_same _ _ (Assigned u r) (sym (at-assigned s u r hu hr) ∙ e (1 + (u * 32 + r)) (omega arith) ∙ at-assigned s' u r hu hr)))

  -- the loans with a key below k
  pub keys-same : (k : ℕ) → k ≤ 131072 → 3073 + k ≤ n → keys_below k (loans_of s) ≡ keys_below k (loans_of s')
  keys-same k h past =
      same_lines (keys_below k (loans_of s)) (keys_below k (loans_of s'))
      (sym (cells-below (loans_of s) (loans-ordered s a) k)
      ∙ over-same k _ _ (λ j l. sym (at-loan s j (omega arith)) ∙ e (1 + (2048 + (1024 + j))) (omega arith) ∙ at-loan s' j (omega arith))
      ∙ cells-below (loans_of s') (loans-ordered s' a') k)

  pub loans-same : 134145 ≤ n → loans_of s ≡ loans_of s'
  loans-same past = sym (all-keys (loans_of s) (loans-ordered s a)) ∙ keys-same 131072 (omega arith) (omega arith) ∙ all-keys (loans_of s') (loans-ordered s' a')

module _ (s s' : State) (kept : Kept s) (kept' : Kept s') (e : (j : ℕ) → j < all_lines → at s j ≡ at s' j) where
  abbrev a : Accepted s
  a = kept.accepted

  abbrev a' : Accepted s'
  a' = kept'.accepted

  granted-same : s.granted ≡ s'.granted
  granted-same =
      ext_get_or 0 s.granted s'.granted (a.typed.roles ∙ sym a'.typed.roles) (λ r l.
      let hr : r < 32 = omega (arith, a.typed.roles) in
      same-members 32 (word_at s.granted r) (word_at s'.granted r) (a.typed.small_granted r) (a'.typed.small_granted r) (λ p hp.
      only_same _ _ (Granted r p) (sym (at-granted s r p hr hp) ∙ e (1 + (2048 + (r * 32 + p))) (omega arith) ∙ at-granted s' r p hr hp)))

  cell_same : (i m : ℕ) → i < 32 → m < 34 → session_cells s i m ≡ session_cells s' i m
  cell_same i m hi hm = sym (at-session s i m hi hm) ∙ e (1 + (2048 + (1024 + (131072 + (i * 34 + m))))) (omega arith) ∙ at-session s' i m hi hm

  session-same : (i : ℕ) → i < 32 → session_at s.sessions i ≡ session_at s'.sessions i
  session-same i hi =
      let o = open-same i (is_open s i) (is_open s' i) (user_of s i) (user_of s' i) (cell_same i 0 hi (omega arith)) (closed-user s a i hi) (closed-user s' a' i hi) in
      let p = place_same i (position_of s i) (position_of s' i) (cell_same i 1 hi (omega arith)) in
      λ j. record { is_open = o.0 j; user = o.1 j; position = p j }

  sessions-same : s.sessions ≡ s'.sessions
  sessions-same =
      ext_get_or closed_session s.sessions s'.sessions (a.typed.all_sessions ∙ sym a'.typed.all_sessions) (λ i l. session-same i (omega (arith, a.typed.all_sessions)))

  active-same : s.active ≡ s'.active
  active-same =
      ext_get_or 0 s.active s'.active (a.typed.actives ∙ sym a'.typed.actives) (λ i l.
      let hi : i < 32 = omega (arith, a.typed.actives) in
      same-members 32 (word_at s.active i) (word_at s'.active i) (a.typed.small_active i) (a'.typed.small_active i) (λ r hr.
      only_same _ _ (Active i r) (cell_same i (suc (suc r)) hi (omega arith))))

  history-same : s.history ≡ s'.history
  history-same =
      ext_get_or 0 s.history s'.history (a.typed.records ∙ sym a'.typed.records) (λ k l.
      let o = k / 32 in
      let p = k % 32 in
      let z : k ≡ o * 32 + p = omega arith in
      let ho : o < 32 = omega (arith, a.typed.records) in
      let hp : p < 32 = omega arith in
      same-members 64 (word_at s.history k) (word_at s'.history k) (a.typed.small_history k) (a'.typed.small_history k) (λ u hu.
      rw z (only_same (has_role s.history (o * 32 + p) u) (has_role s'.history (o * 32 + p) u) (Did o p u)
      (sym (at-did s o p u ho hp hu) ∙ e (1 + (2048 + (1024 + (131072 + (1088 + ((o * 32 + p) * 64 + u)))))) (omega arith) ∙ at-did s' o p u ho hp hu))))

  filled-same : s.loans ≡ s'.loans
  filled-same = kept.lending.filled ∙ ap (λ (l : List Loan). stored l) (loans-same s s' a a' all_lines e (omega arith)) ∙ sym kept'.lending.filled

  pub same-state : s ≡ s'
  same-state = λ j. record {
    time = time-same s s' a a' all_lines e (omega arith) j;
    assigned = assigned-same s s' a a' all_lines e (omega arith) j;
    granted = granted-same j;
    loans = filled-same j;
    sessions = sessions-same j;
    active = active-same j;
    history = history-same j;
  }
