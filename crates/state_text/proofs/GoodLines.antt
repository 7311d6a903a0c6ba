-- Good lines and states, both ways: the lines of the state that good lines leave are those lines, and the lines of a state that 40 does
-- not refuse, whose active roles are held and whose loans run as they were lent are good and leave that state.
-- Assumes nothing.
use mathlib.Core.Path.{◌≡◌, refl, sym, ap, ap₂, ◌∙◌, subst, subst⁻¹}
use mathlib.Core.Bool.{Bool, true, false, not, ◌&&◌}
use mathlib.Core.Logic.{◌≢◌, ⊎_elim}
use mathlib.Core.List.{List, [], ◌∷◌, ◌++◌, map, append_assoc, append-nil, Memᴰ}
use Prim.Native.Nat.{ℕ, zero, suc, ◌+◌, ◌-◌, ◌*◌, ◌/◌, ◌%◌, ◌≤◌, ◌<◌}
use native.Mathlib.Omega.{arith}
use lib.Arith.{lt_of_le-ne}
use lib.Dec.{ltb, leb, eqb}
use lib.ListN.{length, replicate}
use borrow.Author.Tests.{eqb-true, eqb-false, ne_eqb, leb-true, le-leb, lt-leb, ltb-true, lt-ltb, le-ltb}
use Rattle.sets.proofs.Booleans.{clash, both, both_true, not_so}
use Rattle.sets.proofs.Members.{member-empty}
use Rattle.places.specs.Places.{position_in_range, point_in_range, on_grid}
use Rattle.places.specs.declared.Position.{Position}
use Rattle.places.specs.declared.Position.TheVariants.{Unknown, Known}
use Rattle.rules.specs.Families.{has_role, closed_session}
use Rattle.rules.specs.declared.sessions.Session.{Session}
use Rattle.loans.specs.Loans.{key, loan_of, kept_loans, held_with}
use Rattle.loans.specs.declared.Loan.{Loan}
use Rattle.loans.specs.declared.Loans.{Loans}
use Rattle.loans.proofs.Keeping.{some-means, kept-means}
use Rattle.loans.proofs.Order.{accepted-in-range}
use Rattle.loans.proofs.Ranges.{in-range-means}
use Rattle.loans.proofs.Storing.{count-stored}
use Rattle.enforcement.specs.States.{fresh, assigned_role, loans_of, borrowed_role, held_roles, holds_role, is_open, user_of, position_of, active_role}
use Rattle.enforcement.specs.Reached.{Typed}
use Rattle.enforcement.specs.declared.states.State.{State}
use Rattle.enforcement.proofs.Frame.{closed-inactive}
use Rattle.enforcement.proofs.Kept.{same-everywhere, fresh-accepted}
use Rattle.enforcement.proofs.Loans.{loans-ordered, loans-few, holds-means}
use Rattle.state_text.specs.Entries.{form_of, rank, in_order, with_line, rests, has_room}
use Rattle.state_text.specs.Saving.{over, only, loan_line, place_line, place_lines, lines_of}
use Rattle.state_text.specs.Causes.{Ranged, state_after}
use Rattle.state_text.specs.declared.entries.Entry.{Entry}
use Rattle.state_text.specs.declared.entries.Entry.TheVariants.{Now, Assigned, Granted, Loan as LoanLine, Open, Place, Active, Did, PlaceWithError}
use Rattle.state_text.proofs.Rows.{unequal, by-test, over_zero, over-suc, over-same, over-more, span, over-span, join, join-right, rows_none, row_of, below-or-past}
use Rattle.state_text.proofs.Cells.{all_lines, now_cell, assigned_cell, granted_cell, session_cells, history_cell, at, Ended, at-now, at-assigned, at-granted, at-loan, at-session, at-did, lines_at, loans-till, line_other, line_same}
use Rattle.state_text.proofs.Keeping.{Kept, time-accepted, closed-empty, open-ranged, position-ranged, line_kept, now-kept}
use Rattle.state_text.proofs.LoanCells.{loan_cell, keys_below, kept-fewer, Keyed, nobody, somebody, keyed-one, loan-in}
use Rattle.state_text.proofs.Same.{time-same, assigned-same, keys-same, loans-same, same-state}

-- ---- good lines, by the reader's tests

-- the rank that the next line must have at least
abbrev pub next_rank : ℕ → List Entry → ℕ
next_rank next [] = next
next_rank next (e ∷ es) = next_rank (suc (rank e)) es

-- each line is in range, in order, rests on the state that those before it leave, and has room there
abbrev pub GoodLines : ℕ → State → List Entry → Type 0
GoodLines next s [] = Unit {0}
GoodLines next s (e ∷ es) = Ranged e × (in_order next e ≡ true) × (rests s e ≡ true) × (has_room s e ≡ true) × GoodLines (suc (rank e)) (with_line s e) es

-- ---- where lines end

no_join : (a : ℕ) (f g : ℕ → List Entry) → ((k : ℕ) → f k ≡ []) → ((k : ℕ) → g k ≡ []) → (k : ℕ) → join a f g k ≡ []
unfolding join
no_join a f g hf hg k = by-test (ltb k a) (λ e. rw e (hf k)) (λ e. rw e (hg (k - a)))

no_word : (n i m : ℕ) (e : Entry) → only (has_role (replicate n 0) i m) e ≡ []
no_word n i m e = rw (same-everywhere {A = ℕ} n i 0, member-empty m)

no-session : (i m : ℕ) → session_cells fresh i m ≡ []
unfolding fresh
no-session i zero = rw (same-everywhere 32 i closed_session)
no-session i (suc zero) = rw (same-everywhere 32 i closed_session)
no-session i (suc (suc r)) = no_word 32 i r (Active i r)

no-loan : (k : ℕ) → loan_cell (loans_of fresh) k ≡ []
unfolding fresh kept_loans
no-loan k = refl

pub fresh-ended : Ended 1 fresh
unfolding at fresh
fresh-ended j h =
    let i = j - 1 in
    let e : j ≡ 1 + i = omega arith in
    rw e (join-right 1 (now_cell 0) _ i
    ∙ no_join 2048 _ _ (rows_none 32 (assigned_cell fresh) (λ u r. no_word 64 u r (Assigned u r)))
    (no_join 1024 _ _ (rows_none 32 (granted_cell fresh) (λ r p. no_word 32 r p (Granted r p)))
    (no_join 131072 _ _ no-loan
    (no_join 1088 _ _ (rows_none 34 (session_cells fresh) no-session) (rows_none 64 (history_cell fresh) (λ k u. no_word 1024 k u (Did (k / 32) (k % 32) u)))))) i)

pub rank-small : (e : Entry) → Ranged e → rank e < all_lines
unfolding rank
rank-small (Now t) h = omega arith
rank-small (Assigned u r) h = omega arith
rank-small (Granted r p) h = omega arith
rank-small (LoanLine u v r t) h = omega arith
rank-small (Open i u) h = omega arith
rank-small (Place i x y) h = omega arith
rank-small (Active i r) h = omega arith
rank-small (Did o p u) h = omega arith
rank-small (PlaceWithError i x y e) h = omega arith

-- a line past the last one is one line more
module _ (s : State) (typed : Typed s) (k : ℕ) (ended : Ended k s) (e : Entry) (h : Ranged e) (l : k ≤ rank e) (room : has_room s e ≡ true) where
  line-ended : Ended (suc (rank e)) (with_line s e)
  line-ended j q = sym (line_other s typed e h room j (λ z. omega arith)) ∙ ended j (omega arith)

  line-lines : over (suc (rank e)) (at (with_line s e)) ≡ over k (at s) ++ (e ∷ [])
  line-lines =
      let z : k + (rank e - k) ≡ rank e = omega arith in
      over-suc (rank e) (at (with_line s e))
      ∙ rw (
        line_same s typed e h room (ended (rank e) l),
        over-same (rank e) (at (with_line s e)) (at s) (λ i q. sym (line_other s typed e h room i (λ y. omega arith))),
        rw z at (over-more (rank e - k) k (at s) (λ i a b. ended i a)),
      )

-- ---- the order

pub in_order_lem : (k : ℕ) (e : Entry) → 1 ≤ k → in_order k e ≡ true → k ≤ rank e
in_order_lem k e h q = leb-true k (rank e) (rw (ne_eqb k 0 (λ z. omega arith)) at q)

later : (k : ℕ) (e : Entry) → 1 ≤ k → k ≤ rank e → in_order k e ≡ true
later k e h l = rw (ne_eqb k 0 (λ z. omega arith)) (le-leb k (rank e) l)

pub rank-now : (t : ℕ) → rank (Now t) ≡ 0
unfolding rank
rank-now t = refl

pub first-now : (e : Entry) → rank e ≡ 0 → (t : ℕ) × (e ≡ Now t)
unfolding rank
first-now (Now t) h = (t, refl)
first-now (Assigned u r) h = absurd (omega arith)
first-now (Granted r p) h = absurd (omega arith)
first-now (LoanLine u v r t) h = absurd (omega arith)
first-now (Open i u) h = absurd (omega arith)
first-now (Place i x y) h = absurd (omega arith)
first-now (Active i r) h = absurd (omega arith)
first-now (Did o p u) h = absurd (omega arith)
first-now (PlaceWithError i x y e) h = absurd (omega arith)

now-room : (s : State) (t : ℕ) → has_room s (Now t) ≡ true
unfolding form_of
now-room s t = refl

now-ended : (t : ℕ) → t ≤ 3155759999 → Ended 1 (with_line fresh (Now t))
unfolding rank
now-ended t h j q = sym (line_other fresh fresh-accepted.typed (Now t) h (now-room fresh t) j (λ z. omega arith)) ∙ fresh-ended j q

now-lines : (t : ℕ) → over 1 (at (with_line fresh (Now t))) ≡ Now t ∷ []
unfolding over with_line
now-lines t = at-now (with_line fresh (Now t))

-- ---- the state that good lines leave

-- it is kept, and its lines are those before and the good ones
record Came (k : ℕ) (s : State) (es : List Entry) : Type 0 where
  kept : Kept (state_after s es)
  lines : over all_lines (at (state_after s es)) ≡ over k (at s) ++ es

good-came : (es : List Entry) (k : ℕ) (s : State) → Kept s → 1 ≤ k → k ≤ all_lines → Ended k s → GoodLines k s es → Came k s es
good-came [] k s kept one most ended good =
    let z : k + (all_lines - k) ≡ all_lines = omega arith in
    record { kept = kept; lines = rw (append-nil, rw z at (over-more (all_lines - k) k (at s) (λ i a b. ended i a))) }
good-came (e ∷ es) k s kept one most ended good =
    let l = in_order_lem k e one good.1 in
    let typed = kept.accepted.typed in
    let came = good-came es (suc (rank e)) (with_line s e) (line_kept s kept e good.0 (λ j q. ended j (omega arith)) good.2 good.3) (omega arith) (rank-small e good.0)
    (line-ended s typed k ended e good.0 l good.3) good.4 in
    record {
      kept = came.kept;
      lines = came.lines ∙ rw (line-lines s typed k ended e good.0 l good.3, append_assoc);
    }

-- from a fresh state
pub record Left (es : List Entry) : Type 0 where
  pub kept : Kept (state_after fresh es)
  pub lines : lines_of (state_after fresh es) ≡ es

now-left : (t : ℕ) (es : List Entry) → t ≤ 3155759999 → GoodLines 1 (with_line fresh (Now t)) es → Left (Now t ∷ es)
now-left t es h good =
    let came = good-came es 1 (with_line fresh (Now t)) (now-kept t h) (omega arith) (omega arith) (now-ended t h) good in
    record {
      kept = came.kept;
      lines = sym (lines_at (state_after fresh (Now t ∷ es)) (loans-ordered _ came.kept.accepted)) ∙ came.lines ∙ rw (now-lines t);
    }

pub good_left : (e : Entry) (es : List Entry) → GoodLines 0 fresh (e ∷ es) → Left (e ∷ es)
good_left e es good =
    let t = first-now e (eqb-true (rank e) 0 good.1) in
    go t.0 (subst (λ (x : Entry). GoodLines 0 fresh (x ∷ es)) t.1 good) t.1
  where
    go : (t : ℕ) → GoodLines 0 fresh (Now t ∷ es) → e ≡ Now t → Left (e ∷ es)
    go t good q = subst⁻¹ (λ (x : Entry). Left (x ∷ es)) q (now-left t es good.0 (rw (rank-now t) at good.4))

-- ---- what stands at each number of a state that is kept

pub data Cell (s : State) (k : ℕ) : Type 0 where
  none : at s k ≡ [] → Cell s k
  line : (e : Entry) → at s k ≡ e ∷ [] → rank e ≡ k → Ranged e → Cell s k

module _ (s : State) (k : ℕ) where
  only-cell : (e : Entry) (b : Bool) → at s k ≡ only b e → rank e ≡ k → (b ≡ true → Ranged e) → Cell s k
  only-cell e true a r g = line e a r (g refl)
  only-cell e false a r g = none a

  place-cell : (i : ℕ) (p : Position) → at s k ≡ place_lines i p → 1 + (2048 + (1024 + (131072 + (i * 34 + 1)))) ≡ k → i < 32 → position_in_range p ≡ true → Cell s k
  unfolding rank position_in_range point_in_range place_line
  place-cell i Unknown a r l g = none a
  place-cell i (Known point) a r l g = go (eqb point.error 0) refl
    where
      parts : ((on_grid point.x && on_grid point.y) ≡ true) × (leb point.error 1000 ≡ true)
      parts = both (on_grid point.x && on_grid point.y) (leb point.error 1000) g

      grid : (on_grid point.x ≡ true) × (on_grid point.y ≡ true)
      grid = both (on_grid point.x) (on_grid point.y) parts.0

      some : (n : ℕ) → (n ≡ 0 → ⊥) → 1 ≤ n
      some n h = omega arith

      go : (b : Bool) → eqb point.error 0 ≡ b → Cell s k
      go true e = line (Place i point.x point.y) (a ∙ rw e) r (l, grid.0, grid.1)
      go false e =
          line (PlaceWithError i point.x point.y point.error) (a ∙ rw e) r
          (l, grid.0, grid.1, some point.error (eqb-false point.error 0 e), leb-true point.error 1000 parts.1)

module _ (s : State) (kept : Kept s) where
  now-cell : (k : ℕ) → k < 1 → Cell s k
  unfolding rank
  now-cell zero h = line (Now s.time) (at-now s) refl (time-accepted s kept.accepted.unrefused)
  now-cell (suc k) h = absurd (omega arith)

  assigned-cell : (j : ℕ) → j < 2048 → Cell s (1 + j)
  unfolding rank
  assigned-cell j h =
      let w = row_of 32 64 j (omega arith) h in
      subst⁻¹ (λ (x : ℕ). Cell s (1 + x)) w.4
      (only-cell s _ (Assigned w.0 w.1) (assigned_role s w.0 w.1) (at-assigned s w.0 w.1 w.2 w.3) refl (λ q. (w.2, w.3)))

  granted-cell : (j : ℕ) → j < 1024 → Cell s (1 + (2048 + j))
  unfolding rank
  granted-cell j h =
      let w = row_of 32 32 j (omega arith) h in
      subst⁻¹ (λ (x : ℕ). Cell s (1 + (2048 + x))) w.4
      (only-cell s _ (Granted w.0 w.1) (has_role s.granted w.0 w.1) (at-granted s w.0 w.1 w.2 w.3) refl (λ q. (w.2, w.3)))

  loan-cell : (j : ℕ) → j < 131072 → Cell s (1 + (2048 + (1024 + j)))
  unfolding rank key
  loan-cell j h = go (keyed-one (loans_of s) (loans-ordered s kept.accepted) j)
    where
      go : Keyed (loans_of s) j → Cell s (1 + (2048 + (1024 + j)))
      go (nobody e) = none (at-loan s j h ∙ ap (map loan_line) e)
      go (somebody loan e same m) =
          line (loan_line loan) (at-loan s j h ∙ ap (map loan_line) e) (ap (λ (x : ℕ). 1 + (2048 + (1024 + x))) same)
          ((in-range-means loan).0 (accepted-in-range 0 loan (loans_of s) (loans-ordered s kept.accepted) m))

  part-cell : (i m : ℕ) → i < 32 → m < 34 → Cell s (1 + (2048 + (1024 + (131072 + (i * 34 + m)))))
  unfolding rank
  part-cell i zero hi hm =
      only-cell s _ (Open i (user_of s i)) (is_open s i) (at-session s i 0 hi hm) refl (λ q. (hi, (open-ranged s kept.accepted.unrefused i hi q).0))
  part-cell i (suc zero) hi hm = place-cell s _ i (position_of s i) (at-session s i 1 hi hm) refl hi (position-ranged s kept.accepted.unrefused i hi)
  part-cell i (suc (suc r)) hi hm =
      only-cell s _ (Active i r) (active_role s i r) (at-session s i (suc (suc r)) hi hm) (omega arith) (λ q. (hi, omega arith))

  session-cell : (j : ℕ) → j < 1088 → Cell s (1 + (2048 + (1024 + (131072 + j))))
  session-cell j h =
      let w = row_of 34 32 j (omega arith) h in
      subst⁻¹ (λ (x : ℕ). Cell s (1 + (2048 + (1024 + (131072 + x))))) w.4 (part-cell w.0 w.1 w.2 w.3)

  did-cell : (j : ℕ) → j < 65536 → Cell s (1 + (2048 + (1024 + (131072 + (1088 + j)))))
  unfolding rank
  did-cell j h =
      let w = row_of 64 1024 j (omega arith) h in
      let o = w.0 / 32 in
      let p = w.0 % 32 in
      let z : j ≡ (o * 32 + p) * 64 + w.1 = omega (arith, w.4) in
      let ho : o < 32 = omega (arith, w.2) in
      let hp : p < 32 = omega arith in
      subst⁻¹ (λ (x : ℕ). Cell s (1 + (2048 + (1024 + (131072 + (1088 + x)))))) z
      (only-cell s _ (Did o p w.1) (has_role s.history (o * 32 + p) w.1) (at-did s o p w.1 ho hp w.3) refl (λ q. (ho, hp, w.3)))

  pub cell-of : (k : ℕ) → k < all_lines → Cell s k
  cell-of k h =
      ⊎_elim (λ l. now-cell k l)
      (λ a. subst⁻¹ (Cell s) a.1
      (⊎_elim (λ l. assigned-cell a.0 l)
      (λ b. subst⁻¹ (λ (j : ℕ). Cell s (1 + j)) b.1
      (⊎_elim (λ l. granted-cell b.0 l)
      (λ c. subst⁻¹ (λ (j : ℕ). Cell s (1 + (2048 + j))) c.1
      (⊎_elim (λ l. loan-cell c.0 l)
      (λ d. subst⁻¹ (λ (j : ℕ). Cell s (1 + (2048 + (1024 + j)))) d.1
      (⊎_elim (λ l. session-cell d.0 l)
      (λ e. subst⁻¹ (λ (j : ℕ). Cell s (1 + (2048 + (1024 + (131072 + j))))) e.1 (did-cell e.0 (omega (arith, a.1, b.1, c.1, d.1, e.1))))
      (below-or-past 1088 d.0)))
      (below-or-past 131072 c.0)))
      (below-or-past 1024 b.0)))
      (below-or-past 2048 a.0)))
      (below-or-past 1 k)

-- ---- the lines of a state, one after the other

less : (j k : ℕ) → j < suc k → j ≢ k → j < k
less j k l n = let a : j ≤ k = omega arith in lt_of_le-ne a n

pub opened_in : (i : ℕ) (b : Bool) (u v : ℕ) → only b (Open i u) ≡ Open i v ∷ [] → (b ≡ true) × (u ≡ v)
opened_in i true u v h = (refl, cc)
opened_in i false u v h = unequal cc

pub only-in : (b : Bool) (e : Entry) → only b e ≡ e ∷ [] → b ≡ true
only-in true e h = refl
only-in false e h = unequal cc

known-place : (i : ℕ) (p : Position) (e : Entry) → place_lines i p ≡ e ∷ [] → p ≡ Unknown → ⊥
known-place i Unknown e h q = unequal cc
known-place i (Known point) e h q = unequal cc

module _ (s : State) (kept : Kept s) where
  -- a closed session has neither a position nor an active role
  placed-open : (i : ℕ) → i < 32 → (position_of s i ≡ Unknown → ⊥) → is_open s i ≡ true
  placed-open i h n =
      by-test (is_open s i) (λ e. e) (λ e. absurd (n (ap (λ (v : Session). v.position) (closed-empty s kept.accepted.unrefused i h e))))

  active-open : (i r : ℕ) → i < 32 → active_role s i r ≡ true → is_open s i ≡ true
  active-open i r h q = by-test (is_open s i) (λ e. e) (λ e. clash q (closed-inactive s kept.accepted i r h e))

  -- the state t has the lines of s below k, and none from k on
  record Begun (k : ℕ) (t : State) : Type 0 where
    sofar : Kept t
    low : (j : ℕ) → j < k → at t j ≡ at s j
    ended : Ended k t

  module _ (k : ℕ) (t : State) (begun : Begun k t) where
    -- a session that is open in s is open in t
    open-there : (i : ℕ) → i < 32 → 1 + (2048 + (1024 + (131072 + (i * 34 + 0)))) < k → is_open s i ≡ true → (is_open t i ≡ true) × (user_of t i ≡ user_of s i)
    open-there i h l o =
        opened_in i (is_open t i) (user_of t i) (user_of s i)
        (sym (at-session t i 0 h (omega arith)) ∙ begun.low (1 + (2048 + (1024 + (131072 + (i * 34 + 0))))) l ∙ at-session s i 0 h (omega arith) ∙ rw o)

    -- past the loans the roles that are held are the same
    held-there : 134145 ≤ k → held_roles t ≡ held_roles s
    held-there past =
        ap₂ held_with (assigned-same t s begun.sofar.accepted kept.accepted k begun.low (omega arith))
        (loans-same t s begun.sofar.accepted kept.accepted k begun.low past)

    -- before a loan of s, the loans of t are those with a lower key
    module _ (loan : Loan) (m : Memᴰ loan (loans_of s)) (below : key loan ≤ 131072) (q : 3073 + key loan ≡ k) where
      loans-there : loans_of t ≡ keys_below (key loan) (loans_of s)
      loans-there =
          sym (loans-till t (loans-ordered t begun.sofar.accepted) (key loan) below (λ j l. begun.ended j (omega arith)))
          ∙ keys-same t s begun.sofar.accepted kept.accepted k begun.low (key loan) below (omega arith)

      assigned-there : t.assigned ≡ s.assigned
      assigned-there = assigned-same t s begun.sofar.accepted kept.accepted k begun.low (omega arith)

      loan-later : t.time < loan.until
      loan-later = rw (time-same t s begun.sofar.accepted kept.accepted k begun.low (omega arith)) (kept.lending.unended loan m)

      unborrowed : borrowed_role t loan.borrower loan.role ≡ false
      unborrowed = not_so (borrowed_role t loan.borrower loan.role) (λ h.
          let some = (some-means (λ other. eqb other.borrower loan.borrower && eqb other.role loan.role) (loans_of t)).0 h in
          let other = (kept-means (λ x. ltb (key x) (key loan)) some.0 (loans_of s)).0 (subst (Memᴰ some.0) loans-there some.1) in
          let same = both (eqb some.0.borrower loan.borrower) (eqb some.0.role loan.role) some.2 in
          let one = kept.lending.single some.0 loan other.0 m (eqb-true _ _ same.0) (eqb-true _ _ same.1) in
          absurd (omega (arith, ltb-true (key some.0) (key loan) other.1, ap key one)))

      not-held : holds_role t loan.borrower loan.role ≡ false
      not-held =
          holds-means t begun.sofar.accepted loan.borrower loan.role
          ∙ rw (ap (λ (l : List ℕ). has_role l loan.borrower loan.role) assigned-there ∙ kept.lending.borrowed loan m, unborrowed)

      loan-lender : assigned_role t loan.lender loan.role ≡ true
      loan-lender = rw assigned-there (kept.lending.lent loan m)

      fewer : t.loans.count < 32
      fewer =
          let counted : t.loans.count ≡ length (loans_of t) = ap (λ (l : Loans). l.count) begun.sofar.lending.filled ∙ count-stored (loans_of t) in
          omega (arith, counted, ap (λ (l : List Loan). length l) loans-there, kept-fewer (λ x. ltb (key x) (key loan)) (loans_of s) loan m (le-ltb (key loan) (key loan) (omega arith)), loans-few s kept.accepted)

    -- the loan of a line
    loan-of : (u v r x : ℕ) → Ranged (LoanLine u v r x) → at s (1 + (2048 + (1024 + ((u * 64 + v) * 32 + r)))) ≡ LoanLine u v r x ∷ [] → Memᴰ (loan_of u v r x) (loans_of s)
    unfolding key
    loan-of u v r x h a = loan-in (loans_of s) (loan_of u v r x) (sym (at-loan s ((u * 64 + v) * 32 + r) (omega (arith, h.0, h.1, h.2))) ∙ a)

    rests-there : (e : Entry) → rank e ≡ k → Ranged e → at s (rank e) ≡ e ∷ [] → rests t e ≡ true
    unfolding rests rank key
    rests-there (Now x) q h a = refl
    rests-there (Assigned u r) q h a = refl
    rests-there (Granted r p) q h a = refl
    rests-there (LoanLine u v r x) q h a =
        let m = loan-of u v r x h a in
        let low : (u * 64 + v) * 32 + r ≤ 131072 = omega (arith, h.0, h.1, h.2) in
        both_true (assigned_role t u r) (not (holds_role t v r) && ltb t.time x) (loan-lender (loan_of u v r x) m low (omega arith))
        (both_true (not (holds_role t v r)) (ltb t.time x) (rw (not-held (loan_of u v r x) m low (omega arith))) (lt-ltb t.time x (loan-later (loan_of u v r x) m low (omega arith))))
    rests-there (Open i u) q h a = refl
    rests-there (Place i x y) q h a =
        (open-there i h.0 (omega arith) (placed-open i h.0 (known-place i (position_of s i) (Place i x y) (sym (at-session s i 1 h.0 (omega arith)) ∙ a)))).0
    rests-there (Active i r) q h a =
        let m : suc (suc r) < 34 = omega (arith, h.1) in
        let e : 2 + r ≡ suc (suc r) = omega arith in
        let active = only-in (active_role s i r) (Active i r) (sym (at-session s i (suc (suc r)) h.0 m) ∙ rw e at a) in
        let opened = open-there i h.0 (omega arith) (active-open i r h.0 active) in
        both_true (is_open t i) (holds_role t (user_of t i) r) opened.0 (rw (opened.1, held-there (omega arith)) (kept.held i r active))
    rests-there (Did o p u) q h a = refl
    rests-there (PlaceWithError i x y e) q h a =
        (open-there i h.0 (omega arith) (placed-open i h.0 (known-place i (position_of s i) (PlaceWithError i x y e) (sym (at-session s i 1 h.0 (omega arith)) ∙ a)))).0

    room-there : (e : Entry) → rank e ≡ k → Ranged e → at s (rank e) ≡ e ∷ [] → has_room t e ≡ true
    unfolding form_of rank key
    room-there (Now x) q h a = refl
    room-there (Assigned u r) q h a = refl
    room-there (Granted r p) q h a = refl
    room-there (LoanLine u v r x) q h a =
        let low : (u * 64 + v) * 32 + r ≤ 131072 = omega (arith, h.0, h.1, h.2) in
        rw (lt-leb 32 t.loans.count (fewer (loan_of u v r x) (loan-of u v r x h a) low (omega arith)))
    room-there (Open i u) q h a = refl
    room-there (Place i x y) q h a = refl
    room-there (Active i r) q h a = refl
    room-there (Did o p u) q h a = refl
    room-there (PlaceWithError i x y e) q h a = refl

    skip : at s k ≡ [] → Begun (suc k) t
    skip e = record {
      sofar = begun.sofar;
      low = λ j l. by-test (eqb j k)
          (λ q. let z = eqb-true j k q in rw z (begun.ended k (omega arith) ∙ sym e))
          (λ q. begun.low j (less j k l (eqb-false j k q)));
      ended = λ j l. begun.ended j (omega arith);
    }

    take : (e : Entry) → at s k ≡ e ∷ [] → rank e ≡ k → Ranged e → rests t e ≡ true → has_room t e ≡ true → Begun (suc k) (with_line t e)
    take e a q h r room =
        let typed = begun.sofar.accepted.typed in
        let o = line_other t typed e h room in
        record {
          sofar = line_kept t begun.sofar e h (λ j l. begun.ended j (omega arith)) r room;
          low = λ j l. by-test (eqb j k)
              (λ y. let z = eqb-true j k y in rw z (rw q at (line_same t typed e h room (begun.ended (rank e) (omega arith))) ∙ sym a))
              (λ y. sym (o j (λ x. eqb-false j k y (x ∙ q))) ∙ begun.low j (less j k l (eqb-false j k y)));
          ended = λ j l. sym (o j (λ x. omega arith)) ∙ begun.ended j (omega arith);
        }

  -- the lines es are good after t, and leave s
  record Back (next : ℕ) (t : State) (es : List Entry) : Type 0 where
    good : GoodLines next t es
    same : state_after t es ≡ s

  back_from : (m next k : ℕ) (t : State) → Begun k t → 1 ≤ next → next ≤ k → k + m ≡ all_lines → Back next t (span k m (at s))
  unfolding span
  back_from zero next k t begun one l e =
      record { good = tt; same = same-state t s begun.sofar kept (λ j h. begun.low j (omega arith)) }
  back_from (suc m) next k t begun one l e =
      by-cell m next k t begun one l (λ next t begun one l. back_from m next (suc k) t begun one l (omega arith)) (cell-of s kept k (omega arith))
    where
      by-cell : (m next k : ℕ) (t : State) → Begun k t → 1 ≤ next → next ≤ k
          → ((next : ℕ) (t : State) → Begun (suc k) t → 1 ≤ next → next ≤ suc k → Back next t (span (suc k) m (at s)))
          → Cell s k → Back next t (at s k ++ span (suc k) m (at s))
      by-cell m next k t begun one l ih (none a) = rw a (ih next t (skip k t begun a) one (omega arith))
      by-cell m next k t begun one l ih (line x a r h) =
          let stands : at s (rank x) ≡ x ∷ [] = rw r a in
          let rest = rests-there k t begun x r h stands in
          let room = room-there k t begun x r h stands in
          let back = ih (suc (rank x)) (with_line t x) (take k t begun x a r h rest room) (omega arith) (omega arith) in
          rw a (record { good = (h, later next x one (omega arith), rest, room, back.good); same = back.same })

  begun : Begun 1 (with_line fresh (Now s.time))
  unfolding with_line
  begun = record {
    sofar = now-kept s.time (time-accepted s kept.accepted.unrefused);
    low = zero-only;
    ended = now-ended s.time (time-accepted s kept.accepted.unrefused);
  }
    where
      zero-only : (j : ℕ) → j < 1 → at (with_line fresh (Now s.time)) j ≡ at s j
      zero-only zero l = at-now (with_line fresh (Now s.time)) ∙ sym (at-now s)
      zero-only (suc j) l = absurd (omega arith)

  lines-parts : lines_of s ≡ Now s.time ∷ span 1 200768 (at s)
  lines-parts = sym (lines_at s (loans-ordered s kept.accepted)) ∙ sym (over-span 200768 1 (at s)) ∙ rw (over-suc 0 (at s), over_zero (at s), at-now s)

  rests-now : rests fresh (Now s.time) ≡ true
  unfolding rests
  rests-now = refl

  pub lines-good : GoodLines 0 fresh (lines_of s) × (state_after fresh (lines_of s) ≡ s)
  lines-good =
      let back = back_from 200768 1 1 (with_line fresh (Now s.time)) begun (omega arith) (omega arith) (omega arith) in
      let t = time-accepted s kept.accepted.unrefused in
      rw lines-parts ((t, rw (rank-now s.time), rests-now, now-room fresh s.time, rw (rank-now s.time) back.good), back.same)

-- a state has a line at least, that of its time
pub some-lines : (s : State) → 0 < length (lines_of s)
unfolding lines_of
some-lines s = omega arith

-- and a fresh one has no other
pub fresh_lines : lines_of fresh ≡ Now 0 ∷ []
unfolding fresh
fresh_lines = sym (lines_at fresh (loans-ordered fresh fresh-accepted)) ∙ over-more 200768 1 (at fresh) (λ i a b. fresh-ended i a) ∙ over-suc 0 (at fresh) ∙ rw (over_zero (at fresh), at-now fresh)
