-- What the order of a line and what it rests on say of the lines before it, where those are good.
-- Assumes nothing.
use mathlib.Core.Path.{◌≡◌, refl, sym, ap, ◌∙◌, subst, subst⁻¹}
use mathlib.Core.Bool.{true, false, not, ◌&&◌}
use mathlib.Core.Logic.{◌↔◌, inl, inr, ⊎_elim}
use mathlib.Core.List.Memᴰ
use mathlib.Core.List.{List, [], ◌∷◌, ◌++◌, append_assoc, Memᴰ}
use Prim.Native.Nat.{ℕ, zero, suc, ◌+◌, ◌*◌, ◌≤◌, ◌<◌}
use native.Mathlib.Omega.{arith}
use lib.Dec.{eqb, leb, ltb}
use borrow.Author.Tests.{eqb-true, eqb-false, eq-eqb, ne_eqb, leb-true, leb-false, le-leb, lt-leb, ltb-true, ltb-false, not-true, not-false}
use Rattle.sets.proofs.Booleans.{clash, both, both_true, of-and-false, left_or, right_or, of_or, not_so}
use Rattle.sets.proofs.Members.{member-empty}
use Rattle.loans.specs.Loans.{key, loan_of}
use Rattle.loans.specs.declared.Loan.{Loan}
use Rattle.loans.specs.declared.Loans.{Loans}
use Rattle.loans.proofs.Keeping.{some_of, some-means}
use Rattle.loans.proofs.Order.{accepted-in-range}
use Rattle.loans.proofs.Ranges.{in-range-means, key-small}
use Rattle.loans.proofs.Storing.{count-stored}
use Rattle.enforcement.specs.States.{fresh, assigned_role, loans_of, borrowed_role, holds_role, is_open, user_of}
use Rattle.enforcement.specs.declared.states.State.{State}
use Rattle.rules.specs.Families.{closed_session}
use Rattle.enforcement.proofs.Kept.{same-everywhere}
use Rattle.enforcement.proofs.Loans.{loans-ordered, holds-means}
use Rattle.rules.specs.declared.sessions.Session.{Session}
use Rattle.state_text.specs.Entries.{rank, in_order, with_line, rests, is_loan, has_room}
use Rattle.state_text.specs.Saving.{over, loan_line, lines_of}
use Rattle.state_text.specs.Causes.{Ranged, Disordered, RoleHeld, Lacks, loan_lines, NoRoom, EachGood, state_after}
use Rattle.state_text.specs.declared.entries.Entry.{Entry}
use Rattle.state_text.specs.declared.entries.Entry.TheVariants.{Now, Assigned, Granted, Loan as LoanLine, Open, Place, Active, Did, PlaceWithError}
use Rattle.state_text.proofs.Rows.{by-test, over_zero, over-suc}
use Rattle.state_text.proofs.Cells.{all_lines, at, at-now, at-assigned, at-loan, at-session, lines_at}
use Rattle.state_text.proofs.Keeping.{Kept, time-accepted, open-ranged}
use Rattle.state_text.proofs.LoanCells.{loan-in, loan-stands}
use Rattle.state_text.proofs.LoanNumber.{loan-number}
use Rattle.state_text.proofs.GoodLines.{next_rank, GoodLines, Cell, none, line, cell-of, rank-small, good_left, in_order_lem, rank-now, first-now, opened_in, only-in}

-- ---- lines of a state

in-over : (n : ℕ) (f : ℕ → List Entry) (e : Entry) → Memᴰ e (over n f) → (k : ℕ) × (k < n) × Memᴰ e (f k)
in-over zero f e m = absurd (Memᴰ.not-nil (subst (Memᴰ e) (over_zero f) m))
in-over (suc n) f e m =
    ⊎_elim
    (λ a. let t = in-over n f e a in (t.0, omega (arith, t.1), t.2))
    (λ b. (n, omega arith, b))
    (Memᴰ.append_cases (over n f) (subst (Memᴰ e) (over-suc n f) m))

over-in : (n : ℕ) (f : ℕ → List Entry) (e : Entry) (k : ℕ) → k < n → Memᴰ e (f k) → Memᴰ e (over n f)
over-in zero f e k l m = absurd (omega arith)
over-in (suc n) f e k l m =
    subst⁻¹ (Memᴰ e) (over-suc n f)
    (by-test (eqb k n)
    (λ q. let z = eqb-true k n q in Memᴰ.append_right (over n f) (subst (λ (j : ℕ). Memᴰ e (f j)) z m))
    (λ q. let z = eqb-false k n q in Memᴰ.append_left (f n) (over-in n f e k (omega arith) m)))

module _ (s : State) (kept : Kept s) where
  whole : over all_lines (at s) ≡ lines_of s
  whole = lines_at s (loans-ordered s kept.accepted)

  -- a line of the state stands at its rank, and is in range
  stands : (e : Entry) → Memᴰ e (lines_of s) → (at s (rank e) ≡ e ∷ []) × Ranged e
  stands e m =
      let t = in-over all_lines (at s) e (subst⁻¹ (Memᴰ e) whole m) in
      go t.0 (cell-of s kept t.0 t.1) t.2
    where
      go : (k : ℕ) → Cell s k → Memᴰ e (at s k) → (at s (rank e) ≡ e ∷ []) × Ranged e
      go k (none a) m = absurd (Memᴰ.not-nil (subst (Memᴰ e) a m))
      go k (line x a r h) m =
          let same : e ≡ x = Memᴰ.eq_of_singleton (subst (Memᴰ e) a m) in
          (rw (same, r) a, subst⁻¹ Ranged same h)

  -- and what stands at its rank is a line of the state
  is-line : (e : Entry) → Ranged e → at s (rank e) ≡ e ∷ [] → Memᴰ e (lines_of s)
  is-line e h a =
      subst (Memᴰ e) whole (over-in all_lines (at s) e (rank e) (rank-small e h) (subst⁻¹ (Memᴰ e) a (Memᴰ.head refl)))

  now-line : (t : ℕ) → Memᴰ (Now t) (lines_of s) → s.time ≡ t
  unfolding rank
  now-line t m = let h = sym (at-now s) ∙ (stands (Now t) m).0 in cc

  line-now : Memᴰ (Now s.time) (lines_of s)
  unfolding rank
  line-now = is-line (Now s.time) (time-accepted s kept.accepted.unrefused) (at-now s)

  open-line : (i u : ℕ) → i < 32 → Memᴰ (Open i u) (lines_of s) → (is_open s i ≡ true) × (user_of s i ≡ u)
  unfolding rank
  open-line i u h m = opened_in i (is_open s i) (user_of s i) u (sym (at-session s i 0 h (omega arith)) ∙ (stands (Open i u) m).0)

  line-open : (i : ℕ) → i < 32 → is_open s i ≡ true → Memᴰ (Open i (user_of s i)) (lines_of s)
  unfolding rank
  line-open i h o = is-line (Open i (user_of s i)) (h, (open-ranged s kept.accepted.unrefused i h o).0) (at-session s i 0 h (omega arith) ∙ rw o)

  assigned-line : (u r : ℕ) → u < 64 → r < 32 → Memᴰ (Assigned u r) (lines_of s) → assigned_role s u r ≡ true
  unfolding rank
  assigned-line u r hu hr m = only-in (assigned_role s u r) (Assigned u r) (sym (at-assigned s u r hu hr) ∙ (stands (Assigned u r) m).0)

  line-assigned : (u r : ℕ) → u < 64 → r < 32 → assigned_role s u r ≡ true → Memᴰ (Assigned u r) (lines_of s)
  unfolding rank
  line-assigned u r hu hr o = is-line (Assigned u r) (hu, hr) (at-assigned s u r hu hr ∙ rw o)

  loan-line : (u v r t : ℕ) → Memᴰ (LoanLine u v r t) (lines_of s) → Memᴰ (loan_of u v r t) (loans_of s)
  unfolding rank key
  loan-line u v r t m =
      let h = stands (LoanLine u v r t) m in
      loan-in (loans_of s) (loan_of u v r t) (sym (at-loan s ((u * 64 + v) * 32 + r) (omega (arith, h.1.0, h.1.1, h.1.2))) ∙ h.0)

  line-loan : (loan : Loan) → Memᴰ loan (loans_of s) → Memᴰ (loan_line loan) (lines_of s)
  unfolding rank key
  line-loan loan m =
      let ordered = loans-ordered s kept.accepted in
      let ranged = accepted-in-range 0 loan (loans_of s) ordered m in
      is-line (loan_line loan) ((in-range-means loan).0 ranged) (at-loan s (key loan) (key-small loan ranged) ∙ loan-stands (loans_of s) ordered loan m)

  -- a role is held exactly where a line assigns or lends it
  held-lines : (u r : ℕ) → u < 64 → r < 32 → (holds_role s u r ≡ true) ↔ RoleHeld (lines_of s) u r
  held-lines u r hu hr = (to, from)
    where
      lent : borrowed_role s u r ≡ true → (w t : ℕ) × Memᴰ (LoanLine w u r t) (lines_of s)
      lent b =
          let some = (some-means (λ loan. eqb loan.borrower u && eqb loan.role r) (loans_of s)).0 b in
          let same = both (eqb some.0.borrower u) (eqb some.0.role r) some.2 in
          let e : loan_line some.0 ≡ LoanLine some.0.lender u r some.0.until = rw (eqb-true some.0.borrower u same.0, eqb-true some.0.role r same.1) in
          (some.0.lender, some.0.until, subst (λ (x : Entry). Memᴰ x (lines_of s)) e (line-loan some.0 some.1))

      to : holds_role s u r ≡ true → RoleHeld (lines_of s) u r
      to h = ⊎_elim (λ a. inl (line-assigned u r hu hr a)) (λ b. inr (lent b)) (of_or (assigned_role s u r) (borrowed_role s u r) (sym (holds-means s kept.accepted u r) ∙ h))

      from : RoleHeld (lines_of s) u r → holds_role s u r ≡ true
      from (inl m) = holds-means s kept.accepted u r ∙ left_or (assigned_role s u r) (borrowed_role s u r) (assigned-line u r hu hr m)
      from (inr l) =
          holds-means s kept.accepted u r
          ∙ right_or (assigned_role s u r) (borrowed_role s u r)
          (some_of (λ loan. eqb loan.borrower u && eqb loan.role r) (loan_of l.0 u r l.1) (loans_of s) (loan-line l.0 u r l.1 l.2) (both_true (eqb u u) (eqb r r) (eq-eqb u u refl) (eq-eqb r r refl)))

  -- 16 of a loan: by the lines of the state
  loan-lacks : (u v r t : ℕ) → Ranged (LoanLine u v r t) → (rests s (LoanLine u v r t) ≡ false) ↔ Lacks (lines_of s) (LoanLine u v r t)
  unfolding rests
  loan-lacks u v r t h = (to, from)
    where
      to : (assigned_role s u r && (not (holds_role s v r) && ltb s.time t)) ≡ false → Lacks (lines_of s) (LoanLine u v r t)
      to q =
          ⊎_elim (λ a. inl (λ m. clash (assigned-line u r h.0 h.2 m) a))
          (λ b. inr (⊎_elim (λ c. inl ((held-lines v r h.1 h.2).0 (not-false (holds_role s v r) c)))
          (λ d. inr (s.time, line-now, ltb-false s.time t d))
          (of-and-false (not (holds_role s v r)) (ltb s.time t) b)))
          (of-and-false (assigned_role s u r) (not (holds_role s v r) && ltb s.time t) q)

      rested : (assigned_role s u r && (not (holds_role s v r) && ltb s.time t)) ≡ true → (assigned_role s u r ≡ true) × (holds_role s v r ≡ false) × (s.time < t)
      rested q =
          let a = both (assigned_role s u r) (not (holds_role s v r) && ltb s.time t) q in
          let b = both (not (holds_role s v r)) (ltb s.time t) a.1 in
          (a.0, not-true (holds_role s v r) b.0, ltb-true s.time t b.1)

      against : Lacks (lines_of s) (LoanLine u v r t) → (assigned_role s u r ≡ true) × (holds_role s v r ≡ false) × (s.time < t) → ⊥
      against (inl n) q = n (line-assigned u r h.0 h.2 q.0)
      against (inr (inl held)) q = clash ((held-lines v r h.1 h.2).1 held) q.1
      against (inr (inr ended)) q = omega (arith, now-line ended.0 ended.1, ended.2, q.2)

      from : Lacks (lines_of s) (LoanLine u v r t) → (assigned_role s u r && (not (holds_role s v r) && ltb s.time t)) ≡ false
      from lacks = not_so _ (λ q. against lacks (rested q))

  -- a place rests on its session's line
  unplaced : (i : ℕ) → i < 32 → (is_open s i ≡ false) ↔ ((u : ℕ) → Memᴰ (Open i u) (lines_of s) → ⊥)
  unplaced i h =
      (λ q u m. clash (open-line i u h m).0 q, λ n. not_so (is_open s i) (λ o. n (user_of s i) (line-open i h o)))

  -- 16: by the lines of the state
  lacks-lines : (e : Entry) → Ranged e → (rests s e ≡ false) ↔ Lacks (lines_of s) e
  unfolding rests
  lacks-lines (Now t) h = (λ q. clash refl q, λ q. absurd q)
  lacks-lines (Assigned u r) h = (λ q. clash refl q, λ q. absurd q)
  lacks-lines (Granted r p) h = (λ q. clash refl q, λ q. absurd q)
  lacks-lines (LoanLine u v r t) h = loan-lacks u v r t h
  lacks-lines (Open i u) h = (λ q. clash refl q, λ q. absurd q)
  lacks-lines (Place i x y) h = unplaced i h.0
  lacks-lines (Active i r) h = (
    λ q u m k.
        let o = open-line i u h.0 m in
        let small : u < 64 = subst (λ (x : ℕ). x < 64) o.1 (open-ranged s kept.accepted.unrefused i h.0 o.0).0 in
        let held : holds_role s (user_of s i) r ≡ true = rw o.1 ((held-lines u r small h.1).1 k) in
        clash (both_true (is_open s i) (holds_role s (user_of s i) r) o.0 held) q,
    λ n. not_so (is_open s i && holds_role s (user_of s i) r) (λ t.
        let b = both (is_open s i) (holds_role s (user_of s i) r) t in
        n (user_of s i) (line-open i h.0 b.0) ((held-lines (user_of s i) r (open-ranged s kept.accepted.unrefused i h.0 b.0).0 h.1).0 b.1)),
  )
  lacks-lines (Did o p u) h = (λ q. clash refl q, λ q. absurd q)
  lacks-lines (PlaceWithError i x y e) h = unplaced i h.0

  -- 51: by the lines of the state
  no-room-lines : (e : Entry) → (has_room s e ≡ false) ↔ NoRoom (lines_of s) e
  no-room-lines e =
      let counted : s.loans.count ≡ loan_lines (lines_of s) = ap (λ (l : Loans). l.count) kept.lending.filled ∙ count-stored (loans_of s) ∙ sym (loan-number s) in (
        λ q. let b = both (is_loan e) (leb 32 s.loans.count) (not-false _ q) in (b.0, omega (arith, counted, leb-true 32 s.loans.count b.1)),
        λ c. rw (c.0, le-leb 32 s.loans.count (omega (arith, counted, c.1))),
      )

-- nothing rests on no line
fresh-closed : (i : ℕ) → is_open fresh i ≡ false
unfolding fresh
fresh-closed i = ap (λ (v : Session). v.is_open) (same-everywhere 32 i closed_session)

fresh-unassigned : (u r : ℕ) → assigned_role fresh u r ≡ false
unfolding fresh
fresh-unassigned u r = rw (same-everywhere {A = ℕ} 64 u 0, member-empty r)

fresh-lacks : (e : Entry) → Ranged e → (rests fresh e ≡ false) ↔ Lacks [] e
unfolding rests
fresh-lacks (Now t) h = (λ q. clash refl q, λ q. absurd q)
fresh-lacks (Assigned u r) h = (λ q. clash refl q, λ q. absurd q)
fresh-lacks (Granted r p) h = (λ q. clash refl q, λ q. absurd q)
fresh-lacks (LoanLine u v r t) h = (λ q. inl (λ m. Memᴰ.not-nil m), λ n. rw (fresh-unassigned u r))
fresh-lacks (Open i u) h = (λ q. clash refl q, λ q. absurd q)
fresh-lacks (Place i x y) h = (λ q u m. Memᴰ.not-nil m, λ n. fresh-closed i)
fresh-lacks (Active i r) h = (λ q u m k. Memᴰ.not-nil m, λ n. rw (fresh-closed i))
fresh-lacks (Did o p u) h = (λ q. clash refl q, λ q. absurd q)
fresh-lacks (PlaceWithError i x y e) h = (λ q u m. Memᴰ.not-nil m, λ n. fresh-closed i)

-- a line lacks what it rests on exactly where no good line before it gives that
pub lacks-means : (es : List Entry) → GoodLines 0 fresh es → (e : Entry) → Ranged e → (rests (state_after fresh es) e ≡ false) ↔ Lacks es e
lacks-means [] good e h = fresh-lacks e h
lacks-means (x ∷ es) good e h =
    let left = good_left x es good in
    subst (λ (l : List Entry). (rests (state_after fresh (x ∷ es)) e ≡ false) ↔ Lacks l e) left.lines (lacks-lines (state_after fresh (x ∷ es)) left.kept e h)

-- a fresh state has room
fresh-no-room : (e : Entry) → (has_room fresh e ≡ false) ↔ NoRoom [] e
unfolding fresh loan_lines
fresh-no-room e = (λ q. clash (both (is_loan e) false (not-false _ q)).1 refl, λ c. absurd (omega (arith, c.1)))

-- a line is one too many exactly where it is a loan and 32 good lines before it are
pub no-room-means : (es : List Entry) → GoodLines 0 fresh es → (e : Entry) → (has_room (state_after fresh es) e ≡ false) ↔ NoRoom es e
no-room-means [] good e = fresh-no-room e
no-room-means (x ∷ es) good e =
    let left = good_left x es good in
    subst (λ (l : List Entry). (has_room (state_after fresh (x ∷ es)) e ≡ false) ↔ NoRoom l e) left.lines (no-room-lines (state_after fresh (x ∷ es)) left.kept e)

-- ---- the order

-- good lines ascend
next_grows : (es : List Entry) (k : ℕ) (s : State) → 1 ≤ k → GoodLines k s es → k ≤ next_rank k es
next_grows [] k s one good = omega arith
next_grows (e ∷ es) k s one good =
    let l = in_order_lem k e one good.1 in
    omega (arith, next_grows es (suc (rank e)) (with_line s e) (omega arith) good.4)

below_next : (es : List Entry) (k : ℕ) (s : State) → GoodLines k s es → (x : Entry) → Memᴰ x es → rank x < next_rank k es
below_next [] k s good x m = absurd (Memᴰ.not-nil m)
below_next (e ∷ es) k s good x m =
    ⊎_elim
    (λ q. rw q (next_grows es (suc (rank e)) (with_line s e) (omega arith) good.4))
    (λ t. below_next es (suc (rank e)) (with_line s e) good.4 x t)
    (Memᴰ.cases_cons m)

-- the last line's rank is 1 less than the next
last_line : (e : Entry) (es : List Entry) → (x : Entry) × Memᴰ x (e ∷ es) × (next_rank (suc (rank e)) es ≡ suc (rank x))
last_line e [] = (e, Memᴰ.head refl, refl)
last_line e (x ∷ es) = let t = last_line x es in (t.0, Memᴰ.tail t.1, t.2)

-- a line is out of order exactly where it is a first line other than `now`, or a line before it stands at its place or later
pub order-means : (es : List Entry) → GoodLines 0 fresh es → (e : Entry) → (in_order (next_rank 0 es) e ≡ false) ↔ Disordered es e
order-means [] good e = (
  λ q t same. clash (ap (λ (x : Entry). eqb (rank x) 0) same ∙ now-first t) q,
  λ n. ne_eqb (rank e) 0 (λ z. let t = first-now e z in n t.0 t.1),
)
  where
    now-first : (t : ℕ) → eqb (rank (Now t)) 0 ≡ true
    now-first t = eq-eqb (rank (Now t)) 0 (rank-now t)
order-means (x ∷ es) good e =
    let last = last_line x es in
    let some : next_rank (suc (rank x)) es ≡ 0 → ⊥ = λ z. omega (arith, last.2) in (
      λ q. (last.0, last.1, (let l = leb-false (next_rank (suc (rank x)) es) (rank e) (rw (ne_eqb (next_rank (suc (rank x)) es) 0 some) at q) in omega (arith, last.2))),
      λ t. rw (ne_eqb (next_rank (suc (rank x)) es) 0 some) (lt-leb (next_rank (suc (rank x)) es) (rank e) (omega (arith, t.2, below_next (x ∷ es) 0 fresh good t.0 t.1))),
    )

-- ---- good lines, one by one

-- good lines, and a line after them
split : (es : List Entry) (e : Entry) (later : List Entry) (k : ℕ) (s : State) → GoodLines k s (es ++ (e ∷ later))
    → GoodLines k s es × Ranged e × (in_order (next_rank k es) e ≡ true) × (rests (state_after s es) e ≡ true) × (has_room (state_after s es) e ≡ true)
split [] e later k s good = (tt, good.0, good.1, good.2, good.3)
split (x ∷ es) e later k s good =
    let t = split es e later (suc (rank x)) (with_line s x) good.4 in
    ((good.0, good.1, good.2, good.3, t.0), t.1, t.2, t.3, t.4)

-- one good line more
more : (es : List Entry) (e : Entry) (k : ℕ) (s : State) → GoodLines k s es → Ranged e → in_order (next_rank k es) e ≡ true → rests (state_after s es) e ≡ true
    → has_room (state_after s es) e ≡ true → GoodLines k s (es ++ (e ∷ []))
more [] e k s good h o r room = (h, o, r, room, tt)
more (x ∷ es) e k s good h o r room = (good.0, good.1, good.2, good.3, more es e (suc (rank x)) (with_line s x) good.4 h o r room)

next_more : (es : List Entry) (e : Entry) (k : ℕ) → next_rank k (es ++ (e ∷ [])) ≡ suc (rank e)
next_more [] e k = refl
next_more (x ∷ es) e k = next_more es e (suc (rank x))

after_more : (es : List Entry) (e : Entry) (s : State) → state_after s (es ++ (e ∷ [])) ≡ with_line (state_after s es) e
after_more [] e s = refl
after_more (x ∷ es) e s = after_more es e (with_line s x)

-- lines are good by the reader's tests exactly where each is good after those before it
pub good-means : (es : List Entry) → GoodLines 0 fresh es ↔ EachGood es
good-means es = (to, λ each. from [] es tt each)
  where
    to : GoodLines 0 fresh es → EachGood es
    to good earlier e later whole =
        let t = split earlier e later 0 fresh (subst (GoodLines 0 fresh) whole good) in
        record {
          ranged = t.1;
          ordered = λ d. clash t.2 ((order-means earlier t.0 e).1 d);
          rested = λ l. clash t.3 ((lacks-means earlier t.0 e t.1).1 l);
          room = λ c. clash t.4 ((no-room-means earlier t.0 e).1 c);
        }

    from : (done es : List Entry) → GoodLines 0 fresh done → EachGood (done ++ es) → GoodLines (next_rank 0 done) (state_after fresh done) es
    from done [] good each = tt
    from done (e ∷ es) good each =
        let this = each done e es refl in
        let o : in_order (next_rank 0 done) e ≡ true = by-test (in_order (next_rank 0 done) e) (λ q. q) (λ q. absurd (this.ordered ((order-means done good e).0 q))) in
        let r : rests (state_after fresh done) e ≡ true = by-test (rests (state_after fresh done) e) (λ q. q) (λ q. absurd (this.rested ((lacks-means done good e this.ranged).0 q))) in
        let room : has_room (state_after fresh done) e ≡ true = by-test (has_room (state_after fresh done) e) (λ q. q) (λ q. absurd (this.room ((no-room-means done good e).0 q))) in
        let rest = from (done ++ (e ∷ [])) es (more done e 0 fresh good this.ranged o r room) (subst⁻¹ EachGood (append_assoc done (e ∷ []) es) each) in
        (this.ranged, o, r, room, rw (← next_more done e 0, ← after_more done e fresh) rest)
