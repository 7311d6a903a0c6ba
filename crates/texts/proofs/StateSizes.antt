-- A saved state has at most 997,981 bytes, and one state has as many. Assumes nothing.
use mathlib.Core.Path.{◌≡◌, refl, sym, ap, ◌∙◌, subst}
use mathlib.Core.Bool.{Bool, true, false, cond, ◌&&◌}
use mathlib.Core.Logic.{⊎_elim}
use mathlib.Core.List.Memᴰ
use mathlib.Core.List.{List, [], ◌∷◌, ◌++◌, map, Memᴰ}
use Prim.Native.Nat.{ℕ, zero, suc, ◌+◌, ◌-◌, ◌*◌, ◌≤◌, ◌<◌}
use native.Mathlib.Nat.{le_trans, min-le_left}
use native.Mathlib.Omega.{arith}
use lib.ListN.{length, get_or, set, replicate, get_or-replicate, length-replicate, length-set, length-take}
use lib.Seq.{get_or-set_same, get_or-set_other}
use lib.Dec.{ltb, leb, eqb}
use lib.IntN.{ℤ, pos, negsuc}
use borrow.Author.Tests.{lt-ltb, le-ltb, ltb-true, ltb-false, lt-leb, leb-true}
use Rattle.sets.specs.Sets.{member, all}
use Rattle.sets.proofs.Bounded.{all_of, of-all}
use Rattle.sets.proofs.Booleans.{both, both_true, clash}
use Rattle.sets.proofs.Members.{member-empty}
use Rattle.places.specs.Places.{on_grid, point_in_range, position_in_range}
use Rattle.places.specs.declared.Point.{Point}
use Rattle.places.specs.declared.Position.{Position}
use Rattle.places.specs.declared.Position.TheVariants.{Unknown, Known}
use Rattle.rules.specs.Families.{word_at, has_role, session_at, permissions_of, users_who}
use Rattle.rules.specs.Acceptance.{every, list_accepted}
use Rattle.rules.specs.declared.families.Rule.{Rule}
use Rattle.rules.specs.declared.sessions.Session.{Session}
use Rattle.steps.specs.Steps.{is_time}
use Rattle.loans.specs.Loans.{key, loan_in_range, accepted_from, loans_accepted, stored}
use Rattle.loans.specs.declared.Loan.{Loan}
use Rattle.loans.proofs.Holding.{held-assigned}
use Rattle.loans.proofs.Storing.{length-stored, running-stored}
use Rattle.enforcement.specs.States.{assigned_role, loans_of, holds_role, carries, is_open, user_of, position_of, active_role, did, session_accepted, state_accepted}
use Rattle.enforcement.specs.Plain.{obeys}
use Rattle.enforcement.specs.Gate.{run_of}
use Rattle.enforcement.specs.Runs.{last_state}
use Rattle.enforcement.specs.Reached.{Typed, Held, Lending, Good}
use Rattle.enforcement.specs.declared.states.State.{State}
use Rattle.forms.specs.Numbers.{digits_of, digits_within, signed_of, signed_code}
use Rattle.forms.proofs.Puts.{digits-length}
use Rattle.rule_text.specs.Lines.{right_text, rights_text, list_text}
use Rattle.rule_text.specs.Reading.{no_rights, list_of}
use Rattle.rule_text.proofs.Slots.{rules-of-list, list-accepted, none-good}
use Rattle.state_text.specs.Entries.{line_text}
use Rattle.state_text.specs.Saving.{over, only, loan_line, place_line, place_lines, session_lines, lines_of, saved_text}
use Rattle.state_text.specs.Parts.{width}
use Rattle.state_text.specs.declared.entries.Entry.{Entry}
use Rattle.state_text.specs.declared.entries.Entry.TheVariants.{Now, Assigned, Granted, Open, Place, Active, Did, PlaceWithError}
use Rattle.state_text.proofs.JoinedLines.{text-none, text-one}
use Rattle.state_text.proofs.LineSizes.{digits-width, width-most, now-bytes, place-bytes, error-bytes, assigned-size, granted-size, loan-size, open-size, active-size, did-size}
use Rattle.state_text.proofs.Keeping.{time-accepted, open-ranged, position-ranged}
use Rattle.state_text.proofs.RoundTrips.{good-back}
use Rattle.texts.specs.Sizes.{farthest, longest_loan, longest_loans, fullest}
use Rattle.texts.specs.SavedRuns.{holding, state_under, load_texts, refused_report, saved_report, copy_report}
use Rattle.texts.specs.Causes.{RulesThen, RunRefused, short_state}
use Rattle.texts.specs.declared.saved_runs.Text.TheVariants as Text
use Rattle.texts.proofs.LineSums.{bytes_of, bytes-append, widths-32, widths-64, Summing, at_most, exactly, to, over-sum, joined, only-most, over-longer}
use Rattle.texts.proofs.AssignedSizes.{user_lines, assigned_lines, user-sum, assigned-sum}
use Rattle.texts.proofs.LoanSizes.{Borrowing, lent-most}
use Rattle.texts.proofs.SavedRunning.{last-accepted, last-lending}
use Rattle.texts.proofs.SavedCauses.{load-state, start-good}

-- ---- the bytes of all lines, at most or exactly

module _ (R : ℕ → ℕ → Type 0) (summing : Summing R) where
  record LinesSized (s : State) : Type 0 where
    now : R (bytes_of (Now s.time ∷ [])) 17
    lent : R (bytes_of (assigned_lines (assigned_role s)) + bytes_of (map loan_line (loans_of s))) 34176
    granted : (r p : ℕ) → r < 32 → p < 32 → R (bytes_of (only (carries s r p) (Granted r p))) (12 + (width r + width p))
    opened : (i : ℕ) → i < 32 → R (bytes_of (only (is_open s i) (Open i (user_of s i)))) (11 + width i)
    placed : (i : ℕ) → i < 32 → R (bytes_of (place_lines i (position_of s i))) (32 + width i)
    activated : (i r : ℕ) → i < 32 → r < 32 → R (bytes_of (only (active_role s i r) (Active i r))) (11 + (width i + width r))
    done : (o p u : ℕ) → o < 32 → p < 32 → u < 64 → R (bytes_of (only (did s o p u) (Did o p u))) (9 + (width o + (width p + width u)))

  module _ (s : State) (lines : LinesSized s) where
    all-granted : R (bytes_of (over 32 (λ r. over 32 (λ p. only (carries s r p) (Granted r p))))) 15744
    all-granted =
        to R summing (omega (arith, widths-32))
        (over-sum R summing 32 438 32 (λ r. over 32 (λ p. only (carries s r p) (Granted r p)))
        (λ r hr. to R summing (omega (arith, widths-32))
        (over-sum R summing 32 (12 + width r) 1 (λ p. only (carries s r p) (Granted r p)) (λ p hp. to R summing (omega arith) (lines.granted r p hr hp)))))

    one-session : (i : ℕ) → i < 32 → R (bytes_of (session_lines s i)) (449 + 34 * width i)
    unfolding session_lines
    one-session i h =
        to R summing (omega (arith, widths-32))
        (joined R summing (only (is_open s i) (Open i (user_of s i))) _ (lines.opened i h)
        (joined R summing (place_lines i (position_of s i)) _ (lines.placed i h)
        (over-sum R summing 32 (11 + width i) 1 (λ r. only (active_role s i r) (Active i r)) (λ r hr. to R summing (omega arith) (lines.activated i r h hr)))))

    all_done : R (bytes_of (over 32 (λ o. over 32 (λ p. over 64 (λ u. only (did s o p u) (Did o p u)))))) 931840
    all_done =
        to R summing (omega (arith, widths-32))
        (over-sum R summing 32 25664 2048 (λ o. over 32 (λ p. over 64 (λ u. only (did s o p u) (Did o p u))))
        (λ o ho. to R summing (omega (arith, widths-32))
        (over-sum R summing 32 (64 * (9 + width o) + 118) 64 (λ p. over 64 (λ u. only (did s o p u) (Did o p u)))
        (λ p hp. to R summing (omega (arith, widths-64))
        (over-sum R summing 64 (9 + (width o + width p)) 1 (λ u. only (did s o p u) (Did o p u)) (λ u hu. to R summing (omega arith) (lines.done o p u ho hp hu)))))))

    -- the lines of assigned roles and of loans are counted together
    lent-first : (a b c d e : List Entry) → bytes_of (a ++ (b ++ (c ++ (d ++ e)))) ≡ (bytes_of b + bytes_of d) + bytes_of (a ++ (c ++ e))
    lent-first a b c d e = simp bytes-append (omega arith)

    state-sum : R (length (saved_text s)) 997981
    unfolding saved_text lines_of
    state-sum =
        let granted = over 32 (λ r. over 32 (λ p. only (carries s r p) (Granted r p))) in
        rw (lent-first (Now s.time ∷ []) (assigned_lines (assigned_role s)) granted (map loan_line (loans_of s)) _)
        (to R summing (omega (arith, widths-32))
        (summing.add _ _ _ _ lines.lent
        (joined R summing (Now s.time ∷ []) _ lines.now
        (joined R summing granted _ all-granted
        (joined R summing (over 32 (session_lines s)) _ (over-sum R summing 32 449 34 (session_lines s) one-session) all_done)))))

-- ---- enough

coordinate-most : (z : ℤ) → on_grid z ≡ true → length (signed_of (signed_code z)) ≤ 8
unfolding signed_of signed_code
coordinate-most (pos n) h =
    let l = leb-true n 1000000 h in
    rw (le-ltb 10000000000 n (omega arith)) (omega (arith, digits-length 6 n (omega arith)))
coordinate-most (negsuc n) h =
    let l = leb-true (suc n) 1000000 h in
    let e : 10000000001 + n - 10000000000 ≡ suc n = omega arith in
    rw (lt-ltb 10000000000 (10000000001 + n) (omega arith), e) (omega (arith, digits-length 6 (suc n) (omega arith)))

place-line-most : (i : ℕ) (point : Point) → i < 32 → point_in_range point ≡ true → length (line_text (place_line i point)) ≤ 32 + width i
unfolding point_in_range place_line
place-line-most i point l h = go (eqb point.error 0)
  where
    parts : ((on_grid point.x && on_grid point.y) ≡ true) × (leb point.error 1000 ≡ true)
    parts = both (on_grid point.x && on_grid point.y) (leb point.error 1000) h

    across : length (signed_of (signed_code point.x)) ≤ 8
    across = coordinate-most point.x (both (on_grid point.x) (on_grid point.y) parts.0).0

    up : length (signed_of (signed_code point.y)) ≤ 8
    up = coordinate-most point.y (both (on_grid point.x) (on_grid point.y) parts.0).1

    error : length (digits_of point.error) ≤ 4
    error = let most = leb-true point.error 1000 parts.1 in digits-length 3 point.error (omega arith)

    go : (b : Bool) → length (line_text (cond b (Place i point.x point.y) (PlaceWithError i point.x point.y point.error))) ≤ 32 + width i
    go true = omega (arith, place-bytes i point.x point.y, digits-width i (omega arith), across, up)
    go false = omega (arith, error-bytes i point.x point.y point.error, digits-width i (omega arith), across, up, error)

place-most : (i : ℕ) (p : Position) → i < 32 → position_in_range p ≡ true → bytes_of (place_lines i p) ≤ 32 + width i
unfolding position_in_range
place-most i Unknown l h = rw text-none (omega arith)
place-most i (Known point) l h = rw (text-one (place_line i point)) (place-line-most i point l h)

module _ (s : State) (accepted : state_accepted s ≡ true) where
  loans-accepted : loans_accepted s.loans ≡ true
  unfolding state_accepted
  loans-accepted =
      let each = all 32 (λ i. session_accepted (session_at s.sessions i) (word_at s.active i)) in
      (both (loans_accepted s.loans) each (both (is_time s.time) (loans_accepted s.loans && each) accepted).1).0

  loans-most : (length (loans_of s) ≤ 32) × (accepted_from 0 (loans_of s) ≡ true)
  unfolding loans_accepted
  loans-most =
      let parts = both (leb s.loans.count 32) (accepted_from 0 (loans_of s)) loans-accepted in
      let taken : length (loans_of s) ≤ s.loans.count = rw (length-take s.loans.count s.loans.entries) (min-le_left s.loans.count (length s.loans.entries)) in
      (le_trans taken (leb-true s.loans.count 32 parts.0), parts.1)

  -- no state that 40 does not refuse, and whose loans run as they were lent, has a longer text
  pub state-most : Lending s → length (saved_text s) ≤ 997981
  state-most lending =
      let borrowing : Borrowing (assigned_role s) (loans_of s) = record { unassigned = lending.borrowed; single = lending.single } in
      state-sum (λ a b. a ≤ b) at_most s
      (record {
        now = rw (text-one (Now s.time)) (omega (arith, now-bytes s.time, digits-length 9 s.time (omega (arith, time-accepted s accepted))));
        lent = omega (arith, lent-most (assigned_role s) 0 (loans_of s) loans-most.1 borrowing, loans-most.0);
        granted = λ r p hr hp. only-most (carries s r p) (Granted r p) (λ e. omega (arith, granted-size r p (omega arith) (omega arith)));
        opened = λ i h. only-most (is_open s i) (Open i (user_of s i)) (λ e. let user = (open-ranged s accepted i h e).0 in omega (arith, open-size i (user_of s i) (omega arith) (omega arith), width-most (user_of s i)));
        placed = λ i h. place-most i (position_of s i) h (position-ranged s accepted i h);
        activated = λ i r h hr. only-most (active_role s i r) (Active i r) (λ e. omega (arith, active-size i r (omega arith) (omega arith)));
        done = λ o p u ho hp hu. only-most (did s o p u) (Did o p u) (λ e. omega (arith, did-size o p u (omega arith) (omega arith) (omega arith)));
      })

-- so that a space of that size for the state after steps is never refused
pub state-room : (rules saved text : List ℕ) (answers_room state_room : ℕ) → 997981 ≤ state_room → (number place : ℕ)
    → RunRefused rules saved text answers_room state_room Text.StateSpace number place → ⊥
state-room rules saved text answers_room state_room h number place (short_state list s given r fits long) =
    let start = start-good rules saved text r in
    let accepted = (last-accepted list s given start.accepted).unrefused in
    omega (arith, state-most (last_state s (run_of list s given)) accepted (last-lending list s given start.accepted start.lending))

-- ---- and least

every-role : (r : ℕ) → r < 32 → member 4294967295 r ≡ true
unfolding member all
every-role r h = of-all 32 (member 4294967295) refl r h

every-user : (u : ℕ) → u < 64 → member 18446744073709551615 u ≡ true
unfolding member all
every-user u h = of-all 64 (member 18446744073709551615) refl u h

only-line : (b : Bool) (e : Entry) {n : ℕ} → b ≡ true → length (line_text e) ≡ n → bytes_of (only b e) ≡ n
only-line true e t h = rw (text-one e) h
only-line false e t h = absurd (let differ : ◌≡◌ {A = ℕ} 0 1 = cc in omega arith)

coordinate-long : length (signed_of (signed_code (negsuc 999999))) ≡ 8
unfolding signed_of signed_code digits_of digits_within
coordinate-long = refl

error-long : length (digits_of 1000) ≡ 4
unfolding digits_of digits_within
error-long = refl

time-long : length (digits_of 3155759999) ≡ 10
unfolding digits_of digits_within
time-long = refl

width-62 : width 62 ≡ 2
unfolding width
width-62 = refl

width-63 : width 63 ≡ 2
unfolding width
width-63 = refl

full-time : length (digits_of fullest.time) ≡ 10
unfolding fullest digits_of digits_within
full-time = refl

-- ---- its assigned roles and its loans

-- user 62 is assigned none, any other user what he would be with all roles assigned
word-62 : word_at fullest.assigned 62 ≡ 0
unfolding fullest
word-62 = get_or-set_same {A = ℕ} (replicate 64 4294967295) 62 0 0 (omega (arith, length-replicate {A = ℕ} 64 4294967295))

word-other : (u : ℕ) → (u ≡ 62 → ⊥) → word_at fullest.assigned u ≡ word_at (replicate 64 4294967295) u
unfolding fullest
word-other u n = get_or-set_other {A = ℕ} (replicate 64 4294967295) 62 u 0 0 n

all-assigned : (u r : ℕ) → u < 64 → r < 32 → has_role (replicate 64 4294967295) u r ≡ true
all-assigned u r hu hr = rw (get_or-replicate {A = ℕ} 64 u 4294967295 0 hu) (every-role r hr)

full-line : (u r : ℕ) → u < 64 → r < 32 → bytes_of (only (has_role (replicate 64 4294967295) u r) (Assigned u r)) ≡ 13 + (width u + width r)
full-line u r hu hr = only-line (has_role (replicate 64 4294967295) u r) (Assigned u r) (all-assigned u r hu hr) (assigned-size u r (omega arith) (omega arith))

none-62 : bytes_of (user_lines (assigned_role fullest 62) 62) ≡ 0
none-62 =
    over-sum (λ a b. a ≡ b) exactly 32 0 0 (λ r. only (assigned_role fullest 62 r) (Assigned 62 r))
    (λ r l. let none : assigned_role fullest 62 r ≡ false = ap (λ (set : ℕ). member set r) word-62 ∙ member-empty r in rw (none, text-none) (omega arith))
    ∙ omega arith

all-62 : bytes_of (user_lines (has_role (replicate 64 4294967295) 62) 62) ≡ bytes_of (user_lines (assigned_role fullest 62) 62) + 534
all-62 = rw none-62 (user-sum (λ a b. a ≡ b) exactly (has_role (replicate 64 4294967295)) 62 (λ r l. full-line 62 r (omega arith) l) ∙ omega (arith, width-62))

full-assigned : bytes_of (assigned_lines (assigned_role fullest)) + 534 ≡ 33856
full-assigned =
    sym (over-longer 64 62 534 (λ u. user_lines (assigned_role fullest u) u) (λ u. user_lines (has_role (replicate 64 4294967295) u) u) (omega arith)
    (λ u n. ap (λ (set : ℕ). user_lines (member set) u) (sym (word-other u n))) all-62)
    ∙ assigned-sum (λ a b. a ≡ b) exactly (has_role (replicate 64 4294967295)) full-line

full-loans : loans_of fullest ≡ longest_loans
unfolding fullest longest_loans over
full-loans = running-stored longest_loans (omega arith)

loan-lines : map loan_line longest_loans ≡ over 32 (λ r. loan_line (longest_loan r) ∷ [])
unfolding longest_loans over
loan-lines = refl

full-lent : bytes_of (map loan_line (loans_of fullest)) ≡ 854
full-lent =
    rw (full-loans, loan-lines)
    (over-sum (λ a b. a ≡ b) exactly 32 25 1 (λ r. loan_line (longest_loan r) ∷ [])
    (λ r l. rw (text-one (loan_line (longest_loan r))) (loan-size 63 62 r 3155759999 (omega arith) (omega arith) (omega arith) ∙ omega (arith, width-62, width-63, time-long)))
    ∙ omega (arith, widths-32))

-- ---- its other lines

full-open : (session : Session) → session ≡ farthest → (i : ℕ) → i < 32 → bytes_of (only session.is_open (Open i session.user)) ≡ 11 + width i
full-open session e i h = rw (e, text-one (Open i 63)) (open-size i 63 (omega arith) (omega arith) ∙ omega (arith, width-63))

full-place : (session : Session) → session ≡ farthest → (i : ℕ) → i < 32 → bytes_of (place_lines i session.position) ≡ 32 + width i
unfolding place_line
full-place session e i h =
    rw (e, text-one (PlaceWithError i (negsuc 999999) (negsuc 999999) 1000)) (error-bytes i (negsuc 999999) (negsuc 999999) 1000 ∙ omega (arith, digits-width i (omega arith), coordinate-long, error-long))

module _ where
  full-session : (i : ℕ) → i < 32 → session_at fullest.sessions i ≡ farthest
  unfolding fullest
  full-session i h = get_or-replicate 32 i farthest _ h

  full-carries : (r p : ℕ) → r < 32 → p < 32 → carries fullest r p ≡ true
  unfolding fullest permissions_of
  full-carries r p hr hp = rw (lt-ltb r 32 hr, get_or-replicate {A = ℕ} 32 r 4294967295 0 hr) (every-role p hp)

  full-active : (i r : ℕ) → i < 32 → r < 32 → active_role fullest i r ≡ true
  unfolding fullest
  full-active i r hi hr = rw (get_or-replicate {A = ℕ} 32 i 4294967295 0 hi) (every-role r hr)

  full-did : (o p u : ℕ) → o < 32 → p < 32 → u < 64 → did fullest o p u ≡ true
  unfolding fullest users_who
  full-did o p u ho hp hu = rw (lt-ltb p 32 hp, get_or-replicate {A = ℕ} 1024 (o * 32 + p) 18446744073709551615 0 (omega arith)) (every-user u hu)

-- its text has as many bytes
pub fullest-text : length (saved_text fullest) ≡ 997981
fullest-text =
    state-sum (λ a b. a ≡ b) exactly fullest
    (record {
      now = rw (text-one (Now fullest.time)) (now-bytes fullest.time ∙ ap (λ (n : ℕ). 7 + n) full-time);
      lent = omega (arith, full-assigned, full-lent);
      granted = λ r p hr hp. only-line (carries fullest r p) (Granted r p) (full-carries r p hr hp) (granted-size r p (omega arith) (omega arith));
      opened = λ i h. full-open (session_at fullest.sessions i) (full-session i h) i h;
      placed = λ i h. full-place (session_at fullest.sessions i) (full-session i h) i h;
      activated = λ i r h hr. only-line (active_role fullest i r) (Active i r) (full-active i r h hr) (active-size i r (omega arith) (omega arith));
      done = λ o p u ho hp hu. only-line (did fullest o p u) (Did o p u) (full-did o p u ho hp hu) (did-size o p u (omega arith) (omega arith) (omega arith));
    })

-- ---- it is a saved state

-- 40 does not refuse it
pub fullest-accepted : state_accepted fullest ≡ true
unfolding state_accepted session_accepted position_in_range point_in_range
fullest-accepted =
    both_true (leb fullest.time 3155759999) _ (unfold fullest in refl)
    (both_true (loans_accepted fullest.loans) _ (unfold fullest loans_accepted accepted_from loan_in_range key stored longest_loans over in refl)
    (all_of 32 (λ i. session_accepted (session_at fullest.sessions i) (word_at fullest.active i)) (λ i h. rw (full-session i h))))

-- each of its loans is of a role by user 63 to user 62
loan-of : (n : ℕ) (loan : Loan) → Memᴰ loan (over n (λ r. longest_loan r ∷ [])) → (r : ℕ) × (r < n) × (loan ≡ longest_loan r)
unfolding over
loan-of zero loan m = absurd (Memᴰ.not-nil m)
loan-of (suc n) loan m =
    ⊎_elim
    (λ m. let there = loan-of n loan m in (there.0, omega (arith, there.1), there.2))
    (λ m. (n, omega arith, Memᴰ.eq_of_singleton m))
    (Memᴰ.append_cases (over n (λ r. longest_loan r ∷ [])) m)

full-loan : (loan : Loan) → Memᴰ loan (loans_of fullest) → (r : ℕ) × (r < 32) × (loan ≡ longest_loan r)
unfolding longest_loans
full-loan loan m = loan-of 32 loan (subst (Memᴰ loan) full-loans m)

word-63 : word_at fullest.assigned 63 ≡ 4294967295
word-63 = word-other 63 (λ e. omega arith) ∙ get_or-replicate {A = ℕ} 64 63 4294967295 0 (omega arith)

fullest-lending : Lending fullest
fullest-lending =
    record {
      unended = λ loan m. let there = full-loan loan m in rw there.2 (unfold fullest in omega arith);
      lent = λ loan m. let there = full-loan loan m in rw (there.2, word-63) (every-role there.0 there.1);
      borrowed = λ loan m. let there = full-loan loan m in rw (there.2, word-62) (member-empty there.0);
      single = λ loan other m n borrower role.
          let one = full-loan loan m in
          let two = full-loan other n in
          let same : one.0 ≡ two.0 = sym (ap (λ (l : Loan). l.role) one.2) ∙ role ∙ ap (λ (l : Loan). l.role) two.2 in
          one.2 ∙ ap longest_loan same ∙ sym two.2;
      filled = unfold fullest in ap stored (sym full-loans);
    }

word_small : (n i x : ℕ) {m : ℕ} → x < m → get_or (replicate n x) i 0 < m
word_small zero i x h = omega arith
word_small (suc n) zero x h = h
word_small (suc n) (suc i) x h = word_small n i x h

set-small : (l : List ℕ) (i j x : ℕ) {m : ℕ} → x < m → get_or l j 0 < m → get_or (set l i x) j 0 < m
set-small [] i j x h k = k
set-small (y ∷ l) zero zero x h k = h
set-small (y ∷ l) zero (suc j) x h k = k
set-small (y ∷ l) (suc i) zero x h k = k
set-small (y ∷ l) (suc i) (suc j) x h k = set-small l i j x h k

fullest-typed : Typed fullest
unfolding fullest
fullest-typed =
    record {
      users = length-set {A = ℕ} (replicate 64 4294967295) 62 0 ∙ length-replicate {A = ℕ} 64 4294967295;
      roles = length-replicate {A = ℕ} 32 4294967295;
      all_loans = length-stored longest_loans;
      all_sessions = length-replicate 32 farthest;
      actives = length-replicate {A = ℕ} 32 4294967295;
      records = length-replicate {A = ℕ} 1024 18446744073709551615;
      small_assigned = λ u. set-small (replicate 64 4294967295) 62 u 0 (omega arith) (word_small 64 u 4294967295 (omega arith));
      small_granted = λ r. word_small 32 r 4294967295 (omega arith);
      small_active = λ i. word_small 32 i 4294967295 (omega arith);
      small_history = λ k. word_small 1024 k 18446744073709551615 (omega arith);
    }

word-past : (n i x : ℕ) → n ≤ i → get_or (replicate n x) i 0 ≡ 0
word-past zero i x h = refl
word-past (suc n) zero x h = absurd (omega arith)
word-past (suc n) (suc i) x h = word-past n i x (omega arith)

full-words : (i : ℕ) → i < 32 → word_at fullest.assigned 63 ≡ word_at fullest.active i
full-words i h = word-63 ∙ sym (unfold fullest in get_or-replicate {A = ℕ} 32 i 4294967295 0 h)

no_word : (i : ℕ) → 32 ≤ i → word_at fullest.active i ≡ 0
unfolding fullest
no_word i h = word-past 32 i 4294967295 h

fullest-held : Held fullest
fullest-held i r e = go (ltb i 32) refl
  where
    go : (b : Bool) → ltb i 32 ≡ b → holds_role fullest (user_of fullest i) r ≡ true
    go true q =
        let below = ltb-true i 32 q in
        let user : user_of fullest i ≡ 63 = ap (λ (session : Session). session.user) (full-session i below) in
        let same : word_at fullest.assigned 63 ≡ word_at fullest.active i = full-words i below in
        rw user (held-assigned fullest.assigned (loans_of fullest) 63 r (rw same e))
    go false q = let past : word_at fullest.active i ≡ 0 = no_word i (ltb-false i 32 q) in clash (rw past at e) (member-empty r)

fullest-good : Good (list_of no_rights []) fullest
fullest-good =
    record {
      accepted = record { typed = fullest-typed; unrefused = fullest-accepted };
      held = fullest-held;
      lending = fullest-lending;
      obeyed = ap (λ (rules : List Rule). obeys rules fullest) (rules-of-list no_rights [] (omega arith)) ∙ unfold every in refl;
    }

-- under no rights and no rules it is a saved state, and a space that is shorter by a byte is too short for it
pub state-least : (room : ℕ) → room < 997981 → copy_report (load_texts [] (saved_text fullest)) room ≡ refused_report Text.StateSpace 18 997981
unfolding copy_report saved_report
state-least room h =
    let then : RulesThen [] no_rights [] [] = record { good = none-good; reads = unfold no_rights rights_text right_text list_text in refl } in
    let listed : list_accepted (list_of no_rights []) ≡ true = list-accepted no_rights [] none-good in
    let there : load_texts [] (saved_text fullest) ≡ holding (list_of no_rights []) fullest =
    load-state [] (saved_text fullest) no_rights [] then ∙ ap (state_under (list_of no_rights [])) (good-back (list_of no_rights []) listed fullest fullest-good) ∙ unfold state_under in refl in
    rw (there, fullest-text, lt-leb 997981 room h)
