-- The loop of the reader: what is left to be read, from the state and the line that it is at.
-- Assumes nothing.
use mathlib.Core.Path.{◌≡◌, refl, sym, ap, ◌∙◌, subst}
use mathlib.Core.Bool.{Bool, true, false, cond}
use mathlib.Core.List.{List, [], ◌∷◌, ◌++◌}
use Prim.Native.Nat.{ℕ, suc, ◌+◌, ◌-◌, ◌≤◌, ◌<◌}
use native.Mathlib.Numerals.{add-one}
use native.Mathlib.Omega.{arith}
use lib.Dec.{eqb}
use lib.ListN.{length, take, drop, length-append}
use borrow.Author.Tests.{eqb-true, leb-true}
use Rattle.forms.proofs.Turns.{rest}
use Rattle.rules.specs.Acceptance.{rules_of, list_accepted}
use Rattle.rules.specs.declared.lists.RuleList.{RuleList}
use Rattle.std.specs.Prelude.{Option, Some, None, Result, Ok, Err}
use Rattle.rules.specs.Lowest.{lowest}
use Rattle.loans.specs.Loans.{loan_of, held_with}
use Rattle.loans.proofs.Storing.{stored-again, stored-none, count-stored}
use Rattle.enforcement.specs.States.{fresh, loans_of, held_roles, rule_holds}
use Rattle.enforcement.specs.declared.states.State.{State}
use Rattle.state_text.specs.Entries.{form_of, line_text, rank, in_order, with_line, rests, has_room}
use Rattle.state_text.specs.Refusals.{line_number, number_of, place_of}
use Rattle.state_text.specs.Reading.{read_line, entry_in, length_in, Loading, loaded, refused, line_verdict, read_from, read_lines, read_state, outcome}
use Rattle.state_text.specs.Causes.{Ranged}
use Rattle.state_text.specs.Parts.{AsStored, BeforeLoans, checked_line}
use Rattle.forms.specs.Refusals.{numbered}
use Rattle.state_text.specs.declared.causes.LineRefusal.{LineRefusal}
use Rattle.state_text.specs.declared.causes.Refusal.{Refusal}
use Rattle.state_text.specs.declared.entries.Entry.{Entry}
use Rattle.state_text.specs.declared.entries.Entry.TheVariants.{Now, Assigned, Granted, Loan as LoanLine, Open, Place, Active, Did, PlaceWithError}
use Rattle.state_text.specs.declared.reading.Parsed.{Parsed}
use Rattle.state_text.proofs.Values.{line-some}
use Rattle.state_text.proofs.Cells.{room-left}
use Rattle.state_text.proofs.LineTexts.{GoodLine, Answers, read-answers}
use Rattle.state_text.proofs.Refusals.{read_step, read-end, read_whole}
use Rattle.state_text.proofs.Rows.{unequal, by-test}

-- ---- a line that was checked

-- a good one passed each check
record Passed (next : ℕ) (s : State) (r : Result Parsed ℕ) (p : Parsed) : Type 0 where
  read : r ≡ Ok p
  ordered : in_order next p.entry ≡ true
  rested : rests s p.entry ≡ true
  room : has_room s p.entry ≡ true

checked-good : (next : ℕ) (s : State) (r : Result Parsed ℕ) (p : Parsed) → checked_line next s r ≡ Ok p → Passed next s r p
checked-good next s (Err number) p h = unequal cc
checked-good next s (Ok q) p h = go (in_order next q.entry) refl (rests s q.entry) refl (has_room s q.entry) refl h
  where
    go : (x : Bool) → in_order next q.entry ≡ x → (y : Bool) → rests s q.entry ≡ y → (z : Bool) → has_room s q.entry ≡ z
        → cond {A = Result Parsed ℕ} x (cond y (cond z (Ok q) (Err 51)) (Err 16)) (Err 15) ≡ Ok p → Passed next s (Ok q) p
    go true x true y true z h = let same : q ≡ p = cc in subst (Passed next s (Ok q)) same (record { read = refl; ordered = x; rested = y; room = z })
    go true x true y false z h = unequal cc
    go true x false y z e h = unequal cc
    go false x y e z f h = unequal cc

-- and what is refused of a bad one is refused of the text
checked-bad : (n next : ℕ) (s : State) (r : Result Parsed ℕ) (later : Loading) (number : ℕ) → checked_line next s r ≡ Err number → line_verdict n next s r later ≡ refused number n
checked-bad n next s (Err k) later number h = let same : k ≡ number = cc in rw same
checked-bad n next s (Ok q) later number h = go (in_order next q.entry) (rests s q.entry) (has_room s q.entry) h
  where
    go : (x y z : Bool) → cond {A = Result Parsed ℕ} x (cond y (cond z (Ok q) (Err 51)) (Err 16)) (Err 15) ≡ Err number
        → cond x (cond y (cond z later (refused 51 n)) (refused 16 n)) (refused 15 n) ≡ refused number n
    go true true true h = unequal cc
    go true true false h = let same : 51 ≡ number = cc in rw same
    go true false z h = let same : 16 ≡ number = cc in rw same
    go false y z h = let same : 15 ≡ number = cc in rw same

-- a line that is not the first stands past the last
stands-past : (next : ℕ) (e : Entry) → in_order next e ≡ true → next ≤ rank e
stands-past next e h = by-test (eqb next 0) (λ q. omega (arith, eqb-true next 0 q)) (λ q. leb-true next (rank e) (rw q at h))

-- ---- the loans after a line

loans-filled : (s : State) (e : Entry) → AsStored s → s.loans.count ≤ 32 → has_room s e ≡ true → AsStored (with_line s e) × ((with_line s e).loans.count ≤ 32)
unfolding with_line
loans-filled s (Now t) filled few room = (filled, few)
loans-filled s (Assigned u r) filled few room = (filled, few)
loans-filled s (Granted r p) filled few room = (filled, few)
loans-filled s (LoanLine u v r t) filled few room =
    let more : length (loans_of s ++ (loan_of u v r t ∷ [])) ≤ 32 = rw (length-append (loans_of s) (loan_of u v r t ∷ [])) (omega (arith, room-left s u v r t room)) in
    (sym (stored-again (loans_of s ++ (loan_of u v r t ∷ [])) more), rw (count-stored (loans_of s ++ (loan_of u v r t ∷ []))) more)
loans-filled s (Open i u) filled few room = (filled, few)
loans-filled s (Place i x y) filled few room = (filled, few)
loans-filled s (Active i r) filled few room = (filled, few)
loans-filled s (Did o p u) filled few room = (filled, few)
loans-filled s (PlaceWithError i x y e) filled few room = (filled, few)

-- none is lent before the first loan's rank
module _ (next : ℕ) (s : State) (unlent : next ≤ 3073 → loans_of s ≡ []) where
  still-unlent : (e : Entry) → next ≤ rank e → rank e + 1 ≤ 3073 → loans_of (with_line s e) ≡ []
  unfolding rank with_line
  still-unlent (Now t) past low = unlent (omega arith)
  still-unlent (Assigned u r) past low = unlent (omega arith)
  still-unlent (Granted r p) past low = unlent (omega arith)
  still-unlent (LoanLine u v r t) past low = absurd (omega arith)
  still-unlent (Open i u) past low = absurd (omega arith)
  still-unlent (Place i x y) past low = absurd (omega arith)
  still-unlent (Active i r) past low = absurd (omega arith)
  still-unlent (Did o p u) past low = absurd (omega arith)
  still-unlent (PlaceWithError i x y e) past low = absurd (omega arith)

  assigned-first : (e : Entry) → Ranged e → next ≤ rank e → BeforeLoans s e
  unfolding rank form_of
  assigned-first (Now t) h past form = absurd (omega arith)
  assigned-first (Assigned u r) h past form = unlent (omega (arith, h.0, h.1))
  assigned-first (Granted r p) h past form = absurd (omega arith)
  assigned-first (LoanLine u v r t) h past form = absurd (omega arith)
  assigned-first (Open i u) h past form = absurd (omega arith)
  assigned-first (Place i x y) h past form = absurd (omega arith)
  assigned-first (Active i r) h past form = absurd (omega arith)
  assigned-first (Did o p u) h past form = absurd (omega arith)
  assigned-first (PlaceWithError i x y e) h past form = absurd (omega arith)

-- ---- the loop

pub record Unread (text : List ℕ) (s : State) (t : List ℕ) (n next : ℕ) : Type 0 where
  pub bound : ℕ
  pub enough : length t ≤ bound
  pub lines : n + length t ≤ length text + 1
  pub filled : AsStored s
  pub few : s.loans.count ≤ 32
  -- before the first loan's rank there is none
  pub unlent : next ≤ 3073 → loans_of s ≡ []
  pub same : read_lines text ≡ read_from bound n next s t

-- a good line at the front of what is left
pub record Line (text : List ℕ) (s : State) (t : List ℕ) (n next : ℕ) (p : Parsed) : Type 0 where
  pub ranged : Ranged p.entry
  pub within : p.length ≤ length t
  pub less : length (take (length t - p.length) (drop p.length t)) < length t
  pub room : has_room s p.entry ≡ true
  pub before : BeforeLoans s p.entry
  pub turn : {s' : State} {r : ℕ} → s' ≡ with_line s p.entry → r ≡ rank p.entry → Unread text s' (take (length t - p.length) (drop p.length t)) (n + 1) (suc r)

pub start : (text : List ℕ) {s : State} → 0 < length text → s ≡ fresh → Unread text s text 1 0
unfolding fresh
start text h e = record {
  bound = length text;
  enough = omega arith;
  lines = omega arith;
  filled = rw e stored-none;
  few = rw e (omega arith);
  unlent = λ l. rw e;
  same = rw e (read_whole text h);
}

-- nothing is lent in it
pub fresh_held : {s : State} → s ≡ fresh → held_roles s ≡ s.assigned
unfolding fresh held_with
fresh_held e = rw e

pub none : (text : List ℕ) → length text ≤ 0 → refused 10 1 ≡ read_lines text
unfolding read_lines
none [] h = refl
none (c ∷ t) h = absurd (omega arith)

module _ {text : List ℕ} {s : State} {t : List ℕ} {n next : ℕ} (left : Unread text s t n next) where
  pub end : length t ≤ 0 → loaded s ≡ read_lines text
  end h = sym (left.same ∙ empty t h)
    where
      empty : (t : List ℕ) → length t ≤ 0 → read_from left.bound n next s t ≡ loaded s
      empty [] h = read-end left.bound n next s
      empty (c ∷ t) h = absurd (omega arith)

  later : Loading
  later = read_from (left.bound - 1) (suc n) (suc (rank (entry_in (read_line t)))) (with_line s (entry_in (read_line t))) (drop (length_in (read_line t)) t)

  here : 0 < length t → read_lines text ≡ line_verdict n next s (read_line t) later
  unfolding later
  here h =
      let z : left.bound ≡ suc (left.bound - 1) = omega (arith, left.enough) in
      left.same ∙ ap (λ (f : ℕ). read_from f n next s t) z ∙ read_step (left.bound - 1) n next s t h

  module _ (h : 0 < length t) {a : Result Parsed LineRefusal} (e : numbered line_number a ≡ checked_line next s (read_line t)) where
    pub bad-line : (refusal : LineRefusal) → a ≡ Err refusal → refused (line_number refusal) n ≡ read_lines text
    bad-line refusal g = sym (here h ∙ checked-bad n next s (read_line t) later (line_number refusal) (sym e ∙ ap (numbered line_number) g))

    module _ (p : Parsed) (g : a ≡ Ok p) where
      passed : Passed next s (read_line t) p
      passed = checked-good next s (read_line t) p (sym e ∙ ap (numbered line_number) g)

      good : GoodLine t p
      good = subst (Answers t) passed.read (read-answers t)

      shorter : length (drop p.length t) + 1 ≤ length t
      shorter = omega (arith, ap length good.is_line, length-append (line_text p.entry) (drop p.length t), line-some p.entry)

      past : next ≤ rank p.entry
      past = stands-past next p.entry passed.ordered

      on : read_lines text ≡ read_from (left.bound - 1) (suc n) (suc (rank p.entry)) (with_line s p.entry) (drop p.length t)
      unfolding later
      on = here h ∙ rw (passed.read, passed.ordered, passed.rested, passed.room)

      turned : {s' : State} {r : ℕ} → s' ≡ with_line s p.entry → r ≡ rank p.entry → Unread text s' (drop p.length t) (n + 1) (suc r)
      turned w q =
          let loans = loans-filled s p.entry left.filled left.few passed.room in record {
            bound = left.bound - 1;
            enough = omega (arith, shorter, left.enough);
            lines = omega (arith, shorter, left.lines);
            filled = rw w loans.0;
            few = rw w loans.1;
            unlent = λ low. rw w (still-unlent next s left.unlent p.entry past (omega (arith, q)));
            same = on ∙ rw (w, q, add-one);
          }

      pub good-line : Line text s t n next p
      good-line = record {
        ranged = good.ranged;
        within = good.within;
        less = rw (rest t p.length) (omega (arith, shorter));
        room = passed.room;
        before = assigned-first next s left.unlent p.entry good.ranged past;
        turn = λ {s'} {r} w q. rw (rest t p.length) (turned w q);
      }

-- ---- and then the rules

module _ (list : RuleList) (text : List ℕ) where
  pub unlisted : list_accepted list ≡ false → refused 40 0 ≡ read_state list text
  unfolding read_state
  unlisted e = rw e

  module _ (listed : list_accepted list ≡ true) {read : Result State Refusal} (e : outcome read ≡ read_lines text) where
    -- a refusal of the lines
    pub lines-bad : (refusal : Refusal) → read ≡ Err refusal → refused (number_of refusal) (place_of refusal) ≡ read_state list text
    unfolding read_state
    lines-bad refusal g = rw (listed, ← e, g)

    module _ (s : State) (g : read ≡ Ok s) {low : Option ℕ} (l : low ≡ lowest (λ rule. rule_holds rule s) 1 (rules_of list)) where
      -- no rule is broken
      pub none-broken : low ≡ None → loaded s ≡ read_state list text
      unfolding read_state
      none-broken n = rw (listed, ← e, g, ← l, n)

      -- a rule is broken
      pub one-broken : (rule : ℕ) → low ≡ Some rule → refused 17 rule ≡ read_state list text
      unfolding read_state
      one-broken rule n = rw (listed, ← e, g, ← l, n)
