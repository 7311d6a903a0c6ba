-- Each refusal of a saved text has its own cause: 10, 11, 15, 16 and 51 at a line after good ones, 17 where every line is good and that
-- rule is the lowest broken one, 40 where the rules are refused; and a text is read where every line is good and every rule holds.
-- Assumes nothing.
use mathlib.Core.Path.{◌≡◌, refl, sym, ap, ◌∙◌, subst}
use mathlib.Core.Bool.{Bool, true, false, cond}
use mathlib.Core.Logic.{◌↔◌, ◌⊎◌, inl, inr, ⊎_elim}
use mathlib.Core.List.{List, [], ◌∷◌, ◌++◌, Memᴰ}
use Prim.Native.Nat.{ℕ, suc, ◌≤◌, ◌<◌}
use native.Mathlib.Omega.{arith}
use lib.ListN.{length, get_or, length-append}
use Rattle.sets.proofs.Booleans.{clash}
use Rattle.rules.specs.Acceptance.{rules_of, list_accepted}
use Rattle.rules.specs.declared.families.Rule.{Rule}
use Rattle.rules.specs.declared.lists.RuleList.{RuleList}
use Rattle.std.specs.Prelude.{Option, Some, None}
use Rattle.rules.specs.Lowest.{lowest}
use Rattle.enforcement.specs.States.{fresh, rule_holds}
use Rattle.enforcement.specs.Plain.{obeys}
use Rattle.enforcement.specs.declared.states.State.{State}
use Rattle.enforcement.proofs.Agreement.{lowest-none}
use Rattle.enforcement.proofs.Causes.{lowest-means}
use Rattle.forms.specs.Forms.{fill}
use Rattle.forms.specs.Tables.{form_at}
use Rattle.state_text.specs.Entries.{saved_forms, line_text, in_order, rests}
use Rattle.state_text.specs.Saving.{lines_text}
use Rattle.state_text.specs.Reading.{Loading, loaded, refused, unless_broken, under_rules, read_lines, read_state}
use Rattle.state_text.specs.Causes.{state_after, NoForm, OutOfRange, OutOfOrder, Unrested, ThirtyThird, BadLine, GoodText}
use Rattle.state_text.specs.declared.entries.Entry.{Entry}
use Rattle.state_text.proofs.Values.{form-some, line-some}
use Rattle.state_text.proofs.Rows.{unequal, by-test}
use Rattle.state_text.proofs.LineTexts.{NoFormAt}
use Rattle.state_text.proofs.GoodLines.{next_rank, GoodLines}
use Rattle.state_text.proofs.Earlier.{lacks-means, no-room-means, order-means, good-means}
use Rattle.state_text.proofs.LowestRule.{every-unbroken, lowest-from}
use Rattle.state_text.proofs.Refusals.{read_whole, LineCause, no_form, out_of_range, out_of_order, unrested, thirty_third, AllGood, OneBad, Comes, from-comes, comes-from}

-- ---- all lines

lines-comes : (text : List ℕ) → 0 < length text → Comes 1 0 fresh text (read_lines text)
lines-comes text some = rw (read_whole text some) (from-comes (length text) 1 0 fresh text (omega arith))

comes-lines : (text : List ℕ) (r : Loading) → 0 < length text → Comes 1 0 fresh text r → read_lines text ≡ r
comes-lines text r some c = read_whole text some ∙ comes-from r (length text) 1 0 fresh text (omega arith) c

-- a line with a cause, that is there or is the first one
record Caused (number : ℕ) (earlier : List Entry) (rest : List ℕ) : Type 0 where
  is_there : (earlier ≡ []) ⊎ (0 < length rest)
  cause : LineCause (next_rank 0 earlier) (state_after fresh earlier) rest number

-- where no text is left only 10 can be said
cause-some : (next : ℕ) (s : State) (rest : List ℕ) (number : ℕ) → LineCause next s rest number → (number ≡ 10) ⊎ (0 < length rest)
cause-some next s rest number (no_form e h) = inl e
cause-some next s rest number (out_of_range e h) =
    inr (omega (arith, ap length h.is_line, length-append (fill (form_at saved_forms h.form) h.values) h.more, form-some h.form h.values h.is_form))
cause-some next s rest number (out_of_order e h) =
    inr (omega (arith, ap length h.is_line, length-append (line_text h.entry) h.more, line-some h.entry))
cause-some next s rest number (unrested e h) =
    inr (omega (arith, ap length h.is_line, length-append (line_text h.entry) h.more, line-some h.entry))
cause-some next s rest number (thirty_third e h) =
    inr (omega (arith, ap length h.is_line, length-append (line_text h.entry) h.more, line-some h.entry))

no_lines : (es : List Entry) → length (lines_text es) ≡ 0 → length es ≡ 0
unfolding lines_text
no_lines [] h = refl
no_lines (e ∷ es) h = absurd (omega (arith, length-append (line_text e) (lines_text es), line-some e))

-- the first refusal of a text's lines, by its number and its line
lines-refused : (text : List ℕ) (number place : ℕ) → (read_lines text ≡ refused number place) ↔ BadLine (Caused number) text place
unfolding read_lines lines_text
lines-refused [] number place = (to, from)
  where
    to : refused 10 1 ≡ refused number place → BadLine (Caused number) [] place
    to h =
        let n : number ≡ 10 = cc in
        let p : place ≡ 1 = cc in
        record {
          earlier = [];
          rest = [];
          whole = refl;
          good = (good-means []).0 tt;
          place = p;
          bad = record {
            is_there = inl refl;
            cause = no_form n (λ form values more l fit e. omega (arith, ap length e, length-append (fill (form_at saved_forms form) values) more, form-some form values l));
          };
        }

    from : BadLine (Caused number) [] place → refused 10 1 ≡ refused number place
    from b =
        let l = ap length b.whole in
        let m = length-append (lines_text b.earlier) b.rest in
        let none = no_lines b.earlier (omega (arith, l, m)) in
        let n : number ≡ 10 = ⊎_elim (λ e. e) (λ k. absurd (omega (arith, l, m, k))) (cause-some _ _ b.rest number b.bad.cause) in
        let p : place ≡ 1 = omega (arith, b.place, none) in
        rw (n, p)
lines-refused (c ∷ t) number place = (to, from)
  where
    some : 0 < length (c ∷ t)
    some = omega arith

    to : read_lines (c ∷ t) ≡ refused number place → BadLine (Caused number) (c ∷ t) place
    to h =
        let bad : OneBad 1 0 fresh (c ∷ t) number place = subst (Comes 1 0 fresh (c ∷ t)) h (lines-comes (c ∷ t) some) in
        record { earlier = bad.earlier; rest = bad.rest; whole = bad.whole; good = (good-means bad.earlier).0 bad.good; place = bad.here; bad = record { is_there = inr bad.more; cause = bad.cause } }

    -- before the first line stands nothing
    there : (earlier : List Entry) (rest : List ℕ) → c ∷ t ≡ lines_text earlier ++ rest → (earlier ≡ []) ⊎ (0 < length rest) → 0 < length rest
    there earlier rest whole (inl e) = let w : c ∷ t ≡ rest = rw e at whole in omega (arith, ap length w)
    there earlier rest whole (inr l) = l

    from : BadLine (Caused number) (c ∷ t) place → read_lines (c ∷ t) ≡ refused number place
    from b =
        comes-lines (c ∷ t) (refused number place) some
        (record {
          earlier = b.earlier;
          rest = b.rest;
          whole = b.whole;
          more = there b.earlier b.rest b.whole b.bad.is_there;
          good = (good-means b.earlier).1 b.good;
          here = b.place;
          cause = b.bad.cause;
        })

-- a statement in the place of another, of a line after good ones
bad-says : {P Q : List Entry → List ℕ → Type 0} → ((earlier : List Entry) (rest : List ℕ) → GoodLines 0 fresh earlier → P earlier rest → Q earlier rest) → (text : List ℕ) (n : ℕ) → BadLine P text n → BadLine Q text n
bad-says f text n b = record { earlier = b.earlier; rest = b.rest; whole = b.whole; good = b.good; place = b.place; bad = f b.earlier b.rest ((good-means b.earlier).1 b.good) b.bad }

-- what each number says, both ways
module _ (earlier : List Entry) (rest : List ℕ) (good : GoodLines 0 fresh earlier) where
  says-10 : Caused 10 earlier rest → NoForm earlier rest
  says-10 c = record { is_there = c.is_there; none = go c.cause }
    where
      go : LineCause (next_rank 0 earlier) (state_after fresh earlier) rest 10 → NoFormAt rest
      go (no_form e h) = h
      go (out_of_range e h) = absurd (omega arith)
      go (out_of_order e h) = absurd (omega arith)
      go (unrested e h) = absurd (omega arith)
      go (thirty_third e h) = absurd (omega arith)

  of-10 : NoForm earlier rest → Caused 10 earlier rest
  of-10 h = record { is_there = h.is_there; cause = no_form refl h.none }

  says-11 : Caused 11 earlier rest → OutOfRange rest
  says-11 c = go c.cause
    where
      go : LineCause (next_rank 0 earlier) (state_after fresh earlier) rest 11 → OutOfRange rest
      go (no_form e h) = absurd (omega arith)
      go (out_of_range e h) = h
      go (out_of_order e h) = absurd (omega arith)
      go (unrested e h) = absurd (omega arith)
      go (thirty_third e h) = absurd (omega arith)

  of-11 : OutOfRange rest → Caused 11 earlier rest
  of-11 h = record {
    is_there = inr (omega (arith, ap length h.is_line, length-append (fill (form_at saved_forms h.form) h.values) h.more, form-some h.form h.values h.is_form));
    cause = out_of_range refl h;
  }

  line-there : (e : Entry) (more : List ℕ) → rest ≡ line_text e ++ more → (earlier ≡ []) ⊎ (0 < length rest)
  line-there e more h = inr (omega (arith, ap length h, length-append (line_text e) more, line-some e))

  says-15 : Caused 15 earlier rest → OutOfOrder earlier rest
  says-15 c = go c.cause
    where
      go : LineCause (next_rank 0 earlier) (state_after fresh earlier) rest 15 → OutOfOrder earlier rest
      go (no_form e h) = absurd (omega arith)
      go (out_of_range e h) = absurd (omega arith)
      go (out_of_order e h) = record { entry = h.entry; more = h.more; is_line = h.is_line; ranged = h.ranged; disordered = (order-means earlier good h.entry).0 h.disordered }
      go (unrested e h) = absurd (omega arith)
      go (thirty_third e h) = absurd (omega arith)

  of-15 : OutOfOrder earlier rest → Caused 15 earlier rest
  of-15 h = record {
    is_there = line-there h.entry h.more h.is_line;
    cause = out_of_order refl (record { entry = h.entry; more = h.more; is_line = h.is_line; ranged = h.ranged; disordered = (order-means earlier good h.entry).1 h.disordered });
  }

  says-16 : Caused 16 earlier rest → Unrested earlier rest
  says-16 c = go c.cause
    where
      go : LineCause (next_rank 0 earlier) (state_after fresh earlier) rest 16 → Unrested earlier rest
      go (no_form e h) = absurd (omega arith)
      go (out_of_range e h) = absurd (omega arith)
      go (out_of_order e h) = absurd (omega arith)
      go (unrested e h) = record {
        entry = h.entry;
        more = h.more;
        is_line = h.is_line;
        ranged = h.ranged;
        ordered = λ d. clash h.ordered ((order-means earlier good h.entry).1 d);
        lacking = (lacks-means earlier good h.entry h.ranged).0 h.lacking;
      }
      go (thirty_third e h) = absurd (omega arith)

  of-16 : Unrested earlier rest → Caused 16 earlier rest
  of-16 h = record {
    is_there = line-there h.entry h.more h.is_line;
    cause = unrested refl (record {
      entry = h.entry;
      more = h.more;
      is_line = h.is_line;
      ranged = h.ranged;
      ordered = by-test (in_order (next_rank 0 earlier) h.entry) (λ e. e) (λ e. absurd (h.ordered ((order-means earlier good h.entry).0 e)));
      lacking = (lacks-means earlier good h.entry h.ranged).1 h.lacking;
    });
  }

  says-51 : Caused 51 earlier rest → ThirtyThird earlier rest
  says-51 c = go c.cause
    where
      go : LineCause (next_rank 0 earlier) (state_after fresh earlier) rest 51 → ThirtyThird earlier rest
      go (no_form e h) = absurd (omega arith)
      go (out_of_range e h) = absurd (omega arith)
      go (out_of_order e h) = absurd (omega arith)
      go (unrested e h) = absurd (omega arith)
      go (thirty_third e h) = record {
        entry = h.entry;
        more = h.more;
        is_line = h.is_line;
        ranged = h.ranged;
        ordered = λ d. clash h.ordered ((order-means earlier good h.entry).1 d);
        rested = λ l. clash h.rested ((lacks-means earlier good h.entry h.ranged).1 l);
        no_room = (no-room-means earlier good h.entry).0 h.no_room;
      }

  of-51 : ThirtyThird earlier rest → Caused 51 earlier rest
  of-51 h = record {
    is_there = line-there h.entry h.more h.is_line;
    cause = thirty_third refl (record {
      entry = h.entry;
      more = h.more;
      is_line = h.is_line;
      ranged = h.ranged;
      ordered = by-test (in_order (next_rank 0 earlier) h.entry) (λ e. e) (λ e. absurd (h.ordered ((order-means earlier good h.entry).0 e)));
      rested = by-test (rests (state_after fresh earlier) h.entry) (λ e. e) (λ e. absurd (h.rested ((lacks-means earlier good h.entry h.ranged).0 e)));
      no_room = (no-room-means earlier good h.entry).1 h.no_room;
    });
  }

module _ (next : ℕ) (s : State) (rest : List ℕ) where
  -- no line is refused by 17 or 40
  not-17 : LineCause next s rest 17 → ⊥
  not-17 (no_form e h) = omega arith
  not-17 (out_of_range e h) = omega arith
  not-17 (out_of_order e h) = omega arith
  not-17 (unrested e h) = omega arith
  not-17 (thirty_third e h) = omega arith

  not-40 : LineCause next s rest 40 → ⊥
  not-40 (no_form e h) = omega arith
  not-40 (out_of_range e h) = omega arith
  not-40 (out_of_order e h) = omega arith
  not-40 (unrested e h) = omega arith
  not-40 (thirty_third e h) = omega arith

  least-number : (number : ℕ) → LineCause next s rest number → 10 ≤ number
  least-number number (no_form e h) = omega arith
  least-number number (out_of_range e h) = omega arith
  least-number number (out_of_order e h) = omega arith
  least-number number (unrested e h) = omega arith
  least-number number (thirty_third e h) = omega arith

pub lines-number : (text : List ℕ) (number place : ℕ) → read_lines text ≡ refused number place → 10 ≤ number
lines-number text number place h = let b = (lines-refused text number place).0 h in least-number _ _ _ number b.bad.cause

-- ---- texts whose every line is good

good-text : (text : List ℕ) (s : State) → (read_lines text ≡ loaded s) ↔ GoodText text s
unfolding read_lines lines_text
good-text [] s = (λ h. unequal cc, λ g. none g.lines g.some g.whole)
  where
    none : (es : List Entry) → 0 < length es → [] ≡ lines_text es → refused 10 1 ≡ loaded s
    none [] l h = absurd (omega arith)
    none (e ∷ es) l h = absurd (omega (arith, ap length h, length-append (line_text e) (lines_text es), line-some e))
good-text (c ∷ t) s = (to, λ g. comes-lines (c ∷ t) (loaded s) (omega arith) (record { lines = g.lines; whole = g.whole; good = (good-means g.lines).1 g.good; same = g.same }))
  where
    some : (es : List Entry) → c ∷ t ≡ lines_text es → 0 < length es
    some [] h = unequal cc
    some (e ∷ es) h = omega arith

    to : read_lines (c ∷ t) ≡ loaded s → GoodText (c ∷ t) s
    to h =
        let all : AllGood 0 fresh (c ∷ t) s = subst (Comes 1 0 fresh (c ∷ t)) h (lines-comes (c ∷ t) (omega arith)) in
        record { lines = all.lines; some = some all.lines all.whole; whole = all.whole; good = (good-means all.lines).0 all.good; same = all.same }

module _ (list : RuleList) (text : List ℕ) where
  -- of accepted rules none but 17 refuses what its lines do not
  under-refused : (r : Loading) (number place : ℕ) → (number ≡ 17 → ⊥) → under_rules list r ≡ refused number place → r ≡ refused number place
  under-refused (loaded s) number place n h = absurd (go (lowest (λ rule. rule_holds rule s) 1 (rules_of list)) h)
    where
      go : (low : Option ℕ) → unless_broken s low ≡ refused number place → ⊥
      go None h = unequal cc
      go (Some k) h = n (let e : 17 ≡ number = cc in sym e)
  under-refused (refused c p) number place n h = h

  module _ (listed : list_accepted list ≡ true) where
    pub state-result : read_state list text ≡ under_rules list (read_lines text)
    unfolding read_state
    state-result = rw listed

    line_refused : (number place : ℕ) → (number ≡ 17 → ⊥) → (read_state list text ≡ refused number place) ↔ BadLine (Caused number) text place
    line_refused number place n = (
      λ h. (lines-refused text number place).0 (under-refused (read_lines text) number place n (sym state-result ∙ h)),
      λ b. state-result ∙ ap (under_rules list) ((lines-refused text number place).1 b),
    )

    -- 10: "line is no form of its text"
    pub refused-10 : (n : ℕ) → (read_state list text ≡ refused 10 n) ↔ BadLine NoForm text n
    refused-10 n = (
      λ h. bad-says says-10 text n ((line_refused 10 n (λ e. omega arith)).0 h),
      λ b. (line_refused 10 n (λ e. omega arith)).1 (bad-says of-10 text n b),
    )

    -- 11: "number outside its range"
    pub refused-11 : (n : ℕ) → (read_state list text ≡ refused 11 n) ↔ BadLine (λ earlier rest. OutOfRange rest) text n
    refused-11 n = (
      λ h. bad-says says-11 text n ((line_refused 11 n (λ e. omega arith)).0 h),
      λ b. (line_refused 11 n (λ e. omega arith)).1 (bad-says of-11 text n b),
    )

    -- 15: "saved line out of order or twice"
    pub refused-15 : (n : ℕ) → (read_state list text ≡ refused 15 n) ↔ BadLine OutOfOrder text n
    refused-15 n = (
      λ h. bad-says says-15 text n ((line_refused 15 n (λ e. omega arith)).0 h),
      λ b. (line_refused 15 n (λ e. omega arith)).1 (bad-says of-15 text n b),
    )

    -- 16: "place or active without its open, or role not assigned"
    pub refused-16 : (n : ℕ) → (read_state list text ≡ refused 16 n) ↔ BadLine Unrested text n
    refused-16 n = (
      λ h. bad-says says-16 text n ((line_refused 16 n (λ e. omega arith)).0 h),
      λ b. (line_refused 16 n (λ e. omega arith)).1 (bad-says of-16 text n b),
    )

    -- 51: 2026-01, "a thirty-third is 51 with its line, looked for after 16"
    pub refused-51 : (n : ℕ) → (read_state list text ≡ refused 51 n) ↔ BadLine ThirtyThird text n
    refused-51 n = (
      λ h. bad-says says-51 text n ((line_refused 51 n (λ e. omega arith)).0 h),
      λ b. (line_refused 51 n (λ e. omega arith)).1 (bad-says of-51 text n b),
    )

    -- 17: "saved state breaks a rule", with the "lowest rule"; rules are numbered from 1 on
    pub refused-17 : (filler : Rule) (n : ℕ) → (read_state list text ≡ refused 17 (suc n)) ↔
        ((s : State) × GoodText text s × (n < length (rules_of list)) × (rule_holds (get_or (rules_of list) n filler) s ≡ false) × ((k : ℕ) → k < n → rule_holds (get_or (rules_of list) k filler) s ≡ true))
    refused-17 filler n = (
      λ h. to (read_lines text) refl (sym state-result ∙ h),
      λ w. state-result ∙ ap (under_rules list) ((good-text text w.0).1 w.1) ∙ ap (unless_broken w.0) ((lowest-means (λ rule. rule_holds rule w.0) (rules_of list) filler n).1 (w.2, w.3, w.4)),
    )
      where
        to : (r : Loading) → read_lines text ≡ r → under_rules list r ≡ refused 17 (suc n) →
            (s : State) × GoodText text s × (n < length (rules_of list)) × (rule_holds (get_or (rules_of list) n filler) s ≡ false) × ((k : ℕ) → k < n → rule_holds (get_or (rules_of list) k filler) s ≡ true)
        to (refused number place) e h =
            let z : number ≡ 17 = cc in
            let b = (lines-refused text 17 place).0 (e ∙ ap (λ (n : ℕ). refused n place) z) in
            absurd (not-17 _ _ _ b.bad.cause)
        to (loaded s) e h =
            let w = (lowest-means (λ rule. rule_holds rule s) (rules_of list) filler n).0 (low (lowest (λ rule. rule_holds rule s) 1 (rules_of list)) h) in
            (s, (good-text text s).0 e, w.0, w.1, w.2)
          where
            low : (l : Option ℕ) → unless_broken s l ≡ refused 17 (suc n) → l ≡ Some (suc n)
            low None h = unequal cc
            low (Some k) h = cc

    -- and never with another rule
    pub refused-17-rule : (place : ℕ) → read_state list text ≡ refused 17 place → 1 ≤ place
    refused-17-rule place h = by_lines (read_lines text) refl (sym state-result ∙ h)
      where
        by_lines : (r : Loading) → read_lines text ≡ r → under_rules list r ≡ refused 17 place → 1 ≤ place
        by_lines (refused number line) e h =
            let z : number ≡ 17 = cc in
            let b = (lines-refused text 17 line).0 (e ∙ ap (λ (n : ℕ). refused n line) z) in
            absurd (not-17 _ _ _ b.bad.cause)
        by_lines (loaded s) e h = lowest-from (λ rule. rule_holds rule s) 1 (rules_of list) place (low (lowest (λ rule. rule_holds rule s) 1 (rules_of list)) h)
          where
            low : (l : Option ℕ) → unless_broken s l ≡ refused 17 place → l ≡ Some place
            low None h = unequal cc
            low (Some k) h = cc

    -- a text is read where every line is good and every rule holds
    pub read-good : (s : State) → (read_state list text ≡ loaded s) ↔ (GoodText text s × (obeys (rules_of list) s ≡ true))
    read-good s = (
      λ h. to (read_lines text) refl (sym state-result ∙ h),
      λ w. state-result ∙ ap (under_rules list) ((good-text text s).1 w.0) ∙ ap (unless_broken s) (every-unbroken (λ rule. rule_holds rule s) 1 (rules_of list) w.1),
    )
      where
        to : (r : Loading) → read_lines text ≡ r → under_rules list r ≡ loaded s → GoodText text s × (obeys (rules_of list) s ≡ true)
        to (refused number place) e h = unequal cc
        to (loaded t) e h =
            let w = low (lowest (λ rule. rule_holds rule t) 1 (rules_of list)) h in
            (subst (GoodText text) w.1 ((good-text text t).0 e), subst (λ (x : State). obeys (rules_of list) x ≡ true) w.1 (lowest-none (λ rule. rule_holds rule t) 1 (rules_of list) w.0))
          where
            low : (l : Option ℕ) → unless_broken t l ≡ loaded s → (l ≡ None) × (t ≡ s)
            low None h = (refl, cc)
            low (Some k) h = unequal cc

  -- 40: the rules are refused, whatever the text
  pub refused-40 : (place : ℕ) → (read_state list text ≡ refused 40 place) ↔ ((list_accepted list ≡ false) × (place ≡ 0))
  unfolding read_state
  refused-40 place = (λ h. to (list_accepted list) refl h, λ w. rw (w.0, w.1))
    where
      to : (b : Bool) → list_accepted list ≡ b → cond b (under_rules list (read_lines text)) (refused 40 0) ≡ refused 40 place → (list_accepted list ≡ false) × (place ≡ 0)
      to true listed h =
          let b = (lines-refused text 40 place).0 (under-refused (read_lines text) 40 place (λ e. omega arith) h) in
          absurd (not-40 _ _ _ b.bad.cause)
      to false listed h = (listed, cc)

  -- no number but these is ever given
  pub refused-number : (number place : ℕ) → read_state list text ≡ refused number place → Memᴰ number (10 ∷ 11 ∷ 15 ∷ 16 ∷ 51 ∷ 17 ∷ 40 ∷ [])
  unfolding read_state
  refused-number number place = by-list (list_accepted list)
    where
      by-cause : {next : ℕ} {s : State} {rest : List ℕ} → LineCause next s rest number → Memᴰ number (10 ∷ 11 ∷ 15 ∷ 16 ∷ 51 ∷ 17 ∷ 40 ∷ [])
      by-cause (no_form e h) = Memᴰ.head e
      by-cause (out_of_range e h) = Memᴰ.tail (Memᴰ.head e)
      by-cause (out_of_order e h) = Memᴰ.tail (Memᴰ.tail (Memᴰ.head e))
      by-cause (unrested e h) = Memᴰ.tail (Memᴰ.tail (Memᴰ.tail (Memᴰ.head e)))
      by-cause (thirty_third e h) = Memᴰ.tail (Memᴰ.tail (Memᴰ.tail (Memᴰ.tail (Memᴰ.head e))))

      by-lowest : (s : State) (low : Option ℕ) → unless_broken s low ≡ refused number place → number ≡ 17
      by-lowest s None h = unequal cc
      by-lowest s (Some k) h = cc

      by_lines : (r : Loading) → read_lines text ≡ r → under_rules list r ≡ refused number place → Memᴰ number (10 ∷ 11 ∷ 15 ∷ 16 ∷ 51 ∷ 17 ∷ 40 ∷ [])
      by_lines (loaded s) e h =
          Memᴰ.tail (Memᴰ.tail (Memᴰ.tail (Memᴰ.tail (Memᴰ.tail (Memᴰ.head (by-lowest s (lowest (λ rule. rule_holds rule s) 1 (rules_of list)) h))))))
      by_lines (refused k p) e h = by-cause ((lines-refused text number place).0 (e ∙ h)).bad.cause

      by-list : (listed : Bool) → cond listed (under_rules list (read_lines text)) (refused 40 0) ≡ refused number place → Memᴰ number (10 ∷ 11 ∷ 15 ∷ 16 ∷ 51 ∷ 17 ∷ 40 ∷ [])
      by-list true h = by_lines (read_lines text) refl h
      by-list false h = let e : number ≡ 40 = cc in Memᴰ.tail (Memᴰ.tail (Memᴰ.tail (Memᴰ.tail (Memᴰ.tail (Memᴰ.tail (Memᴰ.head e))))))
