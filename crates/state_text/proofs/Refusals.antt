-- Reading all lines, both ways: what it gives says what the text's lines are, and what they are says what it gives.
-- Assumes nothing.
use mathlib.Core.Path.{◌≡◌, refl, sym, ap, ◌∙◌}
use mathlib.Core.Bool.{Bool, true, false, cond}
use mathlib.Core.Logic.{inl, inr}
use mathlib.Core.List.{List, [], ◌∷◌, ◌++◌, append_assoc, append-nil}
use Prim.Native.Nat.{ℕ, zero, suc, ◌+◌, ◌-◌, ◌≤◌, ◌<◌}
use native.Mathlib.Omega.{arith}
use lib.ListN.{length, drop, length-append}
use lib.Seq.{drop-append_seam}
use Rattle.std.specs.Prelude.{Result, Ok, Err}
use Rattle.enforcement.specs.States.{fresh}
use Rattle.enforcement.specs.declared.states.State.{State}
use Rattle.state_text.specs.Entries.{line_text, rank, in_order, with_line, rests, has_room}
use Rattle.state_text.specs.Saving.{lines_text}
use Rattle.state_text.specs.Reading.{read_line, entry_in, length_in, Loading, loaded, refused, line_verdict, read_from, read_lines}
use Rattle.state_text.specs.Causes.{Ranged, state_after, OutOfRange}
use Rattle.state_text.specs.declared.entries.Entry.{Entry}
use Rattle.state_text.proofs.Values.{line-some}
use Rattle.state_text.proofs.LineTexts.{read-outside, read-line, NoFormAt, GoodLine, Answers, read-answers, read_none}
use Rattle.state_text.proofs.GoodLines.{next_rank, GoodLines}
use Rattle.state_text.specs.declared.reading.Parsed.{Parsed}

-- ---- one turn of the reader

pub read_step : (f n next : ℕ) (s : State) (t : List ℕ) → 0 < length t
    → read_from (suc f) n next s t
    ≡ line_verdict n next s (read_line t) (read_from f (suc n) (suc (rank (entry_in (read_line t)))) (with_line s (entry_in (read_line t))) (drop (length_in (read_line t)) t))
unfolding read_from
read_step f n next s [] h = absurd (omega arith)
read_step f n next s (c ∷ t) h = refl

pub read-end : (f n next : ℕ) (s : State) → read_from f n next s [] ≡ loaded s
unfolding read_from
read-end zero n next s = refl
read-end (suc f) n next s = refl

pub read_whole : (t : List ℕ) → 0 < length t → read_lines t ≡ read_from (length t) 1 0 fresh t
unfolding read_lines
read_whole [] h = absurd (omega arith)
read_whole (c ∷ t) h = refl

-- ---- what a result says

-- what is wrong with a line after the state s, by the reader's tests: a line in range that is not in order, that does not rest on s, or that
-- has no room there
pub record Misplaced (next : ℕ) (text : List ℕ) : Type 0 where
  pub entry : Entry
  pub more : List ℕ
  pub is_line : text ≡ line_text entry ++ more
  pub ranged : Ranged entry
  pub disordered : in_order next entry ≡ false

pub record Lacking (next : ℕ) (s : State) (text : List ℕ) : Type 0 where
  pub entry : Entry
  pub more : List ℕ
  pub is_line : text ≡ line_text entry ++ more
  pub ranged : Ranged entry
  pub ordered : in_order next entry ≡ true
  pub lacking : rests s entry ≡ false

pub record Roomless (next : ℕ) (s : State) (text : List ℕ) : Type 0 where
  pub entry : Entry
  pub more : List ℕ
  pub is_line : text ≡ line_text entry ++ more
  pub ranged : Ranged entry
  pub ordered : in_order next entry ≡ true
  pub rested : rests s entry ≡ true
  pub no_room : has_room s entry ≡ false

-- the number of a refusal, and what is wrong with the line
pub data LineCause (next : ℕ) (s : State) (text : List ℕ) (number : ℕ) : Type 0 where
  no_form : number ≡ 10 → NoFormAt text → LineCause next s text number
  out_of_range : number ≡ 11 → OutOfRange text → LineCause next s text number
  out_of_order : number ≡ 15 → Misplaced next text → LineCause next s text number
  unrested : number ≡ 16 → Lacking next s text → LineCause next s text number
  thirty_third : number ≡ 51 → Roomless next s text → LineCause next s text number

pub record AllGood (next : ℕ) (s : State) (text : List ℕ) (given : State) : Type 0 where
  pub lines : List Entry
  pub whole : text ≡ lines_text lines
  pub good : GoodLines next s lines
  pub same : state_after s lines ≡ given

pub record OneBad (n next : ℕ) (s : State) (text : List ℕ) (number place : ℕ) : Type 0 where
  pub earlier : List Entry
  pub rest : List ℕ
  pub whole : text ≡ lines_text earlier ++ rest
  pub more : 0 < length rest
  pub good : GoodLines next s earlier
  pub here : place ≡ n + length earlier
  pub cause : LineCause (next_rank next earlier) (state_after s earlier) rest number

abbrev pub Comes : ℕ → ℕ → State → List ℕ → Loading → Type 0
Comes n next s text (loaded given) = AllGood next s text given
Comes n next s text (refused number place) = OneBad n next s text number place

-- ---- the result says so

-- one good line more in front
prepend : (n next : ℕ) (s : State) (text more : List ℕ) (e : Entry) (r : Loading) → Ranged e → in_order next e ≡ true → rests s e ≡ true → has_room s e ≡ true → text ≡ line_text e ++ more
    → Comes (suc n) (suc (rank e)) (with_line s e) more r → Comes n next s text r
unfolding lines_text
prepend n next s text more e (loaded given) h o q room whole c = record {
  lines = e ∷ c.lines;
  whole = whole ∙ ap (λ (t : List ℕ). line_text e ++ t) c.whole;
  good = (h, o, q, room, c.good);
  same = c.same;
}
prepend n next s text more e (refused number place) h o q room whole c = record {
  earlier = e ∷ c.earlier;
  rest = c.rest;
  whole = whole ∙ ap (λ (t : List ℕ). line_text e ++ t) c.whole ∙ sym (append_assoc (line_text e) (lines_text c.earlier) c.rest);
  more = c.more;
  good = (h, o, q, room, c.good);
  here = omega (arith, c.here);
  cause = c.cause;
}

bad-here : (n next : ℕ) (s : State) (text : List ℕ) (number : ℕ) → 0 < length text → LineCause next s text number → OneBad n next s text number n
unfolding lines_text
bad-here n next s text number h c = record { earlier = []; rest = text; whole = refl; more = h; good = tt; here = omega arith; cause = c }

-- the result at a line, by what is read of it and of the rest
verdict-comes : (n next : ℕ) (s : State) (text : List ℕ) (a : Result Parsed ℕ) (r : Loading) → 0 < length text → Answers text a
    → (GoodLine text (record { entry = entry_in a; length = length_in a }) → Comes (suc n) (suc (rank (entry_in a))) (with_line s (entry_in a)) (drop (length_in a) text) r)
    → Comes n next s text (line_verdict n next s a r)
verdict-comes n next s text (Err number) r some (inl h) f =
    bad-here n next s text number some (no_form h.0 h.1)
verdict-comes n next s text (Err number) r some (inr h) f = bad-here n next s text number some (out_of_range h.0 h.1)
verdict-comes n next s text (Ok p) r some good f = go (in_order next p.entry) refl (rests s p.entry) refl (has_room s p.entry) refl
  where
    go : (x : Bool) → in_order next p.entry ≡ x → (y : Bool) → rests s p.entry ≡ y → (z : Bool) → has_room s p.entry ≡ z
        → Comes n next s text (cond x (cond y (cond z r (refused 51 n)) (refused 16 n)) (refused 15 n))
    go true o true q true room = prepend n next s text (drop p.length text) p.entry r good.ranged o q room good.is_line (f good)
    go true o true q false room =
        bad-here n next s text 51 some
        (thirty_third refl (record { entry = p.entry; more = drop p.length text; is_line = good.is_line; ranged = good.ranged; ordered = o; rested = q; no_room = room }))
    go true o false q z room =
        bad-here n next s text 16 some
        (unrested refl (record { entry = p.entry; more = drop p.length text; is_line = good.is_line; ranged = good.ranged; ordered = o; lacking = q }))
    go false o y q z room =
        bad-here n next s text 15 some
        (out_of_order refl (record { entry = p.entry; more = drop p.length text; is_line = good.is_line; ranged = good.ranged; disordered = o }))

shorter : (text : List ℕ) (a : Result Parsed ℕ) → GoodLine text (record { entry = entry_in a; length = length_in a }) → length (drop (length_in a) text) < length text
shorter text a good =
    omega (arith, ap length good.is_line, length-append (line_text (entry_in a)) (drop (length_in a) text), line-some (entry_in a))

pub from-comes : (f n next : ℕ) (s : State) (text : List ℕ) → length text ≤ f → Comes n next s text (read_from f n next s text)
unfolding read_from lines_text
from-comes zero n next s [] l = record { lines = []; whole = refl; good = tt; same = refl }
from-comes zero n next s (c ∷ t) l = absurd (omega arith)
from-comes (suc f) n next s [] l = record { lines = []; whole = refl; good = tt; same = refl }
from-comes (suc f) n next s (c ∷ t) l =
    let a = read_line (c ∷ t) in
    verdict-comes n next s (c ∷ t) a (read_from f (suc n) (suc (rank (entry_in a))) (with_line s (entry_in a)) (drop (length_in a) (c ∷ t))) (omega arith) (read-answers (c ∷ t))
    (λ good. from-comes f (suc n) (suc (rank (entry_in a))) (with_line s (entry_in a)) (drop (length_in a) (c ∷ t)) (omega (arith, shorter (c ∷ t) a good)))

-- ---- and is the one of which it can be said

-- a good line at the front
pub read-good-line : (f n next : ℕ) (s : State) (e : Entry) (more : List ℕ) → Ranged e → in_order next e ≡ true → rests s e ≡ true → has_room s e ≡ true
    → read_from (suc f) n next s (line_text e ++ more) ≡ read_from f (suc n) (suc (rank e)) (with_line s e) more
read-good-line f n next s e more h o r room =
    read_step f n next s (line_text e ++ more) (rw length-append (omega (arith, line-some e)))
    ∙ rw (read-line e more h) (rw (o, r, room, drop-append_seam (line_text e) more))

-- good lines at the front
pub read-goods : (es : List Entry) (f n next : ℕ) (s : State) (more : List ℕ) → GoodLines next s es → length (lines_text es ++ more) ≤ f
    → (g : ℕ) × (length more ≤ g) × (read_from f n next s (lines_text es ++ more) ≡ read_from g (n + length es) (next_rank next es) (state_after s es) more)
unfolding lines_text
read-goods [] f n next s more good l = (f, l, rw (zero_right n))
  where
    zero_right : (n : ℕ) → n + 0 ≡ n
    zero_right n = omega arith
read-goods (e ∷ es) zero n next s more good l =
    absurd (omega (arith, length-append (line_text e ++ lines_text es) more, length-append (line_text e) (lines_text es), line-some e))
read-goods (e ∷ es) (suc f) n next s more good l =
    let k = length-append (line_text e) (lines_text es ++ more) in
    let same = append_assoc (line_text e) (lines_text es) more in
    let b : length (lines_text es ++ more) ≤ f = omega (arith, k, ap length same, line-some e) in
    let g = read-goods es f (suc n) (suc (rank e)) (with_line s e) more good.4 b in
    let m : suc n + length es ≡ n + suc (length es) = omega arith in
    (g.0, g.1, ap (read_from (suc f) n next s) same ∙ read-good-line f n next s e (lines_text es ++ more) good.0 good.1 good.2 good.3 ∙ g.2 ∙ rw m)

module _ (f n next : ℕ) (s : State) where
  bad-is : (text : List ℕ) (number : ℕ) → 0 < length text → length text ≤ f → LineCause next s text number → read_from f n next s text ≡ refused number n
  bad-is text number some l c =
      let z : f ≡ suc (f - 1) = omega arith in
      rw z (read_step (f - 1) n next s text some ∙ go number c)
    where
      later : Loading
      later = read_from (f - 1) (suc n) (suc (rank (entry_in (read_line text)))) (with_line s (entry_in (read_line text))) (drop (length_in (read_line text)) text)

      go : (number : ℕ) → LineCause next s text number → line_verdict n next s (read_line text) later ≡ refused number n
      go number (no_form e h) = rw (read_none text h, e)
      go number (out_of_range e h) =
          ap (λ (a : Result Parsed ℕ). line_verdict n next s a later) (read-outside text h) ∙ rw e
      go number (out_of_order e h) =
          let q = ap read_line h.is_line ∙ read-line h.entry h.more h.ranged in
          ap (λ (a : Result Parsed ℕ). line_verdict n next s a later) q ∙ rw (h.disordered, e)
      go number (unrested e h) =
          let q = ap read_line h.is_line ∙ read-line h.entry h.more h.ranged in
          ap (λ (a : Result Parsed ℕ). line_verdict n next s a later) q ∙ rw (h.ordered, h.lacking, e)
      go number (thirty_third e h) =
          let q = ap read_line h.is_line ∙ read-line h.entry h.more h.ranged in
          ap (λ (a : Result Parsed ℕ). line_verdict n next s a later) q ∙ rw (h.ordered, h.rested, h.no_room, e)

pub comes-from : (r : Loading) (f n next : ℕ) (s : State) (text : List ℕ) → length text ≤ f → Comes n next s text r → read_from f n next s text ≡ r
comes-from (loaded given) f n next s text l c =
    let e = append-nil (lines_text c.lines) in
    let w : text ≡ lines_text c.lines ++ [] = c.whole ∙ sym e in
    let g = read-goods c.lines f n next s [] c.good (rw w at l) in
    ap (read_from f n next s) w ∙ g.2 ∙ read-end g.0 _ _ _ ∙ ap loaded c.same
comes-from (refused number place) f n next s text l c =
    let g = read-goods c.earlier f n next s c.rest c.good (rw c.whole at l) in
    ap (read_from f n next s) c.whole ∙ g.2
    ∙ bad-is g.0 (n + length c.earlier) (next_rank next c.earlier) (state_after s c.earlier) c.rest number c.more g.1 c.cause
    ∙ ap (refused number) (sym c.here)
