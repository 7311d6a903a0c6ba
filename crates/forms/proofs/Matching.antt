-- Reading a form and writing it undo each other, whatever the form. Assumes nothing.
use mathlib.Core.Path.{◌≡◌, refl, sym, ap, ◌∙◌}
use mathlib.Core.Bool.{Bool, true, false, cond, ◌&&◌, not}
use mathlib.Core.List.{List, [], ◌∷◌, ◌++◌, append_assoc}
use Prim.Native.Nat.{ℕ, suc, ◌≤◌, ◌<◌}
use native.Mathlib.Omega.{arith}
use lib.ListN.{length, drop, length-append, length-drop}
use lib.Seq.{drop-drop, drop-append_seam}
use lib.Dec.{ltb, eqb}
use borrow.Author.Tests.{lt-ltb, ne_eqb, ltb-true, eqb-true, eqb-false}
use Rattle.sets.proofs.Booleans.{both, clash}
use Rattle.forms.specs.Numbers.{read_byte, is_digit}
use Rattle.forms.specs.Kinds.{syntax_of, is_slot_syntax, is_slot}
use Rattle.forms.specs.Forms.{item_text, read_item, text_by, read_by, fits_by, head, left, fill, Match, unmatched, matched, prepend, scan, values_fit, values_in}
use Rattle.forms.specs.Tables.{slot_count, goes_on_plain, parted, apart}
use Rattle.forms.specs.declared.kinds.Syntax.{Syntax}
use Rattle.forms.specs.declared.kinds.Syntax.TheVariants as syntax
use Rattle.forms.specs.declared.numbers.Number.{Number}
use Rattle.forms.proofs.Digits.{digit_at}
use Rattle.forms.proofs.Reading.{by-short, by_fits, by_front, by-back, by-pos, Got}

-- ---- one byte of a form

pub item-short : (c : ℕ) (s : List ℕ) → (read_item c s).length ≤ length s
unfolding read_item
item-short c s = by-short (syntax_of c) c s

item-fits : (c : ℕ) (s : List ℕ) → 0 < (read_item c s).length → fits_by (syntax_of c) (read_item c s).value ≡ true
unfolding read_item
item-fits c s = by_fits (syntax_of c) c s

item-front : (c : ℕ) (s : List ℕ) → 0 < (read_item c s).length → s ≡ item_text c (read_item c s).value ++ drop (read_item c s).length s
unfolding read_item item_text
item-front c s = by_front (syntax_of c) c s

pub item-pos : (c v : ℕ) → 0 < length (item_text c v)
unfolding item_text
item-pos c v = by-pos (syntax_of c) c v

literal-by : (x : Syntax) (c v : ℕ) → is_slot_syntax x ≡ false → text_by x c v ≡ c ∷ []
unfolding text_by
literal-by syntax.Literal c v h = refl
literal-by syntax.Number c v h = clash refl h
literal-by syntax.Positive c v h = clash refl h
literal-by syntax.Signed c v h = clash refl h
literal-by syntax.Date c v h = clash refl h
literal-by syntax.TimeOfDay c v h = clash refl h

literal-fits : (x : Syntax) (v : ℕ) → is_slot_syntax x ≡ false → fits_by x v ≡ true
unfolding fits_by
literal-fits syntax.Literal v h = refl
literal-fits syntax.Number v h = clash refl h
literal-fits syntax.Positive v h = clash refl h
literal-fits syntax.Signed v h = clash refl h
literal-fits syntax.Date v h = clash refl h
literal-fits syntax.TimeOfDay v h = clash refl h

literal-read : (x : Syntax) (c : ℕ) (s : List ℕ) → is_slot_syntax x ≡ false → read_by x c s ≡ read_byte c s
unfolding read_by
literal-read syntax.Literal c s h = refl
literal-read syntax.Number c s h = clash refl h
literal-read syntax.Positive c s h = clash refl h
literal-read syntax.Signed c s h = clash refl h
literal-read syntax.Date c s h = clash refl h
literal-read syntax.TimeOfDay c s h = clash refl h

-- a byte that is no mark stands for itself
pub literal-text : (c v : ℕ) → is_slot c ≡ false → item_text c v ≡ c ∷ []
unfolding item_text is_slot
literal-text c v h = literal-by (syntax_of c) c v h

unmarked-fits : (c v : ℕ) → is_slot c ≡ false → fits_by (syntax_of c) v ≡ true
unfolding is_slot
unmarked-fits c v h = literal-fits (syntax_of c) v h

pub unmarked-read : (c : ℕ) (s : List ℕ) → is_slot c ≡ false → read_item c s ≡ read_byte c s
unfolding is_slot read_item
unmarked-read c s h = literal-read (syntax_of c) c s h

item_back : (c v : ℕ) (s : List ℕ) → fits_by (syntax_of c) v ≡ true → (is_slot c ≡ true → digit_at s ≡ false)
    → Got (syntax_of c) c v (read_item c (item_text c v ++ s))
unfolding read_item item_text is_slot
item_back c v s f d = by-back (syntax_of c) c v s f d

-- ---- what a match says of the text

abbrev pub Sound : List ℕ → List ℕ → Match → Type 0
Sound t s unmatched = Unit {0}
Sound t s (matched vs n) = (w : List ℕ) → (s ≡ fill t (vs ++ w) ++ drop n s) × (values_fit t (vs ++ w) ≡ true)

pub sound : (t s : List ℕ) → Sound t s (scan t s)
unfolding scan fill values_fit
sound [] s = λ w. (refl, refl)
sound (c ∷ t) s =
    go (ltb 0 (read_item c s).length) refl (is_slot c) refl (scan t (drop (read_item c s).length s)) (sound t (drop (read_item c s).length s))
  where
    go : (x : Bool) → ltb 0 (read_item c s).length ≡ x → (b : Bool) → is_slot c ≡ b → (m : Match) → Sound t (drop (read_item c s).length s) m
        → Sound (c ∷ t) s (cond x (prepend b (read_item c s).value (read_item c s).length m) unmatched)
    go false p b q m ih = tt
    go true p b q unmatched ih = tt
    go true p true q (matched us m) ih = λ w. (
      rw (q, append_assoc, ← drop-drop m (read_item c s).length s)
          (item-front c s (ltb-true _ _ p) ∙ ap (λ (l : List ℕ). item_text c (read_item c s).value ++ l) (ih w).0),
      rw (q, item-fits c s (ltb-true _ _ p)) (ih w).1,
    )
    go true p false q (matched us m) ih = λ w. (
      rw (q, append_assoc, ← drop-drop m (read_item c s).length s, literal-text c (head (us ++ w)) q)
          (rw (literal-text c (read_item c s).value q) at (item-front c s (ltb-true _ _ p)) ∙ ap (λ (l : List ℕ). c ∷ l) (ih w).0),
      rw (q, unmarked-fits c (head (us ++ w)) q) (ih w).1,
    )

-- a match takes no more than the text, and as many values as the form has marks
abbrev pub Within : List ℕ → List ℕ → Match → Type 0
Within t s unmatched = Unit {0}
Within t s (matched vs n) = (n ≤ length s) × (length vs ≡ slot_count t)

within-prepend : (c : ℕ) (t s : List ℕ) (x b : Bool) (v n : ℕ) (m : Match) → is_slot c ≡ b → n ≤ length s → Within t (drop n s) m
    → Within (c ∷ t) s (cond x (prepend b v n m) unmatched)
within-prepend c t s false b v n m q l w = tt
within-prepend c t s true b v n unmatched q l w = tt
within-prepend c t s true true v n (matched vs m) q l w = (omega (arith, length-drop n s, w.0), rw q (ap suc w.1))
within-prepend c t s true false v n (matched vs m) q l w = (omega (arith, length-drop n s, w.0), rw q w.1)

pub within : (t s : List ℕ) → Within t s (scan t s)
unfolding scan
within [] s = (omega arith, refl)
within (c ∷ t) s =
    within-prepend c t s (ltb 0 (read_item c s).length) (is_slot c) (read_item c s).value (read_item c s).length
    (scan t (drop (read_item c s).length s)) refl (item-short c s) (within t (drop (read_item c s).length s))

-- ---- what was written is read again

neither : (a b : Bool) → (not a && not b) ≡ true → (a ≡ false) × (b ≡ false)
neither true b h = clash h refl
neither false true h = clash h refl
neither false false h = (refl, refl)

-- where a form goes on with a plain byte, so does its text
plain-text : (t ws s : List ℕ) → goes_on_plain t ≡ true → digit_at (fill t ws ++ s) ≡ false
unfolding fill
plain-text [] ws s h = clash h refl
plain-text (c ∷ t) ws s h =
    let p = neither (is_slot c) (is_digit c) h in
    rw (literal-text c (head ws) p.0) p.1

after-slot : (c : ℕ) (t ws s : List ℕ) → cond (is_slot c) (goes_on_plain t) true ≡ true → is_slot c ≡ true → digit_at (fill t ws ++ s) ≡ false
after-slot c t ws s h e = plain-text t ws s (rw e at h)

got-pos : (x : Syntax) (c v : ℕ) (r : Number) → Got x c v r → ltb 0 r.length ≡ true
got-pos x c v r g = rw g.long (lt-ltb 0 (length (text_by x c v)) (by-pos x c v))

prepend-value : (b : Bool) (v w n : ℕ) (m : Match) → (b ≡ true → v ≡ w) → prepend b v n m ≡ prepend b w n m
prepend-value b v w n unmatched e = refl
prepend-value true v w n (matched vs m) e = rw (e refl)
prepend-value false v w n (matched vs m) e = refl

-- the first item of a form that was written
one : (c v : ℕ) (t s : List ℕ) → Got (syntax_of c) c v (read_item c (item_text c v ++ s))
    → scan (c ∷ t) (item_text c v ++ s) ≡ prepend (is_slot c) v (length (item_text c v)) (scan t s)
unfolding scan item_text is_slot
one c v t s g =
    rw (got-pos (syntax_of c) c v _ g, g.long, drop-append_seam)
    (prepend-value (is_slot_syntax (syntax_of c)) _ v (length (text_by (syntax_of c) c v)) (scan t s) g.value)

pub complete : (t ws s : List ℕ) → values_fit t ws ≡ true → parted t ≡ true → scan t (fill t ws ++ s) ≡ matched (values_in t ws) (length (fill t ws))
unfolding scan fill values_fit values_in
complete [] ws s f p = refl
complete (c ∷ t) ws s f p =
    let k = both (fits_by (syntax_of c) (head ws)) (values_fit t (left (is_slot c) ws)) f in
    let q = both (cond (is_slot c) (goes_on_plain t) true) (parted t) p in
    let g = item_back c (head ws) (fill t (left (is_slot c) ws) ++ s) k.0 (after-slot c t (left (is_slot c) ws) s q.0) in
    ap (scan (c ∷ t)) (append_assoc (item_text c (head ws)) (fill t (left (is_slot c) ws)) s)
    ∙ one c (head ws) t (fill t (left (is_slot c) ws) ++ s) g
    ∙ ap (prepend (is_slot c) (head ws) (length (item_text c (head ws)))) (complete t (left (is_slot c) ws) s k.1 q.1)
    ∙ go (is_slot c)
  where
    go : (b : Bool) → prepend b (head ws) (length (item_text c (head ws))) (matched (values_in t (left b ws)) (length (fill t (left b ws))))
        ≡ matched (cond b (head ws ∷ values_in t (left b ws)) (values_in t (left b ws))) (length (item_text c (head ws) ++ fill t (left b ws)))
    go true = rw length-append
    go false = rw length-append

-- ---- two forms that differ at a byte have no text in common

other : (c d : ℕ) (t s : List ℕ) → is_slot c ≡ false → eqb c d ≡ false → scan (c ∷ t) (d ∷ s) ≡ unmatched
unfolding scan read_byte
other c d t s h e = rw (unmarked-read c (d ∷ s) h, ne_eqb d c (λ q. eqb-false c d e (sym q)))

pub disjoint : (t u ws s : List ℕ) → apart t u ≡ true → values_fit u ws ≡ true → parted u ≡ true → scan t (fill u ws ++ s) ≡ unmatched
unfolding fill values_fit
disjoint [] u ws s a f p = clash a refl
disjoint (c ∷ t) [] ws s a f p = clash a refl
disjoint (c ∷ t) (d ∷ u) ws s a f p =
    let k = both (fits_by (syntax_of d) (head ws)) (values_fit u (left (is_slot d) ws)) f in
    let q = both (cond (is_slot d) (goes_on_plain u) true) (parted u) p in
    go (eqb c d) refl k.0 q.0 (λ b. disjoint t u (left (is_slot d) ws) s b k.1 q.1) a
  where
    go : (x : Bool) → eqb c d ≡ x → fits_by (syntax_of d) (head ws) ≡ true → cond (is_slot d) (goes_on_plain u) true ≡ true
        → (apart t u ≡ true → scan t (fill u (left (is_slot d) ws) ++ s) ≡ unmatched)
        → cond x (apart t u) (not (is_slot c) && not (is_slot d)) ≡ true
        → scan (c ∷ t) ((item_text d (head ws) ++ fill u (left (is_slot d) ws)) ++ s) ≡ unmatched
    go true e k q ih b =
        rw (eqb-true c d e, append_assoc)
        (one d (head ws) t (fill u (left (is_slot d) ws) ++ s) (item_back d (head ws) (fill u (left (is_slot d) ws) ++ s) k (after-slot d u (left (is_slot d) ws) s q))
        ∙ ap (prepend (is_slot d) (head ws) (length (item_text d (head ws)))) (ih b))
    go false e k q ih b =
        let n = neither (is_slot c) (is_slot d) b in
        rw (literal-text d (head ws) n.1) (other c d t (fill u (left (is_slot d) ws) ++ s) n.0 e)
