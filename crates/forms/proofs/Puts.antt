-- Laws of writing. Assumes nothing.
use mathlib.Core.Path.{◌≡◌, refl, sym, ap, ◌∙◌, subst, subst⁻¹}
use mathlib.Core.Bool.{Bool, true, false, cond}
use mathlib.Core.List.{List, [], ◌∷◌, ◌++◌}
use Prim.Native.Nat.{ℕ, zero, suc, ◌+◌, ◌-◌, ◌*◌, ◌/◌, ◌^◌, ◌≤◌, ◌<◌}
use native.Mathlib.Nat.{add-zero, zero-add, pow-suc}
use native.Mathlib.Omega.{arith}
use lib.ListN.{length, drop, set, length-append, length-set}
use lib.Seq.{sets, length-sets, sets-eq, set_out}
use lib.Dec.{ltb, leb}
use borrow.Author.Tests.{le-leb, lt-leb, leb-true, leb-false, ltb-true, ltb-false}
use Rattle.sets.proofs.Booleans.{both}
use Rattle.forms.specs.Numbers.{digits_of, signed_of}
use Rattle.forms.specs.Kinds.{syntax_of, is_slot}
use Rattle.forms.specs.Forms.{text_by, item_text, fits_by, head, left, fill, values_fit}
use Rattle.forms.specs.Writing.{last_place, capped, Wrote, written_of, lent_after}
use Rattle.std.specs.Prelude.{Ok, Err}
use Rattle.forms.specs.declared.kinds.Syntax.{Syntax}
use Rattle.forms.specs.declared.kinds.Syntax.TheVariants as syntax
use Rattle.forms.proofs.Digits.{digits-small, digits_step}
use Rattle.forms.proofs.FixedDigits.{fixed-length}
use Rattle.forms.proofs.Matching.{item-pos}

-- ---- places

pub capped_small : (n : ℕ) → n ≤ last_place → capped n ≡ n
capped_small n h = rw (le-leb n last_place h)

pub capped-large : (n : ℕ) → last_place ≤ n → capped n ≡ last_place
capped-large n h = go (leb n last_place) refl
  where
    go : (b : Bool) → leb n last_place ≡ b → cond b n last_place ≡ last_place
    go true e = omega (arith, leb-true n last_place e)
    go false e = refl

-- a place and a number of bytes more
data Place (n : ℕ) : Type 0 where
  within : n ≤ last_place → Place n
  beyond : last_place < n → Place n

place : (n : ℕ) → Place n
place n = go (leb n last_place) refl
  where
    go : (b : Bool) → leb n last_place ≡ b → Place n
    go true e = within (leb-true n last_place e)
    go false e = beyond (leb-false n last_place e)

capped-add : (a b : ℕ) → capped (capped a + b) ≡ capped (a + b)
capped-add a b = go (place a)
  where
    go : Place a → capped (capped a + b) ≡ capped (a + b)
    go (within h) = ap (λ (n : ℕ). capped (n + b)) (capped_small a h)
    go (beyond h) =
        ap (λ (n : ℕ). capped (n + b)) (capped-large a (omega arith))
        ∙ capped-large (last_place + b) (omega arith)
        ∙ sym (capped-large (a + b) (omega arith))

-- ---- one text after another

pub sets-append : {A : Type 0} (l : List A) (i : ℕ) (x y : List A) → sets l i (x ++ y) ≡ sets (sets l i x) (i + length x) y
sets-append l i [] y = rw add-zero
sets-append l i (a ∷ x) y =
    let e : suc i + length x ≡ i + suc (length x) = omega arith in
    sets-append (set l i a) (suc i) x y ∙ ap (λ (n : ℕ). sets (sets (set l i a) (suc i) x) n y) e

sets-out : (l : List ℕ) (i : ℕ) (x : List ℕ) → length l ≤ i → sets l i x ≡ l
sets-out l i [] h = refl
sets-out l i (a ∷ x) h = sets-out (set l i a) (suc i) x (rw length-set (omega arith)) ∙ set_out l i a h

pub then : {l : List ℕ} {i : ℕ} {x : List ℕ} {m : ℕ} {k y : List ℕ} {r : ℕ} {l' : List ℕ}
    → length l ≤ last_place → Wrote l i x m k → Wrote k m y r l' → Wrote l i (x ++ y) r l'
then {l} {i} {x} {m} {k} {y} {r} {l'} f v w = record {
  next =
      let e : i + length x + length y ≡ i + length (x ++ y) = omega (arith, length-append x y) in
      w.next ∙ ap (λ (n : ℕ). capped (n + length y)) v.next ∙ capped-add (i + length x) (length y) ∙ ap capped e;
  text =
      w.text ∙ ap (λ (u : List ℕ). sets u m y) v.text ∙ ap (λ (n : ℕ). sets (sets l i x) n y) v.next
      ∙ go (place (i + length x)) ∙ sym (sets-append l i x y);
}
  where
    go : Place (i + length x) → sets (sets l i x) (capped (i + length x)) y ≡ sets (sets l i x) (i + length x) y
    go (within h) = ap (λ (n : ℕ). sets (sets l i x) n y) (capped_small (i + length x) h)
    go (beyond h) =
        ap (λ (n : ℕ). sets (sets l i x) n y) (capped-large (i + length x) (omega arith))
        ∙ sets-out (sets l i x) last_place y (rw length-sets f)
        ∙ sym (sets-out (sets l i x) (i + length x) y (rw length-sets (omega arith)))

pub like : {l : List ℕ} {i : ℕ} {x z : List ℕ} {r : ℕ} {l' : List ℕ} → z ≡ x → Wrote l i x r l' → Wrote l i z r l'
like {l} {i} {x} {z} {r} {l'} e w = subst⁻¹ (λ (u : List ℕ). Wrote l i u r l') e w

pub nothing_written : (l : List ℕ) (i : ℕ) → i ≤ last_place → Wrote l i [] i l
nothing_written l i h = record { next = sym (ap capped (add-zero i) ∙ capped_small i h); text = refl }

pub same_length : {l : List ℕ} {i : ℕ} {x : List ℕ} {r : ℕ} {l' : List ℕ} → Wrote l i x r l' → length l' ≡ length l
same_length {l} {i} {x} w = ap length w.text ∙ length-sets l i x

capped-most : (n : ℕ) → capped n ≤ last_place
capped-most n = go (place n)
  where
    go : Place n → capped n ≤ last_place
    go (within h) = rw (capped_small n h) h
    go (beyond h) = rw (capped-large n (omega arith)) (omega arith)

pub next-most : {l : List ℕ} {i : ℕ} {x : List ℕ} {r : ℕ} {l' : List ℕ} → Wrote l i x r l' → r ≤ last_place
next-most {l} {i} {x} w = rw w.next (capped-most (i + length x))

-- one byte, within the list or past its end
pub byte-within : (l : List ℕ) (i b : ℕ) → i < length l → length l ≤ last_place → Wrote l i (b ∷ []) (i + 1) (set l i b)
byte-within l i b h f = record { next = sym (capped_small (i + 1) (omega arith)); text = refl }

pub byte_past : (l : List ℕ) (i b : ℕ) → length l ≤ i → i < last_place → Wrote l i (b ∷ []) (i + 1) l
byte_past l i b h f = record { next = sym (capped_small (i + 1) (omega arith)); text = sym (set_out l i b h) }

pub byte_last : (l : List ℕ) (i b : ℕ) → length l ≤ i → i ≡ last_place → Wrote l i (b ∷ []) i l
byte_last l i b h e = record { next = e ∙ sym (capped-large (i + 1) (omega arith)); text = sym (set_out l i b h) }

-- ---- a text measured, then refused or written

pub measure : {k x : List ℕ} {r : ℕ} {k' : List ℕ} → length x ≤ last_place → Wrote k 0 x r k' → r ≡ length x
measure {k} {x} f w = w.next ∙ ap capped (zero-add (length x)) ∙ capped_small (length x) f

-- where there is room, the text stands there, and the bytes past it stay
pub at_front : {l x : List ℕ} {r : ℕ} {l' : List ℕ} → length x ≤ length l → Wrote l 0 x r l' → l' ≡ x ++ drop (length x) l
at_front {l} {x} n w = w.text ∙ rw zero-add at (sets-eq x l 0 (rw zero-add n))

-- measured in the empty part of a lent list
whole : (m l : List ℕ) → length m ≡ 0 → m ++ drop 0 l ≡ l
whole [] l h = refl
whole (a ∷ m) l h = absurd (omega arith)

pub measured : {k x : List ℕ} {r : ℕ} {k' : List ℕ} (m l : List ℕ) → length x ≤ last_place → length m ≡ 0 → Wrote k 0 x r k' → length (m ++ drop 0 l) < r
    → (Err 18 ≡ written_of x l) × (m ++ drop 0 l ≡ lent_after x l)
unfolding written_of lent_after
measured {k} {x} {r} {k'} m l f e w h =
    let q = whole m l e in
    let n : length l < length x = omega (arith, measure f w, ap length q) in
    (rw (lt-leb (length x) (length l) n), q ∙ rw (lt-leb (length x) (length l) n))

pub placed : {k x : List ℕ} {q : ℕ} {k' : List ℕ} (m l : List ℕ) → length x ≤ last_place → length m ≡ 0 → Wrote k 0 x q k' → q ≤ length (m ++ drop 0 l)
    → {r : ℕ} {l' : List ℕ} → Wrote (m ++ drop 0 l) 0 x r l' → (Ok r ≡ written_of x l) × (l' ≡ lent_after x l)
unfolding written_of lent_after
placed {k} {x} {q} {k'} m l f e w h {r} {l'} v =
    let b = whole m l e in
    let n : length x ≤ length l = omega (arith, measure f w, ap length b) in
    (rw (le-leb (length x) (length l) n, measure f v), rw (le-leb (length x) (length l) n) (at_front n (subst (λ (u : List ℕ). Wrote u 0 x r l') b v)))

-- ---- how long a form's text is

pub digits-length : (k v : ℕ) → v < 10 ^ suc k → length (digits_of v) ≤ suc k
digits-length zero v h = rw (digits-small v (omega arith)) (omega arith)
digits-length (suc k) v h = go (ltb v 10) refl (digits-length k (v / 10))
  where
    go : (b : Bool) → ltb v 10 ≡ b → (v / 10 < 10 ^ suc k → length (digits_of (v / 10)) ≤ suc k) → length (digits_of v) ≤ suc (suc k)
    go true e ih = rw (digits-small v (ltb-true v 10 e)) (omega arith)
    go false e ih =
        let l : 10 ≤ v = ltb-false v 10 e in
        let w : v < 10 ^ suc k * 10 = rw (pow-suc 10 (suc k)) at h in
        let i = ih (omega arith) in
        rw (digits_step v l, length-append) (omega arith)

by_length : (x : Syntax) (c v : ℕ) → fits_by x v ≡ true → length (text_by x c v) ≤ 11
unfolding text_by fits_by signed_of
by_length syntax.Literal c v h = omega arith
by_length syntax.Number c v h = omega (arith, digits-length 9 v (ltb-true _ _ h))
by_length syntax.Positive c v h = omega (arith, digits-length 9 v (ltb-true _ _ (both (ltb 0 v) (ltb v 10000000000) h).1))
by_length syntax.Signed c v h = go (ltb 10000000000 v) refl
  where
    small : v < 20000000000
    small = ltb-true _ _ (both (ltb v 20000000000) _ h).0

    go : (b : Bool) → ltb 10000000000 v ≡ b → length (cond b (45 ∷ digits_of (v - 10000000000)) (digits_of v)) ≤ 11
    go true e = omega (arith, digits-length 9 (v - 10000000000) (omega (arith, small)))
    go false e = omega (arith, digits-length 10 v (omega (arith, small)))
by_length syntax.Date c v h = omega (arith, fixed-length 8 v)
by_length syntax.TimeOfDay c v h = omega (arith, fixed-length 4 v)

pub fill-length : (t ws : List ℕ) → values_fit t ws ≡ true → length (fill t ws) ≤ 11 * length t
unfolding fill values_fit
fill-length [] ws h = omega arith
fill-length (c ∷ t) ws h =
    let p = both (fits_by (syntax_of c) (head ws)) (values_fit t (left (is_slot c) ws)) h in
    let i = item-length c (head ws) p.0 in
    rw length-append (omega (arith, i, fill-length t (left (is_slot c) ws) p.1))
  where
    item-length : (c v : ℕ) → fits_by (syntax_of c) v ≡ true → length (item_text c v) ≤ 11
    item-length c v h = unfold item_text in by_length (syntax_of c) c v h

-- each byte of a form stands for one at least
pub fill-least : (t ws : List ℕ) → length t ≤ length (fill t ws)
unfolding fill
fill-least [] ws = omega arith
fill-least (c ∷ t) ws =
    rw length-append (omega (arith, item-pos c (head ws), fill-least t (left (is_slot c) ws)))
