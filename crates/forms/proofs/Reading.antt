-- What each syntax reads at the front of a text: how long it is, that it stands there, and that it fits. Assumes nothing.
use mathlib.Core.Path.{◌≡◌, refl, ap, subst⁻¹}
use mathlib.Core.Bool.{Bool, true, false, cond, ◌&&◌, not}
use mathlib.Core.List.{List, [], ◌∷◌, ◌++◌}
use Prim.Native.Nat.{ℕ, zero, suc, ◌+◌, ◌-◌, ◌*◌, ◌/◌, ◌%◌, ◌≤◌, ◌<◌}
use native.Mathlib.Omega.{arith}
use lib.ListN.{length, drop, get_or, get_or-append}
use lib.Dec.{ltb, eqb}
use borrow.Author.Tests.{lt-ltb, le-ltb, eq-eqb, ne_eqb, ltb-true, ltb-false, eqb-true, eqb-false, not-true}
use Rattle.sets.proofs.Booleans.{both, clash}
use Rattle.forms.specs.Numbers.{digits_of, signed_of, fixed_of, digits_from, read_number, read_positive, read_signed, read_byte, read_fixed, value_and_length, nothing, longer, is_digit}
use Rattle.forms.specs.Kinds.{is_slot_syntax, syntax_of}
use Rattle.forms.specs.Forms.{text_by, read_by, read_item, fits_by}
use Rattle.forms.specs.declared.kinds.Syntax.{Syntax}
use Rattle.forms.specs.declared.kinds.Syntax.TheVariants as syntax
use Rattle.forms.specs.declared.numbers.Number.{Number}
use Rattle.forms.proofs.Digits.{number-sound, number-complete, digits-small, digits_step, digits-pos, digit_at}
use Rattle.forms.proofs.FixedDigits.{fixed-sound, fixed-fits, fixed-short, fixed-complete, fixed-length}

-- ---- a plain number

from-short : (s : List ℕ) (a : ℕ) → (digits_from s a).length ≤ length s
unfolding digits_from
from-short [] a = omega arith
from-short (c ∷ s) a = go (ltb a 1000000000 && is_digit c) (from-short s (a * 10 + (c - 48)))
  where
    go : (b : Bool) → (digits_from s (a * 10 + (c - 48))).length ≤ length s
        → (cond b (longer 1 (digits_from s (a * 10 + (c - 48)))) (value_and_length a 0)).length ≤ suc (length s)
    go true h = omega arith
    go false h = omega arith

pub number_short : (s : List ℕ) → (read_number s).length ≤ length s
unfolding read_number
number_short [] = omega arith
number_short (c ∷ s) = go (eqb c 48) (is_digit c) (from-short s (c - 48))
  where
    go : (x y : Bool) → (digits_from s (c - 48)).length ≤ length s
        → (cond x (value_and_length 0 1) (cond y (longer 1 (digits_from s (c - 48))) nothing)).length ≤ suc (length s)
    go true y h = omega arith
    go false true h = omega arith
    go false false h = omega arith

-- where no number stands the value is 0
pub number-none : (s : List ℕ) → (read_number s).length ≡ 0 → (read_number s).value ≡ 0
unfolding read_number
number-none [] h = refl
number-none (c ∷ s) h = go (eqb c 48) (is_digit c) h
  where
    go : (x y : Bool) → (cond x (value_and_length 0 1) (cond y (longer 1 (digits_from s (c - 48))) nothing)).length ≡ 0
        → (cond x (value_and_length 0 1) (cond y (longer 1 (digits_from s (c - 48))) nothing)).value ≡ 0
    go true y h = refl
    go false true h = absurd (omega arith)
    go false false h = refl

pub number_small : (s : List ℕ) → (read_number s).value < 10000000000
number_small s = go (read_number s).length refl
  where
    go : (n : ℕ) → (read_number s).length ≡ n → (read_number s).value < 10000000000
    go zero e = omega (arith, number-none s e)
    go (suc n) e = (number-sound s (omega arith)).small

number-stands : (s : List ℕ) → 0 < (read_number s).value → 0 < (read_number s).length
number-stands s h = go (read_number s).length refl
  where
    go : (n : ℕ) → (read_number s).length ≡ n → 0 < (read_number s).length
    go zero e = absurd (omega (arith, number-none s e))
    go (suc n) e = omega arith

-- ---- a number other than 0

-- 2026-04: "a written 0 is 10 in either text": a form that asks for such a number finds none in a 0, whatever follows it
pub zero-unread : (c : ℕ) (s : List ℕ) → syntax_of c ≡ syntax.Positive → read_item c (48 ∷ s) ≡ nothing
unfolding read_item read_by read_positive read_number
zero-unread c s e = rw e refl

positive-least : (s : List ℕ) → 0 < (read_positive s).length → 1 ≤ (read_positive s).value
unfolding read_positive
positive-least s h = go (ltb 0 (read_number s).value) refl h
  where
    go : (b : Bool) → ltb 0 (read_number s).value ≡ b → 0 < (cond b (read_number s) nothing).length → 1 ≤ (cond b (read_number s) nothing).value
    go true e k = ltb-true _ _ e
    go false e k = absurd (omega arith)

-- and one that it finds is at least 1
pub positive-read : (c : ℕ) (s : List ℕ) → syntax_of c ≡ syntax.Positive → 0 < (read_item c s).length → 1 ≤ (read_item c s).value
unfolding read_item read_by
positive-read c s e h = rw e (positive-least s (rw e at h))

-- what holds of a plain number and of none holds of it
positive-either : (P : Number → Type 0) (s : List ℕ) → P (read_number s) → P nothing → P (read_positive s)
unfolding read_positive
positive-either P s p q = go (ltb 0 (read_number s).value)
  where
    go : (b : Bool) → P (cond b (read_number s) nothing)
    go true = p
    go false = q

positive-fits : (s : List ℕ) → 0 < (read_positive s).length → (ltb 0 (read_positive s).value && ltb (read_positive s).value 10000000000) ≡ true
positive-fits s h =
    let small = positive-either (λ r. r.value < 10000000000) s (number_small s) (omega arith) in
    rw (lt-ltb 0 (read_positive s).value (omega (arith, positive-least s h)), lt-ltb (read_positive s).value 10000000000 small)

-- ---- a number that may have a minus

pub plus-text : (v : ℕ) → v ≤ 10000000000 → signed_of v ≡ digits_of v
unfolding signed_of
plus-text v h = rw (le-ltb 10000000000 v h)

pub minus-text : (v : ℕ) → 10000000000 < v → signed_of v ≡ 45 ∷ digits_of (v - 10000000000)
unfolding signed_of
minus-text v h = rw (lt-ltb 10000000000 v h)

pub signed-plain : (s : List ℕ) → (get_or s 0 0 ≡ 45 → ⊥) → read_signed s ≡ read_number s
unfolding read_signed read_number
signed-plain [] h = refl
signed-plain (c ∷ s) h = rw (ne_eqb c 45 h)

signed-short : (s : List ℕ) → (read_signed s).length ≤ length s
unfolding read_signed
signed-short [] = omega arith
signed-short (c ∷ s) = go (eqb c 45) (ltb 0 (read_number s).value) (number_short s) (number_short (c ∷ s))
  where
    go : (x y : Bool) → (read_number s).length ≤ length s → (read_number (c ∷ s)).length ≤ length (c ∷ s)
        → (cond x (cond y (value_and_length (10000000000 + (read_number s).value) (1 + (read_number s).length)) nothing) (read_number (c ∷ s))).length ≤ suc (length s)
    go true true h k = omega arith
    go true false h k = omega arith
    go false y h k = k

signed-fits : (s : List ℕ) → (ltb (read_signed s).value 20000000000 && not (eqb (read_signed s).value 10000000000)) ≡ true
unfolding read_signed
signed-fits [] = refl
signed-fits (c ∷ s) = go (eqb c 45) (ltb 0 (read_number s).value) refl
  where
    small : (v : ℕ) → v < 10000000000 → (ltb v 20000000000 && not (eqb v 10000000000)) ≡ true
    small v h = rw (lt-ltb v 20000000000 (omega arith), ne_eqb v 10000000000 (λ q. omega arith))

    go : (x y : Bool) → ltb 0 (read_number s).value ≡ y
        → (ltb (cond x (cond y (value_and_length (10000000000 + (read_number s).value) (1 + (read_number s).length)) nothing) (read_number (c ∷ s))).value 20000000000
        && not (eqb (cond x (cond y (value_and_length (10000000000 + (read_number s).value) (1 + (read_number s).length)) nothing) (read_number (c ∷ s))).value 10000000000)) ≡ true
    go true true q =
        let k : 0 < (read_number s).value = ltb-true _ _ q in
        let l = number_small s in
        rw (lt-ltb (10000000000 + (read_number s).value) 20000000000 (omega arith), ne_eqb (10000000000 + (read_number s).value) 10000000000 (λ q. omega arith))
    go true false q = refl
    go false y q = small (read_number (c ∷ s)).value (number_small (c ∷ s))

-- ---- each syntax

-- what is read is no longer than the text
pub by-short : (x : Syntax) (c : ℕ) (s : List ℕ) → (read_by x c s).length ≤ length s
unfolding read_by
by-short syntax.Literal c s = byte s
  where
    byte : (s : List ℕ) → (read_byte c s).length ≤ length s
    byte [] = unfold read_byte in omega arith
    byte (d ∷ s) = unfold read_byte in go (eqb d c)
      where
        go : (b : Bool) → (cond b (value_and_length 0 1) nothing).length ≤ suc (length s)
        go true = omega arith
        go false = omega arith
by-short syntax.Number c s = number_short s
by-short syntax.Positive c s = positive-either (λ r. r.length ≤ length s) s (number_short s) (omega arith)
by-short syntax.Signed c s = signed-short s
by-short syntax.Date c s = fixed-short 8 s
by-short syntax.TimeOfDay c s = fixed-short 4 s

-- its value fits, where something is read; where nothing is, the value is 0
pub by_fits : (x : Syntax) (c : ℕ) (s : List ℕ) → 0 < (read_by x c s).length → fits_by x (read_by x c s).value ≡ true
unfolding read_by fits_by
by_fits syntax.Literal c s h = refl
by_fits syntax.Number c s h = lt-ltb _ _ (number_small s)
by_fits syntax.Positive c s h = positive-fits s h
by_fits syntax.Signed c s h = signed-fits s
by_fits syntax.Date c s h = lt-ltb _ _ (fixed-fits 8 s (omega arith))
by_fits syntax.TimeOfDay c s h = lt-ltb _ _ (fixed-fits 4 s (omega arith))

-- the text that was read
abbrev Front : List ℕ → Number → (ℕ → List ℕ) → Type 0
Front s r text = 0 < r.length → s ≡ text r.value ++ drop r.length s

number-front : (s : List ℕ) → Front s (read_number s) digits_of
number-front s h = (number-sound s h).text

signed-front : (s : List ℕ) → Front s (read_signed s) signed_of
unfolding read_signed
signed-front [] = λ h. absurd (omega arith)
signed-front (c ∷ s) = go (eqb c 45) (ltb 0 (read_number s).value) refl refl
  where
    go : (x y : Bool) → eqb c 45 ≡ x → ltb 0 (read_number s).value ≡ y
        → Front (c ∷ s) (cond x (cond y (value_and_length (10000000000 + (read_number s).value) (1 + (read_number s).length)) nothing) (read_number (c ∷ s))) signed_of
    go true true p q h =
        let k : 0 < (read_number s).value = ltb-true _ _ q in
        let n : 1 + (read_number s).length ≡ suc (read_number s).length = omega arith in
        let e : 10000000000 + (read_number s).value - 10000000000 ≡ (read_number s).value = omega arith in
        rw (minus-text (10000000000 + (read_number s).value) (omega arith), n, e, eqb-true c 45 p)
        (ap (λ (l : List ℕ). 45 ∷ l) (number-front s (number-stands s k)))
    go true false p q h = absurd (omega arith)
    go false y p q h = rw (plus-text (read_number (c ∷ s)).value (omega (arith, number_small (c ∷ s)))) (number-front (c ∷ s) h)

byte-front : (c : ℕ) (s : List ℕ) → Front s (read_byte c s) (λ v. c ∷ [])
unfolding read_byte
byte-front c [] = λ h. absurd (omega arith)
byte-front c (d ∷ s) = go (eqb d c) refl
  where
    go : (x : Bool) → eqb d c ≡ x → Front (d ∷ s) (cond x (value_and_length 0 1) nothing) (λ v. c ∷ [])
    go true p h = ap (λ (x : ℕ). x ∷ s) (eqb-true d c p)
    go false p h = absurd (omega arith)

pub by_front : (x : Syntax) (c : ℕ) (s : List ℕ) → Front s (read_by x c s) (text_by x c)
unfolding read_by text_by
by_front syntax.Literal c s = byte-front c s
by_front syntax.Number c s = number-front s
by_front syntax.Positive c s = positive-either (λ r. Front s r digits_of) s (number-front s) (λ h. absurd (omega arith))
by_front syntax.Signed c s = signed-front s
by_front syntax.Date c s = fixed-sound 8 s
by_front syntax.TimeOfDay c s = fixed-sound 4 s

-- ---- what was written is read again

abbrev Digit : ℕ → Type 0
Digit c = (48 ≤ c) × (c ≤ 57)

first-digit : (f v : ℕ) → v ≤ f → Digit (get_or (digits_of v) 0 0)
first-digit zero v h = rw (digits-small v (omega arith)) (omega arith, omega arith)
first-digit (suc f) v h = go (ltb v 10) refl (λ k. first-digit f (v / 10) k)
  where
    go : (b : Bool) → ltb v 10 ≡ b → (v / 10 ≤ f → Digit (get_or (digits_of (v / 10)) 0 0)) → Digit (get_or (digits_of v) 0 0)
    go true e ih =
        let l : v < 10 = ltb-true v 10 e in
        rw (digits-small v l) (omega arith, omega arith)
    go false e ih =
        let l : 10 ≤ v = ltb-false v 10 e in
        rw (digits_step v l, get_or-append (digits_of (v / 10)) ((48 + v % 10) ∷ []) 0 0 (digits-pos (v / 10))) (ih (omega arith))

no_minus : (v : ℕ) (s : List ℕ) → read_signed (digits_of v ++ s) ≡ read_number (digits_of v ++ s)
no_minus v s =
    let d = first-digit v v (omega arith) in
    let g = get_or-append (digits_of v) s 0 0 (digits-pos v) in
    signed-plain (digits_of v ++ s) (λ e. omega (arith, g, d))

positive-complete : (v : ℕ) → 0 < v → v < 10000000000 → (s : List ℕ) → digit_at s ≡ false
    → read_positive (digits_of v ++ s) ≡ value_and_length v (length (digits_of v))
unfolding read_positive
positive-complete v p h s d = rw (number-complete v h s d, lt-ltb 0 v p)

signed-complete : (v : ℕ) → v < 20000000000 → (v ≡ 10000000000 → ⊥) → (s : List ℕ) → digit_at s ≡ false
    → read_signed (signed_of v ++ s) ≡ value_and_length v (length (signed_of v))
unfolding read_signed
signed-complete v h n s d = go (ltb 10000000000 v) refl
  where
    go : (b : Bool) → ltb 10000000000 v ≡ b → read_signed (signed_of v ++ s) ≡ value_and_length v (length (signed_of v))
    go true e =
        let l : 10000000000 < v = ltb-true _ _ e in
        let w : 10000000000 + (v - 10000000000) ≡ v = omega arith in
        rw (minus-text v l, number-complete (v - 10000000000) (omega arith) s d, lt-ltb 0 (v - 10000000000) (omega arith), w)
        (ap (value_and_length v) (omega arith))
    go false e =
        let l : v ≤ 10000000000 = ltb-false _ _ e in
        let k : v < 10000000000 = omega arith in
        rw (plus-text v l, no_minus v s) (number-complete v k s d)

-- what is read where the value v was written
pub record Got (x : Syntax) (c v : ℕ) (r : Number) : Type 0 where
  pub long : r.length ≡ length (text_by x c v)
  pub value : is_slot_syntax x ≡ true → r.value ≡ v

got : (x : Syntax) (c v : ℕ) (r : Number) → r ≡ value_and_length v (length (text_by x c v)) → Got x c v r
got x c v r e = subst⁻¹ (Got x c v) e (record { long = refl; value = λ k. refl })

byte-back : (c : ℕ) (s : List ℕ) → read_byte c (c ∷ s) ≡ value_and_length 0 1
unfolding read_byte
byte-back c s = rw (eq-eqb c c refl)

fixed-got : (n v : ℕ) (s : List ℕ) → read_fixed n (fixed_of n v ++ s) ≡ value_and_length v n → read_fixed n (fixed_of n v ++ s) ≡ value_and_length v (length (fixed_of n v))
fixed-got n v s e = rw (fixed-length n v) e

pub by-back : (x : Syntax) (c v : ℕ) (s : List ℕ) → fits_by x v ≡ true → (is_slot_syntax x ≡ true → digit_at s ≡ false)
    → Got x c v (read_by x c (text_by x c v ++ s))
unfolding read_by text_by fits_by
by-back syntax.Literal c v s h d =
    subst⁻¹ (Got syntax.Literal c v) (byte-back c s) (record { long = refl; value = λ k. clash k refl })
by-back syntax.Number c v s h d = got syntax.Number c v _ (number-complete v (ltb-true _ _ h) s (d refl))
by-back syntax.Positive c v s h d =
    let p = both (ltb 0 v) (ltb v 10000000000) h in
    got syntax.Positive c v _ (positive-complete v (ltb-true _ _ p.0) (ltb-true _ _ p.1) s (d refl))
by-back syntax.Signed c v s h d =
    let p = both (ltb v 20000000000) (not (eqb v 10000000000)) h in
    got syntax.Signed c v _ (signed-complete v (ltb-true _ _ p.0) (eqb-false v 10000000000 (not-true _ p.1)) s (d refl))
by-back syntax.Date c v s h d = got syntax.Date c v _ (fixed-got 8 v s (fixed-complete 8 v s (ltb-true _ _ h)))
by-back syntax.TimeOfDay c v s h d = got syntax.TimeOfDay c v _ (fixed-got 4 v s (fixed-complete 4 v s (ltb-true _ _ h)))

pub by-pos : (x : Syntax) (c v : ℕ) → 0 < length (text_by x c v)
unfolding text_by signed_of
by-pos syntax.Literal c v = omega arith
by-pos syntax.Number c v = digits-pos v
by-pos syntax.Positive c v = digits-pos v
by-pos syntax.Signed c v = go (ltb 10000000000 v)
  where
    go : (b : Bool) → 0 < length (cond b (45 ∷ digits_of (v - 10000000000)) (digits_of v))
    go true = omega arith
    go false = digits-pos v
by-pos syntax.Date c v = rw (fixed-length 8 v) (omega arith)
by-pos syntax.TimeOfDay c v = rw (fixed-length 4 v) (omega arith)
