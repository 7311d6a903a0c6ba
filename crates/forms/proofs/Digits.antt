-- The digits of a number and the number that is read at the front of a text: each undoes the other. Assumes nothing.
use mathlib.Core.Path.{◌≡◌, refl, sym, ap, ◌∙◌}
use mathlib.Core.Bool.{Bool, true, false, cond, ◌&&◌}
use mathlib.Core.List.{List, [], ◌∷◌, ◌++◌, append_assoc}
use Prim.Native.Nat.{ℕ, zero, suc, ◌+◌, ◌-◌, ◌*◌, ◌/◌, ◌%◌, ◌≤◌, ◌<◌}
use native.Mathlib.Omega.{arith}
use lib.ListN.{length, drop, length-append}
use lib.Dec.{ltb, leb, eqb}
use borrow.Author.Tests.{lt-ltb, le-ltb, le-leb, ne_eqb, ltb-true, ltb-false, leb-true, eqb-true, eqb-false}
use Rattle.sets.proofs.Booleans.{both}
use Rattle.forms.specs.Numbers.{digits_within, digits_of, digits_from, read_number, value_and_length, nothing, longer, is_digit}
use Rattle.forms.specs.declared.numbers.Number.{Number}

-- the bound on the recursion does not matter where it is large enough
fuel : (f g w : ℕ) (b : Bool) → w ≤ f → w ≤ g → ltb w 10 ≡ b → digits_within f b w ≡ digits_within g b w
unfolding digits_within
fuel zero zero w b p q e = refl
fuel zero (suc g) w true p q e = refl
fuel zero (suc g) w false p q e = absurd (omega (arith, ltb-false w 10 e))
fuel (suc f) zero w true p q e = refl
fuel (suc f) zero w false p q e = absurd (omega (arith, ltb-false w 10 e))
fuel (suc f) (suc g) w true p q e = refl
fuel (suc f) (suc g) w false p q e =
    let l : 10 ≤ w = ltb-false w 10 e in
    ap (λ (x : List ℕ). x ++ ((48 + w % 10) ∷ [])) (fuel f g (w / 10) (ltb (w / 10) 10) (omega arith) (omega arith) refl)

pub digits-small : (v : ℕ) → v < 10 → digits_of v ≡ (48 + v) ∷ []
unfolding digits_of digits_within
digits-small zero h = refl
digits-small (suc v) h = rw (lt-ltb (suc v) 10 h)

pub digits_step : (v : ℕ) → 10 ≤ v → digits_of v ≡ digits_of (v / 10) ++ ((48 + v % 10) ∷ [])
unfolding digits_of digits_within
digits_step zero h = absurd (omega arith)
digits_step (suc v) h =
    rw (le-ltb (suc v) 10 h)
    (ap (λ (x : List ℕ). x ++ ((48 + suc v % 10) ∷ [])) (fuel v (suc v / 10) (suc v / 10) (ltb (suc v / 10) 10) (omega arith) (omega arith) refl))

pub digits-two : (v : ℕ) → 10 ≤ v → v < 100 → digits_of v ≡ ((48 + v / 10) ∷ []) ++ ((48 + v % 10) ∷ [])
digits-two v h l = digits_step v h ∙ rw (digits-small (v / 10) (omega arith))

pub digits-grow : (a d : ℕ) → 1 ≤ a → d < 10 → digits_of (a * 10 + d) ≡ digits_of a ++ ((48 + d) ∷ [])
digits-grow a d h k =
    let p : (a * 10 + d) / 10 ≡ a = omega arith in
    let q : (a * 10 + d) % 10 ≡ d = omega arith in
    digits_step (a * 10 + d) (omega arith) ∙ rw (p, q)

-- the byte c is a digit and may follow the value a
abbrev more : ℕ → ℕ → Bool
more a c = ltb a 1000000000 && is_digit c

pub digit-true : (c : ℕ) → is_digit c ≡ true → (48 ≤ c) × (c ≤ 57)
unfolding is_digit
digit-true c h = let p = both (leb 48 c) (leb c 57) h in (leb-true _ _ p.0, leb-true _ _ p.1)

pub digit-below : (c v : ℕ) → is_digit c ≡ true → v ≡ c - 48 → v < 10
digit-below c v h e = let d = digit-true c h in omega arith

pub goes_on : (a c : ℕ) → (ltb a 1000000000 && is_digit c) ≡ true → (a < 1000000000) × (is_digit c ≡ true)
goes_on a c h = let p = both (ltb a 1000000000) (is_digit c) h in (ltb-true _ _ p.0, p.1)

more-true : (a c : ℕ) → more a c ≡ true → (a < 1000000000) × (48 ≤ c) × (c ≤ 57)
more-true a c h = let p = both (ltb a 1000000000) (is_digit c) h in let d = digit-true c p.1 in (ltb-true _ _ p.0, d.0, d.1)

pub sound-from : (s : List ℕ) (a : ℕ) → 1 ≤ a
    → digits_of a ++ s ≡ digits_of (digits_from s a).value ++ drop (digits_from s a).length s
unfolding digits_from
sound-from [] a h = refl
sound-from (c ∷ s) a h = go (more a c) refl (λ k. sound-from s (a * 10 + (c - 48)) k)
  where
    go : (b : Bool) → more a c ≡ b
        → (1 ≤ a * 10 + (c - 48) → digits_of (a * 10 + (c - 48)) ++ s ≡ digits_of (digits_from s (a * 10 + (c - 48))).value ++ drop (digits_from s (a * 10 + (c - 48))).length s)
        → digits_of a ++ (c ∷ s)
        ≡ digits_of (cond b (longer 1 (digits_from s (a * 10 + (c - 48)))) (value_and_length a 0)).value
        ++ drop (cond b (longer 1 (digits_from s (a * 10 + (c - 48)))) (value_and_length a 0)).length (c ∷ s)
    go true e ih =
        let m = more-true a c e in
        let k : 48 + (c - 48) ≡ c = omega arith in
        let g : digits_of (a * 10 + (c - 48)) ≡ digits_of a ++ (c ∷ []) = rw k at (digits-grow a (c - 48) h (omega arith)) in
        let n : 1 + (digits_from s (a * 10 + (c - 48))).length ≡ suc (digits_from s (a * 10 + (c - 48))).length = omega arith in
        rw n (sym (append_assoc (digits_of a) (c ∷ []) s) ∙ ap (λ (x : List ℕ). x ++ s) (sym g) ∙ ih (omega arith))
    go false e ih = refl

-- the value that is read on, and its first digit, stay in range
bound-from : (s : List ℕ) (a : ℕ) → a < 10000000000 → (digits_from s a).value < 10000000000
unfolding digits_from
bound-from [] a h = h
bound-from (c ∷ s) a h = go (more a c) refl (λ k. bound-from s (a * 10 + (c - 48)) k)
  where
    go : (b : Bool) → more a c ≡ b
        → (a * 10 + (c - 48) < 10000000000 → (digits_from s (a * 10 + (c - 48))).value < 10000000000)
        → (cond b (longer 1 (digits_from s (a * 10 + (c - 48)))) (value_and_length a 0)).value < 10000000000
    go true e ih = let m = more-true a c e in ih (omega arith)
    go false e ih = h

-- what stands at the front of a text where a number was read there
pub record Read (s : List ℕ) (r : Number) : Type 0 where
  pub text : s ≡ digits_of r.value ++ drop r.length s
  pub small : r.value < 10000000000

-- a digit other than 0
pub above : (c : ℕ) → 48 ≤ c → (c ≡ 48 → ⊥) → 49 ≤ c
above c lo ne = go (eqb c 48) refl
  where
    go : (b : Bool) → eqb c 48 ≡ b → 49 ≤ c
    go true e = absurd (ne (eqb-true c 48 e))
    go false e = omega (arith, ne)

pub number-sound : (s : List ℕ) → 0 < (read_number s).length → Read s (read_number s)
unfolding read_number
number-sound [] h = absurd (omega arith)
number-sound (c ∷ s) h = go (eqb c 48) (is_digit c) refl refl h
  where
    go : (x y : Bool) → eqb c 48 ≡ x → is_digit c ≡ y
        → 0 < (cond x (value_and_length 0 1) (cond y (longer 1 (digits_from s (c - 48))) nothing)).length
        → Read (c ∷ s) (cond x (value_and_length 0 1) (cond y (longer 1 (digits_from s (c - 48))) nothing))
    go true y p q k = record { text = rw (digits-small 0 (omega arith)) (ap (λ (x : ℕ). x ∷ s) (eqb-true c 48 p)); small = omega arith }
    go false true p q k =
        let d = digit-true c q in
        let ne : c ≡ 48 → ⊥ = eqb-false c 48 p in
        let lo : 49 ≤ c = above c d.0 ne in
        let e : 48 + (c - 48) ≡ c = omega arith in
        let n : 1 + (digits_from s (c - 48)).length ≡ suc (digits_from s (c - 48)).length = omega arith in
        let g : digits_of (c - 48) ≡ c ∷ [] = rw e at (digits-small (c - 48) (omega arith)) in
        record {
          text = rw n (ap (λ (x : List ℕ). x ++ s) (sym g) ∙ sound-from s (c - 48) (omega arith));
          small = bound-from s (c - 48) (omega arith);
        }
    go false false p q k = absurd (omega arith)

read_one : (s : List ℕ) (c : ℕ) → 49 ≤ c → c ≤ 57 → read_number (c ∷ s) ≡ longer 1 (digits_from s (c - 48))
unfolding read_number is_digit
read_one s c n e = simp (ne_eqb c 48 (λ q. omega arith), le-leb 48 c (omega arith), le-leb _ _ e)

read_next : (s : List ℕ) (w d : ℕ) → w < 1000000000 → d < 10 → digits_from ((48 + d) ∷ s) w ≡ longer 1 (digits_from s (w * 10 + d))
unfolding digits_from is_digit
read_next s w d g l =
    let e : 48 + d - 48 ≡ d = omega arith in
    rw (lt-ltb w 1000000000 g, le-leb 48 (48 + d) (omega arith), le-leb (48 + d) 57 (omega arith), e)

-- reading goes through the digits of v and on with v
through : (f v : ℕ) → v ≤ f → 1 ≤ v → v < 10000000000 → (s : List ℕ)
    → read_number (digits_of v ++ s) ≡ longer (length (digits_of v)) (digits_from s v)
through zero v p h k s = absurd (omega arith)
through (suc f) v p h k s = go (ltb v 10) refl (λ q. through f (v / 10) (omega arith) q (omega arith) ((48 + v % 10) ∷ s))
  where
    go : (b : Bool) → ltb v 10 ≡ b
        → (1 ≤ v / 10 → read_number (digits_of (v / 10) ++ ((48 + v % 10) ∷ s)) ≡ longer (length (digits_of (v / 10))) (digits_from ((48 + v % 10) ∷ s) (v / 10)))
        → read_number (digits_of v ++ s) ≡ longer (length (digits_of v)) (digits_from s v)
    go true e ih =
        let l : v < 10 = ltb-true v 10 e in
        let z : 48 + v - 48 ≡ v = omega arith in
        rw (digits-small v l) (rw z at (read_one s (48 + v) (omega arith) (omega arith)))
    go false e ih =
        let l : 10 ≤ v = ltb-false v 10 e in
        let z : v / 10 * 10 + v % 10 ≡ v = omega arith in
        let i = ih (omega arith) in
        let j = read_next s (v / 10) (v % 10) (omega arith) (omega arith) in
        rw (digits_step v l, append_assoc, length-append, i, j, z)
        (ap (value_and_length (digits_from s v).value) (omega arith))

-- whether a text goes on with a digit
abbrev pub digit_at : List ℕ → Bool
digit_at [] = false
digit_at (c ∷ s) = is_digit c

no_more : (s : List ℕ) (a : ℕ) → digit_at s ≡ false → digits_from s a ≡ value_and_length a 0
unfolding digits_from
no_more [] a h = refl
no_more (c ∷ s) a h = rw h (go (ltb a 1000000000))
  where
    go : (b : Bool) → cond (b && false) (longer 1 (digits_from s (a * 10 + (c - 48)))) (value_and_length a 0) ≡ value_and_length a 0
    go true = refl
    go false = refl

pub number-complete : (v : ℕ) → v < 10000000000 → (s : List ℕ) → digit_at s ≡ false
    → read_number (digits_of v ++ s) ≡ value_and_length v (length (digits_of v))
unfolding read_number
number-complete zero h s d = rw (digits-small 0 (omega arith))
number-complete (suc v) h s d =
    through (suc v) (suc v) (omega arith) (omega arith) h s ∙ rw (no_more s (suc v) d) (ap (value_and_length (suc v)) (omega arith))

pub digits-pos : (v : ℕ) → 0 < length (digits_of v)
digits-pos v = go (ltb v 10) refl
  where
    go : (b : Bool) → ltb v 10 ≡ b → 0 < length (digits_of v)
    go true e = rw (digits-small v (ltb-true v 10 e)) (omega arith)
    go false e = rw (digits_step v (ltb-false v 10 e), length-append) (omega arith)
