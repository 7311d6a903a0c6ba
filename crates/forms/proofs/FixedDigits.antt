-- A number of just so many digits: what is written is read, and what is read was written. Assumes nothing.
use mathlib.Core.Path.{◌≡◌, refl, sym, ap, ◌∙◌}
use mathlib.Core.Bool.{Bool, true, false, cond}
use mathlib.Core.List.{List, [], ◌∷◌, ◌++◌, append_assoc}
use Prim.Native.Nat.{ℕ, zero, suc, ◌+◌, ◌-◌, ◌*◌, ◌/◌, ◌%◌, ◌^◌, ◌≤◌, ◌<◌}
use native.Mathlib.Nat.{zero-add, add-zero, pow-suc}
use native.Mathlib.Omega.{arith}
use lib.ListN.{length, drop, length-append}
use borrow.Author.Tests.{le-leb}
use Rattle.sets.proofs.Booleans.{both, clash}
use Rattle.forms.specs.Numbers.{fixed_of, starts_with_digits, value_from, read_fixed, value_and_length, nothing, is_digit}
use Rattle.forms.proofs.Digits.{digit-true}

pub fixed-length : (n v : ℕ) → length (fixed_of n v) ≡ n
unfolding fixed_of
fixed-length zero v = refl
fixed-length (suc n) v = length-append (fixed_of n (v / 10)) _ ∙ rw (fixed-length n (v / 10)) (omega arith)

pub fixed-none : (n v : ℕ) → n ≡ 0 → fixed_of n v ≡ []
unfolding fixed_of
fixed-none n v e = rw e

pub fixed_more : (n v : ℕ) → 0 < n → fixed_of n v ≡ fixed_of (n - 1) (v / 10) ++ ((48 + v % 10) ∷ [])
unfolding fixed_of
fixed_more zero v h = absurd (omega arith)
fixed_more (suc n) v h = let e : suc n - 1 ≡ n = omega arith in rw e

fixed-grow : (n a d : ℕ) → d < 10 → fixed_of (suc n) (a * 10 + d) ≡ fixed_of n a ++ ((48 + d) ∷ [])
unfolding fixed_of
fixed-grow n a d h =
    let p : (a * 10 + d) / 10 ≡ a = omega arith in
    let q : (a * 10 + d) % 10 ≡ d = omega arith in
    rw (p, q)

-- after k digits of the value a, n more digits at the front of s
pub sound-from : (n k a : ℕ) (s : List ℕ) → starts_with_digits n s ≡ true
    → fixed_of k a ++ s ≡ fixed_of (n + k) (value_from n s a) ++ drop n s
unfolding starts_with_digits value_from
sound-from zero k a s h = rw zero-add
sound-from (suc n) k a [] h = clash h refl
sound-from (suc n) k a (c ∷ s) h =
    let p = both (is_digit c) (starts_with_digits n s) h in
    let d = digit-true c p.0 in
    let e : 48 + (c - 48) ≡ c = omega arith in
    let g : fixed_of (suc k) (a * 10 + (c - 48)) ≡ fixed_of k a ++ (c ∷ []) = rw e at (fixed-grow k a (c - 48) (omega arith)) in
    let m : n + suc k ≡ suc n + k = omega arith in
    sym (append_assoc (fixed_of k a) (c ∷ []) s)
    ∙ ap (λ (x : List ℕ). x ++ s) (sym g)
    ∙ sound-from n (suc k) (a * 10 + (c - 48)) s p.1
    ∙ ap (λ (x : ℕ). fixed_of x (value_from n s (a * 10 + (c - 48))) ++ drop n s) m

-- the value that is read stays below a power of ten
pub value-small : (n k a : ℕ) (s : List ℕ) → starts_with_digits n s ≡ true → a < 10 ^ k → value_from n s a < 10 ^ (n + k)
unfolding starts_with_digits value_from
value-small zero k a s h l = rw zero-add l
value-small (suc n) k a [] h l = clash h refl
value-small (suc n) k a (c ∷ s) h l =
    let p = both (is_digit c) (starts_with_digits n s) h in
    let d = digit-true c p.0 in
    let m : n + suc k ≡ suc n + k = omega arith in
    let w : a * 10 + (c - 48) < 10 ^ suc k = rw (pow-suc 10 k) (omega arith) in
    rw m at (value-small n (suc k) (a * 10 + (c - 48)) s p.1 w)

-- reading goes through the digits of v and on with v
pub through : (n v m : ℕ) (s : List ℕ) → v < 10 ^ n → value_from (n + m) (fixed_of n v ++ s) 0 ≡ value_from m s v
unfolding fixed_of
through zero v m s h = let z : v ≡ 0 = omega arith in rw (z, zero-add)
through (suc n) v m s h =
    let w : v < 10 ^ n * 10 = rw (pow-suc 10 n) at h in
    let e : suc n + m ≡ n + suc m = omega arith in
    let z : v / 10 * 10 + (48 + v % 10 - 48) ≡ v = omega arith in
    rw (append_assoc, e, through n (v / 10) (suc m) ((48 + v % 10) ∷ s) (omega arith)) (one m s (v / 10) (48 + v % 10) ∙ ap (value_from m s) z)
  where
    one : (m : ℕ) (s : List ℕ) (a c : ℕ) → value_from (suc m) (c ∷ s) a ≡ value_from m s (a * 10 + (c - 48))
    one m s a c = unfold value_from in refl

pub digits-through : (n v m : ℕ) (s : List ℕ) → starts_with_digits (n + m) (fixed_of n v ++ s) ≡ starts_with_digits m s
unfolding fixed_of
digits-through zero v m s = rw zero-add
digits-through (suc n) v m s =
    let e : suc n + m ≡ n + suc m = omega arith in
    rw (append_assoc, e, digits-through n (v / 10) (suc m) ((48 + v % 10) ∷ s)) (one m s (v % 10) (omega arith))
  where
    one : (m : ℕ) (s : List ℕ) (d : ℕ) → d < 10 → starts_with_digits (suc m) ((48 + d) ∷ s) ≡ starts_with_digits m s
    one m s d h = unfold starts_with_digits is_digit in rw (le-leb 48 (48 + d) (omega arith), le-leb (48 + d) 57 (omega arith))

pub fixed-complete : (n v : ℕ) (s : List ℕ) → v < 10 ^ n → read_fixed n (fixed_of n v ++ s) ≡ value_and_length v n
unfolding read_fixed
fixed-complete n v s h =
    let d = digits-through n v 0 s in
    let t = through n v 0 s h in
    rw (rw add-zero at d, rw add-zero at t) (last n v s)
  where
    last : (n v : ℕ) (s : List ℕ) → cond (starts_with_digits 0 s) (value_and_length (value_from 0 s v) n) nothing ≡ value_and_length v n
    last n v s = unfold starts_with_digits value_from in refl

from : (n : ℕ) (s : List ℕ) → starts_with_digits n s ≡ true → s ≡ fixed_of n (value_from n s 0) ++ drop n s
unfolding fixed_of
from n s e = rw add-zero at (sound-from n 0 0 s e)

-- a number that is read stands there, and fits
pub fixed-sound : (n : ℕ) (s : List ℕ) → 0 < (read_fixed n s).length → s ≡ fixed_of n (read_fixed n s).value ++ drop (read_fixed n s).length s
unfolding read_fixed
fixed-sound n s h = go (starts_with_digits n s) refl h
  where
    go : (b : Bool) → starts_with_digits n s ≡ b → 0 < (cond b (value_and_length (value_from n s 0) n) nothing).length
        → s ≡ fixed_of n (cond b (value_and_length (value_from n s 0) n) nothing).value ++ drop (cond b (value_and_length (value_from n s 0) n) nothing).length s
    go true e k = from n s e
    go false e k = absurd (omega arith)

pub fixed-fits : (n : ℕ) (s : List ℕ) → 0 < 10 ^ n → (read_fixed n s).value < 10 ^ n
unfolding read_fixed
fixed-fits n s h = go (starts_with_digits n s) refl
  where
    go : (b : Bool) → starts_with_digits n s ≡ b → (cond b (value_and_length (value_from n s 0) n) nothing).value < 10 ^ n
    go true e = rw add-zero at (value-small n 0 0 s e (omega arith))
    go false e = h

digits-length : (n : ℕ) (s : List ℕ) → starts_with_digits n s ≡ true → n ≤ length s
unfolding starts_with_digits
digits-length zero s h = omega arith
digits-length (suc n) [] h = clash h refl
digits-length (suc n) (c ∷ s) h = omega (arith, digits-length n s (both (is_digit c) (starts_with_digits n s) h).1)

pub fixed-short : (n : ℕ) (s : List ℕ) → (read_fixed n s).length ≤ length s
unfolding read_fixed
fixed-short n s = go (starts_with_digits n s) refl
  where
    go : (b : Bool) → starts_with_digits n s ≡ b → (cond b (value_and_length (value_from n s 0) n) nothing).length ≤ length s
    go true e = digits-length n s e
    go false e = omega arith
