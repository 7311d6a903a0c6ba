-- The members of a set after each operation, for any numbers.
-- Assumes nothing.
use mathlib.Core.Path.{◌≡◌, refl, sym, ap, ◌∙◌}
use mathlib.Core.Bool.{Bool, true, false, not, cond, ◌&&◌, ◌||◌, xor, or-true, or-false, and-true, and-false}
use Prim.Native.Nat.{ℕ, zero, suc, ◌/◌, ◌%◌, ◌^◌, ◌<◌}
use native.Mathlib.Nat.{mod-lt, zero-lt-suc, pow-suc, mul-div_cancel, mul-mod_left, div-one}
use native.Mathlib.Omega.{arith}
use native.Mathlib.Numerals.{one-add}
use lib.Dec.{eqb, ltb, eqb-suc-suc, eqb-zero-suc, eqb-suc-zero}
use lib.Bits.{bit_and, bit_or, bit_xor, and_shr, or_shr, xor_shr, and_mod, or_mod, xor_mod}
use lib.Pow.{shr-shr}
use borrow.Author.Tests.{eq-eqb, ne_eqb, lt-ltb}
use Rattle.sets.specs.Sets.{member, union, intersection, difference, single, insert, with, without}

pub two-positive : 0 < 2
two-positive = zero-lt-suc 1

-- ---- one digit

digit_and : (x y : ℕ) → x < 2 → y < 2 → eqb (bit_and x y) 1 ≡ (eqb x 1 && eqb y 1)
digit_and zero y hx hy = refl
digit_and (suc zero) zero hx hy = refl
digit_and (suc zero) (suc zero) hx hy = refl
digit_and (suc zero) (suc (suc y)) hx hy = absurd (omega arith)
digit_and (suc (suc x)) y hx hy = absurd (omega arith)

digit_or : (x y : ℕ) → x < 2 → y < 2 → eqb (bit_or x y) 1 ≡ (eqb x 1 || eqb y 1)
digit_or zero y hx hy = refl
digit_or (suc zero) zero hx hy = refl
digit_or (suc zero) (suc zero) hx hy = refl
digit_or (suc zero) (suc (suc y)) hx hy = absurd (omega arith)
digit_or (suc (suc x)) y hx hy = absurd (omega arith)

digit-xor : (x y : ℕ) → x < 2 → y < 2 → eqb (bit_xor x y) 1 ≡ xor (eqb x 1) (eqb y 1)
unfolding xor
digit-xor zero zero hx hy = refl
digit-xor zero (suc zero) hx hy = refl
digit-xor zero (suc (suc y)) hx hy = absurd (omega arith)
digit-xor (suc zero) zero hx hy = refl
digit-xor (suc zero) (suc zero) hx hy = refl
digit-xor (suc zero) (suc (suc y)) hx hy = absurd (omega arith)
digit-xor (suc (suc x)) y hx hy = absurd (omega arith)

-- an operation that goes digit by digit does to a member what it does to a digit
module _
    (op : ℕ → ℕ → ℕ)
    (test : Bool → Bool → Bool)
    (shifts : (a b i : ℕ) → op a b / 2 ^ i ≡ op (a / 2 ^ i) (b / 2 ^ i))
    (lowest : (a b : ℕ) → op a b % 2 ^ 1 ≡ op (a % 2 ^ 1) (b % 2 ^ 1))
    (digit : (x y : ℕ) → x < 2 → y < 2 → eqb (op x y) 1 ≡ test (eqb x 1) (eqb y 1))
  where
    by-digit : (a b i : ℕ) → member (op a b) i ≡ test (member a i) (member b i)
    unfolding member
    by-digit a b i =
        ap (λ (x : ℕ). eqb (x % 2) 1) (shifts a b i)
        ∙ ap (λ (x : ℕ). eqb x 1) (lowest (a / 2 ^ i) (b / 2 ^ i))
        ∙ digit (a / 2 ^ i % 2) (b / 2 ^ i % 2) (mod-lt (a / 2 ^ i) two-positive) (mod-lt (b / 2 ^ i) two-positive)

-- ---- membership after each operation

pub member-intersection : (a b i : ℕ) → member (intersection a b) i ≡ (member a i && member b i)
member-intersection = by-digit bit_and ◌&&◌ and_shr (λ a b. and_mod a b 1) digit_and

pub member_union : (a b i : ℕ) → member (union a b) i ≡ (member a i || member b i)
member_union = by-digit bit_or ◌||◌ or_shr (λ a b. or_mod a b 1) digit_or

member-xor : (a b i : ℕ) → member (bit_xor a b) i ≡ xor (member a i) (member b i)
member-xor = by-digit bit_xor xor xor_shr (λ a b. xor_mod a b 1) digit-xor

leaves : (a b : Bool) → xor (a || b) b ≡ (a && not b)
unfolding xor
leaves true true = refl
leaves true false = refl
leaves false true = refl
leaves false false = refl

pub member-difference : (a b i : ℕ) → member (difference a b) i ≡ (member a i && not (member b i))
member-difference a b i = member-xor (bit_or a b) b i ∙ ap (λ (x : Bool). xor x (member b i)) (member_union a b i) ∙ leaves (member a i) (member b i)

-- the lowest digit, and the digits above it
pub member-low : (n : ℕ) → member n 0 ≡ eqb (n % 2) 1
unfolding member
member-low n = ap (λ (x : ℕ). eqb (x % 2) 1) (div-one n)

pub member-high : (n i : ℕ) → member n (suc i) ≡ member (n / 2) i
unfolding member
member-high n i = ap (λ (x : ℕ). eqb (x % 2) 1) (ap (λ (x : ℕ). n / 2 ^ x) (sym (one-add i)) ∙ sym (shr-shr n 1 i))

-- the empty set has no member
pub member-empty : (i : ℕ) → member 0 i ≡ false
member-empty zero = member-low 0
member-empty (suc i) = member-high 0 i ∙ member-empty i

pub member-single : (i j : ℕ) → member (single i) j ≡ eqb i j
member-single zero zero = member-low 1
member-single zero (suc j) = member-high 1 j ∙ member-empty j ∙ sym (eqb-zero-suc j)
member-single (suc i) zero =
    member-low (2 ^ suc i) ∙ ap (λ (x : ℕ). eqb x 1) (ap (λ (x : ℕ). x % 2) (pow-suc 2 i) ∙ mul-mod_left (2 ^ i) 2)
    ∙ sym (eqb-suc-zero i)
member-single (suc i) (suc j) =
    member-high (2 ^ suc i) j
    ∙ ap (λ (x : ℕ). member x j) (ap (λ (x : ℕ). x / 2) (pow-suc 2 i) ∙ mul-div_cancel (2 ^ i) two-positive)
    ∙ member-single i j
    ∙ sym (eqb-suc-suc i j)

pub member-insert : (n i j : ℕ) → member (insert n i) j ≡ (member n j || eqb i j)
member-insert n i j = member_union n (single i) j ∙ ap (λ (b : Bool). member n j || b) (member-single i j)

-- a number below the width is added, and no other
pub member-with : (width n i j : ℕ) → member (with width n i) j ≡ (member n j || (ltb i width && eqb i j))
unfolding with
member-with width n i j = go (ltb i width)
  where
    go : (b : Bool) → member (cond b (insert n i) n) j ≡ (member n j || (b && eqb i j))
    go true = member-insert n i j
    go false = sym (or-false (member n j))

pub member-without : (n i j : ℕ) → member (without n i) j ≡ (member n j && not (eqb i j))
unfolding without
member-without n i j = member-difference n (single i) j ∙ ap (λ (b : Bool). member n j && not b) (member-single i j)

pub with-below : (width n i : ℕ) → i < width → with width n i ≡ insert n i
unfolding with
with-below width n i l = ap (λ (b : Bool). cond b (insert n i) n) (lt-ltb i width l)

pub member-with-same : (width n i : ℕ) → i < width → member (with width n i) i ≡ true
member-with-same width n i l = rw (member-with width n i i, lt-ltb i width l, eq-eqb i i refl, or-true)

pub member-with-other : (width n i j : ℕ) → (i ≡ j → ⊥) → member (with width n i) j ≡ member n j
member-with-other width n i j h = rw (member-with width n i j, ne_eqb i j h, and-false, or-false)

pub member-without-same : (n i : ℕ) → member (without n i) i ≡ false
member-without-same n i = rw (member-without n i i, eq-eqb i i refl, and-false)

pub member-without-other : (n i j : ℕ) → (i ≡ j → ⊥) → member (without n i) j ≡ member n j
member-without-other n i j h = rw (member-without n i j, ne_eqb i j h, and-true)
