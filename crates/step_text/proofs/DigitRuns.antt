-- A number's text is digits alone, and ends at the first byte that is none.
-- Assumes nothing.
use mathlib.Core.Path.{◌≡◌, refl, sym, ap, ◌∙◌}
use mathlib.Core.Bool.{Bool, true, false, ◌&&◌}
use mathlib.Core.List.{List, [], ◌∷◌, ◌++◌}
use Prim.Native.Nat.{ℕ, zero, suc, ◌+◌, ◌/◌, ◌%◌, ◌≤◌, ◌<◌}
use native.Mathlib.Omega.{arith}
use lib.Dec.{ltb}
use borrow.Author.Tests.{ltb-true, ltb-false, le-leb}
use Rattle.sets.proofs.Booleans.{both, both_true, clash}
use Rattle.forms.specs.Numbers.{digits_of, is_digit}
use Rattle.forms.specs.Forms.{head, tail}
use Rattle.forms.proofs.Digits.{digits-small, digits_step}

abbrev pub all_digits : List ℕ → Bool
all_digits [] = true
all_digits (c ∷ s) = is_digit c && all_digits s

digits_append : (x y : List ℕ) → all_digits x ≡ true → all_digits y ≡ true → all_digits (x ++ y) ≡ true
digits_append [] y a b = b
digits_append (c ∷ x) y a b = let p = both (is_digit c) (all_digits x) a in both_true (is_digit c) (all_digits (x ++ y)) p.0 (digits_append x y p.1 b)

one-digit : (d : ℕ) → d < 10 → all_digits ((48 + d) ∷ []) ≡ true
unfolding is_digit
one-digit d h = rw (le-leb 48 (48 + d) (omega arith), le-leb (48 + d) 57 (omega arith))

pub digits-all : (bound v : ℕ) → v ≤ bound → all_digits (digits_of v) ≡ true
digits-all zero v h = rw (digits-small v (omega arith)) (one-digit v (omega arith))
digits-all (suc bound) v h = go (ltb v 10) refl (λ l. digits-all bound (v / 10) l)
  where
    go : (b : Bool) → ltb v 10 ≡ b → (v / 10 ≤ bound → all_digits (digits_of (v / 10)) ≡ true) → all_digits (digits_of v) ≡ true
    go true e next = let l = ltb-true v 10 e in rw (digits-small v l) (one-digit v l)
    go false e next =
        let l : 10 ≤ v = ltb-false v 10 e in
        let less : v / 10 ≤ bound = omega arith in
        let last : v % 10 < 10 = omega arith in
        rw (digits_step v l) (digits_append (digits_of (v / 10)) ((48 + v % 10) ∷ []) (next less) (one-digit (v % 10) last))

pub split : (z : ℕ) → is_digit z ≡ false → (x y p q : List ℕ) → all_digits x ≡ true → all_digits y ≡ true → x ++ (z ∷ p) ≡ y ++ (z ∷ q) → (x ≡ y) × (p ≡ q)
split z n [] [] p q a b e = (refl, ap tail e)
split z n [] (d ∷ y) p q a b e = clash (both (is_digit d) (all_digits y) b).0 (ap is_digit (sym (ap head e)) ∙ n)
split z n (c ∷ x) [] p q a b e = clash (both (is_digit c) (all_digits x) a).0 (ap is_digit (ap head e) ∙ n)
split z n (c ∷ x) (d ∷ y) p q a b e =
    let later = split z n x y p q (both (is_digit c) (all_digits x) a).1 (both (is_digit d) (all_digits y) b).1 (ap tail e) in
    let first : c ≡ d = ap head e in
    (rw (first, later.0), later.1)

pub no-space : is_digit 32 ≡ false
unfolding is_digit
no-space = refl

pub no-bracket : is_digit 41 ≡ false
unfolding is_digit
no-bracket = refl
