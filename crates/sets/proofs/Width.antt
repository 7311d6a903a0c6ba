-- Sets of k digits: which numbers can be members, when two sets are one, and what the words' operations give.
-- Assumes nothing.
use mathlib.Core.Path.{◌≡◌, refl, sym, ap, ap₂, ◌∙◌, subst}
use mathlib.Core.Bool.{Bool, true, false, not, cond, ◌&&◌, true≢false, false≢true}
use mathlib.Core.Logic.{◌↔◌}
use Prim.Native.Nat.{ℕ, zero, suc, ◌+◌, ◌*◌, ◌/◌, ◌%◌, ◌^◌, ◌≤◌, ◌<◌, suc-le-suc}
use native.Mathlib.Nat.{mod-lt, zero-lt-suc, div-add-mod', lt_of_lt_of_le, lt_of_le_of_lt, lt_of_not-le, pow-suc}
use native.Mathlib.Omega.{arith}
use native.Mathlib.Numerals.{add-one}
use lib.Dec.{eqb, ltb}
use lib.Bits.{or_zero_r, bit_and, bit_or, or_lt, xor_lt, and_le_l, and_comm}
use lib.Arith.{lt-one}
use lib.Pow.{pow_pos, pow_mono, pow-lt, shr_lt}
use borrow.Author.Tests.{eq-eqb, ne_eqb, le-ltb, eqb-true, ltb-true}
use Rattle.sets.specs.Sets.{member, union, intersection, difference, single, insert, with, without, subset, is_empty, all, any}
use Rattle.sets.proofs.Booleans.{clash, both_true, left-true, right-true, same_test, not-both, not_so}
use Rattle.sets.proofs.Bounded.{all_of, of-all, any_of, of-any}
use Rattle.sets.proofs.Members.{two-positive, member-low, member-high, member-empty, member-intersection, member-without}

pub half_lt : {n : ℕ} (k : ℕ) → n < 2 ^ suc k → n / 2 < 2 ^ k
half_lt {n} k h = shr_lt k 1 (subst (λ (x : ℕ). n < 2 ^ x) (sym (add-one k)) h)

-- a set of k digits has members below k alone
pub member-past : (k n i : ℕ) → n < 2 ^ k → k ≤ i → member n i ≡ false
member-past zero n i h l = ap (λ (x : ℕ). member x i) (lt-one h) ∙ member-empty i
member-past (suc k) n zero h l = absurd (omega arith)
member-past (suc k) n (suc i) h l = member-high n i ∙ member-past k (n / 2) i (half_lt k h) (omega arith)

-- the test of the width and the test of the digit are one where the number is past the width
pub past_width : (k n i : ℕ) → n < 2 ^ k → k ≤ i → ltb i k ≡ member n i
past_width k n i h l = le-ltb i k l ∙ sym (member-past k n i h l)

pub member_below : (k n i : ℕ) → n < 2 ^ k → member n i ≡ true → i < k
member_below k n i h e = lt_of_not-le (λ (l : k ≤ i). true≢false (sym e ∙ member-past k n i h l))

-- ---- two sets of k digits with the same members are one

digit-eq : (x y : ℕ) → x < 2 → y < 2 → eqb x 1 ≡ eqb y 1 → x ≡ y
digit-eq zero zero hx hy e = refl
digit-eq zero (suc zero) hx hy e = absurd (false≢true e)
digit-eq zero (suc (suc y)) hx hy e = absurd (omega arith)
digit-eq (suc zero) zero hx hy e = absurd (true≢false e)
digit-eq (suc zero) (suc zero) hx hy e = refl
digit-eq (suc zero) (suc (suc y)) hx hy e = absurd (omega arith)
digit-eq (suc (suc x)) y hx hy e = absurd (omega arith)

pub same-members : (k a b : ℕ) → a < 2 ^ k → b < 2 ^ k → ((i : ℕ) → i < k → member a i ≡ member b i) → a ≡ b
same-members zero a b ha hb e = lt-one ha ∙ sym (lt-one hb)
same-members (suc k) a b ha hb e =
    let high : a / 2 ≡ b / 2 =
    same-members k (a / 2) (b / 2) (half_lt k ha) (half_lt k hb) (λ i l. sym (member-high a i) ∙ e (suc i) (suc-le-suc l) ∙ member-high b i) in
    let low : a % 2 ≡ b % 2 =
    digit-eq (a % 2) (b % 2) (mod-lt a two-positive) (mod-lt b two-positive) (sym (member-low a) ∙ e 0 (zero-lt-suc k) ∙ member-low b) in
    sym (div-add-mod' a 2) ∙ ap₂ (λ (x y : ℕ). x * 2 + y) high low ∙ div-add-mod' b 2

below_power : (n : ℕ) → n < 2 ^ n
below_power zero = zero-lt-suc 0
below_power (suc n) = let h = below_power n in let p = pow-suc 2 n in omega arith

-- two sets with the same members are one, at any width
pub equal-sets : (a b : ℕ) → ((i : ℕ) → member a i ≡ member b i) → a ≡ b
equal-sets a b e =
    same-members (a + b) a b (lt_of_lt_of_le (below_power a) (pow_mono (omega arith))) (lt_of_lt_of_le (below_power b) (pow_mono (omega arith))) (λ i l. e i)

pub empty_of : (k n : ℕ) → n < 2 ^ k → ((i : ℕ) → i < k → member n i ≡ false) → n ≡ 0
empty_of k n h e = same-members k n 0 h (pow_pos k) (λ i l. e i l ∙ sym (member-empty i))

-- a set other than the empty one has a member
pub some-member : (n : ℕ) → (n ≡ 0 → ⊥) → (i : ℕ) × (member n i ≡ true)
some-member n filled = go (any n (member n)) refl
  where
    go : (b : Bool) → any n (member n) ≡ b → (i : ℕ) × (member n i ≡ true)
    go true e = let t = of-any n (member n) e in (t.0, t.2)
    go false e = absurd (filled (empty_of n n (below_power n) (λ i low. not_so (member n i) (λ m. clash (any_of n i (member n) low m) e))))

-- ---- what each operation gives fits the width

pub union-lt : (k a b : ℕ) → a < 2 ^ k → b < 2 ^ k → union a b < 2 ^ k
union-lt = or_lt

pub intersection-lt : (k a b : ℕ) → a < 2 ^ k → intersection a b < 2 ^ k
intersection-lt k a b h = lt_of_le_of_lt (and_le_l a b) h

pub difference-lt : (k a b : ℕ) → a < 2 ^ k → b < 2 ^ k → difference a b < 2 ^ k
difference-lt k a b ha hb = xor_lt k (bit_or a b) b (or_lt k a b ha hb) hb

pub insert-lt : (k n i : ℕ) → n < 2 ^ k → i < k → insert n i < 2 ^ k
insert-lt k n i h l = or_lt k n (2 ^ i) h (pow-lt l)

pub with-lt : (k n i : ℕ) → n < 2 ^ k → with k n i < 2 ^ k
unfolding with
with-lt k n i h = go (ltb i k) refl
  where
    go : (b : Bool) → ltb i k ≡ b → cond b (insert n i) n < 2 ^ k
    go true e = insert-lt k n i h (omega (arith, ltb-true i k e))
    go false e = h

-- ---- the words' operations

pub with-past : (k n i : ℕ) → k ≤ i → n ≡ with k n i
unfolding with
with-past k n i l = sym (ap (λ (b : Bool). cond b (insert n i) n) (le-ltb i k l))

-- the set of one number joined to a set: past the width it is empty, and nothing is joined
pub with_single : (k n i : ℕ) → union n (cond (ltb i k) (single i) 0) ≡ with k n i
unfolding with
with_single k n i = go (ltb i k)
  where
    go : (b : Bool) → union n (cond b (single i) 0) ≡ cond b (insert n i) n
    go true = refl
    go false = or_zero_r n

pub without-lt : (k n i : ℕ) → n < 2 ^ k → i < k → without n i < 2 ^ k
unfolding without
without-lt k n i h l = difference-lt k n (single i) h (pow-lt l)

-- what is no member is not taken
pub without_none : (n i : ℕ) → member n i ≡ false → n ≡ without n i
without_none n i out = equal-sets n (without n i) (λ j. sym (member-without n i j ∙ stays j))
  where
    other : (j : ℕ) → member n j ≡ true → i ≡ j → ⊥
    other j e q = clash (ap (member n) q ∙ e) out

    stays : (j : ℕ) → (member n j && not (eqb i j)) ≡ member n j
    stays j =
        same_test (member n j && not (eqb i j)) (member n j) (left-true (member n j) (not (eqb i j)))
        (λ e. both_true (member n j) (not (eqb i j)) e (ap not (ne_eqb i j (other j e))))

-- ---- subset, and no common member

-- subset a b: each member of a is one of b
pub subset-means : (a b : ℕ) → (subset a b ≡ true) ↔ ((i : ℕ) → member a i ≡ true → member b i ≡ true)
subset-means a b = (to, from)
  where
    to : subset a b ≡ true → (i : ℕ) → member a i ≡ true → member b i ≡ true
    to e i h =
        right-true (member a i) (member b i) (sym (member-intersection a b i) ∙ ap (λ (x : ℕ). member x i) (eqb-true (bit_and a b) a e) ∙ h)

    from : ((i : ℕ) → member a i ≡ true → member b i ≡ true) → subset a b ≡ true
    from f =
        eq-eqb (bit_and a b) a
        (same-members a (bit_and a b) a (intersection-lt a a b (below_power a)) (below_power a)
        (λ i l. member-intersection a b i ∙ same_test (member a i && member b i) (member a i) (left-true (member a i) (member b i)) (λ h. both_true (member a i) (member b i) h (f i h))))

-- a set within one of numbers below k is of numbers below k
pub within-lt : (k a b : ℕ) → b < 2 ^ k → ((i : ℕ) → member a i ≡ true → member b i ≡ true) → a < 2 ^ k
within-lt k a b h within = rw (← eqb-true (intersection a b) a ((subset-means a b).1 within), and_comm a b) (intersection-lt k b a h)

-- no number is in both sets where their intersection is empty
pub disjoint-all : (k a b : ℕ) → a < 2 ^ k → is_empty (intersection a b) ≡ all k (λ i. not (member a i && member b i))
disjoint-all k a b h = same_test (is_empty (intersection a b)) (all k apart) to from
  where
    apart : ℕ → Bool
    apart i = not (member a i && member b i)

    to : is_empty (intersection a b) ≡ true → all k (λ i. not (member a i && member b i)) ≡ true
    to e =
        all_of k (λ i. not (member a i && member b i))
        (λ i l. ap not (sym (member-intersection a b i) ∙ ap (λ (x : ℕ). member x i) (eqb-true (bit_and a b) 0 e) ∙ member-empty i))

    from : all k (λ i. not (member a i && member b i)) ≡ true → is_empty (intersection a b) ≡ true
    from t =
        eq-eqb (bit_and a b) 0
        (empty_of k (bit_and a b) (intersection-lt k a b h)
        (λ i l. member-intersection a b i ∙ not_so (member a i && member b i) (λ both.
        not-both (member a i) (member b i) (of-all k (λ i. not (member a i && member b i)) t i l) (left-true (member a i) (member b i) both) (right-true (member a i) (member b i) both))))
