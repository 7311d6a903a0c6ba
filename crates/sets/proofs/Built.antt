-- Sets built by a loop, lowest number first: those that pass a test, and a union of sets.
-- Assumes nothing.
use mathlib.Core.Path.{◌≡◌, sym, ap, ◌∙◌}
use mathlib.Core.Bool.{Bool, true, false, cond, ◌&&◌, ◌||◌, or-false, and-true, and-false}
use Prim.Native.Nat.{ℕ, zero, suc, ◌+◌, ◌^◌, ◌<◌, zero-le}
use native.Mathlib.Nat.{zero-lt-suc, lt_of_lt_of_le, le_refl, le_trans, le-suc, le_of_suc-le-suc, lt_of_not-le}
use native.Mathlib.Decide.{ℕ_discrete, dec_lt}
use native.Mathlib.Omega.{arith}
use native.Mathlib.Numerals.{add-one}
use lib.Dec.{eqb, ltb}
use lib.Bits.{or_zero_r}
use lib.Pow.{pow_mono, pow_pos}
use borrow.Author.Tests.{eq-eqb, ne_eqb, lt-ltb, le-ltb}
use Rattle.sets.specs.Sets.{member, union, insert, with, any, count, set_of, union_of}
use Rattle.sets.proofs.Members.{member-empty, member_union, member-insert, member-with}
use Rattle.sets.proofs.Width.{insert-lt, with-lt, union-lt, same-members}
use Rattle.sets.proofs.Counting.{count_same}

-- ---- the numbers that pass a test

cond-lt : (b : Bool) (k n : ℕ) → n < 2 ^ k → cond b (insert n k) n < 2 ^ suc k
cond-lt true k n h = insert-lt (suc k) n k (lt_of_lt_of_le h (pow_mono (le-suc k))) (le_refl (suc k))
cond-lt false k n h = lt_of_lt_of_le h (pow_mono (le-suc k))

pub set-of-lt : (k : ℕ) (p : ℕ → Bool) → set_of k p < 2 ^ k
unfolding set_of
set-of-lt zero p = zero-lt-suc 0
set-of-lt (suc k) p = cond-lt (p k) k (set_of k p) (set-of-lt k p)

below_next : (j k : ℕ) → (j ≡ k → ⊥) → ltb j k ≡ ltb j (suc k)
below_next j k n = go (dec_lt j k)
  where
    go : Dec (j < k) → ltb j k ≡ ltb j (suc k)
    go (yes l) = lt-ltb j k l ∙ sym (lt-ltb j (suc k) (le_trans l (le-suc k)))
    go (no l) = le-ltb j k (le_of_suc-le-suc (lt_of_not-le l)) ∙ sym (le-ltb j (suc k) (omega (arith, l, n)))

member-cond : (b : Bool) (n i j : ℕ) → member (cond b (insert n i) n) j ≡ (member n j || (b && eqb i j))
member-cond true n i j = member-insert n i j
member-cond false n i j = sym (or-false (member n j))

pub member-set-of : (k j : ℕ) (p : ℕ → Bool) → member (set_of k p) j ≡ (ltb j k && p j)
unfolding set_of
member-set-of zero j p = member-empty j ∙ ap (λ (b : Bool). b && p j) (sym (le-ltb j 0 zero-le))
member-set-of (suc k) j p = member-cond (p k) (set_of k p) k j ∙ ap (λ (b : Bool). b || (p k && eqb k j)) (member-set-of k j p) ∙ last (ℕ_discrete j k)
  where
    last : Dec (j ≡ k) → (ltb j k && p j || p k && eqb k j) ≡ (ltb j (suc k) && p j)
    last (yes e) = rw (le-ltb j k (omega arith), eq-eqb k j (sym e), and-true, lt-ltb j (suc k) (omega arith), e)
    last (no n) = rw (ne_eqb k j (λ e. n (sym e)), and-false, or-false, below_next j k n)

-- the members of the set are the numbers that pass
pub count-set-of : (k : ℕ) (p : ℕ → Bool) → count k (member (set_of k p)) ≡ count k p
count-set-of k p = count_same k (member (set_of k p)) p (λ i l. member-set-of k i p ∙ ap (λ (b : Bool). b && p i) (lt-ltb i k l))

pub set-of-same : (k : ℕ) (p q : ℕ → Bool) → ((i : ℕ) → i < k → p i ≡ q i) → set_of k p ≡ set_of k q
set-of-same k p q e =
    same-members k (set_of k p) (set_of k q) (set-of-lt k p) (set-of-lt k q)
    (λ i l. member-set-of k i p ∙ ap (λ (b : Bool). ltb i k && b) (e i l) ∙ sym (member-set-of k i q))

pub set-of-none : (k : ℕ) (p : ℕ → Bool) → ((i : ℕ) → i < k → p i ≡ false) → 0 ≡ set_of k p
set-of-none k p e =
    same-members k 0 (set_of k p) (pow_pos k) (set-of-lt k p)
    (λ i l. member-empty i ∙ sym (member-set-of k i p ∙ ap (λ (b : Bool). ltb i k && b) (e i l) ∙ and-false (ltb i k)))

-- one number more passes
pub set-of-with : (k x : ℕ) (p q : ℕ → Bool) → ((i : ℕ) → i < k → q i ≡ (p i || eqb x i)) → with k (set_of k p) x ≡ set_of k q
set-of-with k x p q e =
    same-members k (with k (set_of k p) x) (set_of k q) (with-lt k (set_of k p) x (set-of-lt k p)) (set-of-lt k q) each
  where
    below : (i : ℕ) → i < k → Dec (x ≡ i) → (ltb x k && eqb x i) ≡ eqb x i
    below i l (yes s) = ap (λ (b : Bool). b && eqb x i) (lt-ltb x k (omega arith))
    below i l (no n) = ap (λ (b : Bool). ltb x k && b) (ne_eqb x i n) ∙ and-false (ltb x k) ∙ sym (ne_eqb x i n)

    each : (i : ℕ) → i < k → member (with k (set_of k p) x) i ≡ member (set_of k q) i
    each i l = rw (member-with k (set_of k p) x i, member-set-of k i p, member-set-of k i q, below i l (ℕ_discrete x i), lt-ltb i k l, e i l)

-- a turn of the loop that builds it
set-of-next : (k : ℕ) (p : ℕ → Bool) → set_of (k + 1) p ≡ cond (p k) (insert (set_of k p) k) (set_of k p)
unfolding set_of
set-of-next k p = ap (λ (x : ℕ). set_of x p) (add-one k)

pub set-of-in : (n k : ℕ) (p : ℕ → Bool) → n ≡ set_of k p → p k ≡ true → insert n k ≡ set_of (k + 1) p
set-of-in n k p h e = rw (set-of-next k p, e, h)

pub set-of-out : (n k : ℕ) (p : ℕ → Bool) → n ≡ set_of k p → p k ≡ false → n ≡ set_of (k + 1) p
set-of-out n k p h e = rw (set-of-next k p, e) h

-- ---- the union of sets

pub union-of-lt : (width k : ℕ) (f : ℕ → ℕ) → ((i : ℕ) → f i < 2 ^ width) → union_of k f < 2 ^ width
unfolding union_of
union-of-lt width zero f h = pow_pos width
union-of-lt width (suc k) f h = union-lt width (union_of k f) (f k) (union-of-lt width k f h) (h k)

pub member-union-of : (k i : ℕ) (f : ℕ → ℕ) → member (union_of k f) i ≡ any k (λ j. member (f j) i)
unfolding union_of any
member-union-of zero i f = member-empty i
member-union-of (suc k) i f = member_union (union_of k f) (f k) i ∙ ap (λ (b : Bool). b || member (f k) i) (member-union-of k i f)

-- a turn of the loop that builds it
union-of-next : (k : ℕ) (f : ℕ → ℕ) → union_of (k + 1) f ≡ union (union_of k f) (f k)
unfolding union_of
union-of-next k f = ap (λ (x : ℕ). union_of x f) (add-one k)

pub union-of-in : (n k v : ℕ) (f : ℕ → ℕ) → n ≡ union_of k f → f k ≡ v → union n v ≡ union_of (k + 1) f
union-of-in n k v f h e = rw (union-of-next k f, e, h)

pub union-of-out : (n k : ℕ) (f : ℕ → ℕ) → n ≡ union_of k f → f k ≡ 0 → n ≡ union_of (k + 1) f
union-of-out n k f h e = rw (union-of-next k f, e, or_zero_r) h
