-- Counting the numbers below a bound that pass a test, and the members of a set.
-- Assumes nothing.
use mathlib.Core.Path.{◌≡◌, refl, sym, ap, ap₂, ◌∙◌}
use mathlib.Core.Bool.{Bool, true, false, ◌||◌, or-true, or-false, false≢true}
use mathlib.Core.Logic.{◌↔◌, ◌⊎◌, ⊎_elim}
use Prim.Native.Nat.{ℕ, zero, suc, ◌+◌, ◌/◌, ◌%◌, ◌^◌, ◌≤◌, ◌<◌, zero-le}
use native.Mathlib.Nat.{mod-lt, le_of_suc-le-suc, not-suc-le-zero, add_comm, add_assoc, le_refl, le_trans, le_of_eq, le-suc, le_antisymm, add-le-add, lt_of_not-le, eq-or-lt_of_le}
use native.Mathlib.Omega.{arith}
use native.Mathlib.Numerals.{add-one}
use lib.Dec.{eqb}
use lib.Arith.{lt-one}
use lib.Count.{ones, ones_step}
use borrow.Author.Tests.{eq-eqb, ne_eqb, eqb-true}
use Rattle.sets.specs.Sets.{member, union, with, subset, one_if, count}
use Rattle.sets.proofs.Booleans.{not_so, of_or}
use Rattle.sets.proofs.Members.{two-positive, member-low, member-high, member_union, member-insert, with-below}
use Rattle.sets.proofs.Width.{half_lt, subset-means}

-- ---- numbers that pass a test

below-or-last : (i k : ℕ) → i < suc k → (i ≡ k) ⊎ (i < k)
below-or-last i k h = eq-or-lt_of_le (le_of_suc-le-suc h)

pub count_same : (k : ℕ) (p q : ℕ → Bool) → ((i : ℕ) → i < k → p i ≡ q i) → count k p ≡ count k q
unfolding count
count_same zero p q e = refl
count_same (suc k) p q e = ap₂ ◌+◌ (count_same k p q (λ i l. e i (le_trans l (le-suc k)))) (ap one_if (e k (le_refl (suc k))))

one-if-le : (b : Bool) → one_if b ≤ 1
one-if-le true = le_refl 1
one-if-le false = zero-le

pub count-le : (k : ℕ) (p : ℕ → Bool) → count k p ≤ k
unfolding count
count-le zero p = le_refl 0
count-le (suc k) p = le_trans (add-le-add (count-le k p) (one-if-le (p k))) (le_of_eq (add-one k))

one-if-mono : (a b : Bool) → (a ≡ true → b ≡ true) → one_if a ≤ one_if b
one-if-mono true true h = le_refl 1
one-if-mono true false h = absurd (false≢true (h refl))
one-if-mono false b h = zero-le

-- where all that pass p pass q, at least as many pass q
pub count-mono : (k : ℕ) (p q : ℕ → Bool) → ((i : ℕ) → i < k → p i ≡ true → q i ≡ true) → count k p ≤ count k q
unfolding count
count-mono zero p q e = le_refl 0
count-mono (suc k) p q e = add-le-add (count-mono k p q (λ i l. e i (le_trans l (le-suc k)))) (one-if-mono (p k) (q k) (e k (le_refl (suc k))))

-- one more number passes
pub count-more : (k i : ℕ) (p : ℕ → Bool) → i < k → p i ≡ false → count k (λ j. p j || eqb i j) ≡ count k p + 1
unfolding count
count-more zero i p l e = absurd (not-suc-le-zero l)
count-more (suc k) i p l e = ⊎_elim here (λ m. there m (count-more k i p m e)) (below-or-last i k l)
  where
    here : i ≡ k → count k (λ j. p j || eqb i j) + one_if (p k || eqb i k) ≡ count k p + one_if (p k) + 1
    here q =
        let below : count k (λ j. p j || eqb i j) ≡ count k p =
        count_same k (λ j. p j || eqb i j) p (λ j m. ap (λ (b : Bool). p j || b) (ne_eqb i j (λ r. omega arith)) ∙ or-false (p j)) in
        let at : (p k || eqb i k) ≡ true = ap (λ (b : Bool). p k || b) (eq-eqb i k q) ∙ or-true (p k) in
        let was : p k ≡ false = ap p (sym q) ∙ e in
        rw (below, at, was) (omega arith)

    there : i < k → count k (λ j. p j || eqb i j) ≡ count k p + 1 → count k (λ j. p j || eqb i j) + one_if (p k || eqb i k) ≡ count k p + one_if (p k) + 1
    there m ih =
        let at : (p k || eqb i k) ≡ p k = ap (λ (b : Bool). p k || b) (ne_eqb i k (λ r. omega arith)) ∙ or-false (p k) in
        rw (ih, at) (omega arith)

-- where all that pass p pass q, and no more pass q than p, all that pass q pass p
pub count-whole : (k : ℕ) (p q : ℕ → Bool) → ((i : ℕ) → p i ≡ true → q i ≡ true) → count k q ≤ count k p → (i : ℕ) → i < k → q i ≡ true → p i ≡ true
count-whole k p q e h i l t = go (p i) refl
  where
    within : (j : ℕ) → (p j || eqb i j) ≡ true → q j ≡ true
    within j o = ⊎_elim (e j) (λ s. ap q (sym (eqb-true i j s)) ∙ t) (of_or (p j) (eqb i j) o)

    go : (b : Bool) → p i ≡ b → p i ≡ true
    go true s = s
    go false s = absurd (omega (arith, count-more k i p l s, count-mono k (λ j. p j || eqb i j) q (λ j m. within j)))

-- ---- none, and at most one

pub count_none : (k : ℕ) (p : ℕ → Bool) → ((i : ℕ) → i < k → p i ≡ false) → count k p ≡ 0
unfolding count
count_none zero p e = refl
count_none (suc k) p e = rw (count_none k p (λ i l. e i (le_trans l (le-suc k))), e k (le_refl (suc k)))

pub count-some : (k i : ℕ) (p : ℕ → Bool) → i < k → p i ≡ true → 1 ≤ count k p
unfolding count
count-some zero i p l e = absurd (not-suc-le-zero l)
count-some (suc k) i p l e =
    ⊎_elim
    (λ q. let at : p k ≡ true = ap p (sym q) ∙ e in rw at (omega arith))
    (λ m. let h : 1 ≤ count k p = count-some k i p m e in omega arith) (below-or-last i k l)

count-two : (k i j : ℕ) (p : ℕ → Bool) → i < j → j < k → p i ≡ true → p j ≡ true → 2 ≤ count k p
unfolding count
count-two zero i j p l m ei ej = absurd (not-suc-le-zero m)
count-two (suc k) i j p l m ei ej =
    ⊎_elim
    (λ q.
    let at : p k ≡ true = ap p (sym q) ∙ ej in
    let h : 1 ≤ count k p = count-some k i p (omega arith) ei in
    rw at (omega arith))
    (λ n. let h : 2 ≤ count k p = count-two k i j p l n ei ej in omega arith) (below-or-last j k m)

-- any two numbers below k that pass are one
abbrev pub AtMostOne : ℕ → (ℕ → Bool) → Type 0
AtMostOne k p = (i j : ℕ) → i < k → j < k → p i ≡ true → p j ≡ true → i ≡ j

one-of-count : (k : ℕ) (p : ℕ → Bool) → count k p ≤ 1 → AtMostOne k p
one-of-count k p h i j li lj ei ej = le_antisymm (not-above i j li lj ei ej) (not-above j i lj li ej ei)
  where
    not-above : (i j : ℕ) → i < k → j < k → p i ≡ true → p j ≡ true → i ≤ j
    not-above i j li lj ei ej =
        le_of_suc-le-suc (lt_of_not-le (λ (g : j < i). let t : 2 ≤ count k p = count-two k j i p g li ej ei in omega arith))

count-of-one : (k : ℕ) (p : ℕ → Bool) → AtMostOne k p → count k p ≤ 1
unfolding count
count-of-one zero p u = zero-le
count-of-one (suc k) p u = go (p k) refl (count-of-one k p (λ i j li lj. u i j (le_trans li (le-suc k)) (le_trans lj (le-suc k))))
  where
    go : (b : Bool) → p k ≡ b → count k p ≤ 1 → count k p + one_if (p k) ≤ 1
    go true e ih =
        let none : count k p ≡ 0 =
        count_none k p (λ i l. not_so (p i) (λ t. let same : i ≡ k = u i k (le_trans l (le-suc k)) (le_refl (suc k)) t e in omega arith)) in
        rw (none, e) (le_refl 1)
    go false e ih = rw e (omega arith)

-- at most one number passes where any two that pass are one
pub at_most_one : (k : ℕ) (p : ℕ → Bool) → (count k p ≤ 1) ↔ AtMostOne k p
at_most_one k p = (one-of-count k p, count-of-one k p)

-- ---- members of a set

-- the number at 0, and those above it
count_low : (k : ℕ) (p : ℕ → Bool) → count (suc k) p ≡ one_if (p 0) + count k (λ i. p (suc i))
unfolding count
count_low zero p = add_comm 0 (one_if (p 0))
count_low (suc k) p = ap (λ (x : ℕ). x + one_if (p (suc k))) (count_low k p) ∙ add_assoc (one_if (p 0)) (count k (λ i. p (suc i))) (one_if (p (suc k)))

digit-one : (x : ℕ) → x < 2 → x ≡ one_if (eqb x 1)
digit-one zero h = refl
digit-one (suc zero) h = refl
digit-one (suc (suc x)) h = absurd (omega arith)

ones-empty : ones 0 ≡ 0
unfolding ones
ones-empty = refl

-- the ones of a word of k digits are the members of its set
pub ones-count : (k n : ℕ) → n < 2 ^ k → ones n ≡ count k (member n)
unfolding count
ones-count zero n h = ap ones (lt-one h) ∙ ones-empty
ones-count (suc k) n h =
    ones_step n
    ∙ ap₂ ◌+◌ (digit-one (n % 2) (mod-lt n two-positive) ∙ ap one_if (sym (member-low n)))
    (ones-count k (n / 2) (half_lt k h) ∙ count_same k (member (n / 2)) (λ i. member n (suc i)) (λ i l. sym (member-high n i)))
    ∙ sym (count_low k (member n))

-- a subset has at most as many members
pub count-subset : (k a b : ℕ) → subset a b ≡ true → count k (member a) ≤ count k (member b)
count-subset k a b s = count-mono k (member a) (member b) (λ i l. (subset-means a b).0 s i)

-- a new member adds one
pub count-with : (k n i : ℕ) → i < k → member n i ≡ false → count k (member (with k n i)) ≡ count k (member n) + 1
count-with k n i l e =
    ap (λ (x : ℕ). count k (member x)) (with-below k n i l)
    ∙ count_same k (member (union n (2 ^ i))) (λ j. member n j || eqb i j) (λ j m. member-insert n i j)
    ∙ count-more k i (member n) l e

-- the members of either of two sets
pub count-union : (k a b : ℕ) → count k (member (union a b)) ≡ count k (λ i. member a i || member b i)
count-union k a b = count_same k (member (union a b)) (λ i. member a i || member b i) (λ i l. member_union a b i)

pub ruleset counted_digits = (ones-count)
