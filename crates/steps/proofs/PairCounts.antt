-- Which pairs are ended, and how many: "the number of (session, role) pairs active before and not after".
-- Assumes nothing.
use mathlib.Core.Path.{◌≡◌, refl, sym, ap, ap₂, ◌∙◌}
use mathlib.Core.Bool.{Bool, true, false, not, ◌&&◌, and-true}
use mathlib.Core.Logic.{◌↔◌}
use mathlib.Core.List.{List, [], ◌∷◌}
use Prim.Native.Nat.{ℕ, zero, suc, ◌+◌, ◌-◌, ◌*◌, ◌/◌, ◌%◌, ◌<◌}
use native.Mathlib.Nat.{add-zero, add-suc}
use native.Mathlib.Omega.{arith}
use lib.Dec.{eqb}
use borrow.Author.Tests.{eq-eqb, ne_eqb, eqb-true, not-true}
use lib.ListN.{length}
use Rattle.sets.specs.Sets.{member, one_if, count}
use Rattle.sets.proofs.Booleans.{both, same_test}
use Rattle.sets.proofs.Counting.{count_same, count-more, count_none}
use Rattle.sets.proofs.Members.{member-difference, member-empty}
use Rattle.rules.specs.Families.{has_role}
use Rattle.steps.specs.Pairs.{ended_pairs, pair_count, count_pairs}
use Rattle.steps.proofs.EndedPairs.{length-ended}

-- ---- the pairs

ended-test : (before after : List ℕ) (i r : ℕ) → has_role (ended_pairs before after) i r ≡ (has_role before i r && not (has_role after i r))
unfolding ended_pairs
ended-test [] after i r = rw (member-empty r)
ended-test (roles ∷ before) [] i r = rw (member-empty r, and-true)
ended-test (roles ∷ before) (kept ∷ after) zero r = member-difference roles kept r
ended-test (roles ∷ before) (kept ∷ after) (suc i) r = ended-test before after i r

-- a pair is ended exactly where it is active before and not after
pub ended-means : (before after : List ℕ) (i r : ℕ) → (has_role (ended_pairs before after) i r ≡ true) ↔ ((has_role before i r ≡ true) × (has_role after i r ≡ false))
ended-means before after i r = (
  λ h. let t = both (has_role before i r) (not (has_role after i r)) (sym (ended-test before after i r) ∙ h) in (t.0, not-true (has_role after i r) t.1),
  λ t. rw (ended-test before after i r, t.0, t.1),
)

-- ---- their number

-- the numbers below a sum: those below the first, and the others
pub count-sum : (n m : ℕ) (p : ℕ → Bool) → count (n + m) p ≡ count n p + count m (λ k. p (n + k))
unfolding count
count-sum n zero p = rw (add-zero n) (omega arith)
count-sum n (suc m) p = rw (add-suc n m) (let h = count-sum n m p in omega arith)

-- the pairs of a list are counted one by one
pub pair-count : (l : List ℕ) → pair_count l ≡ count_pairs (length l) (has_role l)
unfolding pair_count count
pair-count [] = refl
pair-count (roles ∷ l) =
    let total : 32 + length l * 32 ≡ suc (length l) * 32 = omega arith in
    ap₂ ◌+◌ (count_same 32 (member roles) (λ k. has_role (roles ∷ l) (k / 32) (k % 32)) first)
    (pair-count l ∙ count_same (length l * 32) (λ k. has_role l (k / 32) (k % 32)) (λ k. has_role (roles ∷ l) ((32 + k) / 32) ((32 + k) % 32)) later)
    ∙ sym (count-sum 32 (length l * 32) (λ k. has_role (roles ∷ l) (k / 32) (k % 32)))
    ∙ ap (λ (n : ℕ). count n (λ k. has_role (roles ∷ l) (k / 32) (k % 32))) total
  where
    first : (k : ℕ) → k < 32 → member roles k ≡ has_role (roles ∷ l) (k / 32) (k % 32)
    first k low = let session : k / 32 ≡ 0 = omega arith in let role : k % 32 ≡ k = omega arith in rw (session, role)

    later : (k : ℕ) → k < length l * 32 → has_role l (k / 32) (k % 32) ≡ has_role (roles ∷ l) ((32 + k) / 32) ((32 + k) % 32)
    later k low = let session : (32 + k) / 32 ≡ suc (k / 32) = omega arith in let role : (32 + k) % 32 ≡ k % 32 = omega arith in rw (session, role)

-- the number ended is the count of the pairs active before and not after
pub ended-count : (before after : List ℕ) → pair_count (ended_pairs before after) ≡ count_pairs (length before) (λ i r. has_role before i r && not (has_role after i r))
ended-count before after =
    pair-count (ended_pairs before after)
    ∙ ap (λ (n : ℕ). count_pairs n (has_role (ended_pairs before after))) (length-ended before after)
    ∙ count_same (length before * 32) (λ k. has_role (ended_pairs before after) (k / 32) (k % 32)) (λ k. has_role before (k / 32) (k % 32) && not (has_role after (k / 32) (k % 32)))
    (λ k low. ended-test before after (k / 32) (k % 32))

-- ---- laws of the count

-- no pair passes where none does
pub pairs-none : (n : ℕ) (test : ℕ → ℕ → Bool) → ((i r : ℕ) → test i r ≡ false) → count_pairs n test ≡ 0
pairs-none n test none = count_none (n * 32) (λ k. test (k / 32) (k % 32)) (λ k low. none (k / 32) (k % 32))

-- one pair is counted once
pub pairs-one : (n i r : ℕ) (test : ℕ → ℕ → Bool) → i < n → r < 32 → ((j q : ℕ) → q < 32 → (test j q ≡ true) ↔ ((i ≡ j) × (r ≡ q))) → count_pairs n test ≡ 1
pairs-one n i r test below low only =
    count_same (n * 32) (λ k. test (k / 32) (k % 32)) (λ k. eqb (i * 32 + r) k) same
    ∙ count-more (n * 32) (i * 32 + r) (λ k. false) (omega arith) refl
    ∙ rw (count_none (n * 32) (λ k. false) (λ k m. refl))
  where
    same : (k : ℕ) → k < n * 32 → test (k / 32) (k % 32) ≡ eqb (i * 32 + r) k
    same k m =
        same_test (test (k / 32) (k % 32)) (eqb (i * 32 + r) k)
        (λ h. let t = (only (k / 32) (k % 32) (omega arith)).0 h in eq-eqb (i * 32 + r) k (omega arith))
        (λ h. let e = eqb-true (i * 32 + r) k h in (only (k / 32) (k % 32) (omega arith)).1 (omega arith, omega arith))

count-split : (n : ℕ) (which test : ℕ → Bool) → count n test ≡ count n (λ k. which k && test k) + count n (λ k. not (which k) && test k)
unfolding count
count-split zero which test = refl
count-split (suc n) which test = let h = count-split n which test in let top = go (which n) (test n) in omega arith
  where
    go : (a b : Bool) → one_if b ≡ one_if (a && b) + one_if (not a && b)
    go true true = refl
    go true false = refl
    go false true = refl
    go false false = refl

-- the pairs of one session are its roles
count-session : (n i : ℕ) (test : ℕ → ℕ → Bool) → i < n → count_pairs n (λ j q. eqb i j && test j q) ≡ count 32 (test i)
count-session n i test below =
    let total : i * 32 + (32 + (n - (i + 1)) * 32) ≡ n * 32 = omega arith in
    ap (λ (k : ℕ). count k pairs) (sym total)
    ∙ count-sum (i * 32) (32 + (n - (i + 1)) * 32) pairs
    ∙ ap₂ ◌+◌
    (count_none (i * 32) pairs (λ k low. rw (ne_eqb i (k / 32) (λ e. omega arith))))
    (count-sum 32 ((n - (i + 1)) * 32) (λ k. pairs (i * 32 + k))
    ∙ ap₂ ◌+◌
    (count_same 32 (λ k. pairs (i * 32 + k)) (test i) (λ k low. let session : (i * 32 + k) / 32 ≡ i = omega arith in let role : (i * 32 + k) % 32 ≡ k = omega arith in rw (session, role, eq-eqb i i refl)))
    (count_none ((n - (i + 1)) * 32) (λ k. pairs (i * 32 + (32 + k))) (λ k low. rw (ne_eqb i ((i * 32 + (32 + k)) / 32) (λ e. omega arith)))))
    ∙ (let h : (m : ℕ) → 0 + (m + 0) ≡ m = λ m. omega arith in h (count 32 (test i)))
  where
    pairs : ℕ → Bool
    pairs k = eqb i (k / 32) && test (k / 32) (k % 32)

-- the pairs of one session, and those of the others
pub pairs-split : (n i : ℕ) (test : ℕ → ℕ → Bool) → i < n → count_pairs n test ≡ count 32 (test i) + count_pairs n (λ j q. not (eqb i j) && test j q)
pairs-split n i test below =
    count-split (n * 32) (λ k. eqb i (k / 32)) (λ k. test (k / 32) (k % 32))
    ∙ ap (λ (k : ℕ). k + count_pairs n (λ j q. not (eqb i j) && test j q)) (count-session n i test below)
