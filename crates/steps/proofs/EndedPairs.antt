-- The pairs active before and not after, and their number.
-- Assumes nothing.
use mathlib.Core.Path.{◌≡◌, refl, ap}
use mathlib.Core.List.{List, [], ◌∷◌}
use Prim.Native.Nat.{ℕ, zero, suc, ◌+◌, ◌<◌}
use native.Mathlib.Nat.{le_refl}
use native.Mathlib.Omega.{arith}
use native.Mathlib.Numerals.{add-one}
use lib.ListN.{length, take}
use lib.Seq.{take_all}
use Rattle.sets.specs.Sets.{member, count}
use Rattle.rules.specs.Families.{word_at}
use Rattle.steps.specs.Pairs.{ended_roles, ended_pairs, pair_count}

-- pairs that are counted from the start on
count-suc : (l : List ℕ) (i : ℕ) → i < length l → pair_count (take (suc i) l) ≡ pair_count (take i l) + count 32 (member (word_at l i))
unfolding pair_count
count-suc [] i within = absurd (omega arith)
count-suc (roles ∷ l) zero within = omega arith
count-suc (roles ∷ l) (suc i) within = rw (count-suc l i (omega arith)) (omega arith)

pub length-ended : (l m : List ℕ) → length (ended_pairs l m) ≡ length l
unfolding ended_pairs
length-ended [] m = refl
length-ended (roles ∷ l) [] = refl
length-ended (roles ∷ l) (kept ∷ m) = ap suc (length-ended l m)

ended-word : (l m : List ℕ) (i : ℕ) → i < length l → i < length m → word_at (ended_pairs l m) i ≡ ended_roles (word_at l i) (word_at m i)
unfolding ended_pairs
ended-word [] m i within below = absurd (omega arith)
ended-word (roles ∷ l) [] i within below = absurd (omega arith)
ended-word (roles ∷ l) (kept ∷ m) zero within below = refl
ended-word (roles ∷ l) (kept ∷ m) (suc i) within below = ended-word l m i (omega arith) (omega arith)

module _ (l m : List ℕ) where
  pub ended-next : (i total n : ℕ) → i < length l → i < length m → total ≡ pair_count (take i (ended_pairs l m)) → n ≡ count 32 (member (ended_roles (word_at l i) (word_at m i))) → total + n ≡ pair_count (take (i + 1) (ended_pairs l m))
  ended-next i total n within below e here =
      rw (add-one i, count-suc (ended_pairs l m) i (rw (length-ended l m) within), ended-word l m i within below, e, here)

  pub ended-all : (i : ℕ) → length l ≡ i → take i (ended_pairs l m) ≡ ended_pairs l m
  ended-all i long = take_all i (ended_pairs l m) (rw (length-ended l m, long) (le_refl i))
