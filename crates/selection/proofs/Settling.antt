-- Rounds on words: each round gives what the round on pairs gives, and rounds until nothing changes need no count of rounds.
-- Assumes nothing.
use mathlib.Core.Path.{◌≡◌, refl, sym, ap, ◌∙◌}
use mathlib.Core.Bool.{Bool, true, false, not, cond, ◌&&◌, and-false}
use mathlib.Core.List.{List, [], ◌∷◌}
use Prim.Native.Nat.{ℕ, zero, suc, ◌+◌, ◌^◌, ◌<◌}
use native.Mathlib.Nat.{zero-add}
use native.Mathlib.Omega.{arith}
use native.Mathlib.Numerals.{add-one}
use lib.Dec.{eqb, ltb}
use lib.Pointwise.{pointwise}
use lib.ListN.{length, take, set}
use lib.Seq.{take_all, take-suc, take-suc-set, ext_get_or}
use borrow.Author.Tests.{ltb-true, lt-ltb}
use Rattle.sets.specs.Sets.{member, intersection, difference, subset, union_of}
use Rattle.sets.proofs.Booleans.{left-true, right-true}
use Rattle.sets.proofs.Members.{member-intersection, member-difference}
use Rattle.sets.proofs.Width.{equal-sets, member_below, within-lt}
use Rattle.sets.proofs.Built.{member-set-of}
use Rattle.rules.specs.Families.{word_at, has_role}
use Rattle.steps.specs.Pairs.{pair_count, sifted, Part}
use Rattle.selection.specs.Ending.{same_lists, settled, staying_roles, lets, plan_round}
use Rattle.selection.proofs.Parts.{HasRoles, part-has-roles, has-sifted, length-sifted, round-fewer}

-- ---- loops over lists of words

-- a list that is filled from its start on, one place more
pub filled_next : (l m : List ℕ) (i x : ℕ) → i < length l → i < length m → take i l ≡ take i m → x ≡ word_at m i → take (i + 1) (set l i x) ≡ take (i + 1) m
filled_next l m i x within below filled e = rw (add-one i, take-suc-set l i x within, take-suc m i 0 below, filled, e)

-- and once all places are
pub filled-all : (l m : List ℕ) (i : ℕ) → length l ≡ i → length m ≡ i → take i l ≡ take i m → l ≡ m
filled-all l m i long wide filled = sym (take_all i l (omega arith)) ∙ filled ∙ take_all i m (omega arith)

-- two lists of words are equal as the code compares them where they are the same
pub pointwise-same : (l m : List ℕ) → pointwise eqb l m ≡ same_lists l m
unfolding same_lists
pointwise-same [] [] = refl
pointwise-same [] (b ∷ m) = refl
pointwise-same (a ∷ l) [] = refl
pointwise-same (a ∷ l) (b ∷ m) = ap (λ (same : Bool). eqb a b && same) (pointwise-same l m)

-- ---- held roles

-- of one session, the active roles that its user holds
pub held_word : (held active : List ℕ) (user : ℕ → ℕ) (i : ℕ) → word_at active i < 2 ^ 32
    → intersection (word_at active i) (word_at held (user i)) ≡ word_at (sifted 0 (λ i r. has_role held (user i) r) active) i
held_word held active user i small =
    equal-sets _ _
    (λ r. rw (member-intersection, has-sifted, zero-add i) (below r (has_role active i r) (has_role held (user i) r) (member_below 32 (word_at active i) r small)))
  where
    below : (r : ℕ) (a h : Bool) → (a ≡ true → r < 32) → (a && h) ≡ (ltb r 32 && (a && h))
    below r true h small = rw (lt-ltb r 32 (small refl))
    below r false h small = sym (and-false (ltb r 32))

-- ---- one round

module _ (dead : ℕ) (out needs l : List ℕ) where
  stays-bits : (a t s o : Bool) → ((a && (t && s)) && not o) ≡ (t && (a && (not o && s)))
  stays-bits true true true true = refl
  stays-bits true true true false = refl
  stays-bits true true false true = refl
  stays-bits true true false false = refl
  stays-bits true false s o = refl
  stays-bits false true s o = refl
  stays-bits false false s o = refl

  -- one word of it
  pub round-word : (i : ℕ) → difference (intersection (word_at l i) (staying_roles dead needs (union_of 32 (word_at l)))) (word_at out i) ≡ word_at (plan_round dead out needs l) i
  unfolding staying_roles lets plan_round
  round-word i =
      equal-sets _ _
      (λ r. rw (member-difference, member-intersection, member-set-of, has-sifted, zero-add i)
      (stays-bits (has_role l i r) (ltb r 32) (not (member dead r) && subset (word_at needs r) (union_of 32 (word_at l))) (has_role out i r)))

  pub length-round : length (plan_round dead out needs l) ≡ length l
  unfolding plan_round
  length-round = length-sifted 0 (lets dead out needs l) l

  pub round-part : Part (plan_round dead out needs l) l
  unfolding plan_round
  round-part =
      record {
        same_length = length-sifted 0 (lets dead out needs l) l;
        within = λ i r h.
            left-true (has_role l i r) (lets dead out needs l (0 + i) r)
            (right-true (ltb r 32) (has_role l i r && lets dead out needs l (0 + i) r) (rw (has-sifted 0 (lets dead out needs l) l i r) at h));
      }

-- a part of a list of words of 32 digits is one
pub part_small : {l m : List ℕ} → Part l m → ((j : ℕ) → word_at m j < 2 ^ 32) → (j : ℕ) → word_at l j < 2 ^ 32
part_small {l} {m} part small j = within-lt 32 (word_at l j) (word_at m j) (small j) (part.within j)

pub small-roles : (l : List ℕ) → ((j : ℕ) → word_at l j < 2 ^ 32) → HasRoles l
small-roles l small i r h = member_below 32 (word_at l i) r (small i) h

-- ---- rounds until nothing changes

module _ (f : List ℕ → List ℕ) where
  settled-stop : (k : ℕ) (l : List ℕ) → same_lists l (f l) ≡ true → settled (suc k) f l ≡ l
  unfolding settled
  settled-stop k l e = rw e

  settled-more : (k : ℕ) (l : List ℕ) → same_lists l (f l) ≡ false → settled (suc k) f l ≡ settled k f (f l)
  unfolding settled
  settled-more k l e = rw e

  -- nothing changes any more
  pub settled-end : (l : List ℕ) → same_lists l (f l) ≡ true → settled (suc (pair_count l)) f l ≡ l
  settled-end l e = settled-stop (pair_count l) l e

  module _ (shrinks : (l : List ℕ) → Part (f l) l) where
    -- more rounds than there are pairs give all the same
    settled-enough : (k m : ℕ) (l : List ℕ) → HasRoles l → pair_count l < k → pair_count l < m → settled k f l ≡ settled m f l
    settled-enough zero m l roles h g = absurd (omega arith)
    settled-enough (suc k) zero l roles h g = absurd (omega arith)
    settled-enough (suc k) (suc m) l roles h g =
        go (same_lists l (f l)) refl
        (λ e. let fewer = round-fewer f shrinks l roles e in settled-enough k m (f l) (part-has-roles (shrinks l) roles) (omega arith) (omega arith))
      where
        go : (b : Bool) → same_lists l (f l) ≡ b → (same_lists l (f l) ≡ false → settled k f (f l) ≡ settled m f (f l)) → settled (suc k) f l ≡ settled (suc m) f l
        go true e later = settled-stop k l e ∙ sym (settled-stop m l e)
        go false e later = settled-more k l e ∙ later e ∙ sym (settled-more m l e)

    -- something changes: what is left to do is the same after the round
    pub settled-next : (l : List ℕ) → HasRoles l → same_lists l (f l) ≡ false → settled (suc (pair_count l)) f l ≡ settled (suc (pair_count (f l))) f (f l)
    settled-next l roles e =
        let fewer = round-fewer f shrinks l roles e in
        settled-more (pair_count l) l e ∙ settled-enough (pair_count l) (suc (pair_count (f l))) (f l) (part-has-roles (shrinks l) roles) fewer (omega arith)

-- a turn of the loop that takes rounds by a plan
module _ (dead : ℕ) (out needs l less : List ℕ) (roles : HasRoles l) (e : less ≡ plan_round dead out needs l) where
  pub turn-roles : HasRoles less
  turn-roles = rw e (part-has-roles (round-part dead out needs l) roles)

  pub turn_end : same_lists l less ≡ true → settled (suc (pair_count l)) (plan_round dead out needs) l ≡ l
  turn_end same = settled-end (plan_round dead out needs) l (rw e at same)

  pub turn-less : same_lists l less ≡ false → pair_count less < pair_count l
  turn-less differs = rw e (round-fewer (plan_round dead out needs) (round-part dead out needs) l roles (rw e at differs))

  pub turn-next : same_lists l less ≡ false → settled (suc (pair_count less)) (plan_round dead out needs) less ≡ settled (suc (pair_count l)) (plan_round dead out needs) l
  turn-next differs = rw e (sym (settled-next (plan_round dead out needs) (round-part dead out needs) l roles (rw e at differs)))

-- two rounds that agree as far as they are taken settle on one list
pub settled_same : (f g : List ℕ → List ℕ) (P : List ℕ → Type 0) → ((l : List ℕ) → P l → P (f l)) → ((l : List ℕ) → P l → f l ≡ g l) → (k : ℕ) (l : List ℕ) → P l → settled k f l ≡ settled k g l
unfolding settled
settled_same f g P keeps same zero l h = refl
settled_same f g P keeps same (suc k) l h =
    ap (cond (same_lists l (f l)) l) (settled_same f g P keeps same k (f l) (keeps l h))
    ∙ ap (λ (m : List ℕ). cond (same_lists l m) l (settled k g m)) (same l h)

-- two tests that agree on the pairs of a list leave the same pairs
pub sifted-same : (p q : ℕ → ℕ → Bool) (l : List ℕ) → ((i r : ℕ) → r < 32 → has_role l i r ≡ true → p i r ≡ q i r) → sifted 0 p l ≡ sifted 0 q l
sifted-same p q l same =
    ext_get_or 0 (sifted 0 p l) (sifted 0 q l) (length-sifted 0 p l ∙ sym (length-sifted 0 q l))
    (λ i h. equal-sets _ _ (λ r. rw (has-sifted 0 p l i r, has-sifted 0 q l i r, zero-add i) (each i r (ltb r 32) refl (has_role l i r) refl)))
  where
    each : (i r : ℕ) (t : Bool) → ltb r 32 ≡ t → (a : Bool) → has_role l i r ≡ a → (t && (a && p i r)) ≡ (t && (a && q i r))
    each i r true below true e = same i r (ltb-true r 32 below) e
    each i r true below false e = refl
    each i r false below a e = refl
