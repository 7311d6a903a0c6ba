-- Lists of sets: their parts, a list with pairs taken away, and rounds that take pairs away until nothing changes.
-- Assumes nothing.
use mathlib.Core.Path.{◌≡◌, refl, sym, ap, ap₂, ◌∙◌}
use mathlib.Core.Bool.{Bool, true, false, cond, ◌&&◌, and-false, true≢false, false≢true}
use mathlib.Core.List.{List, [], ◌∷◌}
use Prim.Native.Nat.{ℕ, zero, suc, ◌+◌, ◌≤◌, ◌<◌}
use native.Mathlib.Decide.{dec_lt}
use native.Mathlib.Nat.{suc-add, add-suc, add-zero}
use native.Mathlib.Omega.{arith}
use lib.Dec.{eqb, ltb}
use lib.ListN.{length, get_or-eq_default}
use lib.Seq.{ext_get_or}
use borrow.Author.Tests.{eqb-true, eq-eqb}
use Rattle.sets.specs.Sets.{member}
use Rattle.sets.proofs.Booleans.{both_true, left-true, right-true, same_test}
use Rattle.sets.proofs.Members.{member-empty}
use Rattle.sets.proofs.Width.{equal-sets}
use Rattle.sets.proofs.Counting.{count-mono, count-whole}
use Rattle.sets.proofs.Built.{member-set-of}
use Rattle.rules.specs.Families.{word_at, has_role}
use Rattle.steps.specs.Pairs.{pair_count, sifted, Part}
use Rattle.selection.specs.Ending.{same_lists, settled}

-- ---- parts

-- a pair's session is one of the list
pub has-below : (l : List ℕ) (i r : ℕ) → has_role l i r ≡ true → i < length l
has-below l i r e = go (dec_lt i (length l))
  where
    go : Dec (i < length l) → i < length l
    go (yes h) = h
    go (no h) = absurd (true≢false (sym e ∙ ap (λ (n : ℕ). member n r) (get_or-eq_default l 0 (let k : length l ≤ i = omega arith in k)) ∙ member-empty r))

pub part_same : (l : List ℕ) → Part l l
part_same l = record { same_length = refl; within = λ i r h. h }

pub part-of-part : {l m n : List ℕ} → Part l m → Part m n → Part l n
part-of-part p q = record { same_length = p.same_length ∙ q.same_length; within = λ i r h. q.within i r (p.within i r h) }

-- two lists that are parts of each other are one
pub parts-equal : {l m : List ℕ} → Part l m → Part m l → l ≡ m
parts-equal {l} {m} p q =
    ext_get_or 0 l m p.same_length
    (λ i h. equal-sets (word_at l i) (word_at m i) (λ r. same_test (has_role l i r) (has_role m i r) (p.within i r) (q.within i r)))

pub part-rest : {a b : ℕ} {l m : List ℕ} → Part (a ∷ l) (b ∷ m) → Part l m
part-rest p = record { same_length = omega (arith, p.same_length); within = λ i r h. p.within (suc i) r h }

pub part-first : {a b : ℕ} {l m : List ℕ} → Part (a ∷ l) (b ∷ m) → (r : ℕ) → member a r ≡ true → member b r ≡ true
part-first p r h = p.within 0 r h

-- each pair has a role of the range
abbrev pub HasRoles : List ℕ → Type 0
HasRoles l = (i r : ℕ) → has_role l i r ≡ true → r < 32

pub part-has-roles : {l m : List ℕ} → Part l m → HasRoles m → HasRoles l
part-has-roles p roles i r h = roles i r (p.within i r h)

-- a part has at most as many pairs
pub part_count : (l m : List ℕ) → Part l m → pair_count l ≤ pair_count m
unfolding pair_count
part_count [] [] p = omega arith
part_count [] (b ∷ m) p = absurd (omega (arith, p.same_length))
part_count (a ∷ l) [] p = absurd (omega (arith, p.same_length))
part_count (a ∷ l) (b ∷ m) p = omega (arith, part_count l m (part-rest p), count-mono 32 (member a) (member b) (λ r h. part-first p r))

-- a part with as many pairs is the whole
pub part-whole : (l m : List ℕ) → HasRoles m → Part l m → pair_count m ≤ pair_count l → l ≡ m
unfolding pair_count
part-whole [] [] roles p h = refl
part-whole [] (b ∷ m) roles p h = absurd (omega (arith, p.same_length))
part-whole (a ∷ l) [] roles p h = absurd (omega (arith, p.same_length))
part-whole (a ∷ l) (b ∷ m) roles p h =
    let fewer = part_count l m (part-rest p) in
    let fewer_here = count-mono 32 (member a) (member b) (λ r h. part-first p r) in
    ap₂ (λ (n : ℕ) (rest : List ℕ). n ∷ rest)
    (equal-sets a b (λ r. same_test (member a r) (member b r) (part-first p r) (λ t. count-whole 32 (member a) (member b) (part-first p) (omega arith) r (roles 0 r t) t)))
    (part-whole l m (λ i r. roles (suc i) r) (part-rest p) (omega arith))

-- ---- a list with pairs taken away

-- a pair is left where it was there and passes the test
pub has-sifted : (i : ℕ) (test : ℕ → ℕ → Bool) (l : List ℕ) (j r : ℕ) → has_role (sifted i test l) j r ≡ (ltb r 32 && (has_role l j r && test (i + j) r))
unfolding sifted
has-sifted i test [] j r = rw (member-empty r, and-false)
has-sifted i test (roles ∷ l) zero r = member-set-of 32 r (λ r. member roles r && test i r) ∙ rw (add-zero i)
has-sifted i test (roles ∷ l) (suc j) r = has-sifted (suc i) test l j r ∙ rw (suc-add i j, add-suc i j)

pub length-sifted : (i : ℕ) (test : ℕ → ℕ → Bool) (l : List ℕ) → length (sifted i test l) ≡ length l
unfolding sifted
length-sifted i test [] = refl
length-sifted i test (roles ∷ l) = ap suc (length-sifted (suc i) test l)

-- ---- rounds until nothing changes

of-same-lists : (l m : List ℕ) → same_lists l m ≡ true → l ≡ m
unfolding same_lists
of-same-lists [] [] h = refl
of-same-lists [] (b ∷ m) h = absurd (false≢true h)
of-same-lists (a ∷ l) [] h = absurd (false≢true h)
of-same-lists (a ∷ l) (b ∷ m) h =
    ap₂ (λ (n : ℕ) (rest : List ℕ). n ∷ rest) (eqb-true a b (left-true (eqb a b) (same_lists l m) h)) (of-same-lists l m (right-true (eqb a b) (same_lists l m) h))

same-list : (l : List ℕ) → same_lists l l ≡ true
unfolding same_lists
same-list [] = refl
same-list (a ∷ l) = both_true (eqb a a) (same_lists l l) (eq-eqb a a refl) (same-list l)

module _ (f : List ℕ → List ℕ) where
  -- what each round keeps is kept
  pub settled-keeps : (P : List ℕ → Type 0) → ((l : List ℕ) → P l → P (f l)) → (k : ℕ) (l : List ℕ) → P l → P (settled k f l)
  unfolding settled
  settled-keeps P keeps zero l h = h
  settled-keeps P keeps (suc k) l h = go (same_lists l (f l)) (settled-keeps P keeps k (f l) (keeps l h))
    where
      go : (b : Bool) → P (settled k f (f l)) → P (cond b l (settled k f (f l)))
      go true later = h
      go false later = later

  module _ (shrinks : (l : List ℕ) → Part (f l) l) where
    -- a round that changes something leaves fewer pairs
    pub round-fewer : (l : List ℕ) → HasRoles l → same_lists l (f l) ≡ false → pair_count (f l) < pair_count l
    round-fewer l roles e = go (dec_lt (pair_count (f l)) (pair_count l))
      where
        go : Dec (pair_count (f l) < pair_count l) → pair_count (f l) < pair_count l
        go (yes h) = h
        go (no h) = absurd (true≢false (sym (same-list l) ∙ ap (same_lists l) (sym (part-whole (f l) l roles (shrinks l) (omega arith))) ∙ e))

    -- after more rounds than there are pairs nothing changes
    pub settled-fixed : (k : ℕ) (l : List ℕ) → HasRoles l → pair_count l < k → f (settled k f l) ≡ settled k f l
    unfolding settled
    settled-fixed zero l roles h = absurd (omega arith)
    settled-fixed (suc k) l roles h =
        go (same_lists l (f l)) refl
        (λ e. settled-fixed k (f l) (part-has-roles (shrinks l) roles) (omega (arith, round-fewer l roles e)))
      where
        go : (b : Bool) → same_lists l (f l) ≡ b → (same_lists l (f l) ≡ false → f (settled k f (f l)) ≡ settled k f (f l)) → f (cond b l (settled k f (f l))) ≡ cond b l (settled k f (f l))
        go true e later = sym (of-same-lists l (f l) e)
        go false e later = later e
