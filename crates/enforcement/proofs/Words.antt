-- Lists of sets and of sessions after one place is changed.
-- Assumes nothing.
use mathlib.Core.Path.{◌≡◌, refl, sym, ap, ◌∙◌}
use mathlib.Core.Bool.{Bool, true, false, not, cond, ◌&&◌, ◌||◌, or-false, and-true}
use mathlib.Core.List.{List}
use Prim.Native.Nat.{ℕ, zero, suc, ◌+◌, ◌≤◌, ◌<◌}
use native.Mathlib.Decide.{ℕ_discrete}
use native.Mathlib.Omega.{arith}
use lib.Dec.{eqb, ltb, leb}
use lib.ListN.{length, get_or, set, length-set}
use lib.Seq.{get_or-set_same, get_or-set_other}
use borrow.Author.Tests.{eq-eqb, ne_eqb, lt-ltb, le-ltb, le-leb, leb-true, ltb-true, ltb-false}
use Rattle.sets.specs.Sets.{member, with, without}
use Rattle.sets.proofs.Members.{member-empty, member-with, member-without}
use Rattle.rules.specs.Families.{word_at, has_role, session_at}
use Rattle.rules.specs.declared.sessions.Session.{Session}
use Rattle.enforcement.specs.Steps.{put, take_out, emptied}

-- what stands at place j once place i has been set
pub set_at : {A : Type 0} (l : List A) (i j : ℕ) (x d : A) → i < length l → get_or (set l i x) j d ≡ cond (eqb i j) x (get_or l j d)
set_at l i j x d h = go (ℕ_discrete i j)
  where
    go : Dec (i ≡ j) → get_or (set l i x) j d ≡ cond (eqb i j) x (get_or l j d)
    go (yes e) = rw (← e, get_or-set_same l i x d h, eq-eqb i i refl)
    go (no n) = rw (get_or-set_other l i j x d (λ e. n (sym e)), ne_eqb i j n)

-- ---- sets

module _ (l : List ℕ) (i : ℕ) (h : i < length l) where
  pub has-put : (width k j r : ℕ) → has_role (put width l i k) j r ≡ (has_role l j r || (eqb i j && (ltb k width && eqb k r)))
  has-put width k j r = ap (λ (n : ℕ). member n r) (set_at l i j (with width (word_at l i) k) 0 h) ∙ go (ℕ_discrete i j)
    where
      go : Dec (i ≡ j) → member (cond (eqb i j) (with width (word_at l i) k) (word_at l j)) r ≡ (has_role l j r || (eqb i j && (ltb k width && eqb k r)))
      go (yes e) = rw (eq-eqb i j e, ← e) (member-with width (word_at l i) k r)
      go (no n) = rw (ne_eqb i j n, or-false)

  pub has-take-out : (k j r : ℕ) → has_role (take_out l i k) j r ≡ (has_role l j r && not (eqb i j && eqb k r))
  has-take-out k j r = ap (λ (n : ℕ). member n r) (set_at l i j (without (word_at l i) k) 0 h) ∙ go (ℕ_discrete i j)
    where
      go : Dec (i ≡ j) → member (cond (eqb i j) (without (word_at l i) k) (word_at l j)) r ≡ (has_role l j r && not (eqb i j && eqb k r))
      go (yes e) = rw (eq-eqb i j e, ← e) (member-without (word_at l i) k r)
      go (no n) = rw (ne_eqb i j n, and-true)

  pub has-set-empty : (j r : ℕ) → has_role (set l i 0) j r ≡ (not (eqb i j) && has_role l j r)
  has-set-empty j r = ap (λ (n : ℕ). member n r) (set_at l i j 0 0 h) ∙ go (eqb i j)
    where
      go : (b : Bool) → member (cond b 0 (word_at l j)) r ≡ (not b && has_role l j r)
      go true = member-empty r
      go false = refl

-- ---- sets emptied from a place on

pub length-emptied : (k : ℕ) (l : List ℕ) (start : ℕ) → length (emptied k l start) ≡ length l
unfolding emptied
length-emptied zero l start = refl
length-emptied (suc k) l start = length-set (emptied k l start) (start + k) 0 ∙ length-emptied k l start

-- a place among them holds the empty set, any other what it held
pub word-emptied : (k : ℕ) (l : List ℕ) (start j : ℕ) → start + k ≤ length l → word_at (emptied k l start) j ≡ cond (leb start j && ltb j (start + k)) 0 (word_at l j)
unfolding emptied
word-emptied zero l start j h = rw (none (leb start j) refl)
  where
    none : (b : Bool) → leb start j ≡ b → (b && ltb j (start + 0)) ≡ false
    none true e = le-ltb j (start + 0) (let m = leb-true start j e in omega arith)
    none false e = refl
word-emptied (suc k) l start j h =
    set_at (emptied k l start) (start + k) j 0 0 (rw (length-emptied k l start) (omega arith))
    ∙ ap (cond (eqb (start + k) j) 0) (word-emptied k l start j (omega arith))
    ∙ last (ℕ_discrete (start + k) j)
  where
    last : Dec (start + k ≡ j) → cond (eqb (start + k) j) 0 (cond (leb start j && ltb j (start + k)) 0 (word_at l j)) ≡ cond (leb start j && ltb j (start + suc k)) 0 (word_at l j)
    last (yes e) = rw (eq-eqb (start + k) j e, le-leb start j (omega arith), lt-ltb j (start + suc k) (omega arith))
    last (no n) = rw (ne_eqb (start + k) j n, same (ltb j (start + k)) refl)
      where
        same : (b : Bool) → ltb j (start + k) ≡ b → ltb j (start + suc k) ≡ b
        same true e = lt-ltb j (start + suc k) (let m = ltb-true j (start + k) e in omega arith)
        same false e = le-ltb j (start + suc k) (let m = ltb-false j (start + k) e in omega (arith, m, n))

-- ---- sessions

pub session-set : (l : List Session) (i j : ℕ) (x : Session) → i < length l → session_at (set l i x) j ≡ cond (eqb i j) x (session_at l j)
session-set l i j x h = set_at l i j x _ h
