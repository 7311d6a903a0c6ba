-- The index of a table: where it is right, its lines are the table's, and a likely form that is tried first changes nothing.
-- Assumes nothing.
use mathlib.Core.Path.{◌≡◌, refl, sym, ap, ◌∙◌}
use mathlib.Core.Bool.{Bool, true, false, cond, ◌&&◌}
use mathlib.Core.List.{List, [], ◌∷◌, ◌++◌, append_assoc}
use Prim.Native.Nat.{ℕ, zero, suc, ◌+◌, ◌-◌, ◌≤◌, ◌<◌}
use native.Mathlib.Numerals.{add-one}
use native.Mathlib.Omega.{arith}
use lib.ListN.{length, take, drop, get_or, length-append, get_or-eq_default}
use lib.Seq.{take-append_seam, drop-append_seam}
use lib.Dec.{eqb, leb}
use borrow.Author.Tests.{le-leb, leb-true, lt-ltb}
use Rattle.sets.proofs.Booleans.{both}
use Rattle.forms.specs.Forms.{ScannedForm, scan, scanned}
use Rattle.std.specs.Prelude.{Some, None}
use Rattle.forms.proofs.Turns.{form-some, scan-some}
use Rattle.forms.specs.Tables.{found_form, joined, on_first, lines_in, form_at, starts_from, starts_of, part_of, line_at, found_as, found, found_first, found_likely, distinct}
use Rattle.forms.specs.declared.tables.Found.{Found}
use Rattle.forms.proofs.Finding.{tried-first, answered-some, answered-none}

-- ---- a line as the code cuts it out

part_none : (t : List ℕ) (i : ℕ) → part_of t i 0 ≡ []
part_none t i = go (leb i 0 && leb 0 (length t))
  where
    go : (b : Bool) → cond b (take (0 - i) (drop i t)) [] ≡ []
    go true = let z : 0 - i ≡ 0 = omega arith in rw z
    go false = refl

pub part-bounds : (i k n : ℕ) → (leb i k && leb k n) ≡ true → (i ≤ k) × (k ≤ n)
part-bounds i k n h = let p = both (leb i k) (leb k n) h in (leb-true i k p.0, leb-true k n p.1)

module _ (t starts : List ℕ) (i : ℕ) where
  pub line-past : length starts ≤ i + 1 → [] ≡ line_at t starts i
  unfolding line_at
  line-past h = sym (rw (get_or-eq_default starts 0 {n = suc i} (omega arith)) (part_none t (get_or starts i 0)))

  pub line-within : (leb (get_or starts i 0) (get_or starts (i + 1) 0) && leb (get_or starts (i + 1) 0) (length t)) ≡ true
      → take (get_or starts (i + 1) 0 - get_or starts i 0) (drop (get_or starts i 0) t) ≡ line_at t starts i
  unfolding line_at
  line-within h = rw (add-one, rw add-one at h)

  pub line-outside : (leb (get_or starts i 0) (get_or starts (i + 1) 0) && leb (get_or starts (i + 1) 0) (length t)) ≡ false → [] ≡ line_at t starts i
  unfolding line_at
  line-outside h = rw (rw add-one at h)

-- ---- where the index is right, it has the lines of the table

joined-lines : (t : List ℕ) → joined (lines_in t) ≡ t
unfolding lines_in
joined-lines [] = refl
joined-lines (c ∷ t) = go (eqb c 10) (lines_in t) (joined-lines t)
  where
    go : (b : Bool) (ls : List (List ℕ)) → joined ls ≡ t → joined (cond b ((c ∷ []) ∷ ls) (on_first c ls)) ≡ c ∷ t
    go true ls e = ap (λ (l : List ℕ). c ∷ l) e
    go false [] e = ap (λ (l : List ℕ). c ∷ l) e
    go false (l ∷ ls) e = ap (λ (l : List ℕ). c ∷ l) e

first-start : (i : ℕ) (ls : List (List ℕ)) → get_or (starts_from i ls) 0 0 ≡ i
first-start i [] = refl
first-start i (l ∷ ls) = refl

line-from : (p : List ℕ) (ls : List (List ℕ)) (i : ℕ) → line_at (p ++ joined ls) (starts_from (length p) ls) i ≡ get_or ls i []
unfolding line_at
line-from p [] i = sym (line-past (p ++ []) (length p ∷ []) i (omega arith))
line-from p (l ∷ ls) zero =
    let n : length p + length l - length p ≡ length l = omega arith in
    rw (first-start (length p + length l) ls, le-leb (length p) (length p + length l) (omega arith), le-leb (length p + length l) (length (p ++ (l ++ joined ls))) (simp length-append (omega arith)), n, drop-append_seam p (l ++ joined ls))
    (take-append_seam l (joined ls))
line-from p (l ∷ ls) (suc i) = rw (append_assoc, length-append p l) at (line-from (p ++ l) ls i)

-- so line i by the index is line i of the table, past the last line too
pub index-line : (table starts : List ℕ) → starts ≡ starts_of table → (i : ℕ) → line_at table starts i ≡ form_at table i
unfolding starts_of form_at
index-line table starts e i =
    rw e (ap (λ (t : List ℕ). line_at t (starts_from 0 (lines_in table)) i) (sym (joined-lines table)) ∙ line-from [] (lines_in table) i)

-- ---- a likely form tried first

module _ {t u : List ℕ} (e : u ≡ t) (i : ℕ) (table s : List ℕ) where
  pub first-empty : {r : Found} → length u ≡ 0 → r ≡ found table s → r ≡ found_first t i table s
  unfolding found_first
  first-empty h f = rw (← e, h) f

  module _ (h : length u ≡ 0 → ⊥) (r : ScannedForm) (q : r ≡ scanned (scan u s)) where
    pub first-missed : {f : Found} → r.matches ≡ false → f ≡ found table s → f ≡ found_first t i table s
    unfolding found_first
    first-missed m f = rw (← e, lt-ltb 0 (length u) (omega arith), ← q, m) f

    pub first-hit : r.matches ≡ true → found_as i r ≡ found_first t i table s
    unfolding found_first
    first-hit m = rw (← e, lt-ltb 0 (length u) (omega arith), ← q, m)

    pub first-found : r.matches ≡ true → {f : Found} → f ≡ found_as i r → Some f ≡ found_form (found_first t i table s)
    first-found m {f} g = form-some (g ∙ first-hit m) (rw (g, q) (scan-some u s (omega arith) (rw q at m)))

-- a wrong guess costs time and nothing else
pub likely-found : (table starts : List ℕ) → distinct (lines_in table) ≡ true → starts ≡ starts_of table → (likely : ℕ) (s : List ℕ)
    → found_likely table starts likely s ≡ found table s
likely-found table starts c e likely s = rw (index-line table starts e likely) (tried-first table likely s c)

-- what is answered with a likely form
module _ (table starts : List ℕ) (c : distinct (lines_in table) ≡ true) (e : starts ≡ starts_of table) (likely : ℕ) (s : List ℕ) where
  answered : found_form (found_likely table starts likely s) ≡ found_form (found table s)
  answered = ap found_form (likely-found table starts c e likely s)

  pub likely-some : {f : Found} → Some f ≡ found_form (found_likely table starts likely s) → (f ≡ found table s) × (f.form < length (lines_in table))
  likely-some some = answered-some table s c (some ∙ answered)

  pub likely-none : None ≡ found_form (found_likely table starts likely s) → (found table s).form ≡ length (lines_in table)
  likely-none none = answered-none table s c (none ∙ answered)
