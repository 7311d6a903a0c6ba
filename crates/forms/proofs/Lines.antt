-- The lines of a table, as the loops over them meet them. Assumes nothing.
use mathlib.Core.Path.{◌≡◌, refl, sym, ◌∙◌}
use mathlib.Core.Bool.{Bool, true, false, cond}
use mathlib.Core.List.{List, [], ◌∷◌}
use Prim.Native.Nat.{ℕ, suc, ◌+◌, ◌-◌, ◌≤◌, ◌<◌}
use native.Mathlib.Numerals.{add-one}
use native.Mathlib.Nat.{add-zero}
use native.Mathlib.Omega.{arith}
use lib.ListN.{length, take, drop, get_or, length-drop, drop_of_length-le}
use lib.Seq.{drop-cons, length-take-le}
use lib.Dec.{eqb}
use borrow.Author.Tests.{eq-eqb, ne_eqb}
use Rattle.forms.specs.Forms.{ScannedForm, scan, scanned}
use Rattle.forms.specs.Tables.{lines_in, on_first, line_end, find_in, found, found_as, no_form, found_form}
use Rattle.std.specs.Prelude.{Some}
use Rattle.forms.specs.declared.tables.Found.{Found}
use Rattle.forms.proofs.Turns.{rest, form-some, scan-some}

-- ---- where the first line ends

pub end-most : (t : List ℕ) → line_end t ≤ length t
unfolding line_end
end-most [] = omega arith
end-most (c ∷ t) = go (eqb c 10) (end-most t)
  where
    go : (b : Bool) → line_end t ≤ length t → cond b 1 (suc (line_end t)) ≤ suc (length t)
    go true h = omega arith
    go false h = omega arith

pub end-pos : (t : List ℕ) → 0 < length t → 0 < line_end t
unfolding line_end
end-pos [] h = absurd (omega arith)
end-pos (c ∷ t) h = go (eqb c 10)
  where
    go : (b : Bool) → 0 < cond b 1 (suc (line_end t))
    go true = omega arith
    go false = omega arith

pub end-here : (t : List ℕ) (i : ℕ) → i < length t → get_or t i 0 ≡ 10 → i + line_end (drop i t) ≡ i + 1
unfolding line_end
end-here t i h e = rw (drop-cons t i 0 h, eq-eqb (get_or t i 0) 10 e)

pub end_later : (t : List ℕ) (i : ℕ) → i < length t → (get_or t i 0 ≡ 10 → ⊥) → i + line_end (drop i t) ≡ i + 1 + line_end (drop (i + 1) t)
unfolding line_end
end_later t i h n = rw (add-one, drop-cons t i 0 h, ne_eqb (get_or t i 0) 10 n) (omega arith)

pub end_none : (t : List ℕ) (i : ℕ) → length t ≤ i → i + line_end (drop i t) ≡ i
unfolding line_end
end_none t i h = rw (drop_of_length-le t {i = i} h, add-zero)

-- ---- a line is what stands between

pub first-line : (t : List ℕ) → 0 < length t → lines_in t ≡ take (line_end t) t ∷ lines_in (drop (line_end t) t)
unfolding lines_in line_end
first-line [] h = absurd (omega arith)
first-line (c ∷ t) h = go (eqb c 10) t (first-line t)
  where
    go : (b : Bool) (t : List ℕ) → (0 < length t → lines_in t ≡ take (line_end t) t ∷ lines_in (drop (line_end t) t))
        → cond b ((c ∷ []) ∷ lines_in t) (on_first c (lines_in t)) ≡ take (cond b 1 (suc (line_end t))) (c ∷ t) ∷ lines_in (drop (cond b 1 (suc (line_end t))) (c ∷ t))
    go true t ih = refl
    go false [] ih = refl
    go false (d ∷ t) ih = rw (ih (omega arith))

pub end-within : (t : List ℕ) {e : ℕ} → e ≡ line_end t → e ≤ length t
end-within t e = omega (arith, end-most t)

pub cut-length : (t : List ℕ) {e : ℕ} → e ≡ line_end t → e ≡ length (take e t)
cut-length t {e} p = sym (length-take-le e t (end-within t p))

-- ---- looking for a form, line by line

pub record Search (table text rest : List ℕ) (form : ℕ) : Type 0 where
  pub few : form + length rest ≤ length table
  pub same : found table text ≡ find_in (lines_in rest) form text

pub search-start : (table text : List ℕ) → Search table text table 0
unfolding found
search-start table text = record { few = omega arith; same = refl }

module _ {table text remaining : List ℕ} {form : ℕ} (v : Search table text remaining form) (h : 0 < length remaining)
    {n : ℕ} (p : n ≡ line_end remaining) (r : ScannedForm) (e : r ≡ scanned (scan (take n remaining) text)) where
  step : found table text ≡ cond r.matches (found_as form r) (find_in (lines_in (drop n remaining)) (suc form) text)
  unfolding find_in
  step = v.same ∙ rw (first-line remaining h, ← p, e)

  pub search-hit : r.matches ≡ true → found_as form r ≡ found table text
  search-hit t = sym (step ∙ rw t)

  pub search-found : r.matches ≡ true → {f : Found} → f ≡ found_as form r → Some f ≡ found_form (found table text)
  search-found t {f} q =
      let line : 0 < length (take n remaining) = omega (arith, cut-length remaining p, p, end-pos remaining h) in
      form-some (q ∙ search-hit t) (rw (q, e) (scan-some (take n remaining) text line (rw e at t)))

  pub search-less : length (take (length remaining - n) (drop n remaining)) < length remaining
  search-less = rw (rest remaining n) (omega (arith, length-drop n remaining, end-pos remaining h, end-most remaining))

  pub search-turn : r.matches ≡ false → Search table text (take (length remaining - n) (drop n remaining)) (form + 1)
  search-turn f = record {
    few = omega (arith, v.few, search-less);
    same = step ∙ rw (f, add-one, rest remaining n);
  }

pub search-end : {table text rest : List ℕ} {form : ℕ} → Search table text rest form → length rest ≤ 0 → no_form form ≡ found table text
unfolding find_in lines_in
search-end {table} {text} {rest} {form} v h = go rest v.same h
  where
    go : (rest : List ℕ) → found table text ≡ find_in (lines_in rest) form text → length rest ≤ 0 → no_form form ≡ found table text
    go [] e l = sym e
    go (c ∷ rest) e l = absurd (omega arith)
