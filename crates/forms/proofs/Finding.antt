-- Finding the form of a text in a table: what is found stands there, and what was written is found. Assumes nothing.
use mathlib.Core.Path.{◌≡◌, refl, sym, ap, ◌∙◌, subst⁻¹}
use mathlib.Core.Bool.{Bool, true, false, cond, ◌&&◌}
use mathlib.Core.List.{List, [], ◌∷◌, ◌++◌}
use Prim.Native.Nat.{ℕ, zero, suc, ◌+◌, ◌-◌, ◌≤◌, ◌<◌}
use native.Mathlib.Nat.{add-zero, zero-add}
use native.Mathlib.Omega.{arith}
use lib.ListN.{length, drop, get_or, replicate, length-append, length-drop, get_or-eq_default}
use lib.Seq.{sets, sets-eq, length-sets}
use lib.Dec.{leb, ltb, eqb}
use borrow.Author.Tests.{leb-true, leb-false}
use Rattle.sets.proofs.Booleans.{both}
use Rattle.forms.specs.Forms.{head, fill, Match, unmatched, matched, scan, scanned, values_fit, values_in}
use Rattle.std.specs.Prelude.{Some, None}
use Rattle.forms.proofs.Turns.{form-found, form-missed}
use Rattle.forms.specs.Tables.{found_form, lines_in, form_at, on_first, found_as, find_in, found, found_first, slot_count, parted, apart, apart_from_all, distinct}
use Rattle.forms.specs.declared.tables.Found.{Found}
use Rattle.forms.proofs.Matching.{Sound, sound, Within, within, complete, disjoint, item-pos}

-- ---- what was found, in a list of forms numbered from i on

record HitsFrom (ts : List (List ℕ)) (s : List ℕ) (i : ℕ) (f : Found) : Type 0 where
  pub low : i ≤ f.form
  pub most : f.form ≤ i + length ts
  pub six : length f.values ≡ 6
  pub short : f.length ≤ length s
  pub text : f.form < i + length ts → s ≡ fill (get_or ts (f.form - i) []) f.values ++ drop f.length s
  pub fit : f.form < i + length ts → values_fit (get_or ts (f.form - i) []) f.values ≡ true

hits-from : (ts : List (List ℕ)) (s : List ℕ) (i : ℕ) → distinct ts ≡ true → HitsFrom ts s i (find_in ts i s)
unfolding find_in scanned
hits-from [] s i c = record {
  low = omega arith;
  most = omega arith;
  six = refl;
  short = omega arith;
  text = λ h. absurd (omega arith);
  fit = λ h. absurd (omega arith);
}
hits-from (t ∷ ts) s i c =
    let p = both (parted t && leb (slot_count t) 6) (apart_from_all t ts && distinct ts) c in
    let q = both (parted t) (leb (slot_count t) 6) p.0 in
    let r = both (apart_from_all t ts) (distinct ts) p.1 in
    go (scan t s) (sound t s) (within t s) (leb-true _ _ q.1) (hits-from ts s (suc i) r.1)
  where
    go : (m : Match) → Sound t s m → Within t s m → slot_count t ≤ 6 → HitsFrom ts s (suc i) (find_in ts (suc i) s)
        → HitsFrom (t ∷ ts) s i (cond (scanned m).matches (found_as i (scanned m)) (find_in ts (suc i) s))
    go unmatched o w l ih =
        let n : (find_in ts (suc i) s).form - i ≡ suc ((find_in ts (suc i) s).form - suc i) = omega (arith, ih.low) in
        record {
          low = omega (arith, ih.low);
          most = omega (arith, ih.most);
          six = ih.six;
          short = ih.short;
          text = λ h. rw n (ih.text (omega arith));
          fit = λ h. rw n (ih.fit (omega arith));
        }
    go (matched vs n) o w l ih =
        let z : i - i ≡ 0 = omega arith in
        let e = sets-eq vs (replicate 6 0) 0 (omega (arith, w.1)) in
        record {
          low = omega arith;
          most = omega arith;
          six = length-sets (replicate 6 0) 0 vs;
          short = rw zero-add w.0;
          text = λ h. rw (z, zero-add, e) (o (drop (0 + length vs) (replicate 6 0))).0;
          fit = λ h. rw (z, e) (o (drop (0 + length vs) (replicate 6 0))).1;
        }

apart-at : (t : List ℕ) (ts : List (List ℕ)) (k : ℕ) → apart_from_all t ts ≡ true → k < length ts → apart t (get_or ts k []) ≡ true
apart-at t [] k a h = absurd (omega arith)
apart-at t (u ∷ us) zero a h = (both (apart t u) (apart_from_all t us) a).0
apart-at t (u ∷ us) (suc k) a h = apart-at t us k (both (apart t u) (apart_from_all t us) a).1 (omega arith)

parted-at : (ts : List (List ℕ)) (k : ℕ) → distinct ts ≡ true → k < length ts → parted (get_or ts k []) ≡ true
parted-at [] k c h = absurd (omega arith)
parted-at (t ∷ ts) zero c h =
    (both (parted t) (leb (slot_count t) 6) (both (parted t && leb (slot_count t) 6) (apart_from_all t ts && distinct ts) c).0).0
parted-at (t ∷ ts) (suc k) c h =
    parted-at ts k (both (apart_from_all t ts) (distinct ts) (both (parted t && leb (slot_count t) 6) (apart_from_all t ts && distinct ts) c).1).1 (omega arith)

written_from : (ts : List (List ℕ)) (i k : ℕ) (ws s : List ℕ) → distinct ts ≡ true → k < length ts → values_fit (get_or ts k []) ws ≡ true
    → find_in ts i (fill (get_or ts k []) ws ++ s)
    ≡ record { form = i + k; values = sets (replicate 6 0) 0 (values_in (get_or ts k []) ws); length = length (fill (get_or ts k []) ws) }
unfolding find_in scanned
written_from [] i k ws s c h f = absurd (omega arith)
written_from (t ∷ ts) i zero ws s c h f = rw (complete t ws s f (parted-at (t ∷ ts) 0 c h), zero-add, add-zero)
written_from (t ∷ ts) i (suc k) ws s c h f =
    let p = both (parted t && leb (slot_count t) 6) (apart_from_all t ts && distinct ts) c in
    let r = both (apart_from_all t ts) (distinct ts) p.1 in
    let l : k < length ts = omega arith in
    let e : suc i + k ≡ i + suc k = omega arith in
    rw (disjoint t (get_or ts k []) ws s (apart-at t ts k r.0 l) f (parted-at ts k r.1 l))
    (rw e at (written_from ts (suc i) k ws s r.1 l f))

-- ---- what was found in a table

pub record Hits (table s : List ℕ) (f : Found) : Type 0 where
  pub six : length f.values ≡ 6
  pub short : f.length ≤ length s
  pub most : f.form ≤ length (lines_in table)
  pub text : f.form < length (lines_in table) → s ≡ fill (form_at table f.form) f.values ++ drop f.length s
  pub fit : f.form < length (lines_in table) → values_fit (form_at table f.form) f.values ≡ true
  pub exact : f.form < length (lines_in table) → f.length ≡ length (fill (form_at table f.form) f.values)
  pub some : f.form < length (lines_in table) → 0 < f.length

fill-pos : (t ws : List ℕ) → 0 < length t → 0 < length (fill t ws)
unfolding fill
fill-pos [] ws h = absurd (omega arith)
fill-pos (c ∷ t) ws h = rw length-append (omega (arith, item-pos c (head ws)))

-- what stands before the rest of a text is as long as what is left out
front_length : (s x : List ℕ) (n : ℕ) → n ≤ length s → s ≡ x ++ drop n s → n ≡ length x
front_length s x n h e = omega (arith, ap length e, length-append x (drop n s), length-drop n s)

-- no line of a table is empty
lines-pos : (t : List ℕ) (k : ℕ) → k < length (lines_in t) → 0 < length (get_or (lines_in t) k [])
unfolding lines_in
lines-pos [] k h = absurd (omega arith)
lines-pos (c ∷ t) k h = go (eqb c 10) (lines_in t) k h (lines-pos t)
  where
    go : (b : Bool) (ls : List (List ℕ)) (k : ℕ) → k < length (cond b ((c ∷ []) ∷ ls) (on_first c ls)) → ((k : ℕ) → k < length ls → 0 < length (get_or ls k []))
        → 0 < length (get_or (cond b ((c ∷ []) ∷ ls) (on_first c ls)) k [])
    go true ls zero h ih = omega arith
    go true ls (suc k) h ih = ih k (omega arith)
    go false [] zero h ih = omega arith
    go false [] (suc k) h ih = absurd (omega arith)
    go false (l ∷ ls) zero h ih = omega arith
    go false (l ∷ ls) (suc k) h ih = ih (suc k) h

pub found-hits : (table s : List ℕ) → distinct (lines_in table) ≡ true → Hits table s (found table s)
unfolding found form_at
found-hits table s c =
    let h = hits-from (lines_in table) s 0 c in
    let z : (find_in (lines_in table) 0 s).form - 0 ≡ (find_in (lines_in table) 0 s).form = omega arith in
    let form = (find_in (lines_in table) 0 s).form in
    let text : form < length (lines_in table) → s ≡ fill (get_or (lines_in table) form []) (find_in (lines_in table) 0 s).values ++ drop (find_in (lines_in table) 0 s).length s =
    λ k. rw z at (h.text (rw zero-add k)) in
    let exact : form < length (lines_in table) → (find_in (lines_in table) 0 s).length ≡ length (fill (get_or (lines_in table) form []) (find_in (lines_in table) 0 s).values) =
    λ k. front_length s (fill (get_or (lines_in table) form []) (find_in (lines_in table) 0 s).values) (find_in (lines_in table) 0 s).length h.short (text k) in
    record {
      six = h.six;
      short = h.short;
      most = rw zero-add at h.most;
      text = text;
      fit = λ k. rw z at (h.fit (rw zero-add k));
      exact = exact;
      some = λ k.
          omega (arith, exact k, fill-pos (get_or (lines_in table) form []) (find_in (lines_in table) 0 s).values (lines-pos table form k));
    }

-- a form that was found stands at the front, with values that fit
pub found-stands : (table s : List ℕ) → distinct (lines_in table) ≡ true → (found table s).form < length (lines_in table)
    → (s ≡ fill (form_at table (found table s).form) (found table s).values ++ drop (found table s).length s) × (values_fit (form_at table (found table s).form) (found table s).values ≡ true)
found-stands table s c h = let hits = found-hits table s c in (hits.text h, hits.fit h)

-- a form that was written is found again, whatever follows
pub found-written : (table : List ℕ) (k : ℕ) (ws s : List ℕ) → distinct (lines_in table) ≡ true → k < length (lines_in table)
    → values_fit (form_at table k) ws ≡ true
    → found table (fill (form_at table k) ws ++ s)
    ≡ record { form = k; values = sets (replicate 6 0) 0 (values_in (form_at table k) ws); length = length (fill (form_at table k) ws) }
unfolding found form_at
found-written table k ws s c h f = rw zero-add at (written_from (lines_in table) 0 k ws s c h f)

-- where none was found, no form with any values that fit stands at the front
pub found_none : (table s : List ℕ) → distinct (lines_in table) ≡ true → (found table s).form ≡ length (lines_in table)
    → (k : ℕ) (ws r : List ℕ) → k < length (lines_in table) → values_fit (form_at table k) ws ≡ true → s ≡ fill (form_at table k) ws ++ r → ⊥
found_none table s c n k ws r h f e =
    let g : (found table s).form ≡ k = ap (λ (x : List ℕ). (found table x).form) e ∙ ap (λ (x : Found). x.form) (found-written table k ws r c h f) in
    omega arith

-- a form of the table that is tried first is found where it stands there, and nothing else changes
pub tried-first : (table : List ℕ) (k : ℕ) (s : List ℕ) → distinct (lines_in table) ≡ true → found_first (form_at table k) k table s ≡ found table s
unfolding found_first form_at
tried-first table k s c = by_place (leb (length (lines_in table)) k) refl
  where
    written : (ws r : List ℕ) → k < length (lines_in table) → values_fit (form_at table k) ws ≡ true
        → found_as k (scanned (scan (form_at table k) (fill (form_at table k) ws ++ r))) ≡ found table (fill (form_at table k) ws ++ r)
    written ws r h f =
        unfold scanned in rw (complete (form_at table k) ws r f (parted-at (lines_in table) k c h), zero-add) (sym (found-written table k ws r c h f))

    by-match : (m : Match) → scan (form_at table k) s ≡ m → Sound (form_at table k) s m → k < length (lines_in table) → (b : Bool)
        → cond (b && (scanned m).matches) (found_as k (scanned (scan (form_at table k) s))) (found table s) ≡ found table s
    by-match m e o h false = refl
    by-match unmatched e o h true = unfold scanned in refl
    by-match (matched vs n) e o h true =
        unfold scanned in subst⁻¹ (λ (x : List ℕ). found_as k (scanned (scan (form_at table k) x)) ≡ found table x) (o []).0 (written (vs ++ []) (drop n s) h (o []).1)

    by_place : (b : Bool) → leb (length (lines_in table)) k ≡ b → found_first (form_at table k) k table s ≡ found table s
    by_place true e = rw (get_or-eq_default (lines_in table) [] {n = k} (leb-true _ _ e))
    by_place false e = by-match (scan (form_at table k) s) refl (sound (form_at table k) s) (leb-false _ _ e) (ltb 0 (length (form_at table k)))

-- ---- what is answered

empty-found : (ts : List (List ℕ)) (i : ℕ) (s : List ℕ) → (find_in ts i s).form ≡ i + length ts → (find_in ts i s).length ≡ 0
unfolding find_in
empty-found [] i s e = refl
empty-found (t ∷ ts) i s e = go (scanned (scan t s)).matches (empty-found ts (suc i) s) e
  where
    go : (b : Bool) → ((find_in ts (suc i) s).form ≡ suc i + length ts → (find_in ts (suc i) s).length ≡ 0) → (cond b (found_as i (scanned (scan t s))) (find_in ts (suc i) s)).form ≡ i + suc (length ts)
        → (cond b (found_as i (scanned (scan t s))) (find_in ts (suc i) s)).length ≡ 0
    go true more q = absurd (omega arith)
    go false more q = more (omega arith)

module _ (table s : List ℕ) (c : distinct (lines_in table) ≡ true) where
  -- a form of the table
  pub answered-some : {f : Found} → Some f ≡ found_form (found table s) → (f ≡ found table s) × (f.form < length (lines_in table))
  unfolding found
  answered-some {f} some =
      let there = form-found some in
      let hits = found-hits table s c in
      (there.1, below f.form (ap (λ (x : Found). x.form) there.1) (empty-there there.0 there.1) hits.most)
    where
      empty-there : 0 < f.length → f ≡ find_in (lines_in table) 0 s → f.form ≡ length (lines_in table) → ⊥
      empty-there some-bytes same none =
          let empty = empty-found (lines_in table) 0 s (ap (λ (x : Found). x.form) (sym same) ∙ none ∙ sym (zero-add (length (lines_in table)))) in
          omega (arith, some-bytes, ap (λ (x : Found). x.length) same, empty)

      below : (form : ℕ) {found-form : ℕ} → form ≡ found-form → (form ≡ length (lines_in table) → ⊥) → found-form ≤ length (lines_in table) → form < length (lines_in table)
      below form same other most = omega (arith, same, other, most)

  -- none of them
  pub answered-none : None ≡ found_form (found table s) → (found table s).form ≡ length (lines_in table)
  answered-none none =
      let hits = found-hits table s c in
      let empty = form-missed (found table s) none in
      let past : (found table s).form < length (lines_in table) → ⊥ = λ below. omega (arith, empty, hits.some below) in
      omega (arith, past, hits.most)
