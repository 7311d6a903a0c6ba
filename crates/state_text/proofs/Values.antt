-- A line by its form and its values: what their ranges say, and that the form with the values is the line's text.
-- Assumes nothing.
use mathlib.Core.Path.{◌≡◌, refl, subst, subst⁻¹}
use mathlib.Core.Bool.{Bool, true, ◌&&◌}
use mathlib.Core.Logic.{◌≢◌}
use mathlib.Core.List.{List, [], ◌∷◌}
use Prim.Native.Nat.{ℕ, zero, suc, ◌≤◌, ◌<◌, zero-le}
use native.Mathlib.Omega.{arith}
use lib.Dec.{leb}
use lib.ListN.{get_or, length, replicate}
use lib.Seq.{sets}
use borrow.Author.Tests.{leb-true, le-leb}
use Rattle.sets.proofs.Booleans.{both, both_true}
use Rattle.forms.specs.Numbers.{is_digit, coordinate_of}
use Rattle.forms.specs.Kinds.{kind_of, lookup, is_slot, amount_of, in_range_by, in_range}
use Rattle.forms.specs.Forms.{text_by, item_text, fill, all_in_range, values_in}
use Rattle.forms.specs.Tables.{lines_in, form_at, starts_of, distinct}
use Rattle.forms.proofs.Coordinates.{coordinate-back, coordinate-grid, code-back, code-range}
use Rattle.state_text.specs.Entries.{saved_forms, entry_of, form_of, values_of, line_text}
use Rattle.state_text.specs.Causes.{Ranged}
use Rattle.state_text.specs.declared.entries.Entry.{Entry}
use Rattle.state_text.specs.declared.entries.Entry.TheVariants.{Now, Assigned, Granted, Loan, Open, Place, Active, Did, PlaceWithError}

-- ---- the table

-- no two forms have a text in common
pub forms-distinct : distinct (lines_in saved_forms) ≡ true
unfolding saved_forms lines_in is_digit is_slot kind_of lookup
forms-distinct = refl

pub nine-forms : length (lines_in saved_forms) ≡ 9
unfolding saved_forms lines_in
nine-forms = refl

-- where each form starts, and where the last one ends
abbrev pub form_starts : List ℕ
form_starts = 0 ∷ 8 ∷ 23 ∷ 37 ∷ 52 ∷ 63 ∷ 77 ∷ 90 ∷ 102 ∷ 118 ∷ []

pub index-right : form_starts ≡ starts_of saved_forms
unfolding saved_forms starts_of lines_in
index-right = refl

pub form_small : (e : Entry) → form_of e < 9
unfolding form_of
form_small (Now t) = omega arith
form_small (Assigned u r) = omega arith
form_small (Granted r p) = omega arith
form_small (Loan u v r t) = omega arith
form_small (Open i u) = omega arith
form_small (Place i x y) = omega arith
form_small (Active i r) = omega arith
form_small (Did o p u) = omega arith
form_small (PlaceWithError i x y e) = omega arith

-- ---- ranges, by the marks and by the line

at_most : (v n : ℕ) → (leb 0 v && leb v n) ≡ true → v ≤ n
at_most v n h = leb-true v n (both (leb 0 v) (leb v n) h).1

within : (v n : ℕ) → v ≤ n → (leb 0 v && leb v n) ≡ true
within v n h = both_true (leb 0 v) (leb v n) (le-leb 0 v zero-le) (le-leb v n h)

pub ranged-values : (e : Entry) → Ranged e → all_in_range (form_at saved_forms (form_of e)) (values_of e) ≡ true
unfolding form_at lines_in saved_forms form_of values_of all_in_range is_slot in_range in_range_by kind_of lookup
ranged-values (Now t) h = rw (within t 3155759999 h)
ranged-values (Assigned u r) h = rw (within u 63 (omega arith), within r 31 (omega arith))
ranged-values (Granted r p) h = rw (within r 31 (omega arith), within p 31 (omega arith))
ranged-values (Loan u v r t) h = rw (within u 63 (omega arith), within v 63 (omega arith), within r 31 (omega arith), within t 3155759999 h.3)
ranged-values (Open i u) h = rw (within i 31 (omega arith), within u 63 (omega arith))
ranged-values (Place i x y) h = rw (within i 31 (omega arith), code-range x h.1, code-range y h.2)
ranged-values (Active i r) h = rw (within i 31 (omega arith), within r 31 (omega arith))
ranged-values (Did o p u) h = rw (within o 31 (omega arith), within p 31 (omega arith), within u 63 (omega arith))
ranged-values (PlaceWithError i x y e) h =
    rw (within i 31 (omega arith), code-range x h.1, code-range y h.2, both_true (leb 1 e) (leb e 1000) (le-leb 1 e h.3) (le-leb e 1000 h.4))

-- any other form is a place with its error
pub entry-last : (k : ℕ) (v : List ℕ) → k ≢ 0 → k ≢ 1 → k ≢ 2 → k ≢ 3 → k ≢ 4 → k ≢ 5 → k ≢ 6 → k ≢ 7 → entry_of k v ≡ PlaceWithError (get_or v 0 0) (coordinate_of (get_or v 1 0)) (coordinate_of (get_or v 2 0)) (get_or v 3 0)
unfolding entry_of
entry-last zero v n0 n1 n2 n3 n4 n5 n6 n7 = absurd (n0 refl)
entry-last (suc zero) v n0 n1 n2 n3 n4 n5 n6 n7 = absurd (n1 refl)
entry-last (suc (suc zero)) v n0 n1 n2 n3 n4 n5 n6 n7 = absurd (n2 refl)
entry-last (suc (suc (suc zero))) v n0 n1 n2 n3 n4 n5 n6 n7 = absurd (n3 refl)
entry-last (suc (suc (suc (suc zero)))) v n0 n1 n2 n3 n4 n5 n6 n7 = absurd (n4 refl)
entry-last (suc (suc (suc (suc (suc zero))))) v n0 n1 n2 n3 n4 n5 n6 n7 = absurd (n5 refl)
entry-last (suc (suc (suc (suc (suc (suc zero)))))) v n0 n1 n2 n3 n4 n5 n6 n7 = absurd (n6 refl)
entry-last (suc (suc (suc (suc (suc (suc (suc zero))))))) v n0 n1 n2 n3 n4 n5 n6 n7 = absurd (n7 refl)
entry-last (suc (suc (suc (suc (suc (suc (suc (suc k)))))))) v n0 n1 n2 n3 n4 n5 n6 n7 = refl

-- what is read back into six values
pub values-back : (e : Entry) → sets (replicate 6 0) 0 (values_in (form_at saved_forms (form_of e)) (values_of e)) ≡ values_of e
unfolding form_at lines_in saved_forms form_of values_of values_in is_slot kind_of lookup
values-back (Now t) = refl
values-back (Assigned u r) = refl
values-back (Granted r p) = refl
values-back (Loan u v r t) = refl
values-back (Open i u) = refl
values-back (Place i x y) = refl
values-back (Active i r) = refl
values-back (Did o p u) = refl
values-back (PlaceWithError i x y e) = refl

pub entry-back : (e : Entry) → Ranged e → entry_of (form_of e) (values_of e) ≡ e
unfolding form_of values_of entry_of
entry-back (Now t) h = refl
entry-back (Assigned u r) h = refl
entry-back (Granted r p) h = refl
entry-back (Loan u v r t) h = refl
entry-back (Open i u) h = refl
entry-back (Place i x y) h = rw (coordinate-back x h.1, coordinate-back y h.2)
entry-back (Active i r) h = refl
entry-back (Did o p u) h = refl
entry-back (PlaceWithError i x y e) h = rw (coordinate-back x h.1, coordinate-back y h.2)

-- ---- six values and the line that they say

six-of : (v : List ℕ) → length v ≡ 6 → v ≡ get_or v 0 0 ∷ get_or v 1 0 ∷ get_or v 2 0 ∷ get_or v 3 0 ∷ get_or v 4 0 ∷ get_or v 5 0 ∷ []
six-of [] h = absurd (omega arith)
six-of (a ∷ []) h = absurd (omega arith)
six-of (a ∷ b ∷ []) h = absurd (omega arith)
six-of (a ∷ b ∷ c ∷ []) h = absurd (omega arith)
six-of (a ∷ b ∷ c ∷ d ∷ []) h = absurd (omega arith)
six-of (a ∷ b ∷ c ∷ d ∷ e ∷ []) h = absurd (omega arith)
six-of (a ∷ b ∷ c ∷ d ∷ e ∷ f ∷ []) h = refl
six-of (a ∷ b ∷ c ∷ d ∷ e ∷ f ∷ g ∷ l) h = absurd (omega arith)

-- values in the ranges of their marks: the line is in range, and its text is the form with the values
pub record Says (form : ℕ) (values : List ℕ) : Type 0 where
  pub ranged : Ranged (entry_of form values)
  pub text : line_text (entry_of form values) ≡ fill (form_at saved_forms form) values

one_of : (a m : ℕ) (rest : Bool) → ((leb 0 a && leb a m) && rest) ≡ true → (a ≤ m) × (rest ≡ true)
one_of a m rest h = let p = both (leb 0 a && leb a m) rest h in (at_most a m p.0, p.1)

two-of : (a m b n : ℕ) → ((leb 0 a && leb a m) && ((leb 0 b && leb b n) && true)) ≡ true → (a ≤ m) × (b ≤ n)
two-of a m b n h = let p = one_of a m ((leb 0 b && leb b n) && true) h in (p.0, (one_of b n true p.1).0)

six-say : (k a b c d e f : ℕ) → k < 9 → all_in_range (form_at saved_forms k) (a ∷ b ∷ c ∷ d ∷ e ∷ f ∷ []) ≡ true → Says k (a ∷ b ∷ c ∷ d ∷ e ∷ f ∷ [])
unfolding line_text entry_of form_of values_of fill item_text text_by form_at lines_in saved_forms all_in_range is_slot in_range in_range_by kind_of lookup
six-say zero a b c d e f l h = record { ranged = (one_of a 3155759999 true h).0; text = refl }
six-say (suc zero) a b c d e f l h = let p = two-of a 63 b 31 h in record { ranged = (omega (arith, p.0), omega (arith, p.1)); text = refl }
six-say (suc (suc zero)) a b c d e f l h = let p = two-of a 31 b 31 h in record { ranged = (omega (arith, p.0), omega (arith, p.1)); text = refl }
six-say (suc (suc (suc zero))) a b c d e f l h =
    let p = one_of a 63 ((leb 0 b && leb b 63) && ((leb 0 c && leb c 31) && ((leb 0 d && leb d 3155759999) && true))) h in
    let q = one_of b 63 ((leb 0 c && leb c 31) && ((leb 0 d && leb d 3155759999) && true)) p.1 in
    let r = two-of c 31 d 3155759999 q.1 in
    record { ranged = (omega (arith, p.0), omega (arith, q.0), omega (arith, r.0), r.1); text = refl }
six-say (suc (suc (suc (suc zero)))) a b c d e f l h = let p = two-of a 31 b 63 h in record { ranged = (omega (arith, p.0), omega (arith, p.1)); text = refl }
six-say (suc (suc (suc (suc (suc zero))))) a b c d e f l h =
    let p = one_of a 31 (leb (amount_of b) 1000000 && (leb (amount_of c) 1000000 && true)) h in
    let q = both (leb (amount_of b) 1000000) (leb (amount_of c) 1000000 && true) p.1 in
    let r = both (leb (amount_of c) 1000000) true q.1 in
    record {
      ranged = (omega (arith, p.0), coordinate-grid b, coordinate-grid c);
      text = rw (code-back b q.0, code-back c r.0);
    }
six-say (suc (suc (suc (suc (suc (suc zero)))))) a b c d e f l h = let p = two-of a 31 b 31 h in record { ranged = (omega (arith, p.0), omega (arith, p.1)); text = refl }
six-say (suc (suc (suc (suc (suc (suc (suc zero))))))) a b c d e f l h =
    let p = one_of a 31 ((leb 0 b && leb b 31) && ((leb 0 c && leb c 63) && true)) h in
    let q = two-of b 31 c 63 p.1 in
    record { ranged = (omega (arith, p.0), omega (arith, q.0), omega (arith, q.1)); text = refl }
six-say (suc (suc (suc (suc (suc (suc (suc (suc zero)))))))) a b c d e f l h =
    let p = one_of a 31 (leb (amount_of b) 1000000 && (leb (amount_of c) 1000000 && ((leb 1 d && leb d 1000) && true))) h in
    let q = both (leb (amount_of b) 1000000) (leb (amount_of c) 1000000 && ((leb 1 d && leb d 1000) && true)) p.1 in
    let r = both (leb (amount_of c) 1000000) ((leb 1 d && leb d 1000) && true) q.1 in
    let m = both (leb 1 d) (leb d 1000) (both (leb 1 d && leb d 1000) true r.1).0 in
    record {
      ranged = (omega (arith, p.0), coordinate-grid b, coordinate-grid c, leb-true 1 d m.0, leb-true d 1000 m.1);
      text = rw (code-back b q.0, code-back c r.0);
    }
six-say (suc (suc (suc (suc (suc (suc (suc (suc (suc k))))))))) a b c d e f l h = absurd (omega arith)

pub values-say : (k : ℕ) (v : List ℕ) → k < 9 → length v ≡ 6 → all_in_range (form_at saved_forms k) v ≡ true → Says k v
values-say k v l six h =
    subst⁻¹ (Says k) (six-of v six)
    (six-say k (get_or v 0 0) (get_or v 1 0) (get_or v 2 0) (get_or v 3 0) (get_or v 4 0) (get_or v 5 0) l (subst (λ (x : List ℕ). all_in_range (form_at saved_forms k) x ≡ true) (six-of v six) h))

-- a form has a byte at least
pub form-some : (k : ℕ) (v : List ℕ) → k < 9 → 0 < length (fill (form_at saved_forms k) v)
unfolding fill item_text text_by form_at lines_in saved_forms is_slot kind_of lookup
form-some zero v h = omega arith
form-some (suc zero) v h = omega arith
form-some (suc (suc zero)) v h = omega arith
form-some (suc (suc (suc zero))) v h = omega arith
form-some (suc (suc (suc (suc zero)))) v h = omega arith
form-some (suc (suc (suc (suc (suc zero))))) v h = omega arith
form-some (suc (suc (suc (suc (suc (suc zero)))))) v h = omega arith
form-some (suc (suc (suc (suc (suc (suc (suc zero))))))) v h = omega arith
form-some (suc (suc (suc (suc (suc (suc (suc (suc zero)))))))) v h = omega arith
form-some (suc (suc (suc (suc (suc (suc (suc (suc (suc k))))))))) v h = absurd (omega arith)

pub line-some : (e : Entry) → 0 < length (line_text e)
unfolding line_text
line-some e = form-some (form_of e) (values_of e) (form_small e)
