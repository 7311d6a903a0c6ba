-- How many bytes a line has: those of its form, and the digits of its numbers.
-- Assumes nothing.
use mathlib.Core.Path.{◌≡◌, refl, ap, ◌∙◌}
use mathlib.Core.Bool.{Bool, true, false, cond}
use mathlib.Core.List.{List, [], ◌∷◌, ◌++◌}
use Prim.Native.Nat.{ℕ, ◌+◌, ◌/◌, ◌%◌, ◌≤◌, ◌<◌}
use native.Mathlib.Omega.{arith}
use lib.ListN.{length, length-append}
use lib.Dec.{ltb}
use lib.IntN.{ℤ}
use borrow.Author.Tests.{ltb-true, ltb-false}
use Rattle.forms.specs.Numbers.{digits_of, signed_of, signed_code}
use Rattle.forms.specs.Kinds.{is_slot, kind_of, lookup}
use Rattle.forms.specs.Forms.{text_by, item_text, fill}
use Rattle.forms.specs.Tables.{lines_in, form_at}
use Rattle.forms.proofs.Digits.{digits-small, digits_step}
use Rattle.state_text.specs.Entries.{saved_forms, form_of, values_of, line_text}
use Rattle.state_text.specs.Parts.{width}
use Rattle.state_text.specs.declared.entries.Entry.TheVariants.{Now, Assigned, Granted, Loan, Open, Place, Active, Did, PlaceWithError}

-- ---- with any numbers

module _ where
  pub now-bytes : (t : ℕ) → length (line_text (Now t)) ≡ 7 + length (digits_of t)
  unfolding line_text form_of values_of fill item_text text_by form_at lines_in saved_forms is_slot kind_of lookup
  now-bytes t = simp length-append (omega arith)

  pub assigned-bytes : (u r : ℕ) → length (line_text (Assigned u r)) ≡ 13 + (length (digits_of u) + length (digits_of r))
  unfolding line_text form_of values_of fill item_text text_by form_at lines_in saved_forms is_slot kind_of lookup
  assigned-bytes u r = simp length-append (omega arith)

  pub granted_bytes : (r p : ℕ) → length (line_text (Granted r p)) ≡ 12 + (length (digits_of r) + length (digits_of p))
  unfolding line_text form_of values_of fill item_text text_by form_at lines_in saved_forms is_slot kind_of lookup
  granted_bytes r p = simp length-append (omega arith)

  pub loan-bytes : (u v r t : ℕ) → length (line_text (Loan u v r t)) ≡ 11 + (length (digits_of u) + (length (digits_of v) + (length (digits_of r) + length (digits_of t))))
  unfolding line_text form_of values_of fill item_text text_by form_at lines_in saved_forms is_slot kind_of lookup
  loan-bytes u v r t = simp length-append (omega arith)

  pub open-bytes : (i u : ℕ) → length (line_text (Open i u)) ≡ 9 + (length (digits_of i) + length (digits_of u))
  unfolding line_text form_of values_of fill item_text text_by form_at lines_in saved_forms is_slot kind_of lookup
  open-bytes i u = simp length-append (omega arith)

  pub place-bytes : (i : ℕ) (x y : ℤ) → length (line_text (Place i x y)) ≡ 11 + (length (digits_of i) + (length (signed_of (signed_code x)) + length (signed_of (signed_code y))))
  unfolding line_text form_of values_of fill item_text text_by form_at lines_in saved_forms is_slot kind_of lookup
  place-bytes i x y = simp length-append (omega arith)

  pub error-bytes : (i : ℕ) (x y : ℤ) (e : ℕ) → length (line_text (PlaceWithError i x y e)) ≡ 12 + (length (digits_of i) + (length (signed_of (signed_code x)) + (length (signed_of (signed_code y)) + length (digits_of e))))
  unfolding line_text form_of values_of fill item_text text_by form_at lines_in saved_forms is_slot kind_of lookup
  error-bytes i x y e = simp length-append (omega arith)

  pub active-bytes : (i r : ℕ) → length (line_text (Active i r)) ≡ 11 + (length (digits_of i) + length (digits_of r))
  unfolding line_text form_of values_of fill item_text text_by form_at lines_in saved_forms is_slot kind_of lookup
  active-bytes i r = simp length-append (omega arith)

  pub did-bytes : (o p u : ℕ) → length (line_text (Did o p u)) ≡ 9 + (length (digits_of o) + (length (digits_of p) + length (digits_of u)))
  unfolding line_text form_of values_of fill item_text text_by form_at lines_in saved_forms is_slot kind_of lookup
  did-bytes o p u = simp length-append (omega arith)

-- ---- with numbers below 100

pub digits-width : (v : ℕ) → v < 100 → length (digits_of v) ≡ width v
unfolding width
digits-width v h = go (ltb v 10) refl
  where
    go : (b : Bool) → ltb v 10 ≡ b → length (digits_of v) ≡ cond b 1 2
    go true e = ap length (digits-small v (ltb-true v 10 e))
    go false e =
        let ten : 10 ≤ v = ltb-false v 10 e in
        let small : v / 10 < 10 = omega arith in
        ap length (digits_step v ten ∙ ap (λ (t : List ℕ). t ++ ((48 + v % 10) ∷ [])) (digits-small (v / 10) small))

pub width-most : (v : ℕ) → width v ≤ 2
unfolding width
width-most v = go (ltb v 10)
  where
    go : (b : Bool) → cond b 1 2 ≤ 2
    go true = omega arith
    go false = omega arith

pub assigned-size : (u r : ℕ) → u < 100 → r < 100 → length (line_text (Assigned u r)) ≡ 13 + (width u + width r)
assigned-size u r h k = assigned-bytes u r ∙ rw (digits-width u h, digits-width r k)

pub granted-size : (r p : ℕ) → r < 100 → p < 100 → length (line_text (Granted r p)) ≡ 12 + (width r + width p)
granted-size r p h k = granted_bytes r p ∙ rw (digits-width r h, digits-width p k)

pub loan-size : (u v r t : ℕ) → u < 100 → v < 100 → r < 100 → length (line_text (Loan u v r t)) ≡ 11 + (width u + (width v + (width r + length (digits_of t))))
loan-size u v r t h k l = loan-bytes u v r t ∙ rw (digits-width u h, digits-width v k, digits-width r l)

pub open-size : (i u : ℕ) → i < 100 → u < 100 → length (line_text (Open i u)) ≡ 9 + (width i + width u)
open-size i u h k = open-bytes i u ∙ rw (digits-width i h, digits-width u k)

pub active-size : (i r : ℕ) → i < 100 → r < 100 → length (line_text (Active i r)) ≡ 11 + (width i + width r)
active-size i r h k = active-bytes i r ∙ rw (digits-width i h, digits-width r k)

pub did-size : (o p u : ℕ) → o < 100 → p < 100 → u < 100 → length (line_text (Did o p u)) ≡ 9 + (width o + (width p + width u))
did-size o p u h k l = did-bytes o p u ∙ rw (digits-width o h, digits-width p k, digits-width u l)
