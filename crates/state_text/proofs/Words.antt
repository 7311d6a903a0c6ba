-- THEOREM: a line of a saved state reads in document 01's words, each number where the document puts it.
-- Assumes nothing.
use mathlib.Core.Path.{◌≡◌, refl}
use mathlib.Core.Bool.{true}
use Prim.Native.Nat.{◌≤◌}
use native.Mathlib.Omega.{arith}
use borrow.Author.Tests.{leb-true}
use lib.IntN.{ℤ, nat_abs}
use Rattle.forms.specs.Kinds.{kind_of, lookup, is_slot}
use Rattle.forms.specs.Forms.{text_by, item_text, fill}
use Rattle.forms.specs.Tables.{lines_in, form_at}
use Rattle.forms.proofs.Coordinates.{signed-text}
use Rattle.places.specs.Places.{on_grid}
use Rattle.state_text.specs.Entries.{saved_forms, form_of, values_of, line_text}
use Rattle.state_text.specs.Causes.{Ranged}
use Rattle.state_text.specs.Words.{line_words}
use Rattle.state_text.specs.declared.entries.Entry.{Entry}
use Rattle.state_text.specs.declared.entries.Entry.TheVariants.{Now, Assigned, Granted, Loan, Open, Place, Active, Did, PlaceWithError}

on-grid-short : (z : ℤ) → on_grid z ≡ true → nat_abs z ≤ 9999999999
on-grid-short z h = omega (arith, leb-true (nat_abs z) 1000000 h)

pub line_reads : (e : Entry) → Ranged e → line_text e ≡ line_words e
unfolding line_text form_of values_of fill item_text text_by is_slot kind_of lookup form_at lines_in saved_forms
line_reads (Now t) h = refl
line_reads (Assigned u r) h = refl
line_reads (Granted r p) h = refl
line_reads (Loan u v r t) h = refl
line_reads (Open i u) h = refl
line_reads (Place i x y) h = rw (signed-text x (on-grid-short x h.1), signed-text y (on-grid-short y h.2))
line_reads (Active i r) h = refl
line_reads (Did o p u) h = refl
line_reads (PlaceWithError i x y e) h = rw (signed-text x (on-grid-short x h.1), signed-text y (on-grid-short y h.2))
