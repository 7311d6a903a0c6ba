-- A form through the marks of its numbers: its values, their ranges, and its text depend on those alone.
-- Assumes nothing.
use mathlib.Core.Path.{◌≡◌, refl, ap}
use mathlib.Core.Bool.{Bool, true, false, cond, ◌&&◌}
use mathlib.Core.List.{List, [], ◌∷◌, ◌++◌}
use Prim.Native.Nat.{ℕ, suc, ◌+◌, ◌≤◌}
use native.Mathlib.Omega.{arith}
use lib.ListN.{length, drop, replicate}
use lib.Seq.{sets, sets-eq}
use Rattle.sets.proofs.Booleans.{clash}
use Rattle.forms.specs.Kinds.{kind_of, syntax_of, is_slot, is_slot_syntax, in_range_by, in_range}
use Rattle.forms.specs.Forms.{head, tail, left, item_text, text_by, fill, all_in_range, values_in}
use Rattle.forms.specs.declared.kinds.Syntax.{Syntax}
use Rattle.forms.specs.declared.kinds.Syntax.TheVariants.{Literal, Number, Positive, Signed, Date, TimeOfDay}

-- the marks of a form, in their order
unfoldable pub marks_in : List ℕ → List ℕ
marks_in [] = []
marks_in (byte ∷ form) = cond (is_slot byte) (byte ∷ marks_in form) (marks_in form)

-- a value for each mark
unfoldable pub values_for : List ℕ → List ℕ → List ℕ
values_for [] values = []
values_for (mark ∷ marks) values = head values ∷ values_for marks (tail values)

-- each in the range of its mark
unfoldable pub ranges_hold : List ℕ → List ℕ → Bool
ranges_hold [] values = true
ranges_hold (mark ∷ marks) values = in_range mark (head values) && ranges_hold marks (tail values)

pub values-by-marks : (form values : List ℕ) → values_in form values ≡ values_for (marks_in form) values
unfolding values_in values_for marks_in
values-by-marks [] values = refl
values-by-marks (byte ∷ form) values = go (is_slot byte) (λ others. values-by-marks form others)
  where
    go : (b : Bool) → ((others : List ℕ) → values_in form others ≡ values_for (marks_in form) others)
        → cond b (head values ∷ values_in form (left b values)) (values_in form (left b values)) ≡ values_for (cond b (byte ∷ marks_in form) (marks_in form)) values
    go true ih = ap (λ (l : List ℕ). head values ∷ l) (ih (tail values))
    go false ih = ih values

literal-in-range : (syntax : Syntax) (low high value : ℕ) → is_slot_syntax syntax ≡ false → in_range_by syntax low high value ≡ true
unfolding in_range_by
literal-in-range Literal low high value h = refl
literal-in-range Number low high value h = clash refl h
literal-in-range Positive low high value h = clash refl h
literal-in-range Signed low high value h = clash refl h
literal-in-range Date low high value h = clash refl h
literal-in-range TimeOfDay low high value h = clash refl h

plain-in-range : (byte value : ℕ) → is_slot byte ≡ false → in_range byte value ≡ true
unfolding is_slot in_range
plain-in-range byte value e = literal-in-range (syntax_of byte) (kind_of byte).low (kind_of byte).high value e

pub ranges-by-marks : (form values : List ℕ) → all_in_range form values ≡ ranges_hold (marks_in form) values
unfolding all_in_range ranges_hold marks_in
ranges-by-marks [] values = refl
ranges-by-marks (byte ∷ form) values = go (is_slot byte) refl (λ others. ranges-by-marks form others)
  where
    go : (b : Bool) → is_slot byte ≡ b → ((others : List ℕ) → all_in_range form others ≡ ranges_hold (marks_in form) others)
        → in_range byte (head values) && all_in_range form (left b values) ≡ ranges_hold (cond b (byte ∷ marks_in form) (marks_in form)) values
    go true e ih = ap (λ (r : Bool). in_range byte (head values) && r) (ih (tail values))
    go false e ih = rw (plain-in-range byte (head values) e) (ih values)

-- ---- six values, 0 past those that the form has

abbrev pub padded : List ℕ → List ℕ
padded values = sets (replicate 6 0) 0 values

pub padded-more : (values : List ℕ) → length values ≤ 6 → padded values ≡ values ++ drop (length values) (replicate 6 0)
padded-more values h = let z : 0 + length values ≡ length values = omega arith in rw z at (sets-eq values (replicate 6 0) 0 (omega arith))

length-for : (marks values : List ℕ) → length (values_for marks values) ≡ length marks
unfolding values_for
length-for [] values = refl
length-for (mark ∷ marks) values = ap suc (length-for marks (tail values))

ranges-of-values : (marks values more : List ℕ) → ranges_hold marks (values_for marks values ++ more) ≡ ranges_hold marks values
unfolding ranges_hold values_for
ranges-of-values [] values more = refl
ranges-of-values (mark ∷ marks) values more = ap (λ (r : Bool). in_range mark (head values) && r) (ranges-of-values marks (tail values) more)

literal-text : (syntax : Syntax) (byte value other : ℕ) → is_slot_syntax syntax ≡ false → text_by syntax byte value ≡ text_by syntax byte other
unfolding text_by
literal-text Literal byte value other h = refl
literal-text Number byte value other h = clash refl h
literal-text Positive byte value other h = clash refl h
literal-text Signed byte value other h = clash refl h
literal-text Date byte value other h = clash refl h
literal-text TimeOfDay byte value other h = clash refl h

plain-text : (byte value other : ℕ) → is_slot byte ≡ false → item_text byte value ≡ item_text byte other
unfolding is_slot item_text
plain-text byte value other e = literal-text (syntax_of byte) byte value other e

text-of-values : (form values more : List ℕ) → fill form (values_for (marks_in form) values ++ more) ≡ fill form values
unfolding fill values_for marks_in
text-of-values [] values more = refl
text-of-values (byte ∷ form) values more = go (is_slot byte) refl (λ others. text-of-values form others more)
  where
    go : (b : Bool) → is_slot byte ≡ b → ((others : List ℕ) → fill form (values_for (marks_in form) others ++ more) ≡ fill form others)
        → item_text byte (head (values_for (cond b (byte ∷ marks_in form) (marks_in form)) values ++ more)) ++ fill form (left b (values_for (cond b (byte ∷ marks_in form) (marks_in form)) values ++ more))
        ≡ item_text byte (head values) ++ fill form (left b values)
    go true e ih = ap (λ (l : List ℕ). item_text byte (head values) ++ l) (ih (tail values))
    go false e ih = rw (plain-text byte (head (values_for (marks_in form) values ++ more)) (head values) e, ih values)

-- only the first values matter
module _ (form values : List ℕ) (few : length (marks_in form) ≤ 6) where
  padding : padded (values_for (marks_in form) values) ≡ values_for (marks_in form) values ++ drop (length (marks_in form)) (replicate 6 0)
  padding = rw (length-for (marks_in form) values) at (padded-more (values_for (marks_in form) values) (rw (length-for (marks_in form) values) few))

  pub padded-in-range : all_in_range form (padded (values_for (marks_in form) values)) ≡ all_in_range form values
  padded-in-range = rw (padding, ranges-by-marks, ranges-by-marks) (ranges-of-values (marks_in form) values (drop (length (marks_in form)) (replicate 6 0)))

  pub padded-text : fill form (padded (values_for (marks_in form) values)) ≡ fill form values
  padded-text = rw padding (text-of-values form values (drop (length (marks_in form)) (replicate 6 0)))
