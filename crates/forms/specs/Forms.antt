-- A form: how it reads with its numbers, and what reading it at the front of a text finds. Assumes nothing.
use Rattle.std.specs.Prelude.{Option, Some, None, ℕ, ◌+◌, Bool, true, false, cond, ◌&&◌, not, List, [], ◌∷◌, ◌++◌, length, drop, set, replicate, ltb, eqb}
use Rattle.std.proofs.lemmas.List.Edits.{sets}
use Rattle.forms.specs.Numbers.{digits_of, signed_of, fixed_of, read_number, read_positive, read_signed, read_fixed, read_byte}
use Rattle.forms.specs.Kinds.{syntax_of, is_slot, in_range}
use Rattle.forms.specs.declared.kinds.Syntax.{Syntax}
use Rattle.forms.specs.declared.kinds.Syntax.TheVariants as syntax
use Rattle.forms.specs.declared.numbers.Number.{Number}
use Rattle.forms.specs.declared.scanning.Scanned.{Scanned}

-- ---- one byte of a form

-- as text, with the value v
unfoldable pub text_by : Syntax → ℕ → ℕ → List ℕ
text_by syntax.Literal c v = c ∷ []
text_by syntax.Number c v = digits_of v
text_by syntax.Positive c v = digits_of v
text_by syntax.Signed c v = signed_of v
text_by syntax.Date c v = fixed_of 8 v
text_by syntax.TimeOfDay c v = fixed_of 4 v

unfoldable pub item_text : ℕ → ℕ → List ℕ
item_text c v = text_by (syntax_of c) c v

-- what stands for it at the front of s
unfoldable pub read_by : Syntax → ℕ → List ℕ → Number
read_by syntax.Literal c s = read_byte c s
read_by syntax.Number c s = read_number s
read_by syntax.Positive c s = read_positive s
read_by syntax.Signed c s = read_signed s
read_by syntax.Date c s = read_fixed 8 s
read_by syntax.TimeOfDay c s = read_fixed 4 s

unfoldable pub read_item : ℕ → List ℕ → Number
read_item c s = read_by (syntax_of c) c s

-- ---- a whole form

abbrev pub head : List ℕ → ℕ
head [] = 0
head (v ∷ vs) = v

abbrev pub tail : List ℕ → List ℕ
tail [] = []
tail (v ∷ vs) = vs

-- the values that are left after one byte of a form
abbrev pub left : Bool → List ℕ → List ℕ
left is_slot vs = cond is_slot (tail vs) vs

-- the form t with the values vs, as text
unfoldable pub fill : List ℕ → List ℕ → List ℕ
fill [] vs = []
fill (c ∷ t) vs = item_text c (head vs) ++ fill t (left (is_slot c) vs)

-- each value is in the range of its mark
unfoldable pub all_in_range : List ℕ → List ℕ → Bool
all_in_range [] vs = true
all_in_range (c ∷ t) vs = in_range c (head vs) && all_in_range t (left (is_slot c) vs)

-- a text can hold the value: "at most 10 digits", a minus "never before 0", and 2026-04: "a written 0 is 10"
unfoldable pub fits_by : Syntax → ℕ → Bool
fits_by syntax.Literal v = true
fits_by syntax.Number v = ltb v 10000000000
fits_by syntax.Positive v = ltb 0 v && ltb v 10000000000
fits_by syntax.Signed v = ltb v 20000000000 && not (eqb v 10000000000)
fits_by syntax.Date v = ltb v 100000000
fits_by syntax.TimeOfDay v = ltb v 10000

unfoldable pub values_fit : List ℕ → List ℕ → Bool
values_fit [] vs = true
values_fit (c ∷ t) vs = fits_by (syntax_of c) (head vs) && values_fit t (left (is_slot c) vs)

-- the values that stand in the form t
unfoldable pub values_in : List ℕ → List ℕ → List ℕ
values_in [] vs = []
values_in (c ∷ t) vs = cond (is_slot c) (head vs ∷ values_in t (left (is_slot c) vs)) (values_in t (left (is_slot c) vs))

-- what reading a form finds: nothing, or its values and its length
pub data Match : Type 0 where
  unmatched : Match
  matched : List ℕ → ℕ → Match

-- n bytes more in front, with the value v where they are a number
abbrev pub prepend : Bool → ℕ → ℕ → Match → Match
prepend is_slot v n unmatched = unmatched
prepend true v n (matched vs m) = matched (v ∷ vs) (n + m)
prepend false v n (matched vs m) = matched vs (n + m)

unfoldable pub scan : List ℕ → List ℕ → Match
scan [] s = matched [] 0
scan (c ∷ t) s =
    cond (ltb 0 (read_item c s).length)
    (prepend (is_slot c) (read_item c s).value (read_item c s).length (scan t (drop (read_item c s).length s)))
    unmatched

-- ---- as the code holds it: six values, those that a form does not have being 0

pub record ScannedForm : Type 0 where
  pub values : List ℕ
  pub count : ℕ
  pub length : ℕ
  pub matches : Bool

abbrev pub scanned_as : List ℕ → ℕ → ℕ → ScannedForm
scanned_as values count n = record { matches = true; values = values; count = count; length = n }

abbrev pub not_found : ScannedForm
not_found = record { matches = false; values = replicate 6 0; count = 0; length = 0 }

abbrev pub advance : Bool → ℕ → ℕ
advance true k = k + 1
advance false k = k

-- one item more
abbrev pub taken_by : ScannedForm → Bool → Number → ScannedForm
taken_by a is_slot r = scanned_as (cond is_slot (set a.values a.count r.value) a.values) (advance is_slot a.count) (a.length + r.length)

-- a match after what `a` has
abbrev pub into : ScannedForm → Match → ScannedForm
into a unmatched = not_found
into a (matched vs m) = scanned_as (sets a.values a.count vs) (a.count + length vs) (a.length + m)

unfoldable pub scanned : Match → ScannedForm
scanned m = into (scanned_as (replicate 6 0) 0 0) m

abbrev pub scanned_told : Option Scanned → ScannedForm
scanned_told None = not_found
scanned_told (Some found) = scanned_as found.values found.count found.length
