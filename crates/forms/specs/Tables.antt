-- A table of forms: a text, each of whose lines is a form. Assumes nothing.
use Rattle.std.specs.Prelude.{Option, Some, None, ℕ, zero, suc, ◌+◌, ◌-◌, Bool, true, false, cond, ◌&&◌, not, List, [], ◌∷◌, ◌++◌, length, take, drop, get_or, replicate, eqb, leb, ltb}
use Prim.Native.Char.{code}
use Prim.Native.String.{String, len, char_at}
use Rattle.forms.specs.Numbers.{is_digit}
use Rattle.forms.specs.Kinds.{is_slot}
use Rattle.forms.specs.Forms.{ScannedForm, scan, scanned}
use Rattle.forms.specs.declared.tables.Found.{Found}

-- ---- bytes and lines

abbrev pub bytes_from : ℕ → ℕ → String → List ℕ
bytes_from zero i s = []
bytes_from (suc n) i s = code (char_at s i) ∷ bytes_from n (suc i) s

-- the bytes of a text
abbrev pub bytes : String → List ℕ
bytes s = bytes_from (len s) 0 s

-- texts one after the other
abbrev pub joined : List (List ℕ) → List ℕ
joined [] = []
joined (x ∷ xs) = x ++ joined xs

abbrev pub on_first : ℕ → List (List ℕ) → List (List ℕ)
on_first c [] = (c ∷ []) ∷ []
on_first c (l ∷ ls) = (c ∷ l) ∷ ls

-- its lines, each with the line feed that ends it
unfoldable pub lines_in : List ℕ → List (List ℕ)
lines_in [] = []
lines_in (c ∷ t) = cond (eqb c 10) ((c ∷ []) ∷ lines_in t) (on_first c (lines_in t))

-- the bytes of the first line
unfoldable pub line_end : List ℕ → ℕ
line_end [] = 0
line_end (c ∷ t) = cond (eqb c 10) 1 (suc (line_end t))

unfoldable pub form_at : List ℕ → ℕ → List ℕ
form_at table i = get_or (lines_in table) i []

-- ---- an index of a table: where each line starts, and where the last one ends

abbrev pub starts_from : ℕ → List (List ℕ) → List ℕ
starts_from i [] = i ∷ []
starts_from i (l ∷ ls) = i ∷ starts_from (i + length l) ls

-- an index is right where it is this
unfoldable pub starts_of : List ℕ → List ℕ
starts_of table = starts_from 0 (lines_in table)

-- the part of a text from i up to but not k; nothing where there is no such part
abbrev pub part_of : List ℕ → ℕ → ℕ → List ℕ
part_of t i k = cond (leb i k && leb k (length t)) (take (k - i) (drop i t)) []

-- line i as any index has it; past its last line, nothing
unfoldable pub line_at : List ℕ → List ℕ → ℕ → List ℕ
line_at table starts i = part_of table (get_or starts i 0) (get_or starts (suc i) 0)

-- ---- the first form that stands at the front of a text; where none does, the number of forms

abbrev pub found_as : ℕ → ScannedForm → Found
found_as i r = record { form = i; values = r.values; length = r.length }

abbrev pub no_form : ℕ → Found
no_form i = record { form = i; values = replicate 6 0; length = 0 }

unfoldable pub find_in : List (List ℕ) → ℕ → List ℕ → Found
find_in [] i s = no_form i
find_in (t ∷ ts) i s = cond (scanned (scan t s)).matches (found_as i (scanned (scan t s))) (find_in ts (suc i) s)

unfoldable pub found : List ℕ → List ℕ → Found
found table s = find_in (lines_in table) 0 s

-- the form t is tried first, as form i of the table; the empty form would stand at the front of every text
unfoldable pub found_first : List ℕ → ℕ → List ℕ → List ℕ → Found
found_first t i table s = cond (ltb 0 (length t) && (scanned (scan t s)).matches) (found_as i (scanned (scan t s))) (found table s)

-- the likely form is tried first, by the index
abbrev pub found_likely : List ℕ → List ℕ → ℕ → List ℕ → Found
found_likely table starts likely s = found_first (line_at table starts likely) likely table s

-- as the code answers it: every form has some bytes
abbrev pub found_form : Found → Option Found
found_form f = cond (ltb 0 f.length) (Some f) None

-- ---- a table whose forms can be told from their texts, as a computed test

-- how many numbers a form has
abbrev pub slot_count : List ℕ → ℕ
slot_count [] = 0
slot_count (c ∷ t) = cond (is_slot c) (suc (slot_count t)) (slot_count t)

-- a form goes on with a byte that is neither a digit nor a number
abbrev pub goes_on_plain : List ℕ → Bool
goes_on_plain [] = false
goes_on_plain (c ∷ t) = not (is_slot c) && not (is_digit c)

-- each number of a form is followed by such a byte
abbrev pub parted : List ℕ → Bool
parted [] = true
parted (c ∷ t) = cond (is_slot c) (goes_on_plain t) true && parted t

-- two forms differ at a byte of both, and are the same up to there
abbrev pub apart : List ℕ → List ℕ → Bool
apart [] u = false
apart (c ∷ t) [] = false
apart (c ∷ t) (d ∷ u) = cond (eqb c d) (apart t u) (not (is_slot c) && not (is_slot d))

abbrev pub apart_from_all : List ℕ → List (List ℕ) → Bool
apart_from_all t [] = true
apart_from_all t (u ∷ us) = apart t u && apart_from_all t us

-- numbers are parted, there are at most six of them, and no two forms have a text in common
abbrev pub distinct : List (List ℕ) → Bool
distinct [] = true
distinct (t ∷ ts) = (parted t && leb (slot_count t) 6) && (apart_from_all t ts && distinct ts)
