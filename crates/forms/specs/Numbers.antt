-- Document 01, 'Texts': "no leading zeros except yyyymmdd and hhmm; a minus only before x, y and box ends, never before 0; at most 10
-- digits". Each number as a text, and what reading finds at the front of a text. Assumes nothing.
use Rattle.std.specs.Prelude.{Option, Some, None, ℕ, zero, suc, ◌+◌, ◌-◌, ◌*◌, ◌/◌, ◌%◌, Bool, true, false, cond, ◌&&◌, List, [], ◌∷◌, ◌++◌, ltb, leb, eqb, ℤ, pos, negsuc}
use Rattle.places.specs.Places.{on_grid}
use Rattle.forms.specs.declared.numbers.Number.{Number}

-- ---- as text

-- the digits of v; the first argument bounds the recursion, the second says whether v is below 10
unfoldable pub digits_within : ℕ → Bool → ℕ → List ℕ
digits_within zero is_last v = (48 + v) ∷ []
digits_within (suc bound) true v = (48 + v) ∷ []
digits_within (suc bound) false v = digits_within bound (ltb (v / 10) 10) (v / 10) ++ ((48 + v % 10) ∷ [])

-- a plain number: "no leading zeros"
unfoldable pub digits_of : ℕ → List ℕ
digits_of v = digits_within v (ltb v 10) v

-- a number that may have a minus; below 0 it is held as 10,000,000,000 more than its amount
unfoldable pub signed_of : ℕ → List ℕ
signed_of v = cond (ltb 10000000000 v) (45 ∷ digits_of (v - 10000000000)) (digits_of v)

-- the same of the number itself: "a minus .. never before 0"
abbrev pub integer_text : ℤ → List ℕ
integer_text (pos n) = digits_of n
integer_text (negsuc n) = 45 ∷ digits_of (suc n)

-- "yyyymmdd and hhmm": the last n digits of v
unfoldable pub fixed_of : ℕ → ℕ → List ℕ
fixed_of zero v = []
fixed_of (suc n) v = fixed_of n (v / 10) ++ ((48 + v % 10) ∷ [])

-- ---- read at the front of a text; 0 bytes where nothing is found

-- the value v, in n bytes
abbrev pub value_and_length : ℕ → ℕ → Number
value_and_length v n = record { value = v; length = n }

abbrev pub nothing : Number
nothing = value_and_length 0 0

-- as the code answers it
abbrev pub found_number : Number → Option Number
found_number r = cond (ltb 0 r.length) (Some r) None

unfoldable pub is_digit : ℕ → Bool
is_digit c = leb 48 c && leb c 57

abbrev pub digit_value : ℕ → ℕ
digit_value c = c - 48

-- a number that is n bytes longer
abbrev pub longer : ℕ → Number → Number
longer n r = value_and_length r.value (n + r.length)

-- the value a continued by the digits at the front of s, "at most 10 digits"; the length counts those digits
unfoldable pub digits_from : List ℕ → ℕ → Number
digits_from [] a = value_and_length a 0
digits_from (c ∷ s) a = cond (ltb a 1000000000 && is_digit c) (longer 1 (digits_from s (a * 10 + (c - 48)))) (value_and_length a 0)

-- a first 0 is the whole number
unfoldable pub read_number : List ℕ → Number
read_number [] = nothing
read_number (c ∷ s) = cond (eqb c 48) (value_and_length 0 1) (cond (is_digit c) (longer 1 (digits_from s (c - 48))) nothing)

-- a number other than 0; 2026-04: "a written 0 is 10 in either text"
unfoldable pub read_positive : List ℕ → Number
read_positive s = cond (ltb 0 (read_number s).value) (read_number s) nothing

-- a minus "never before 0"
abbrev pub negated : Number → Number
negated r = cond (ltb 0 r.value) (value_and_length (10000000000 + r.value) (1 + r.length)) nothing

unfoldable pub read_signed : List ℕ → Number
read_signed [] = nothing
read_signed (c ∷ s) = cond (eqb c 45) (negated (read_number s)) (read_number (c ∷ s))

-- the first n bytes are digits
unfoldable pub starts_with_digits : ℕ → List ℕ → Bool
starts_with_digits zero s = true
starts_with_digits (suc n) [] = false
starts_with_digits (suc n) (c ∷ s) = is_digit c && starts_with_digits n s

-- the value a continued by the first n bytes
unfoldable pub value_from : ℕ → List ℕ → ℕ → ℕ
value_from zero s a = a
value_from (suc n) [] a = a
value_from (suc n) (c ∷ s) a = value_from n s (a * 10 + (c - 48))

unfoldable pub read_fixed : ℕ → List ℕ → Number
read_fixed n s = cond (starts_with_digits n s) (value_and_length (value_from n s 0) n) nothing

unfoldable pub read_byte : ℕ → List ℕ → Number
read_byte c [] = nothing
read_byte c (d ∷ s) = cond (eqb d c) (value_and_length 0 1) nothing

-- ---- the number below 0 that a value holds, and how it is held

abbrev pub minus : ℕ → ℤ
minus zero = pos 0
minus (suc n) = negsuc n

-- what no text writes is 0
unfoldable pub signed_value : ℕ → ℤ
signed_value v = cond (ltb v 10000000000) (pos v) (cond (ltb v 20000000000) (minus (v - 10000000000)) (pos 0))

unfoldable pub signed_code : ℤ → ℕ
signed_code (pos n) = n
signed_code (negsuc n) = 10000000001 + n

-- a value as a coordinate; off the grid there is none, and 0 stands for it
unfoldable pub coordinate_of : ℕ → ℤ
coordinate_of v = cond (on_grid (signed_value v)) (signed_value v) (pos 0)
