-- Document 01: "A writer returns the text's length; bytes past it stay." and "lent space shorter than the text" is 18. Assumes nothing.
use Rattle.std.specs.Prelude.{ℕ, ◌+◌, ◌≡◌, Bool, cond, List, ◌++◌, length, take, drop, leb}
use Rattle.std.proofs.lemmas.List.Edits.{sets}
use Rattle.std.specs.Prelude.{Result, Ok, Err}

-- the last place that a number of the machine can name; no list is longer
abbrev pub last_place : ℕ
last_place = 18446744073709551615

abbrev pub capped : ℕ → ℕ
capped n = cond (leb n last_place) n last_place

-- the text x is written at place i of the list l: where it ends, and what the list then holds; bytes past its end are left out, so
-- that writing into an empty list measures the text
pub record Wrote (l : List ℕ) (i : ℕ) (x : List ℕ) (r : ℕ) (l' : List ℕ) : Type 0 where
  pub next : r ≡ capped (i + length x)
  pub text : l' ≡ sets l i x

-- ---- a whole text into a lent list, or 18

unfoldable pub written_of : List ℕ → List ℕ → Result ℕ ℕ
written_of x l = cond (leb (length x) (length l)) (Ok (length x)) (Err 18)

unfoldable pub lent_after : List ℕ → List ℕ → List ℕ
lent_after x l = cond (leb (length x) (length l)) (x ++ drop (length x) l) l

-- "in writing a text too, 40 comes before 18": of what is accepted, or is refused by 40
abbrev pub written_if : Bool → List ℕ → List ℕ → Result ℕ ℕ
written_if accepted x l = cond accepted (written_of x l) (Err 40)

abbrev pub lent_if : Bool → List ℕ → List ℕ → List ℕ
lent_if accepted x l = cond accepted (lent_after x l) l

-- "A writer returns the text's length; bytes past it stay.": what is answered, and what the lent space then holds
pub record TextWritten (text lent : List ℕ) (answer : Result ℕ ℕ) (left : List ℕ) : Type 0 where
  pub answers : answer ≡ Ok (length text)
  pub front : take (length text) left ≡ text
  pub past : drop (length text) left ≡ drop (length text) lent
