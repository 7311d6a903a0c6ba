-- The kinds of numbers that stand in a line: each has a mark, a syntax and a range. Assumes nothing.
-- Marks are bytes that no line has, in document 01 or in the lines with capitals that are to come.
use Rattle.std.specs.Prelude.{ℕ, ◌-◌, ◌%◌, ◌≡◌, Bool, true, false, cond, ◌&&◌, List, [], ◌∷◌, ltb, leb, eqb}
use Prim.Native.Char.{code}
use Prim.Native.String.{String, char_at}
use Rattle.forms.specs.declared.kinds.Syntax.{Syntax}
use Rattle.forms.specs.declared.kinds.Syntax.TheVariants.{Literal, Number, Positive, Signed, Date, TimeOfDay}
use Rattle.forms.specs.declared.kinds.Kind.{Kind}

pub record Row : Type 0 where
  pub mark : ℕ
  pub kind : Kind

abbrev pub row : String → Syntax → ℕ → ℕ → Row
row mark syntax low high = record { mark = code (char_at mark 0); kind = record { syntax = syntax; low = low; high = high } }

-- document 01, 'Ranges', 'Calendar', 'Places' and 'Rules'
abbrev pub kinds : List Row
kinds =
    row "#" Number 1 128  -- a rule's number
    ∷ row "@" Number 0 63  -- a user
    ∷ row "$" Number 0 31  -- a role
    ∷ row "%" Number 0 31  -- a permission
    ∷ row "&" Number 0 31  -- a session
    ∷ row "*" Number 0 31  -- an object
    ∷ row "~" Number 0 3155759999  -- a time
    ∷ row "+" Signed 0 1000000  -- a coordinate
    ∷ row "^" Number 1 100000  -- a radius
    ∷ row ">" Number 0 64  -- a limit of users
    ∷ row "<" Number 0 32  -- any other limit
    ∷ row "!" Number 1 7  -- a weekday
    ∷ row "," Number 1 12  -- a month
    ∷ row "'" Number 1 5  -- which weekday of its month
    ∷ row "/" Number 1 1000  -- an interval of days
    ∷ row "." Date 20000000 20999999  -- a date: "year 2000 to 2099"
    ∷ row "[" TimeOfDay 0 2359  -- "h 0000 to 2359"
    ∷ row "]" TimeOfDay 1 2400  -- "k 0001 to 2400"
    ∷ row "?" Number 0 9999999999  -- any number of a step, or of an answer
    ∷ row "_" Signed 0 9999999999  -- the same, with a minus or none
    ∷ row "`" Positive 1 1000  -- an error: 2026-04: "a fourth number e, 1 to 1000 .. a written 0 is 10"; in a step its range is the gate's to refuse
    ∷ []

abbrev pub literal : Kind
literal = record { syntax = Literal; low = 0; high = 0 }

unfoldable pub lookup : List Row → ℕ → Kind
lookup [] c = literal
lookup (r ∷ rows) c = cond (eqb c r.mark) r.kind (lookup rows c)

-- a byte that is no mark stands for itself
unfoldable pub kind_of : ℕ → Kind
kind_of c = lookup kinds c

abbrev pub syntax_of : ℕ → Syntax
syntax_of c = (kind_of c).syntax

abbrev pub is_slot_syntax : Syntax → Bool
is_slot_syntax Literal = false
is_slot_syntax Number = true
is_slot_syntax Positive = true
is_slot_syntax Signed = true
is_slot_syntax Date = true
is_slot_syntax TimeOfDay = true

unfoldable pub is_slot : ℕ → Bool
is_slot c = is_slot_syntax (syntax_of c)

-- the mark of a plain number
abbrev pub IsPlain : ℕ → Type 0
IsPlain c = Number ≡ syntax_of c

-- a value without its minus
unfoldable pub amount_of : ℕ → ℕ
amount_of v = cond (ltb 10000000000 v) (v - 10000000000) v

-- "number outside its range" is 11; "minutes to 59"
unfoldable pub in_range_by : Syntax → ℕ → ℕ → ℕ → Bool
in_range_by Literal low high v = true
in_range_by Number low high v = leb low v && leb v high
in_range_by Positive low high v = leb low v && leb v high
in_range_by Signed low high v = leb (amount_of v) high
in_range_by Date low high v = leb low v && leb v high
in_range_by TimeOfDay low high v = (leb low v && leb v high) && leb (v % 100) 59

unfoldable pub in_range : ℕ → ℕ → Bool
in_range c v = in_range_by (syntax_of c) (kind_of c).low (kind_of c).high v
