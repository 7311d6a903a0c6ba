-- What the code computes on the way. No reader has to believe these: each is only cited by a private contract.
-- Assumes nothing.
use Rattle.std.specs.Prelude.{ℕ, suc, ◌+◌, ◌/◌, ◌%◌, ◌≤◌, ◌<◌, ◌≡◌, Bool, cond, List, [], ◌++◌, length, get_or, ltb, Option, Some, None, Result, Ok, Err}
use Rattle.sets.specs.Sets.{member}
use Rattle.loans.specs.Loans.{no_loan, stored}
use Rattle.loans.specs.declared.Loan.{Loan}
use Rattle.enforcement.specs.States.{loans_of}
use Rattle.enforcement.specs.declared.states.State.{State}
use Rattle.rules.specs.Families.{word_at, session_at}
use Rattle.rules.specs.declared.sessions.Session.{Session}
use Rattle.state_text.specs.Entries.{form_of, in_order, rests, has_room, line_text}
use Rattle.state_text.specs.Saving.{over, only, place_lines, lines_text}
use Rattle.state_text.specs.declared.entries.Entry.{Entry}
use Rattle.state_text.specs.declared.entries.Entry.TheVariants.{Open, Active, Did}
use Rattle.state_text.specs.declared.reading.Parsed.{Parsed}

-- ---- reading

abbrev pub loan_at : List Loan → ℕ → Loan
loan_at entries i = get_or entries i no_loan

-- entries past the loans hold the filler
abbrev pub AsStored : State → Type 0
AsStored s = s.loans ≡ stored (loans_of s)

-- an `assigned` line stands before the loans
abbrev pub BeforeLoans : State → Entry → Type 0
BeforeLoans s e = form_of e ≡ 1 → loans_of s ≡ []

-- the least rank that a line may have, by the last line's rank; 0 where there is none
abbrev pub next_of : Option ℕ → ℕ
next_of None = 0
next_of (Some last) = suc last

-- a line that was read, after lines that leave a state: its rank, then what it rests on, then the room for it
abbrev pub checked_line : ℕ → State → Result Parsed ℕ → Result Parsed ℕ
checked_line next s (Err number) = Err number
checked_line next s (Ok parsed) =
    cond (in_order next parsed.entry) (cond (rests s parsed.entry) (cond (has_room s parsed.entry) (Ok parsed) (Err 51)) (Err 16)) (Err 15)

-- ---- writing

-- the lines of a set's members, each by its member
unfoldable pub member_lines : (ℕ → Entry) → ℕ → ℕ → List Entry
member_lines line set j = only (member set j) (line j)

unfoldable pub set_lines : (ℕ → Entry) → ℕ → List Entry
set_lines line set = over 64 (member_lines line set)

-- those of the set at i in a list of sets of numbers below 32
unfoldable pub row_lines : (ℕ → ℕ → Entry) → List ℕ → ℕ → List Entry
row_lines line words i = over 32 (member_lines (line i) (word_at words i))

-- the lines of the sets of users, by object and permission
unfoldable pub history_lines : List ℕ → ℕ → List Entry
history_lines words i = set_lines (Did (i / 32) (i % 32)) (word_at words i)

unfoldable pub open_lines : ℕ → Bool → ℕ → List Entry
open_lines i is_open user = only is_open (Open i user)

-- the lines of one session
unfoldable pub session_parts : ℕ → Session → ℕ → List Entry
session_parts i session roles =
    open_lines i session.is_open session.user ++ (place_lines i session.position ++ over 32 (member_lines (Active i) roles))

-- the lines of session i in a list of sessions, with the sets of their active roles
unfoldable pub session_parts_at : List Session → List ℕ → ℕ → List Entry
session_parts_at sessions active i = session_parts i (session_at sessions i) (word_at active i)

-- ---- measuring

-- the digits of a number below 100
unfoldable pub width : ℕ → ℕ
width v = cond (ltb v 10) 1 2

-- a number of bytes, and a bound by which sums of them stay below a machine number's
pub record Measured (lines : List Entry) (most r : ℕ) : Type 0 where
  pub bytes : r ≡ length (lines_text lines)
  pub bounded : r ≤ most

-- the lines of a set's members, whatever they are, where each has so many bytes beside the member's digits
pub record SetMeasured (bytes set r : ℕ) : Type 0 where
  pub lines : (line : ℕ → Entry) → ((j : ℕ) → j < 64 → length (line_text (line j)) ≡ bytes + width j) → r ≡ length (lines_text (set_lines line set))
  pub bounded : r ≤ 2048

-- the lines of rows, whatever they are, where each has so many bytes beside its two numbers' digits
pub record RowsMeasured (bytes : ℕ) (words : List ℕ) (r : ℕ) : Type 0 where
  pub lines : (line : ℕ → ℕ → Entry) → ((i j : ℕ) → i < 64 → j < 64 → length (line_text (line i j)) ≡ bytes + (width i + width j)) → r ≡ length (lines_text (over (length words) (row_lines line words)))
  pub bounded : r ≤ 131072
