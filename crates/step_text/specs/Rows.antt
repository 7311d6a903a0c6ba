-- Document 01, 'State and steps' and 'Texts': the table of steps, a row for each kind: its line as bytes, its kind's number and its
-- numbers, and their ranges; and 2026-05, who acts. The table of forms is not used: that reading goes by these rows is proved in
-- proofs/Rows.antt.
-- Assumes nothing.
use Rattle.std.specs.Prelude.{ℕ, zero, suc, ◌≤◌, ◌<◌, true, ◌≡◌, List, [], ◌∷◌, ◌++◌, length, ℤ, pos, negsuc, Ok}
use Prim.Native.String.{String}
use Rattle.forms.specs.Numbers.{digits_of, integer_text}
use Rattle.forms.specs.Tables.{bytes}
use Rattle.steps.specs.declared.acting.Acting.{Acting}
use Rattle.steps.specs.declared.acting.Acting.TheVariants.{Nobody, InSession}
use Rattle.steps.specs.declared.actions.Action.{Action}
use Rattle.steps.specs.declared.actions.Action.TheVariants.{Malformed, Assign, Withdraw, Grant, Take, Open, Activate, Deactivate, Access, Finish, Close, Move, Lost, Clock, Lend, Recall}
use Rattle.steps.specs.Steps.{is_administrative, action_of}
use Rattle.steps.specs.declared.steps.Step.{Step}
use Rattle.step_text.specs.Lines.{read_step}
use Rattle.step_text.specs.declared.lines.StepLine.{StepLine}

-- a row with its numbers, and who acts
pub record Row : Type 0 where
  pub by : Acting
  pub action : Action

abbrev pub row_by : Acting → Action → Row
row_by by action = record { by = by; action = action }

-- ---- the lines

-- "single spaces", and how the line ends
abbrev pub spaced : List (List ℕ) → List ℕ → List ℕ
spaced [] end = end
spaced (number ∷ numbers) end = bytes " " ++ (number ++ spaced numbers end)

abbrev pub form_with : String → List (List ℕ) → List ℕ → List ℕ
form_with name numbers end = bytes "(" ++ (bytes name ++ spaced numbers end)

-- "line feed after each"
abbrev pub line_with : String → List (List ℕ) → List ℕ
line_with name numbers = form_with name numbers (bytes ")\n")

-- 2026-04: "left out means 0"
abbrev pub error_text : ℕ → List (List ℕ)
error_text zero = []
error_text (suc e) = digits_of (suc e) ∷ []

-- the table's first column, with any numbers, and how the line ends
unfoldable pub action_text : Action → List ℕ → List ℕ
action_text Malformed end = []
action_text (Assign u r) end = form_with "assign" (digits_of u ∷ digits_of r ∷ []) end
action_text (Withdraw u r) end = form_with "withdraw" (digits_of u ∷ digits_of r ∷ []) end
action_text (Grant r p) end = form_with "grant" (digits_of r ∷ digits_of p ∷ []) end
action_text (Take r p) end = form_with "take" (digits_of r ∷ digits_of p ∷ []) end
action_text (Open s u) end = form_with "open" (digits_of s ∷ digits_of u ∷ []) end
action_text (Activate s r) end = form_with "activate" (digits_of s ∷ digits_of r ∷ []) end
action_text (Deactivate s r) end = form_with "deactivate" (digits_of s ∷ digits_of r ∷ []) end
action_text (Access s p o) end = form_with "access" (digits_of s ∷ digits_of p ∷ digits_of o ∷ []) end
action_text (Finish o) end = form_with "finish" (digits_of o ∷ []) end
action_text (Close s) end = form_with "close" (digits_of s ∷ []) end
action_text (Move s point) end = form_with "move" (digits_of s ∷ integer_text point.x ∷ integer_text point.y ∷ error_text point.error) end
action_text (Lost s) end = form_with "lost" (digits_of s ∷ []) end
action_text (Clock t) end = form_with "clock" (digits_of t ∷ []) end
-- 2026-01: "Step `lend u v r t`", "`recall u v r`"
action_text (Lend u v r t) end = form_with "lend" (digits_of u ∷ digits_of v ∷ digits_of r ∷ digits_of t ∷ []) end
action_text (Recall u v r) end = form_with "recall" (digits_of u ∷ digits_of v ∷ digits_of r ∷ []) end

-- 2026-05: "Steps are written `(by 4 (assign 5 2))`"
abbrev pub acted_text : Acting → Action → List ℕ
acted_text Nobody action = action_text action (bytes ")\n")
acted_text (InSession s) action = bytes "(by " ++ (digits_of s ++ (bytes " " ++ action_text action (bytes "))\n")))

unfoldable pub row_text : Row → List ℕ
row_text row = acted_text row.by row.action

-- ---- "at most 10 digits"

abbrev pub amount : ℤ → ℕ
amount (pos n) = n
amount (negsuc n) = suc n

abbrev pub TenDigits : ℕ → Type 0
TenDigits n = n < 10000000000

-- each number of the action has at most ten digits
abbrev pub ActionWritable : Action → Type 0
ActionWritable Malformed = ⊥
ActionWritable (Assign u r) = TenDigits u × TenDigits r
ActionWritable (Withdraw u r) = TenDigits u × TenDigits r
ActionWritable (Grant r p) = TenDigits r × TenDigits p
ActionWritable (Take r p) = TenDigits r × TenDigits p
ActionWritable (Open s u) = TenDigits s × TenDigits u
ActionWritable (Activate s r) = TenDigits s × TenDigits r
ActionWritable (Deactivate s r) = TenDigits s × TenDigits r
ActionWritable (Access s p o) = TenDigits s × TenDigits p × TenDigits o
ActionWritable (Finish o) = TenDigits o
ActionWritable (Close s) = TenDigits s
ActionWritable (Move s point) = TenDigits s × TenDigits (amount point.x) × TenDigits (amount point.y) × TenDigits point.error
ActionWritable (Lost s) = TenDigits s
ActionWritable (Clock t) = TenDigits t
ActionWritable (Lend u v r t) = TenDigits u × TenDigits v × TenDigits r × TenDigits t
ActionWritable (Recall u v r) = TenDigits u × TenDigits v × TenDigits r

-- and so has the session's; 2026-05: "`by` before any other step .. is 10 in a text", and it stands before assign, withdraw, grant, take,
-- lend and recall alone
abbrev pub ActingWritable : Acting → Action → Type 0
ActingWritable Nobody action = Unit {0}
ActingWritable (InSession s) action = TenDigits s × (is_administrative action ≡ true)

pub record Writable (row : Row) : Type 0 where
  pub numbers : ActionWritable row.action
  pub acting : ActingWritable row.by row.action

-- ---- a step's kind and numbers; those that a kind does not use are not looked at

abbrev pub HasActionNumbers : Step → Action → Type 0
HasActionNumbers step Malformed = ⊥
HasActionNumbers step (Assign u r) = (step.kind ≡ 0) × (step.first ≡ u) × (step.second ≡ r)
HasActionNumbers step (Withdraw u r) = (step.kind ≡ 1) × (step.first ≡ u) × (step.second ≡ r)
HasActionNumbers step (Grant r p) = (step.kind ≡ 2) × (step.first ≡ r) × (step.second ≡ p)
HasActionNumbers step (Take r p) = (step.kind ≡ 3) × (step.first ≡ r) × (step.second ≡ p)
HasActionNumbers step (Open s u) = (step.kind ≡ 4) × (step.first ≡ s) × (step.second ≡ u)
HasActionNumbers step (Activate s r) = (step.kind ≡ 5) × (step.first ≡ s) × (step.second ≡ r)
HasActionNumbers step (Deactivate s r) = (step.kind ≡ 6) × (step.first ≡ s) × (step.second ≡ r)
HasActionNumbers step (Access s p o) = (step.kind ≡ 7) × (step.first ≡ s) × (step.second ≡ p) × (step.third ≡ o)
HasActionNumbers step (Finish o) = (step.kind ≡ 8) × (step.first ≡ o)
HasActionNumbers step (Close s) = (step.kind ≡ 9) × (step.first ≡ s)
HasActionNumbers step (Move s point) = (step.kind ≡ 10) × (step.first ≡ s) × (step.x ≡ point.x) × (step.y ≡ point.y) × (step.fourth ≡ point.error)
HasActionNumbers step (Lost s) = (step.kind ≡ 11) × (step.first ≡ s)
HasActionNumbers step (Clock t) = (step.kind ≡ 12) × (step.first ≡ t)
HasActionNumbers step (Lend u v r t) = (step.kind ≡ 13) × (step.first ≡ u) × (step.second ≡ v) × (step.third ≡ r) × (step.fourth ≡ t)
HasActionNumbers step (Recall u v r) = (step.kind ≡ 14) × (step.first ≡ u) × (step.second ≡ v) × (step.third ≡ r)

-- and who acts
pub record HasNumbers (step : Step) (row : Row) : Type 0 where
  pub numbers : HasActionNumbers step row.action
  pub by : step.by ≡ row.by

-- ---- "Users u 0 to 63, roles r 0 to 31, permissions p 0 to 31, sessions s 0 to 31, objects o 0 to 31 .. Time t: .. 0 to 3,155,759,999.
-- x, y: whole metres on the farm grid, -1,000,000 to 1,000,000."; 2026-04: "a fourth number e, 1 to 1000; left out means 0"

abbrev pub ActionInRange : Action → Type 0
ActionInRange Malformed = ⊥
ActionInRange (Assign u r) = (u ≤ 63) × (r ≤ 31)
ActionInRange (Withdraw u r) = (u ≤ 63) × (r ≤ 31)
ActionInRange (Grant r p) = (r ≤ 31) × (p ≤ 31)
ActionInRange (Take r p) = (r ≤ 31) × (p ≤ 31)
ActionInRange (Open s u) = (s ≤ 31) × (u ≤ 63)
ActionInRange (Activate s r) = (s ≤ 31) × (r ≤ 31)
ActionInRange (Deactivate s r) = (s ≤ 31) × (r ≤ 31)
ActionInRange (Access s p o) = (s ≤ 31) × (p ≤ 31) × (o ≤ 31)
ActionInRange (Finish o) = o ≤ 31
ActionInRange (Close s) = s ≤ 31
ActionInRange (Move s point) = (s ≤ 31) × (amount point.x ≤ 1000000) × (amount point.y ≤ 1000000) × (point.error ≤ 1000)
ActionInRange (Lost s) = s ≤ 31
ActionInRange (Clock t) = t ≤ 3155759999
ActionInRange (Lend u v r t) = (u ≤ 63) × (v ≤ 63) × (r ≤ 31) × (t ≤ 3155759999)
ActionInRange (Recall u v r) = (u ≤ 63) × (v ≤ 63) × (r ≤ 31)

-- 2026-05: the acting session
abbrev pub ActingInRange : Acting → Type 0
ActingInRange Nobody = Unit {0}
ActingInRange (InSession s) = s ≤ 31

abbrev pub RowInRange : Row → Type 0
RowInRange row = ActionInRange row.action × ActingInRange row.by

-- ---- what is read

-- the line at the front of the text is the row's: its step has the row's kind and numbers and who acts, and is the row's action where they
-- are in range; else "step's number, its kind's included, outside its range"
pub record ReadAs (text : List ℕ) (row : Row) : Type 0 where
  pub line : StepLine
  pub read : read_step text ≡ Ok line
  pub size : line.length ≡ length (row_text row)
  pub numbers : HasNumbers line.step row
  pub inside : RowInRange row → action_of line.step ≡ row.action
  pub outside : (RowInRange row → ⊥) → action_of line.step ≡ Malformed

-- the row's line, with numbers of at most ten digits, is the front of the text
pub record StepStands (text : List ℕ) (row : Row) : Type 0 where
  pub writable : Writable row
  pub rest : List ℕ
  pub reads : text ≡ row_text row ++ rest
