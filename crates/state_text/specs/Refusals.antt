-- Document 01, 'Refused', of saved texts: the number of each refusal, and what it returns. Assumes nothing.
use Rattle.std.specs.Prelude.{ℕ}
use Rattle.state_text.specs.declared.causes.LineRefusal.{LineRefusal}
use Rattle.state_text.specs.declared.causes.LineRefusal.TheVariants.{NoForm, OutOfRange, OutOfOrder, Unrested, LoansFull}
use Rattle.state_text.specs.declared.causes.Refusal.{Refusal}
use Rattle.state_text.specs.declared.causes.Refusal.TheVariants.{RulesNotAccepted, Line, RuleBroken}

-- "line is no form of its text" 10, "number outside its range" 11, "saved line out of order or twice" 15, "place or active without its open,
-- or role not assigned" 16; 2026-01: "a thirty-third is 51"
abbrev pub line_number : LineRefusal → ℕ
line_number NoForm = 10
line_number OutOfRange = 11
line_number OutOfOrder = 15
line_number Unrested = 16
line_number LoansFull = 51

-- "saved state breaks a rule" 17, "handed-in .. rule" 40
abbrev pub number_of : Refusal → ℕ
number_of RulesNotAccepted = 40
number_of (Line refusal line) = line_number refusal
number_of (RuleBroken rule) = 17

-- "Returned": the line, the lowest rule
abbrev pub place_of : Refusal → ℕ
place_of RulesNotAccepted = 0
place_of (Line refusal line) = line
place_of (RuleBroken rule) = rule
