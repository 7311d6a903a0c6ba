-- Document 01, 'Refused', and 2026-06: the numbers of refused lines. Assumes nothing.
use Rattle.std.specs.Prelude.{ℕ, ◌≡◌, ◌⊎◌, true, false, Option, Some, None}
use Rattle.rules.specs.Acceptance.{rule_distinct, rule_sound}
use Rattle.rules.specs.declared.families.Rule.{Rule}
use Rattle.rule_text.specs.declared.refusals.Refusal.{Refusal}
use Rattle.rule_text.specs.declared.refusals.Refusal.TheVariants.{NoForm, OutOfRange, NotNext, SameTwice, Unsound, NoPolicy}

abbrev pub refusal_number : Refusal → ℕ
-- "line is no form of its text"
refusal_number NoForm = 10
-- "number outside its range (rules, saved)"
refusal_number OutOfRange = 11
-- "rule number not the next"; 2026-05: "A right line that is second of its kind, out of order or after a rule is 12."
refusal_number NotNext = 12
-- "same role or permission twice in a rule"
refusal_number SameTwice = 13
-- "no such date, A after B, h = k, box a > c or b > d"
refusal_number Unsound = 14
-- 2026-06: "55 line outside this subset, with its line, in the place of 10"
refusal_number NoPolicy = 55

-- 0 where nothing is refused
abbrev pub number_if : Option Refusal → ℕ
number_if None = 0
number_if (Some refusal) = refusal_number refusal

-- ---- a rule that was found

abbrev pub Accepted : Rule → Type 0
Accepted rule = (rule_distinct rule ≡ true) × (rule_sound rule ≡ true)

-- "For each text line in order .. 13, 14"
abbrev pub RefusedFor : Rule → Refusal → Type 0
RefusedFor rule refusal = ((rule_distinct rule ≡ false) × (refusal ≡ SameTwice)) ⊎ ((rule_distinct rule ≡ true) × (rule_sound rule ≡ false) × (refusal ≡ Unsound))
