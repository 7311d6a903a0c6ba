-- Document 01, 'Rules', 'Calendar' and 'Places', and 2026-05: each rule and each right in the document's words, as it stands in a line. That
-- the line of a rule or a right reads so is proved in proofs/Words.antt.
-- Assumes nothing.
use Rattle.std.specs.Prelude.{List, [], ◌∷◌, ℕ, get_or}
use Rattle.forms.specs.Numbers.{digits_of, fixed_of, integer_text}
use Rattle.forms.specs.Tables.{bytes, joined}
use Rattle.calendar.specs.declared.terms.Term.{Term}
use Rattle.calendar.specs.declared.terms.Term.TheVariants.{Dates, Week, Months, Nth, Every}
use Rattle.places.specs.declared.Shape.{Shape}
use Rattle.places.specs.declared.Shape.TheVariants.{Circle, Box}
use Rattle.places.specs.declared.Side.{Side}
use Rattle.places.specs.declared.Side.TheVariants.{Inside, Outside}
use Rattle.rules.specs.declared.families.Rule.{Rule}
use Rattle.rules.specs.declared.families.Rule.TheVariants.{Prerequisite, MaxUsers, MaxRoles, MaxPermissions, MaxActive, StaticSeparation, DynamicSeparation, Dependency, TimeContext, LocationContext, HistorySeparation, BindingOfDuty}

-- "`dates A B`", "`week a b h k`", "`months a b`", "`nth k d`", "`every n A`"; "yyyymmdd, eight digits", "hhmm, four digits"
abbrev pub term_words : Term → List ℕ
term_words (Dates A B) = joined (bytes "(dates " ∷ fixed_of 8 A ∷ bytes " " ∷ fixed_of 8 B ∷ bytes ")" ∷ [])
term_words (Week a b h k) =
    joined (bytes "(week " ∷ digits_of a ∷ bytes " " ∷ digits_of b ∷ bytes " " ∷ fixed_of 4 h ∷ bytes " " ∷ fixed_of 4 k ∷ bytes ")" ∷ [])
term_words (Months a b) = joined (bytes "(months " ∷ digits_of a ∷ bytes " " ∷ digits_of b ∷ bytes ")" ∷ [])
term_words (Nth k d) = joined (bytes "(nth " ∷ digits_of k ∷ bytes " " ∷ digits_of d ∷ bytes ")" ∷ [])
term_words (Every days A) = joined (bytes "(every " ∷ digits_of days ∷ bytes " " ∷ fixed_of 8 A ∷ bytes ")" ∷ [])

-- "`circle x y q`", "`box a b c d`"
abbrev pub shape_words : Shape → List ℕ
shape_words (Circle x y q) = joined (bytes "(circle " ∷ integer_text x ∷ bytes " " ∷ integer_text y ∷ bytes " " ∷ digits_of q ∷ bytes ")" ∷ [])
shape_words (Box a b c d) =
    joined (bytes "(box " ∷ integer_text a ∷ bytes " " ∷ integer_text b ∷ bytes " " ∷ integer_text c ∷ bytes " " ∷ integer_text d ∷ bytes ")" ∷ [])

-- "`(inside (shape))` or `outside`"
abbrev pub side_words : Side → List ℕ
side_words (Inside shape) = joined (bytes "(inside " ∷ shape_words shape ∷ bytes ")" ∷ [])
side_words (Outside shape) = joined (bytes "(outside " ∷ shape_words shape ∷ bytes ")" ∷ [])

-- a family's word and two numbers
abbrev pub pair_words : List ℕ → ℕ → ℕ → List ℕ
pair_words family a b = joined (bytes "(" ∷ family ∷ bytes " " ∷ digits_of a ∷ bytes " " ∷ digits_of b ∷ bytes ")" ∷ [])

abbrev pub limit_words : List ℕ → ℕ → List ℕ
limit_words family limit = joined (bytes "(" ∷ family ∷ bytes " " ∷ digits_of limit ∷ bytes ")" ∷ [])

-- the list of 'Rules', in its order
abbrev pub family_words : Rule → List ℕ
family_words (Prerequisite r q) = pair_words (bytes "before") r q
family_words (MaxUsers r limit) = pair_words (bytes "max-users") r limit
family_words (MaxRoles limit) = limit_words (bytes "max-roles") limit
family_words (MaxPermissions r limit) = pair_words (bytes "max-permissions") r limit
family_words (MaxActive limit) = limit_words (bytes "max-active") limit
family_words (StaticSeparation r q) = pair_words (bytes "apart") r q
family_words (DynamicSeparation r q) = pair_words (bytes "apart-active") r q
family_words (Dependency r q) = pair_words (bytes "needs") r q
family_words (TimeContext r term) = joined (bytes "(during " ∷ digits_of r ∷ bytes " " ∷ term_words term ∷ bytes ")" ∷ [])
family_words (LocationContext r side) = joined (bytes "(at " ∷ digits_of r ∷ bytes " " ∷ side_words side ∷ bytes ")" ∷ [])
family_words (HistorySeparation p q) = pair_words (bytes "two-hands") p q
family_words (BindingOfDuty p q) = pair_words (bytes "same-hand") p q

-- "`(rule 1 (needs 2 1))`"
abbrev pub rule_words : ℕ → Rule → List ℕ
rule_words n rule = joined (bytes "(rule " ∷ digits_of n ∷ bytes " " ∷ family_words rule ∷ bytes ")\n" ∷ [])

-- 2026-05: "assign, withdraw, grant, take, lend and recall", counted from 0
abbrev pub kind_words : List (List ℕ)
kind_words = bytes "assign" ∷ bytes "withdraw" ∷ bytes "grant" ∷ bytes "take" ∷ bytes "lend" ∷ bytes "recall" ∷ []

-- "`(right assign 30)`"
abbrev pub right_words : ℕ → ℕ → List ℕ
right_words kind permission = joined (bytes "(right " ∷ get_or kind_words kind [] ∷ bytes " " ∷ digits_of permission ∷ bytes ")\n" ∷ [])
