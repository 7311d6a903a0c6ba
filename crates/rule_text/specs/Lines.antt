-- Document 01, 'Texts': "Rule list: `(rule 1 (needs 2 1))`, `(rule 2 (at 2 (inside (circle 0 0 500))))`". 2026-05: "Before the rules a list
-- may have `(right assign 30)`". The line of a rule, and of a right.
-- Assumes nothing.
use Rattle.std.specs.Prelude.{List, [], ◌∷◌, ◌++◌, ℕ, suc, ◌+◌, ◌%◌, length, get_or, ℤ}
use Rattle.forms.specs.Numbers.{signed_code, coordinate_of}
use Rattle.forms.specs.Forms.{fill}
use Rattle.forms.specs.Tables.{bytes, form_at}
use Rattle.calendar.specs.declared.terms.Term.TheVariants.{Dates, Week, Months, Nth, Every}
use Rattle.places.specs.declared.Shape.TheVariants.{Circle, Box}
use Rattle.places.specs.declared.Side.TheVariants.{Inside, Outside}
use Rattle.rules.specs.declared.families.Rule.{Rule}
use Rattle.rules.specs.declared.families.Rule.TheVariants.{Prerequisite, MaxUsers, MaxRoles, MaxPermissions, MaxActive, StaticSeparation, DynamicSeparation, Dependency, TimeContext, LocationContext, HistorySeparation, BindingOfDuty}
use Rattle.rules.specs.declared.rights.Right.{Right}
use Rattle.rules.specs.declared.rights.Right.TheVariants.{Unstated, Permission}
use Rattle.rules.specs.declared.rights.RightSlot.{RightSlot}
use Rattle.rule_text.specs.declared.lines.Line.{Line}

-- "One form a line", in the order of 'Rules'; each mark stands for a number of its kind. After them the rights, 2026-05: "assign, withdraw,
-- grant, take, lend and recall", "one line a kind in that order"
unfoldable pub rule_forms : List ℕ
rule_forms =
    bytes "(rule # (before $ $))\n"
    ++ bytes "(rule # (max-users $ >))\n"
    ++ bytes "(rule # (max-roles <))\n"
    ++ bytes "(rule # (max-permissions $ <))\n"
    ++ bytes "(rule # (max-active <))\n"
    ++ bytes "(rule # (apart $ $))\n"
    ++ bytes "(rule # (apart-active $ $))\n"
    ++ bytes "(rule # (needs $ $))\n"
    ++ bytes "(rule # (during $ (dates . .)))\n"
    ++ bytes "(rule # (during $ (week ! ! [ ])))\n"
    ++ bytes "(rule # (during $ (months , ,)))\n"
    ++ bytes "(rule # (during $ (nth ' !)))\n"
    ++ bytes "(rule # (during $ (every / .)))\n"
    ++ bytes "(rule # (at $ (inside (circle + + ^))))\n"
    ++ bytes "(rule # (at $ (inside (box + + + +))))\n"
    ++ bytes "(rule # (at $ (outside (circle + + ^))))\n"
    ++ bytes "(rule # (at $ (outside (box + + + +))))\n"
    ++ bytes "(rule # (two-hands % %))\n"
    ++ bytes "(rule # (same-hand % %))\n"
    ++ bytes "(right assign %)\n"
    ++ bytes "(right withdraw %)\n"
    ++ bytes "(right grant %)\n"
    ++ bytes "(right take %)\n"
    ++ bytes "(right lend %)\n"
    ++ bytes "(right recall %)\n"

abbrev pub form_count : ℕ
form_count = 25

-- the forms of rules, which come first
abbrev pub rule_form_count : ℕ
rule_form_count = 19

-- ---- a rule as a line

abbrev pub line : ℕ → List ℕ → Line
line form values = record { form = form; values = values }

-- the rule's form and its six values, the rule's own number first, 0 where the form has fewer
unfoldable pub line_of : ℕ → Rule → Line
line_of n (Prerequisite r q) = line 0 (n ∷ r ∷ q ∷ 0 ∷ 0 ∷ 0 ∷ [])
line_of n (MaxUsers r limit) = line 1 (n ∷ r ∷ limit ∷ 0 ∷ 0 ∷ 0 ∷ [])
line_of n (MaxRoles limit) = line 2 (n ∷ limit ∷ 0 ∷ 0 ∷ 0 ∷ 0 ∷ [])
line_of n (MaxPermissions r limit) = line 3 (n ∷ r ∷ limit ∷ 0 ∷ 0 ∷ 0 ∷ [])
line_of n (MaxActive limit) = line 4 (n ∷ limit ∷ 0 ∷ 0 ∷ 0 ∷ 0 ∷ [])
line_of n (StaticSeparation r q) = line 5 (n ∷ r ∷ q ∷ 0 ∷ 0 ∷ 0 ∷ [])
line_of n (DynamicSeparation r q) = line 6 (n ∷ r ∷ q ∷ 0 ∷ 0 ∷ 0 ∷ [])
line_of n (Dependency r q) = line 7 (n ∷ r ∷ q ∷ 0 ∷ 0 ∷ 0 ∷ [])
line_of n (TimeContext r (Dates A B)) = line 8 (n ∷ r ∷ A ∷ B ∷ 0 ∷ 0 ∷ [])
line_of n (TimeContext r (Week a b h k)) = line 9 (n ∷ r ∷ a ∷ b ∷ h ∷ k ∷ [])
line_of n (TimeContext r (Months a b)) = line 10 (n ∷ r ∷ a ∷ b ∷ 0 ∷ 0 ∷ [])
line_of n (TimeContext r (Nth k d)) = line 11 (n ∷ r ∷ k ∷ d ∷ 0 ∷ 0 ∷ [])
line_of n (TimeContext r (Every days A)) = line 12 (n ∷ r ∷ days ∷ A ∷ 0 ∷ 0 ∷ [])
line_of n (LocationContext r (Inside (Circle x y q))) = line 13 (n ∷ r ∷ signed_code x ∷ signed_code y ∷ q ∷ 0 ∷ [])
line_of n (LocationContext r (Inside (Box a b c d))) = line 14 (n ∷ r ∷ signed_code a ∷ signed_code b ∷ signed_code c ∷ signed_code d ∷ [])
line_of n (LocationContext r (Outside (Circle x y q))) = line 15 (n ∷ r ∷ signed_code x ∷ signed_code y ∷ q ∷ 0 ∷ [])
line_of n (LocationContext r (Outside (Box a b c d))) = line 16 (n ∷ r ∷ signed_code a ∷ signed_code b ∷ signed_code c ∷ signed_code d ∷ [])
line_of n (HistorySeparation p q) = line 17 (n ∷ p ∷ q ∷ 0 ∷ 0 ∷ 0 ∷ [])
line_of n (BindingOfDuty p q) = line 18 (n ∷ p ∷ q ∷ 0 ∷ 0 ∷ 0 ∷ [])

-- the form of a line with its values, as text
abbrev pub line_text : Line → List ℕ
line_text l = fill (form_at rule_forms l.form) l.values

-- rule n as text
unfoldable pub rule_text : ℕ → Rule → List ℕ
rule_text n rule = line_text (line_of n rule)

-- "numbered from 1 by ones; an empty list is legal": the rules as text, by the line of each, the first of them being rule n
unfoldable pub list_text : (ℕ → Rule → List ℕ) → ℕ → List Rule → List ℕ
list_text rule_line n [] = []
list_text rule_line n (rule ∷ rules) = rule_line n rule ++ list_text rule_line (suc n) rules

-- ---- a right as a line

-- the form of the kind, counted from 0, and its one value
abbrev pub right_line : ℕ → ℕ → Line
right_line kind permission = line (rule_form_count + kind) (permission ∷ 0 ∷ 0 ∷ 0 ∷ 0 ∷ 0 ∷ [])

-- "a list may have": a kind that has no right has no line
unfoldable pub right_text : ℕ → Right → List ℕ
right_text kind Unstated = []
right_text kind (Permission p) = line_text (right_line kind p)

-- "one line a kind in that order": the rights as text, the first of them being the kind's
unfoldable pub rights_text : ℕ → List RightSlot → List ℕ
rights_text kind [] = []
rights_text kind (slot ∷ slots) = right_text kind slot.right ++ rights_text (suc kind) slots

-- how many lines that is
abbrev pub line_count : Right → ℕ
line_count Unstated = 0
line_count (Permission p) = 1

unfoldable pub right_lines : List RightSlot → ℕ
right_lines [] = 0
right_lines (slot ∷ slots) = line_count slot.right + right_lines slots

-- ---- rights and rules

-- "Before the rules a list may have `(right assign 30)`"
abbrev pub lines_text : List RightSlot → List Rule → List ℕ
lines_text rights rules = rights_text 0 rights ++ list_text rule_text 1 rules

-- the line after them; those of the rights count as lines
abbrev pub next_line : List RightSlot → List Rule → ℕ
next_line rights rules = suc (right_lines rights + length rules)

-- ---- a line as a rule

-- a value as a number of a rule or a right; in range it is the value itself
abbrev pub narrow : ℕ → ℕ
narrow value = value % 4294967296

-- the rule of each form, over its numbers and its coordinates
abbrev pub rules_with : (ℕ → ℕ) → (ℕ → ℤ) → List Rule
rules_with number place =
    Prerequisite (number 1) (number 2)
    ∷ MaxUsers (number 1) (number 2)
    ∷ MaxRoles (number 1)
    ∷ MaxPermissions (number 1) (number 2)
    ∷ MaxActive (number 1)
    ∷ StaticSeparation (number 1) (number 2)
    ∷ DynamicSeparation (number 1) (number 2)
    ∷ Dependency (number 1) (number 2)
    ∷ TimeContext (number 1) (Dates (number 2) (number 3))
    ∷ TimeContext (number 1) (Week (number 2) (number 3) (number 4) (number 5))
    ∷ TimeContext (number 1) (Months (number 2) (number 3))
    ∷ TimeContext (number 1) (Nth (number 2) (number 3))
    ∷ TimeContext (number 1) (Every (number 2) (number 3))
    ∷ LocationContext (number 1) (Inside (Circle (place 2) (place 3) (number 4)))
    ∷ LocationContext (number 1) (Inside (Box (place 2) (place 3) (place 4) (place 5)))
    ∷ LocationContext (number 1) (Outside (Circle (place 2) (place 3) (number 4)))
    ∷ LocationContext (number 1) (Outside (Box (place 2) (place 3) (place 4) (place 5)))
    ∷ HistorySeparation (number 1) (number 2)
    ∷ BindingOfDuty (number 1) (number 2)
    ∷ []

-- what stands in unused slots of a rule list that was read
abbrev pub filler : Rule
filler = MaxRoles 0

unfoldable pub rule_of_form : ℕ → List ℕ → Rule
rule_of_form form values = get_or (rules_with (λ i. narrow (get_or values i 0)) (λ i. coordinate_of (get_or values i 0))) form filler
