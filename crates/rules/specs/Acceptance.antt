-- Document 01, 'Ranges', 'Rules' and 'Refused': what 11, 13 and 14 look for in a rule, and what 40 looks for in a rule list. What that says
-- over numbers is proved in proofs/Acceptance.antt.
-- Assumes nothing.
use Rattle.std.specs.Prelude.{Bool, true, not, ◌&&◌, List, [], ◌∷◌, map, ℕ, take, get_or, eqb, leb, ltb}
use Rattle.sets.specs.Sets.{all}
use Rattle.calendar.specs.Terms.{term_in_range, term_sound}
use Rattle.places.specs.Places.{shape_in_range, shape_sound, shape_of}
use Rattle.rules.specs.declared.families.Rule.{Rule}
use Rattle.rules.specs.declared.families.Rule.TheVariants.{Prerequisite, MaxUsers, MaxRoles, MaxPermissions, MaxActive, StaticSeparation, DynamicSeparation, Dependency, TimeContext, LocationContext, HistorySeparation, BindingOfDuty}
use Rattle.rules.specs.declared.rights.Right.{Right}
use Rattle.rules.specs.declared.rights.Right.TheVariants.{Unstated, Permission}
use Rattle.rules.specs.declared.rights.RightSlot.{RightSlot}
use Rattle.rules.specs.declared.lists.Slot.{Slot}
use Rattle.rules.specs.declared.lists.RuleList.{RuleList}

-- ---- a rule

-- "roles r 0 to 31, permissions p 0 to 31"
abbrev pub is_role : ℕ → Bool
is_role r = ltb r 32

abbrev pub is_permission : ℕ → Bool
is_permission p = ltb p 32

-- "number outside its range" is 11; "Limits n are 0 to 64 for users, 0 to 32 otherwise."
unfoldable pub rule_in_range : Rule → Bool
rule_in_range (Prerequisite r q) = is_role r && is_role q
rule_in_range (MaxUsers r n) = is_role r && leb n 64
rule_in_range (MaxRoles n) = leb n 32
rule_in_range (MaxPermissions r n) = is_role r && leb n 32
rule_in_range (MaxActive n) = leb n 32
rule_in_range (StaticSeparation r q) = is_role r && is_role q
rule_in_range (DynamicSeparation r q) = is_role r && is_role q
rule_in_range (Dependency r q) = is_role r && is_role q
rule_in_range (TimeContext r term) = is_role r && term_in_range term
rule_in_range (LocationContext r side) = is_role r && shape_in_range (shape_of side)
rule_in_range (HistorySeparation p q) = is_permission p && is_permission q
rule_in_range (BindingOfDuty p q) = is_permission p && is_permission q

-- "same role or permission twice in a rule" is 13
unfoldable pub rule_distinct : Rule → Bool
rule_distinct (Prerequisite r q) = not (eqb r q)
rule_distinct (MaxUsers r n) = true
rule_distinct (MaxRoles n) = true
rule_distinct (MaxPermissions r n) = true
rule_distinct (MaxActive n) = true
rule_distinct (StaticSeparation r q) = not (eqb r q)
rule_distinct (DynamicSeparation r q) = not (eqb r q)
rule_distinct (Dependency r q) = not (eqb r q)
rule_distinct (TimeContext r term) = true
rule_distinct (LocationContext r side) = true
rule_distinct (HistorySeparation p q) = not (eqb p q)
rule_distinct (BindingOfDuty p q) = not (eqb p q)

-- "no such date, A after B, h = k, box a > c or b > d" is 14
unfoldable pub rule_sound : Rule → Bool
rule_sound (Prerequisite r q) = true
rule_sound (MaxUsers r n) = true
rule_sound (MaxRoles n) = true
rule_sound (MaxPermissions r n) = true
rule_sound (MaxActive n) = true
rule_sound (StaticSeparation r q) = true
rule_sound (DynamicSeparation r q) = true
rule_sound (Dependency r q) = true
rule_sound (TimeContext r term) = term_sound term
rule_sound (LocationContext r side) = shape_sound (shape_of side)
rule_sound (HistorySeparation p q) = true
rule_sound (BindingOfDuty p q) = true

abbrev pub rule_accepted : Rule → Bool
rule_accepted rule = rule_in_range rule && (rule_distinct rule && rule_sound rule)

-- ---- a right

abbrev pub unstated : RightSlot
unstated = record { right = Unstated }

-- the right of a kind, counted from 0. 2026-05: "assign, withdraw, grant, take, lend and recall"; "one line a kind in that order"
abbrev pub right_at : List RightSlot → ℕ → Right
right_at rights kind = (get_or rights kind unstated).right

-- a permission past 31 is out of its range
abbrev pub right_accepted : Right → Bool
right_accepted Unstated = true
right_accepted (Permission p) = is_permission p

-- ---- a rule list

-- a test passes at each rule
unfoldable pub every : (Rule → Bool) → List Rule → Bool
every p [] = true
every p (rule ∷ rules) = p rule && every p rules

abbrev pub rule_of : Slot → Rule
rule_of slot = slot.rule

-- the rules below the length
abbrev pub rules_of : RuleList → List Rule
rules_of list = map rule_of (take list.length list.slots)

-- "handed-in .. rule: field outside its range, .. over 128 rules, or a rule that 13 or 14 refuses" is 40, and so is a right out of its range
unfoldable pub list_accepted : RuleList → Bool
list_accepted list =
    leb list.length 128 && (every rule_accepted (rules_of list) && all 6 (λ kind. right_accepted (right_at list.rights kind)))
