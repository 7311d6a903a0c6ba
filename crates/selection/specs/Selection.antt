-- Document 01, 'State and steps': the table's last column, which rules a step selects. What each cell says is proved in
-- proofs/Table.antt.
-- Assumes nothing.
use Rattle.std.specs.Prelude.{ℕ, ◌+◌, Bool, false, ◌&&◌, ◌||◌, List, [], ◌∷◌, eqb}
use Rattle.sets.specs.Sets.{one_if}
use Rattle.rules.specs.declared.families.Rule.{Rule}
use Rattle.rules.specs.declared.families.Rule.TheVariants.{Prerequisite, MaxUsers, MaxRoles, MaxPermissions, MaxActive, StaticSeparation, DynamicSeparation, Dependency, TimeContext, LocationContext, HistorySeparation, BindingOfDuty}
use Rattle.steps.specs.declared.actions.Action.{Action}
use Rattle.steps.specs.declared.actions.Action.TheVariants.{Malformed, Assign, Withdraw, Grant, Take, Open, Activate, Deactivate, Access, Finish, Close, Move, Lost, Clock, Lend, Recall}

-- ---- a rule's family, and the roles or permissions that it names

abbrev pub family : Rule → ℕ
family (Prerequisite r q) = 1
family (MaxUsers r n) = 2
family (MaxRoles n) = 3
family (MaxPermissions r n) = 4
family (MaxActive n) = 5
family (StaticSeparation r q) = 6
family (DynamicSeparation r q) = 7
family (Dependency r q) = 8
family (TimeContext r term) = 9
family (LocationContext r side) = 10
family (HistorySeparation p q) = 11
family (BindingOfDuty p q) = 12

-- the first, and where a rule has one the second
abbrev pub first : Rule → ℕ
first (Prerequisite r q) = r
first (MaxUsers r n) = r
first (MaxRoles n) = 0
first (MaxPermissions r n) = r
first (MaxActive n) = 0
first (StaticSeparation r q) = r
first (DynamicSeparation r q) = r
first (Dependency r q) = r
first (TimeContext r term) = r
first (LocationContext r side) = r
first (HistorySeparation p q) = p
first (BindingOfDuty p q) = p

abbrev pub second : Rule → ℕ
second (Prerequisite r q) = q
second (MaxUsers r n) = 0
second (MaxRoles n) = 0
second (MaxPermissions r n) = 0
second (MaxActive n) = 0
second (StaticSeparation r q) = q
second (DynamicSeparation r q) = q
second (Dependency r q) = q
second (TimeContext r term) = 0
second (LocationContext r side) = 0
second (HistorySeparation p q) = q
second (BindingOfDuty p q) = q

-- ---- the families by document 01's words

abbrev pub is_before : Rule → Bool
is_before rule = eqb (family rule) 1

abbrev pub is_max_users : Rule → Bool
is_max_users rule = eqb (family rule) 2

abbrev pub is_max_roles : Rule → Bool
is_max_roles rule = eqb (family rule) 3

abbrev pub is_max_permissions : Rule → Bool
is_max_permissions rule = eqb (family rule) 4

abbrev pub is_max_active : Rule → Bool
is_max_active rule = eqb (family rule) 5

abbrev pub is_apart : Rule → Bool
is_apart rule = eqb (family rule) 6

abbrev pub is_apart_active : Rule → Bool
is_apart_active rule = eqb (family rule) 7

abbrev pub is_needs : Rule → Bool
is_needs rule = eqb (family rule) 8

abbrev pub is_during : Rule → Bool
is_during rule = eqb (family rule) 9

abbrev pub is_at : Rule → Bool
is_at rule = eqb (family rule) 10

abbrev pub is_two_hands : Rule → Bool
is_two_hands rule = eqb (family rule) 11

abbrev pub is_same_hand : Rule → Bool
is_same_hand rule = eqb (family rule) 12

-- "with x first", "with x second", "naming x"
abbrev pub has_first : ℕ → Rule → Bool
has_first x rule = eqb (first rule) x

abbrev pub has_second : ℕ → Rule → Bool
has_second x rule = eqb (second rule) x

abbrev pub names : ℕ → Rule → Bool
names x rule = has_first x rule || has_second x rule

-- ---- "Rules selected"

unfoldable pub selects : Action → Rule → Bool
selects Malformed k = false
-- "before with r first, max-users r, max-roles, apart naming r"
selects (Assign u r) k = (is_before k && has_first r k) || ((is_max_users k && has_first r k) || (is_max_roles k || (is_apart k && names r k)))
-- "before with r second"
selects (Withdraw u r) k = is_before k && has_second r k
-- "max-permissions r"
selects (Grant r p) k = is_max_permissions k && has_first r k
-- "none"
selects (Take r p) k = false
selects (Open i u) k = false
-- "max-active, apart-active naming r, needs with r first, during r, at r"
selects (Activate i r) k = is_max_active k || ((is_apart_active k && names r k) || ((is_needs k && has_first r k) || ((is_during k && has_first r k) || (is_at k && has_first r k))))
-- "needs with r second"
selects (Deactivate i r) k = is_needs k && has_second r k
-- "two-hands and same-hand naming p"
selects (Access i p o) k = (is_two_hands k && names p k) || (is_same_hand k && names p k)
-- "none"
selects (Finish o) k = false
-- "all needs"
selects (Close i) k = is_needs k
-- "all at, all needs"
selects (Move i point) k = is_at k || is_needs k
selects (Lost i) k = is_at k || is_needs k
-- "all during, all needs"
selects (Clock t) k = is_during k || is_needs k
-- 2026-01: "Lend selects max-users r, max-roles and apart naming r"
selects (Lend u v r t) k = (is_max_users k && has_first r k) || (is_max_roles k || (is_apart k && names r k))
-- 2026-01: "recall selects all needs"
selects (Recall u v r) k = is_needs k

-- "the number of rules selected"
unfoldable pub selected_number : (Rule → Bool) → List Rule → ℕ
selected_number selected [] = 0
selected_number selected (rule ∷ rules) = one_if (selected rule) + selected_number selected rules
