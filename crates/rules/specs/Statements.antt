-- Document 01, 'Ranges', 'Rules' and 'Refused', as statements over numbers: what 11, 13 and 14 look for in a rule. proofs/Acceptance.antt shows
-- that the tests of Acceptance.antt say the same.
-- Assumes nothing.
use Rattle.std.specs.Prelude.{◌≤◌, ◌<◌, ◌≡◌}
use Rattle.calendar.specs.Statements.{RangedTerm, SoundTerm}
use Rattle.places.specs.Statements.{RangedShape, SoundShape}
use Rattle.places.specs.declared.Side.TheVariants as side
use Rattle.rules.specs.declared.rights.Right.{Right}
use Rattle.rules.specs.declared.rights.Right.TheVariants.{Unstated, Permission}
use Rattle.rules.specs.declared.families.Rule.{Rule}
use Rattle.rules.specs.declared.families.Rule.TheVariants.{Prerequisite, MaxUsers, MaxRoles, MaxPermissions, MaxActive, StaticSeparation, DynamicSeparation, Dependency, TimeContext, LocationContext, HistorySeparation, BindingOfDuty}

-- "number outside its range" is 11: "roles r 0 to 31, permissions p 0 to 31", "Limits n are 0 to 64 for users, 0 to 32 otherwise."
abbrev pub RangedRule : Rule → Type 0
RangedRule (Prerequisite r q) = (r < 32) × (q < 32)
RangedRule (MaxUsers r n) = (r < 32) × (n ≤ 64)
RangedRule (MaxRoles n) = n ≤ 32
RangedRule (MaxPermissions r n) = (r < 32) × (n ≤ 32)
RangedRule (MaxActive n) = n ≤ 32
RangedRule (StaticSeparation r q) = (r < 32) × (q < 32)
RangedRule (DynamicSeparation r q) = (r < 32) × (q < 32)
RangedRule (Dependency r q) = (r < 32) × (q < 32)
RangedRule (TimeContext r term) = (r < 32) × RangedTerm term
RangedRule (LocationContext r (side.Inside shape)) = (r < 32) × RangedShape shape
RangedRule (LocationContext r (side.Outside shape)) = (r < 32) × RangedShape shape
RangedRule (HistorySeparation p q) = (p < 32) × (q < 32)
RangedRule (BindingOfDuty p q) = (p < 32) × (q < 32)

-- "same role or permission twice in a rule" is 13
abbrev pub NamesTwice : Rule → Type 0
NamesTwice (Prerequisite r q) = r ≡ q
NamesTwice (MaxUsers r n) = ⊥
NamesTwice (MaxRoles n) = ⊥
NamesTwice (MaxPermissions r n) = ⊥
NamesTwice (MaxActive n) = ⊥
NamesTwice (StaticSeparation r q) = r ≡ q
NamesTwice (DynamicSeparation r q) = r ≡ q
NamesTwice (Dependency r q) = r ≡ q
NamesTwice (TimeContext r term) = ⊥
NamesTwice (LocationContext r which) = ⊥
NamesTwice (HistorySeparation p q) = p ≡ q
NamesTwice (BindingOfDuty p q) = p ≡ q

-- "no such date, A after B, h = k, box a > c or b > d" is 14: the rule has no term or shape, or a sound one
abbrev pub SoundRule : Rule → Type 0
SoundRule (Prerequisite r q) = Unit {0}
SoundRule (MaxUsers r n) = Unit {0}
SoundRule (MaxRoles n) = Unit {0}
SoundRule (MaxPermissions r n) = Unit {0}
SoundRule (MaxActive n) = Unit {0}
SoundRule (StaticSeparation r q) = Unit {0}
SoundRule (DynamicSeparation r q) = Unit {0}
SoundRule (Dependency r q) = Unit {0}
SoundRule (TimeContext r term) = SoundTerm term
SoundRule (LocationContext r (side.Inside shape)) = SoundShape shape
SoundRule (LocationContext r (side.Outside shape)) = SoundShape shape
SoundRule (HistorySeparation p q) = Unit {0}
SoundRule (BindingOfDuty p q) = Unit {0}

-- none of 11, 13 and 14 refuses the rule
pub record AcceptedRule (rule : Rule) : Type 0 where
  pub ranged : RangedRule rule
  pub distinct : NamesTwice rule → ⊥
  pub sound : SoundRule rule

-- 2026-05, of a right: "permissions p 0 to 31"
abbrev pub AcceptedRight : Right → Type 0
AcceptedRight Unstated = Unit {0}
AcceptedRight (Permission p) = p < 32
