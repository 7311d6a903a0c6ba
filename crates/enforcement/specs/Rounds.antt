-- How our gate ends roles at an event: rounds until nothing changes. No reader has to believe them: that what they leave is the largest part
-- under which the selected rules hold is proved in proofs/Ending.antt, and `Narrow`, which says so, names no round.
-- Assumes nothing.
use Rattle.std.specs.Prelude.{ℕ, suc, Bool, true, not, ◌||◌, List, eqb}
use Rattle.calendar.specs.Terms.{term_holds}
use Rattle.places.specs.Places.{side_holds}
use Rattle.rules.specs.Families.{is_active}
use Rattle.rules.specs.Acceptance.{every}
use Rattle.rules.specs.declared.families.Rule.{Rule}
use Rattle.rules.specs.declared.families.Rule.TheVariants.{Prerequisite, MaxUsers, MaxRoles, MaxPermissions, MaxActive, StaticSeparation, DynamicSeparation, Dependency, TimeContext, LocationContext, HistorySeparation, BindingOfDuty}
use Rattle.steps.specs.Pairs.{pair_count, sifted}
use Rattle.selection.specs.Ending.{settled}
use Rattle.enforcement.specs.States.{position_of}
use Rattle.enforcement.specs.declared.states.State.{State}

-- "then active roles end until the rules hold, and no more than that"

-- a rule lets role r stay active in session i, where the pairs of a list are active
unfoldable pub keeps : Rule → State → List ℕ → ℕ → ℕ → Bool
keeps (Prerequisite a q) s l i r = true
keeps (MaxUsers a n) s l i r = true
keeps (MaxRoles n) s l i r = true
keeps (MaxPermissions a n) s l i r = true
keeps (MaxActive n) s l i r = true
keeps (StaticSeparation a q) s l i r = true
keeps (DynamicSeparation a q) s l i r = true
keeps (Dependency a q) s l i r = not (eqb a r) || is_active l q
keeps (TimeContext a term) s l i r = not (eqb a r) || term_holds term s.time
keeps (LocationContext a side) s l i r = not (eqb a r) || side_holds side (position_of s i)
keeps (HistorySeparation p q) s l i r = true
keeps (BindingOfDuty p q) s l i r = true

-- every selected rule lets the role stay
abbrev pub stays : (Rule → Bool) → List Rule → State → List ℕ → ℕ → ℕ → Bool
stays selected rules s l i r = every (λ rule. not (selected rule) || keeps rule s l i r) rules

-- one round
unfoldable pub round : (Rule → Bool) → List Rule → State → List ℕ → List ℕ
round selected rules s l = sifted 0 (stays selected rules s l) l

-- what is left of a state's active pairs
unfoldable pub remaining : (Rule → Bool) → List Rule → State → List ℕ
remaining selected rules s = settled (suc (pair_count s.active)) (round selected rules s) s.active
