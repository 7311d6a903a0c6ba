-- What each rule says of a state, in plain quantifiers over what can be observed of it.
-- Assumes nothing.
use mathlib.Core.Path.{◌≡◌, refl}
use mathlib.Core.Bool.{Bool, true}
use mathlib.Core.Logic.{◌↔◌}
use mathlib.Core.List.{List, [], ◌∷◌}
use Rattle.sets.proofs.Booleans.{both, both_true}
use Rattle.rules.specs.Acceptance.{every}
use Rattle.rules.proofs.Meaning.{prerequisite-means, max-users-means, max-roles-means, max-permissions-means, max-active-means, static-separation-means, dynamic-separation-means, dependency-means, time-context-means, location-context-means, history-separation-means, binding-of-duty-means}
use Rattle.rules.specs.declared.families.Rule.{Rule}
use Rattle.rules.specs.declared.families.Rule.TheVariants.{Prerequisite, MaxUsers, MaxRoles, MaxPermissions, MaxActive, StaticSeparation, DynamicSeparation, Dependency, TimeContext, LocationContext, HistorySeparation, BindingOfDuty}
use Rattle.enforcement.specs.States.{view_of, rule_holds}
use Rattle.enforcement.specs.Plain.{obeys}
use Rattle.enforcement.specs.Claims.{In, here, there, Holds}
use Rattle.enforcement.specs.declared.states.State.{State}

-- a rule holds in a state exactly where it says so
pub rule-means : (rule : Rule) (s : State) → (rule_holds rule s ≡ true) ↔ Holds rule s
rule-means (Prerequisite r q) s = prerequisite-means (view_of s) r q
rule-means (MaxUsers r n) s = max-users-means (view_of s) r n
rule-means (MaxRoles n) s = max-roles-means (view_of s) n
rule-means (MaxPermissions r n) s = max-permissions-means (view_of s) r n
rule-means (MaxActive n) s = max-active-means (view_of s) n
rule-means (StaticSeparation r q) s = static-separation-means (view_of s) r q
rule-means (DynamicSeparation r q) s = dynamic-separation-means (view_of s) r q
rule-means (Dependency r q) s = dependency-means (view_of s) r q
rule-means (TimeContext r term) s = time-context-means (view_of s) r term
rule-means (LocationContext r side) s = location-context-means (view_of s) r side
rule-means (HistorySeparation p q) s = history-separation-means (view_of s) p q
rule-means (BindingOfDuty p q) s = binding-of-duty-means (view_of s) p q

-- ---- a list of rules

each_in : (test : Rule → Bool) (rule : Rule) (rules : List Rule) → In rule rules → every test rules ≡ true → test rule ≡ true
unfolding every
each_in test rule rules (here {rules = rest}) e = (both (test rule) (every test rest) e).0
each_in test rule rules (there {other = other} {rules = rest} h) e = each_in test rule rest h (both (test other) (every test rest) e).1

every_in : (test : Rule → Bool) (rules : List Rule) → ((rule : Rule) → In rule rules → test rule ≡ true) → every test rules ≡ true
unfolding every
every_in test [] h = refl
every_in test (rule ∷ rules) h = both_true (test rule) (every test rules) (h rule here) (every_in test rules (λ other member. h other (there member)))

-- a state obeys a list exactly where each rule of it holds
pub obeys-means : (rules : List Rule) (s : State) → (obeys rules s ≡ true) ↔ ((rule : Rule) → In rule rules → Holds rule s)
obeys-means rules s = (
  λ h rule member. (rule-means rule s).0 (each_in (λ k. rule_holds k s) rule rules member h),
  λ h. every_in (λ k. rule_holds k s) rules (λ rule member. (rule-means rule s).1 (h rule member)),
)
