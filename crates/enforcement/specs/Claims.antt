-- The words in which the claims of proofs/ are put: a rule over a state in plain quantifiers, what a step leaves as it was, a list of steps
-- one by one, the largest part that an event leaves, a role on loan, and the rule that a 30 names.
-- Assumes nothing.
use Rattle.std.specs.Prelude.{◌≡◌, true, false, ◌||◌, ℕ, suc, ◌≤◌, ◌<◌, length, get_or}
use mathlib.Core.List.{List, [], ◌∷◌, Memᴰ}
use Rattle.sets.specs.Sets.{count}
use Rattle.calendar.specs.Terms.{term_holds}
use Rattle.places.specs.Places.{side_holds}
use Rattle.rules.specs.Acceptance.{rules_of}
use Rattle.rules.specs.Families.{has_role}
use Rattle.rules.specs.declared.families.Rule.{Rule}
use Rattle.rules.specs.declared.families.Rule.TheVariants.{Prerequisite, MaxUsers, MaxRoles, MaxPermissions, MaxActive, StaticSeparation, DynamicSeparation, Dependency, TimeContext, LocationContext, HistorySeparation, BindingOfDuty}
use Rattle.rules.specs.declared.lists.RuleList.{RuleList}
use Rattle.steps.specs.Steps.{action_of, is_event}
use Rattle.steps.specs.declared.actions.Action.{Action}
use Rattle.steps.specs.declared.actions.Action.TheVariants.{Malformed, Assign, Withdraw, Grant, Take, Open, Activate, Deactivate, Access, Finish, Close, Move, Lost, Clock, Lend, Recall}
use Rattle.steps.specs.declared.steps.Step.{Step}
use Rattle.loans.specs.declared.Loan.{Loan}
use Rattle.enforcement.specs.States.{fresh, assigned_role, loans_of, holds_role, carries, is_open, user_of, position_of, active_role, did}
use Rattle.enforcement.specs.Steps.{passes, check_step, target, with_active}
use Rattle.enforcement.specs.Decisions.{granted, refused}
use Rattle.enforcement.specs.Gate.{run_of, decision_of, named_rule}
use Rattle.enforcement.specs.declared.states.State.{State}
use Rattle.enforcement.specs.declared.states.Next.{Next}

-- ---- rules

-- the rule stands in the list
pub data In (rule : Rule) : List Rule → Type 0 where
  here : {rules : List Rule} → In rule (rule ∷ rules)
  there : {other : Rule} {rules : List Rule} → In rule rules → In rule (other ∷ rules)

abbrev pub Holds : Rule → State → Type 0
-- "each user assigned r is assigned q"
Holds (Prerequisite r q) s = (u : ℕ) → u < 64 → assigned_role s u r ≡ true → assigned_role s u q ≡ true
-- at most n users hold r
Holds (MaxUsers r n) s = count 64 (λ u. holds_role s u r) ≤ n
-- each user holds at most n roles
Holds (MaxRoles n) s = (u : ℕ) → u < 64 → count 32 (holds_role s u) ≤ n
-- r carries at most n permissions
Holds (MaxPermissions r n) s = count 32 (carries s r) ≤ n
-- each session has at most n active roles
Holds (MaxActive n) s = (i : ℕ) → i < 32 → count 32 (active_role s i) ≤ n
-- "no user is assigned both"; 2026-01: "max-users, max-roles and apart read held"
Holds (StaticSeparation r q) s = (u : ℕ) → u < 64 → holds_role s u r ≡ true → holds_role s u q ≡ true → ⊥
-- "no user has both active, over all his sessions"
Holds (DynamicSeparation r q) s =
    (u i j : ℕ) → u < 64 → i < 32 → j < 32 → (user_of s i ≡ u) × (active_role s i r ≡ true) → (user_of s j ≡ u) × (active_role s j q ≡ true) → ⊥
-- "while r is active anywhere, q is active in some session"
Holds (Dependency r q) s = (i : ℕ) → i < 32 → active_role s i r ≡ true → (j : ℕ) × (j < 32) × (active_role s j q ≡ true)
-- "r is active only while the term holds"
Holds (TimeContext r term) s = (i : ℕ) → i < 32 → active_role s i r ≡ true → term_holds term s.time ≡ true
-- "r is active only in sessions positioned so"
Holds (LocationContext r side) s = (i : ℕ) → i < 32 → active_role s i r ≡ true → side_holds side (position_of s i) ≡ true
-- "no user did both on one object"
Holds (HistorySeparation p q) s = (o : ℕ) → o < 32 → (u : ℕ) → u < 64 → did s o p u ≡ true → did s o q u ≡ true → ⊥
-- "on each object at most one user did p or q"
Holds (BindingOfDuty p q) s =
    (o : ℕ) → o < 32 → (u v : ℕ) → u < 64 → v < 64 → (did s o p u || did s o q u) ≡ true → (did s o p v || did s o q v) ≡ true → u ≡ v

-- ---- one observation is the same in both states

abbrev pub SameTime : State → State → Type 0
SameTime s t = t.time ≡ s.time

abbrev pub SameAssigned : State → State → Type 0
SameAssigned s t = (u r : ℕ) → assigned_role t u r ≡ assigned_role s u r

abbrev pub SameLoans : State → State → Type 0
SameLoans s t = loans_of t ≡ loans_of s

abbrev pub SameCarried : State → State → Type 0
SameCarried s t = (r p : ℕ) → carries t r p ≡ carries s r p

abbrev pub SameSessions : State → State → Type 0
SameSessions s t = (i : ℕ) → (is_open t i ≡ is_open s i) × (user_of t i ≡ user_of s i) × (position_of t i ≡ position_of s i)

abbrev pub SameActive : State → State → Type 0
SameActive s t = (i r : ℕ) → active_role t i r ≡ active_role s i r

abbrev pub SameDone : State → State → Type 0
SameDone s t = (o p u : ℕ) → did t o p u ≡ did s o p u

-- ---- "else it takes the target"

-- what a granted step hands back is its target; of an event's target the active roles may be fewer
pub record TakesTarget (list : RuleList) (s : State) (step : Step) (after : State) : Type 0 where
  pub passed : check_step list s step ≡ passes
  pub requested : is_event (action_of step) ≡ false → after ≡ target s (action_of step)
  pub changed : after ≡ with_active (target s (action_of step)) after.active

-- ---- "over every list of steps from a fresh state"

-- a statement of the state before each step, the step and what it gave
pub data Along (Says : State → Step → Next → Type 0) : State → List Step → List Next → Type 0 where
  end : {s : State} → Along Says s [] []
  then : {s : State} {step : Step} {steps : List Step} {given : Next} {rest : List Next} → Says s step given → Along Says given.state steps rest → Along Says s (step ∷ steps) (given ∷ rest)

-- a statement of the state that each step hands back, from a fresh state on
abbrev pub After : (State → Type 0) → List Step → RuleList → Type 0
After Says steps list = Along (λ s step given. Says given.state) fresh steps (run_of list fresh steps)

-- ---- "After an event the roles still active are the largest part under which all rules hold."

-- what an event itself closes: the roles of a closed session; 2026-01: recall and clock "close every active role not held"
abbrev pub Closes : State → Action → ℕ → ℕ → Type 0
Closes s Malformed i r = ⊥
Closes s (Assign u q) i r = ⊥
Closes s (Withdraw u q) i r = ⊥
Closes s (Grant q p) i r = ⊥
Closes s (Take q p) i r = ⊥
Closes s (Open j u) i r = ⊥
Closes s (Activate j q) i r = ⊥
Closes s (Deactivate j q) i r = ⊥
Closes s (Access j p o) i r = ⊥
Closes s (Finish o) i r = ⊥
Closes s (Close j) i r = j ≡ i
Closes s (Move j point) i r = ⊥
Closes s (Lost j) i r = ⊥
Closes s (Clock t) i r = holds_role (target s (Clock t)) (user_of s i) r ≡ false
Closes s (Lend u v q t) i r = ⊥
Closes s (Recall u v q) i r = holds_role (target s (Recall u v q)) (user_of s i) r ≡ false

-- active before the event, and not closed by the event itself
abbrev pub Unclosed : State → Action → ℕ → ℕ → Type 0
Unclosed s action i r = (active_role s i r ≡ true) × (Closes s action i r → ⊥)

-- "a part is any choice of them, all else as in the target, and the largest contains every other such part"
pub record LargestLeft (rules : List Rule) (s : State) (action : Action) (after : State) : Type 0 where
  pub part : (i r : ℕ) → active_role after i r ≡ true → Unclosed s action i r
  pub holding : (rule : Rule) → In rule rules → Holds rule after
  pub largest : (l : List ℕ) → length l ≡ 32 → ((i r : ℕ) → has_role l i r ≡ true → Unclosed s action i r) → ((rule : Rule) → In rule rules → Holds rule (with_active after l)) →
      (i r : ℕ) → has_role l i r ≡ true → active_role after i r ≡ true

-- of a step that is an event and is granted
abbrev pub LeavesLargest : List Rule → State → Step → Next → Type 0
LeavesLargest rules s step given =
    is_event (action_of step) ≡ true → decision_of given.answer ≡ granted → LargestLeft rules s (action_of step) given.state

-- ---- 2026-01: "A role is held when assigned or on loan"; "A loan ends when the clock reaches t"

-- a loan of the state that has not ended gives the user the role
abbrev pub OnLoan : State → ℕ → ℕ → Type 0
OnLoan s v r = (loan : Loan) × Memᴰ loan (loans_of s) × (loan.borrower ≡ v) × (loan.role ≡ r) × (s.time < loan.until)

-- the role of a loan is active for its borrower nowhere, unless he is assigned it
abbrev pub RoleClosed : Loan → State → Type 0
RoleClosed loan s = (i : ℕ) → user_of s i ≡ loan.borrower → active_role s i loan.role ≡ true → assigned_role s loan.borrower loan.role ≡ true

-- ---- "it tests every rule over the whole target; if any is broken it answers 30 with the lowest"

-- of rules numbered from 1 on, rule n + 1 is broken and each lower one holds
abbrev pub LowestIs : List Rule → State → ℕ → Type 0
LowestIs rules s n =
    (filler : Rule) → (n < length rules) × (Holds (get_or rules n filler) s → ⊥) × ((k : ℕ) → k < n → Holds (get_or rules k filler) s)

-- a 30 names the lowest rule that is broken in the target, and a request with such a rule is refused by it
pub record NamesLowest (list : RuleList) (s : State) (step : Step) (given : Next) : Type 0 where
  pub named : decision_of given.answer ≡ refused 30 → (n : ℕ) × (named_rule given.answer ≡ suc n) × LowestIs (rules_of list) (target s (action_of step)) n
  pub refusing : check_step list s step ≡ passes → is_event (action_of step) ≡ false → (n : ℕ) → LowestIs (rules_of list) (target s (action_of step)) n →
      (decision_of given.answer ≡ refused 30) × (named_rule given.answer ≡ suc n)
