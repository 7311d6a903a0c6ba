-- 2026-07: "The joined list is the first, then in turn each rule of the second that, their rule numbers aside, equals none already in the
-- joined list, renumbered." What follows of it is stated in Claims.antt.
-- Assumes nothing.
use Rattle.std.specs.Prelude.{◌≡◌, Result, Ok, Err, Bool, true, cond, not, ◌&&◌, List, [], ◌∷◌, ◌++◌, ℕ, suc, length, get_or, eqb, ltb, Option, Some, None}
use Rattle.sets.specs.Sets.{all}
use Rattle.rules.specs.Acceptance.{right_at, every, rules_of, list_accepted}
use Rattle.rules.specs.Breach.{first_broken}
use Rattle.rules.specs.declared.families.Rule.{Rule}
use Rattle.rules.specs.declared.rights.Right.{Right}
use Rattle.rules.specs.declared.rights.Right.TheVariants.{Unstated, Permission}
use Rattle.rules.specs.declared.rights.RightSlot.{RightSlot}
use Rattle.rules.specs.declared.lists.RuleList.{RuleList}
use Rattle.rule_text.specs.Lines.{line_of}
use Rattle.rule_text.specs.Reading.{right_slot, no_rights, list_of}
use Rattle.rule_text.specs.declared.lines.Line.{Line}
use Rattle.enforcement.specs.Plain.{obeys}
use Rattle.enforcement.specs.declared.states.State.{State}
use Rattle.joining.specs.declared.refusals.Refusal.{Refusal}
use Rattle.joining.specs.declared.refusals.Refusal.TheVariants.{NotAccepted, RightsDiffer, TooMany, NoRoom}

-- ---- the rules

-- "their rule numbers aside, equals": both as rule 1 have the same line, which is its form and six values
abbrev pub same_values : List ℕ → List ℕ → Bool
same_values values others = all 6 (λ i. eqb (get_or values i 0) (get_or others i 0))

abbrev pub same_line : Line → Line → Bool
same_line line other = eqb line.form other.form && same_values line.values other.values

unfoldable pub equal_rules : Rule → Rule → Bool
equal_rules rule other = same_line (line_of 1 rule) (line_of 1 other)

-- "equals none already in the joined list"
unfoldable pub equals_none : Rule → List Rule → Bool
equals_none rule joined = every (λ other. not (equal_rules other rule)) joined

unfoldable pub with_new : List Rule → Rule → List Rule
with_new joined rule = cond (equals_none rule joined) (joined ++ rule ∷ []) joined

-- "the first, then in turn each rule of the second", "renumbered": a rule's number is its place in the list
unfoldable pub joined_rules : List Rule → List Rule → List Rule
joined_rules joined [] = joined
joined_rules joined (rule ∷ rules) = joined_rules (with_new joined rule) rules

-- ---- the rights

-- "Right lines of either list are kept, equal ones once."
abbrev pub joined_right : Right → Right → Right
joined_right Unstated second = second
joined_right (Permission p) second = Permission p

abbrev pub joined_slot : List RightSlot → List RightSlot → ℕ → RightSlot
joined_slot first second kind = right_slot (joined_right (right_at first kind) (right_at second kind))

-- assign, withdraw, grant, take, lend, recall
unfoldable pub joined_rights : List RightSlot → List RightSlot → List RightSlot
joined_rights first second =
    joined_slot first second 0
    ∷ joined_slot first second 1
    ∷ joined_slot first second 2
    ∷ joined_slot first second 3
    ∷ joined_slot first second 4
    ∷ joined_slot first second 5
    ∷ []

-- "58 two right lines of one kind with different permissions": unless they agree
abbrev pub rights_agree : Right → Right → Bool
rights_agree Unstated second = true
rights_agree (Permission p) Unstated = true
rights_agree (Permission p) (Permission q) = eqb p q

-- the first kind of which they do not
abbrev pub rights_tested : List RightSlot → List RightSlot → Option ℕ
rights_tested first second = first_broken 6 (λ kind. rights_agree (right_at first kind) (right_at second kind))

-- ---- the list

-- 0, 0 and the joined list; or the refusal's number and place and the empty list. The place is for 58 the kind, counted from 0, for 57 the
-- number that the rule too many has in the second list, else 0
pub record Joined : Type 0 where
  pub number : ℕ
  pub place : ℕ
  pub list : RuleList

-- which rule of the second, the next of which is its rule n, is one too many after the rules joined so far; 0 where none is
unfoldable pub too_many_at : ℕ → List Rule → List Rule → ℕ
too_many_at n joined [] = 0
too_many_at n joined (rule ∷ rules) = cond (ltb 128 (length (with_new joined rule))) n (too_many_at (suc n) (with_new joined rule) rules)

-- "nothing written on any"
abbrev pub refused_join : ℕ → ℕ → Joined
refused_join number place = record { number = number; place = place; list = list_of no_rights [] }

-- "57 more than 128 rules"; the next of the second is its rule n
unfoldable pub rules_joined : ℕ → List RightSlot → List Rule → List Rule → Joined
rules_joined n rights joined rules =
    cond (ltb 128 (length (joined_rules joined rules)))
    (refused_join 57 (too_many_at n joined rules))
    (record { number = 0; place = 0; list = list_of rights (joined_rules joined rules) })

abbrev pub number_of : Refusal → ℕ
number_of NotAccepted = 40
number_of (RightsDiffer kind) = 58
number_of (TooMany rule) = 57
number_of (NoRoom rules) = 18

abbrev pub place_of : Refusal → ℕ
place_of NotAccepted = 0
place_of (RightsDiffer kind) = kind
place_of (TooMany rule) = rule
place_of (NoRoom rules) = rules

-- what the code returns, by the number of each refusal
abbrev pub by_number : Result RuleList Refusal → Joined
by_number (Ok list) = record { number = 0; place = 0; list = list }
by_number (Err refusal) = refused_join (number_of refusal) (place_of refusal)

abbrev pub joined_under : Option ℕ → RuleList → RuleList → Joined
joined_under None first second = rules_joined 1 (joined_rights first.rights second.rights) (rules_of first) (rules_of second)
joined_under (Some kind) first second = refused_join 58 kind

-- "order 40, 58, 57"
unfoldable pub join_of : RuleList → RuleList → Joined
join_of first second =
    cond (list_accepted first && list_accepted second) (joined_under (rights_tested first.rights second.rights) first second) (refused_join 40 0)

-- "A state obeys the joined list just if it obeys both.": what `join` promises of every state
abbrev pub ObeyedAsBoth : RuleList → RuleList → Joined → Type 0
ObeyedAsBoth first second joined =
    joined.number ≡ 0 → (s : State) → obeys (rules_of joined.list) s ≡ (obeys (rules_of first) s && obeys (rules_of second) s)
