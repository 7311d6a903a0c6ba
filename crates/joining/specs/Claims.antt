-- 2026-07: what is claimed of the joined list, and the cause of each number, in plain words over rules, rights and lists.
-- Assumes nothing.
use Rattle.std.specs.Prelude.{◌≡◌, true, false, List, [], ◌∷◌, ◌++◌, ℕ, suc, ◌≤◌, ◌<◌, length, take, get_or}
use Rattle.rules.specs.Acceptance.{right_at, rules_of, list_accepted}
use Rattle.rules.specs.declared.families.Rule.{Rule}
use Rattle.rules.specs.declared.rights.Right.{Right}
use Rattle.rules.specs.declared.rights.Right.TheVariants.{Unstated, Permission}
use Rattle.rules.specs.declared.rights.RightSlot.{RightSlot}
use Rattle.rules.specs.declared.lists.RuleList.{RuleList}
use Rattle.rule_text.specs.Lines.{filler}
use Rattle.joining.specs.Joining.{equal_rules, joined_rules}

-- ---- the rules

-- rule i of a list, counted from 0
abbrev pub rule_at : List Rule → ℕ → Rule
rule_at rules i = get_or rules i filler

-- no rule of the list equals a later one
abbrev pub NoDoubles : List Rule → Type 0
NoDoubles rules = (i j : ℕ) → i < j → j < length rules → equal_rules (rule_at rules i) (rule_at rules j) ≡ false

-- some of a list's rules in its order
pub data InOrder : List Rule → List Rule → Type 0 where
  none : InOrder [] []
  left_out : {rule : Rule} {some rules : List Rule} → InOrder some rules → InOrder some (rule ∷ rules)
  taken : {rule : Rule} {some rules : List Rule} → InOrder some rules → InOrder (rule ∷ some) (rule ∷ rules)

-- "The joined list is the first, then in turn each rule of the second that, their rule numbers aside, equals none already in the joined list":
-- each rule of the first keeps its number, those past it are of the second, in its order, and each equals none before it, so that none is there
-- twice; each rule of the second equals one of the joined
pub record Joins (first second joined : List Rule) : Type 0 where
  pub past : List Rule
  pub front : joined ≡ first ++ past
  pub ordered : InOrder past second
  pub once : (i j : ℕ) → i < j → length first ≤ j → j < length joined → equal_rules (rule_at joined i) (rule_at joined j) ≡ false
  pub all_there : (j : ℕ) → j < length second → (i : ℕ) × (i < length joined) × (equal_rules (rule_at joined i) (rule_at second j) ≡ true)

-- ---- the rights

-- "Right lines of either list are kept, equal ones once.": a right of the joined list is one of the first or of the second, and each of theirs is there
pub record KeepsRights (first second joined : List RightSlot) : Type 0 where
  pub of_first : (kind p : ℕ) → kind < 6 → right_at first kind ≡ Permission p → right_at joined kind ≡ Permission p
  pub of_second : (kind p : ℕ) → kind < 6 → right_at second kind ≡ Permission p → right_at joined kind ≡ Permission p
  pub no_other : (kind : ℕ) → kind < 6 → right_at first kind ≡ Unstated → right_at second kind ≡ Unstated → right_at joined kind ≡ Unstated

-- "two right lines of one kind with different permissions"
abbrev pub Differ : Right → Right → Type 0
Differ first second = (p q : ℕ) × (first ≡ Permission p) × (second ≡ Permission q) × (p ≡ q → ⊥)

-- ---- the numbers

-- the cause of each number, with its place
pub data JoinRefused (first second : RuleList) : ℕ → ℕ → Type 0 where
  -- 40 of either list comes first
  first_refused : list_accepted first ≡ false → JoinRefused first second 40 0
  second_refused : list_accepted first ≡ true → list_accepted second ≡ false → JoinRefused first second 40 0
  -- "58 two right lines of one kind with different permissions": the first such kind
  rights_differ : (kind : ℕ) → list_accepted first ≡ true → list_accepted second ≡ true → kind < 6 → Differ (right_at first.rights kind) (right_at second.rights kind)
      → ((earlier : ℕ) → earlier < kind → Differ (right_at first.rights earlier) (right_at second.rights earlier) → ⊥)
      → JoinRefused first second 58 kind
  -- "57 more than 128 rules": with rule n + 1 of the second they are more, before it they are not
  too_many : (n : ℕ) → list_accepted first ≡ true → list_accepted second ≡ true
      → ((kind : ℕ) → kind < 6 → Differ (right_at first.rights kind) (right_at second.rights kind) → ⊥)
      → n < length (rules_of second) → length (joined_rules (rules_of first) (take n (rules_of second))) ≤ 128
      → 128 < length (joined_rules (rules_of first) (take (suc n) (rules_of second)))
      → JoinRefused first second 57 (suc n)
