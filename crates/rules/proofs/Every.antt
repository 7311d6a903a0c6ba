-- A test of every rule of a list, and of its first n rules as a loop over its slots meets them: one rule more passes, or one fails.
-- Assumes nothing.
use mathlib.Core.Path.{◌≡◌, refl, sym, ◌∙◌}
use mathlib.Core.Bool.{Bool, true, false, cond, false≢true}
use mathlib.Core.List.{List, [], ◌∷◌, map}
use Prim.Native.Nat.{ℕ, zero, suc, ◌+◌, ◌<◌}
use native.Mathlib.Numerals.{add-one}
use native.Mathlib.Omega.{arith}
use lib.ListN.{take, length, get_or}
use Rattle.std.proofs.lemmas.Grind.{common_steps}
use Rattle.sets.specs.Sets.{all}
use Rattle.sets.proofs.Bounded.{all-next}
use Rattle.sets.proofs.Booleans.{both_true, left-true, right-true, not_so}
use Rattle.rules.specs.Acceptance.{every, rule_of}
use Rattle.rules.specs.declared.families.Rule.{Rule}
use Rattle.rules.specs.declared.lists.Slot.{Slot}

-- ---- every rule

-- a test that passes at a rule where a family of tests does passes at every rule where they do
pub every_of : (D : Type 0) (tests : D → Rule → Bool) (test : Rule → Bool) → ((rule : Rule) → ((d : D) → tests d rule ≡ true) → test rule ≡ true) → (rules : List Rule) → ((d : D) → every (tests d) rules ≡ true) → every test rules ≡ true
unfolding every
every_of D tests test h [] e = refl
every_of D tests test h (rule ∷ rules) e =
    both_true (test rule) (every test rules)
    (h rule (λ d. left-true (tests d rule) (every (tests d) rules) (e d)))
    (every_of D tests test h rules (λ d. right-true (tests d rule) (every (tests d) rules) (e d)))

-- one that passes where two do
pub every-both : (a b test : Rule → Bool) → ((rule : Rule) → a rule ≡ true → b rule ≡ true → test rule ≡ true) → (rules : List Rule) → every a rules ≡ true → every b rules ≡ true → every test rules ≡ true
every-both a b test h rules ha hb =
    every_of Bool (λ first. cond first a b) test (λ rule e. h rule (e true) (e false)) rules each
  where
    each : (first : Bool) → every (cond first a b) rules ≡ true
    each true = ha
    each false = hb

pub every-all : (test : Rule → Bool) → ((rule : Rule) → test rule ≡ true) → (rules : List Rule) → every test rules ≡ true
every-all test h rules = every_of ⊥ (λ d rule. absurd d) test (λ rule e. h rule) rules (λ d. absurd d)

-- ---- the first n rules

abbrev pub every_first : (Rule → Bool) → ℕ → List Slot → Bool
every_first p n slots = every p (map rule_of (take n slots))

module _ (p : Rule → Bool) where
  -- where the first n pass, each of them does
  pub every-at : (slots : List Slot) (n i : ℕ) (d : Slot) → i < n → i < length slots → every_first p n slots ≡ true → p (rule_of (get_or slots i d)) ≡ true
  unfolding every
  every-at [] n i d below within h = absurd (omega arith)
  every-at (s ∷ slots) zero i d below within h = absurd (omega arith)
  every-at (s ∷ slots) (suc n) zero d below within h = left-true (p s.rule) (every_first p n slots) h
  every-at (s ∷ slots) (suc n) (suc i) d below within h =
      every-at slots n i d (omega arith) (omega arith) (right-true (p s.rule) (every_first p n slots) h)

  every-suc : (slots : List Slot) (i : ℕ) (d : Slot) → i < length slots → every_first p i slots ≡ true → p (rule_of (get_or slots i d)) ≡ true → every_first p (suc i) slots ≡ true
  unfolding every
  every-suc [] i d within h passes = absurd (omega arith)
  every-suc (s ∷ slots) zero d within h passes = both_true (p s.rule) true passes refl
  every-suc (s ∷ slots) (suc i) d within h passes =
      both_true (p s.rule) (every_first p (suc i) slots) (left-true (p s.rule) (every_first p i slots) h)
      (every-suc slots i d (omega arith) (right-true (p s.rule) (every_first p i slots) h) passes)

  -- one rule more passes
  pub every-next : (slots : List Slot) (i : ℕ) (d : Slot) → i < length slots → every_first p i slots ≡ true → p (rule_of (get_or slots i d)) ≡ true → every_first p (i + 1) slots ≡ true
  every-next slots i d within h passes = rw (add-one i) (every-suc slots i d within h passes)

  -- one rule that fails is enough
  pub every-stop : (slots : List Slot) (n i : ℕ) (d : Slot) → i < n → i < length slots → p (rule_of (get_or slots i d)) ≡ false → every_first p n slots ≡ false
  every-stop slots n i d below within fails = not_so (every_first p n slots) (λ h. false≢true (sym fails ∙ every-at slots n i d below within h))

  pub every_none : every p [] ≡ true
  unfolding every
  every_none = refl

pub ruleset every_turns = (every_none, every-next, every-stop, common_steps)

-- ---- and of every number below a bound

pub all_none : (p : ℕ → Bool) → all 0 p ≡ true
unfolding all
all_none p = refl

pub ruleset all_turns = (all_none, all-next, common_steps)
