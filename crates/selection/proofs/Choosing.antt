-- A choice by sets of families is the table's: the two are compared at each family.
-- Assumes nothing.
use mathlib.Core.Path.{◌≡◌, refl, sym, ap, ◌∙◌}
use mathlib.Core.Bool.{Bool, true, false, not, ◌&&◌, ◌||◌, false≢true}
use Prim.Native.Nat.{ℕ, ◌<◌}
use native.Mathlib.Omega.{arith}
use lib.Dec.{eqb}
use Rattle.sets.specs.Sets.{member, all}
use Rattle.sets.proofs.Booleans.{both}
use Rattle.sets.proofs.Bounded.{of-all}
use Rattle.rules.specs.declared.families.Rule.{Rule}
use Rattle.rules.specs.declared.families.Rule.TheVariants.{Prerequisite, MaxUsers, MaxRoles, MaxPermissions, MaxActive, StaticSeparation, DynamicSeparation, Dependency, TimeContext, LocationContext, HistorySeparation, BindingOfDuty}
use Rattle.selection.specs.Selection.{family, has_first, has_second, selects}
use Rattle.steps.specs.declared.actions.Action.{Action}
use Rattle.steps.specs.declared.actions.Action.TheVariants.{Assign, Withdraw, Grant, Activate, Deactivate, Access, Close, Move, Lost, Clock, Lend, Recall}
use Rattle.selection.specs.Choices.{choice_of, chosen_at, chosen}
use Rattle.selection.specs.declared.selection.Choice.{Choice}
use Rattle.places.specs.declared.Point.{Point}

-- ---- two tests by family that are the same at each family are the same

abbrev Test : Type 0
Test = ℕ → Bool → Bool → Bool

abbrev agree : Bool → Bool → Bool
agree true b = b
agree false b = not b

of_agree : (a b : Bool) → agree a b ≡ true → a ≡ b
of_agree true true e = refl
of_agree true false e = absurd (false≢true e)
of_agree false true e = absurd (false≢true e)
of_agree false false e = refl

abbrev same_at : Test → Test → ℕ → Bool
same_at p q f =
    (agree (p f true true) (q f true true) && agree (p f true false) (q f true false))
    && (agree (p f false true) (q f false true) && agree (p f false false) (q f false false))

of-same : (p q : Test) (f : ℕ) → same_at p q f ≡ true → (a b : Bool) → p f a b ≡ q f a b
of-same p q f e =
    let halves = both (agree (p f true true) (q f true true) && agree (p f true false) (q f true false)) (agree (p f false true) (q f false true) && agree (p f false false) (q f false false)) e in
    go (both (agree (p f true true) (q f true true)) (agree (p f true false) (q f true false)) halves.0) (both (agree (p f false true) (q f false true)) (agree (p f false false) (q f false false)) halves.1)
  where
    go : (agree (p f true true) (q f true true) ≡ true) × (agree (p f true false) (q f true false) ≡ true) → (agree (p f false true) (q f false true) ≡ true) × (agree (p f false false) (q f false false) ≡ true) → (a b : Bool) → p f a b ≡ q f a b
    go first second true true = of_agree (p f true true) (q f true true) first.0
    go first second true false = of_agree (p f true false) (q f true false) first.1
    go first second false true = of_agree (p f false true) (q f false true) second.0
    go first second false false = of_agree (p f false false) (q f false false) second.1

family-small : (k : Rule) → family k < 13
family-small (Prerequisite r q) = omega arith
family-small (MaxUsers r n) = omega arith
family-small (MaxRoles n) = omega arith
family-small (MaxPermissions r n) = omega arith
family-small (MaxActive n) = omega arith
family-small (StaticSeparation r q) = omega arith
family-small (DynamicSeparation r q) = omega arith
family-small (Dependency r q) = omega arith
family-small (TimeContext r term) = omega arith
family-small (LocationContext r side) = omega arith
family-small (HistorySeparation p q) = omega arith
family-small (BindingOfDuty p q) = omega arith

by-family : (p q : Test) → all 13 (same_at p q) ≡ true → (k : Rule) (a b : Bool) → p (family k) a b ≡ q (family k) a b
by-family p q e k = of-same p q (family k) (of-all 13 (same_at p q) e (family k) (family-small k))

-- ---- the table's rows

module _ (k : Rule) where
  pub none-chosen : chosen (choice_of 0 0 0 0) k ≡ false
  unfolding chosen all member
  none-chosen = by-family (chosen_at (choice_of 0 0 0 0)) (λ f a b. false) refl k (has_first 0 k) (has_second 0 k)

  pub assign-chosen : (u r : ℕ) → chosen (choice_of 8 70 64 r) k ≡ selects (Assign u r) k
  unfolding chosen selects all member
  assign-chosen u r =
      by-family (chosen_at (choice_of 8 70 64 r)) (λ f a b. (eqb f 1 && a) || ((eqb f 2 && a) || (eqb f 3 || (eqb f 6 && (a || b))))) refl k (has_first r k) (has_second r k)

  pub withdraw-chosen : (u r : ℕ) → chosen (choice_of 0 0 2 r) k ≡ selects (Withdraw u r) k
  unfolding chosen selects all member
  withdraw-chosen u r = by-family (chosen_at (choice_of 0 0 2 r)) (λ f a b. eqb f 1 && b) refl k (has_first r k) (has_second r k)

  pub grant-chosen : (r p : ℕ) → chosen (choice_of 0 16 0 r) k ≡ selects (Grant r p) k
  unfolding chosen selects all member
  grant-chosen r p = by-family (chosen_at (choice_of 0 16 0 r)) (λ f a b. eqb f 4 && a) refl k (has_first r k) (has_second r k)

  pub activate-chosen : (i r : ℕ) → chosen (choice_of 32 1920 128 r) k ≡ selects (Activate i r) k
  unfolding chosen selects all member
  activate-chosen i r =
      by-family (chosen_at (choice_of 32 1920 128 r)) (λ f a b. eqb f 5 || ((eqb f 7 && (a || b)) || ((eqb f 8 && a) || ((eqb f 9 && a) || (eqb f 10 && a))))) refl k (has_first r k) (has_second r k)

  pub deactivate-chosen : (i r : ℕ) → chosen (choice_of 0 0 256 r) k ≡ selects (Deactivate i r) k
  unfolding chosen selects all member
  deactivate-chosen i r = by-family (chosen_at (choice_of 0 0 256 r)) (λ f a b. eqb f 8 && b) refl k (has_first r k) (has_second r k)

  pub access-chosen : (i p o : ℕ) → chosen (choice_of 0 6144 6144 p) k ≡ selects (Access i p o) k
  unfolding chosen selects all member
  access-chosen i p o =
      by-family (chosen_at (choice_of 0 6144 6144 p)) (λ f a b. (eqb f 11 && (a || b)) || (eqb f 12 && (a || b))) refl k (has_first p k) (has_second p k)

  pub close-chosen : (i : ℕ) → chosen (choice_of 256 0 0 0) k ≡ selects (Close i) k
  unfolding chosen selects all member
  close-chosen i = by-family (chosen_at (choice_of 256 0 0 0)) (λ f a b. eqb f 8) refl k (has_first 0 k) (has_second 0 k)

  pub move-chosen : (i : ℕ) (point : Point) → chosen (choice_of 1280 0 0 0) k ≡ selects (Move i point) k
  unfolding chosen selects all member
  move-chosen i point = by-family (chosen_at (choice_of 1280 0 0 0)) (λ f a b. eqb f 10 || eqb f 8) refl k (has_first 0 k) (has_second 0 k)

  pub lost-chosen : (i : ℕ) → chosen (choice_of 1280 0 0 0) k ≡ selects (Lost i) k
  unfolding chosen selects all member
  lost-chosen i = by-family (chosen_at (choice_of 1280 0 0 0)) (λ f a b. eqb f 10 || eqb f 8) refl k (has_first 0 k) (has_second 0 k)

  pub clock-chosen : (t : ℕ) → chosen (choice_of 768 0 0 0) k ≡ selects (Clock t) k
  unfolding chosen selects all member
  clock-chosen t = by-family (chosen_at (choice_of 768 0 0 0)) (λ f a b. eqb f 9 || eqb f 8) refl k (has_first 0 k) (has_second 0 k)

  pub lend-chosen : (u v r t : ℕ) → chosen (choice_of 8 68 64 r) k ≡ selects (Lend u v r t) k
  unfolding chosen selects all member
  lend-chosen u v r t =
      by-family (chosen_at (choice_of 8 68 64 r)) (λ f a b. (eqb f 2 && a) || (eqb f 3 || (eqb f 6 && (a || b)))) refl k (has_first r k) (has_second r k)

  pub recall-chosen : (u v r : ℕ) → chosen (choice_of 256 0 0 0) k ≡ selects (Recall u v r) k
  unfolding chosen selects all member
  recall-chosen u v r = by-family (chosen_at (choice_of 256 0 0 0)) (λ f a b. eqb f 8) refl k (has_first 0 k) (has_second 0 k)

-- a row by the step that is read
pub chosen-told : (action told : Action) → action ≡ told → (choice made : Choice) → choice ≡ made → ((k : Rule) → chosen made k ≡ selects told k) → (k : Rule) → chosen choice k ≡ selects action k
chosen-told action told e choice made is row k = ap (λ (c : Choice). chosen c k) is ∙ row k ∙ ap (λ (a : Action). selects a k) (sym e)
