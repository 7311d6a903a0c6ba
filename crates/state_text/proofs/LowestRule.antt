-- The lowest broken rule of a list.
-- Assumes nothing.
use mathlib.Core.Path.{◌≡◌, refl}
use mathlib.Core.Bool.{Bool, true, false, cond}
use mathlib.Core.List.{List, [], ◌∷◌}
use Prim.Native.Nat.{ℕ, suc, ◌≤◌}
use native.Mathlib.Omega.{arith}
use Rattle.sets.proofs.Booleans.{both}
use Rattle.rules.specs.Acceptance.{every}
use Rattle.rules.specs.declared.families.Rule.{Rule}
use Rattle.std.specs.Prelude.{Some, None}
use Rattle.rules.specs.Lowest.{lowest}
use Rattle.state_text.proofs.Rows.{unequal}

-- no rule is the lowest broken one where every rule holds
pub every-unbroken : (test : Rule → Bool) (n : ℕ) (rules : List Rule) → every test rules ≡ true → lowest test n rules ≡ None
unfolding every lowest
every-unbroken test n [] e = refl
every-unbroken test n (rule ∷ rules) e =
    let p = both (test rule) (every test rules) e in
    rw p.0 (every-unbroken test (suc n) rules p.1)

-- the lowest broken rule's number is one of the list's
pub lowest-from : (test : Rule → Bool) (n : ℕ) (rules : List Rule) (k : ℕ) → lowest test n rules ≡ Some k → n ≤ k
unfolding lowest
lowest-from test n [] k h = unequal cc
lowest-from test n (rule ∷ rules) k h = by-test (test rule) h (lowest-from test (suc n) rules k)
  where
    by-test : (b : Bool) → cond b (lowest test (suc n) rules) (Some n) ≡ Some k → (lowest test (suc n) rules ≡ Some k → suc n ≤ k) → n ≤ k
    by-test true h later = omega (arith, later h)
    by-test false h later = let same : n ≡ k = cc in omega arith
