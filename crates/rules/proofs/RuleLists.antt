-- A test over a list of rules: where each rule passes, and what the lowest that fails says of the rules, which are numbered from some number on.
-- Assumes nothing.
use mathlib.Core.Path.{◌≡◌, refl, sym, ap, ◌∙◌}
use mathlib.Core.Bool.{Bool, true, false, cond, ◌&&◌}
use mathlib.Core.Logic.{◌↔◌}
use mathlib.Core.List.{List, [], ◌∷◌, ◌++◌}
use Prim.Native.Nat.{ℕ, zero, suc, ◌+◌, ◌<◌}
use native.Mathlib.Omega.{arith}
use lib.ListN.{length, get_or}
use Rattle.std.specs.Prelude.{Some, None}
use Rattle.sets.proofs.Booleans.{clash, both_true, left-true, right-true}
use Rattle.rules.specs.Acceptance.{every}
use Rattle.rules.specs.Lowest.{lowest}
use Rattle.rules.specs.declared.families.Rule.{Rule}

-- ---- every rule

pub every-append : (p : Rule → Bool) (rules others : List Rule) → every p (rules ++ others) ≡ (every p rules && every p others)
unfolding every
every-append p [] others = refl
every-append p (rule ∷ rules) others = rw (every-append p rules others) (regrouped (p rule) (every p rules) (every p others))
  where
    regrouped : (a b c : Bool) → (a && (b && c)) ≡ ((a && b) && c)
    regrouped true b c = refl
    regrouped false b c = refl

-- of a list that passes each rule does, and the other way; of one that does not, one fails
module _ (p : Rule → Bool) (filler : Rule) where
  pub passes-at : (rules : List Rule) → every p rules ≡ true → (i : ℕ) → i < length rules → p (get_or rules i filler) ≡ true
  unfolding every
  passes-at [] h i below = absurd (omega arith)
  passes-at (rule ∷ rules) h zero below = left-true (p rule) (every p rules) h
  passes-at (rule ∷ rules) h (suc i) below = passes-at rules (right-true (p rule) (every p rules) h) i (omega arith)

  pub passes-all : (rules : List Rule) → ((i : ℕ) → i < length rules → p (get_or rules i filler) ≡ true) → every p rules ≡ true
  unfolding every
  passes-all [] h = refl
  passes-all (rule ∷ rules) h = both_true (p rule) (every p rules) (h 0 (omega arith)) (passes-all rules (λ i below. h (suc i) (omega arith)))

  pub fails-at : (rules : List Rule) → every p rules ≡ false → (i : ℕ) × (i < length rules) × (p (get_or rules i filler) ≡ false)
  unfolding every
  fails-at [] h = clash refl h
  fails-at (rule ∷ rules) h = go (fails-at rules) (p rule) refl
    where
      go : (every p rules ≡ false → (i : ℕ) × (i < length rules) × (p (get_or rules i filler) ≡ false)) → (b : Bool) → p rule ≡ b
          → (i : ℕ) × (i < suc (length rules)) × (p (get_or (rule ∷ rules) i filler) ≡ false)
      go later true e = let rest = later (sym (ap (λ (b : Bool). b && every p rules) e) ∙ h) in (suc rest.0, omega (arith, rest.1), rest.2)
      go later false e = (0, omega arith, e)

-- ---- the lowest rule that fails

-- rule i, counted from 0, fails and none before it does
pub record FirstFailing (test : Rule → Bool) (rules : List Rule) (filler : Rule) (i : ℕ) : Type 0 where
  pub within : i < length rules
  pub fails : test (get_or rules i filler) ≡ false
  pub earlier : (j : ℕ) → j < i → test (get_or rules j filler) ≡ true

module _ (test : Rule → Bool) where
  none-fails : (n : ℕ) (rules : List Rule) → lowest test n rules ≡ None → every test rules ≡ true
  unfolding lowest every
  none-fails n [] e = refl
  none-fails n (rule ∷ rules) e = go (test rule) (none-fails (suc n) rules) e
    where
      go : (b : Bool) → (lowest test (suc n) rules ≡ None → every test rules ≡ true) → cond b (lowest test (suc n) rules) (Some n) ≡ None → (b && every test rules) ≡ true
      go true more e = more e
      go false more e = cc

  all-pass : (n : ℕ) (rules : List Rule) → every test rules ≡ true → lowest test n rules ≡ None
  unfolding lowest every
  all-pass n [] h = refl
  all-pass n (rule ∷ rules) h = rw (left-true (test rule) (every test rules) h) (all-pass (suc n) rules (right-true (test rule) (every test rules) h))

  -- there is none exactly where every rule passes
  pub lowest-none : (n : ℕ) (rules : List Rule) → (lowest test n rules ≡ None) ↔ (every test rules ≡ true)
  lowest-none n rules = (none-fails n rules, all-pass n rules)

  -- past rules that pass
  pub lowest-after : (n : ℕ) (rules others : List Rule) → every test rules ≡ true → lowest test n (rules ++ others) ≡ lowest test (n + length rules) others
  unfolding lowest every
  lowest-after n [] others h = ap (λ (m : ℕ). lowest test m others) (omega arith)
  lowest-after n (rule ∷ rules) others h =
      rw (left-true (test rule) (every test rules) h)
      (lowest-after (suc n) rules others (right-true (test rule) (every test rules) h) ∙ ap (λ (m : ℕ). lowest test m others) (omega arith))

  module _ (filler : Rule) where
    is-lowest : (n : ℕ) (rules : List Rule) (m : ℕ) → lowest test n rules ≡ Some m → (i : ℕ) × (m ≡ n + i) × FirstFailing test rules filler i
    unfolding lowest
    is-lowest n [] m e = cc
    is-lowest n (rule ∷ rules) m e = go (test rule) refl (is-lowest (suc n) rules m) e
      where
        next : (i : ℕ) → test rule ≡ true → FirstFailing test rules filler i → FirstFailing test (rule ∷ rules) filler (suc i)
        next i passes first = record { within = omega (arith, first.within); fails = first.fails; earlier = before }
          where
            before : (j : ℕ) → j < suc i → test (get_or (rule ∷ rules) j filler) ≡ true
            before zero h = passes
            before (suc j) h = first.earlier j (omega arith)

        go : (b : Bool) → test rule ≡ b → (lowest test (suc n) rules ≡ Some m → (i : ℕ) × (m ≡ suc n + i) × FirstFailing test rules filler i)
            → cond b (lowest test (suc n) rules) (Some n) ≡ Some m → (i : ℕ) × (m ≡ n + i) × FirstFailing test (rule ∷ rules) filler i
        go true passes more e = let there = more e in (suc there.0, omega (arith, there.1), next there.0 passes there.2)
        go false fails more e =
            let same : n ≡ m = cc in
            (0, omega (arith, same), record { within = omega arith; fails = fails; earlier = λ j h. absurd (omega arith) })

    found-lowest : (n : ℕ) (rules : List Rule) (i : ℕ) → FirstFailing test rules filler i → lowest test n rules ≡ Some (n + i)
    unfolding lowest
    found-lowest n [] i first = absurd (omega (arith, first.within))
    found-lowest n (rule ∷ rules) zero first = let z : n + 0 ≡ n = omega arith in rw (first.fails, z)
    found-lowest n (rule ∷ rules) (suc i) first =
        let here : suc n + i ≡ n + suc i = omega arith in
        rw (first.earlier 0 (omega arith))
        (rw here at (found-lowest (suc n) rules i (record { within = omega (arith, first.within); fails = first.fails; earlier = λ j h. first.earlier (suc j) (omega arith) })))

    -- there is one exactly where the rule under its number is the first that fails
    pub lowest-means : (n : ℕ) (rules : List Rule) (m : ℕ) → (lowest test n rules ≡ Some m) ↔ ((i : ℕ) × (m ≡ n + i) × FirstFailing test rules filler i)
    lowest-means n rules m = (is-lowest n rules m, λ there. found-lowest n rules there.0 there.2 ∙ ap Some (sym there.1))
