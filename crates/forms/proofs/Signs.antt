-- Numbers below 0 as the texts hold them. Assumes nothing.
use mathlib.Core.Path.{◌≡◌, refl, sym, ap, ◌∙◌}
use mathlib.Core.Bool.{true, false, false≢true}
use Prim.Native.Nat.{ℕ, zero, suc, ◌-◌, ◌≤◌, ◌<◌}
use native.Mathlib.Omega.{arith}
use lib.Dec.{T}
use lib.IntN.{ℤ, pos, negsuc, nat_abs, ◌-ℤ◌, +ℤ_idl}
use lib.Signed.{lt_z, non_neg}
use mir.Syntax.{w64, w32}
use mir.Val.{SFits, Fits, to_z, of_z}
use mir.ValLaws.{to_z-of_z}
use borrow.Author.Tests.{ltb-true, lt-ltb, le-ltb}
use Rattle.forms.specs.Numbers.{minus, signed_value, signed_code}

-- ---- how a number is held

widen : (x : ℤ) → SFits w32 x → SFits w64 x
widen (pos n) f = record { sfits = omega (arith, f.sfits) }
widen (negsuc n) f = record { sfits = omega (arith, f.sfits) }

pub wide_fits : (x : ℤ) → SFits w32 x → SFits w64 (to_z w32 (of_z w32 x))
wide_fits x f = rw (to_z-of_z w32 x f) (widen x f)

pub cast_same : (x : ℤ) → SFits w32 x → to_z w64 (of_z w64 (to_z w32 (of_z w32 x))) ≡ x
cast_same x f = rw (to_z-of_z w32 x f) (to_z-of_z w64 x (widen x f))

pub below-fits : (x : ℤ) → SFits w32 x → lt_z x (pos 0) ≡ true → SFits w64 (pos 10000000000 -ℤ x)
below-fits (pos n) f h = absurd (omega (arith, ltb-true n 0 h))
below-fits (negsuc n) f h = record { sfits = omega (arith, f.sfits) }

pub below_code : (x : ℤ) → SFits w32 x → lt_z x (pos 0) ≡ true → nat_abs (pos 10000000000 -ℤ x) ≡ signed_code x
unfolding signed_code
below_code (pos n) f h = absurd (omega (arith, ltb-true n 0 h))
below_code (negsuc n) f h = omega arith

pub below-natural : (x : ℤ) → SFits w32 x → lt_z x (pos 0) ≡ true → T (non_neg (pos 10000000000 -ℤ x)) × Fits w64 (nat_abs (pos 10000000000 -ℤ x))
below-natural (pos n) f h = absurd (omega (arith, ltb-true n 0 h))
below-natural (negsuc n) f h = (tt, record { fits = omega (arith, f.sfits) })

pub above-natural : (x : ℤ) → SFits w32 x → lt_z x (pos 0) ≡ false → T (non_neg x) × Fits w64 (nat_abs x)
above-natural (pos n) f h = (tt, record { fits = omega (arith, f.sfits) })
above-natural (negsuc n) f h = absurd (false≢true (sym h))

pub above-code : (x : ℤ) → SFits w32 x → lt_z x (pos 0) ≡ false → nat_abs x ≡ signed_code x
unfolding signed_code
above-code (pos n) f h = refl
above-code (negsuc n) f h = absurd (false≢true (sym h))

-- ---- the number that is held

pub plain_value : (v : ℕ) → v < 10000000000 → to_z w64 v ≡ signed_value v
unfolding signed_value
plain_value v h = rw (lt-ltb v 10000000000 h) (to_z-of_z w64 (pos v) (record { sfits = omega arith }))

minus_is : (n : ℕ) → n < 10000000000 → pos 0 -ℤ to_z w64 n ≡ minus n
minus_is zero h = refl
minus_is (suc n) h = ap (λ (z : ℤ). pos 0 -ℤ z) (to_z-of_z w64 (pos (suc n)) (record { sfits = omega arith })) ∙ +ℤ_idl (negsuc n)

minus-fits : (n : ℕ) → n < 10000000000 → SFits w64 (minus n)
minus-fits zero h = record { sfits = omega arith }
minus-fits (suc n) h = record { sfits = omega arith }

pub negated_fits : (v : ℕ) → v < 20000000000 → 10000000000 ≤ v → SFits w64 (pos 0 -ℤ to_z w64 (v - 10000000000))
negated_fits v h l = rw (minus_is (v - 10000000000) (omega arith)) (minus-fits (v - 10000000000) (omega arith))

pub negated-value : (v : ℕ) → v < 20000000000 → 10000000000 ≤ v → to_z w64 (of_z w64 (pos 0 -ℤ to_z w64 (v - 10000000000))) ≡ signed_value v
unfolding signed_value
negated-value v h l =
    to_z-of_z w64 _ (negated_fits v h l)
    ∙ minus_is (v - 10000000000) (omega arith)
    ∙ rw (le-ltb v 10000000000 l, lt-ltb v 20000000000 h)

pub no_value : (v : ℕ) → 20000000000 ≤ v → pos 0 ≡ signed_value v
unfolding signed_value
no_value v h = rw (le-ltb v 10000000000 (omega arith), le-ltb v 20000000000 h)
