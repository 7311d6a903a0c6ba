use mathlib.Core.Path.{◌≡◌, refl}
use mathlib.Core.Bool.{Bool, true, false, ◌&&◌, ◌||◌, true≢false}
use Prim.Native.Nat.{ℕ}
use native.Mathlib.Omega.{arith}
use lib.Dec.{ltb}
use Rattle.forms.proofs.Marks.{number-mark}
use Rattle.forms.proofs.kinds.is_plain.Goals as goal

abbrev is_common : ℕ → Bool
is_common c = ltb c 43 || (ltb 46 c && ltb c 91)

-- a mark that fails the test is not among them
uncommon : (c k : ℕ) → is_common c ≡ true → is_common k ≡ false → c ≡ k → ⊥
uncommon c k common other e = true≢false (rw (← e, common) at other)

pub returns : goal.returns
returns c =
    λ common slot.
    let mark = c.args.mark in
    number-mark mark (omega arith) slot (uncommon mark 43 common refl) (uncommon mark 95 common refl) (uncommon mark 46 common refl) (uncommon mark 91 common refl) (uncommon mark 93 common refl) (uncommon mark 96 common refl)
