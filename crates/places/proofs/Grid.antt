-- A coordinate of the grid as a signed number: how it is tested, and that 32 bits hold it.
-- Assumes nothing.
use mathlib.Core.Path.{◌≡◌, refl}
use mathlib.Core.Bool.{Bool, true, false, ◌&&◌, and-true}
use Prim.Native.Nat.{ℕ, suc}
use native.Mathlib.Omega.{arith}
use borrow.Author.Tests.{leb-true, leb-false, le-leb, lt-leb}
use lib.Dec.{leb}
use lib.IntN.{ℤ, pos, negsuc}
use lib.Signed.{le_z}
use mir.Syntax.{w32}
use mir.Val.{SFits}
use Rattle.places.specs.Places.{on_grid}

-- a coordinate below 0 is tested as the number of which it is the negative
below-zero : (n : ℕ) (tested : Bool) → leb n 999999 ≡ tested → tested ≡ leb (suc n) 1000000
below-zero n true e = let least = leb-true n 999999 e in rw (le-leb (suc n) 1000000 (omega arith))
below-zero n false e = let past = leb-false n 999999 e in rw (lt-leb (suc n) 1000000 (omega arith))

pub grid-tests : (z : ℤ) → (le_z (negsuc 999999) z && le_z z (pos 1000000)) ≡ on_grid z
grid-tests (pos n) = refl
grid-tests (negsuc n) = rw (and-true (leb n 999999)) (below-zero n (leb n 999999) refl)

pub grid-fits : (z : ℤ) → on_grid z ≡ true → SFits w32 z
grid-fits (pos n) e = let least = leb-true n 1000000 e in record { sfits = omega arith }
grid-fits (negsuc n) e = let least = leb-true (suc n) 1000000 e in record { sfits = omega arith }
