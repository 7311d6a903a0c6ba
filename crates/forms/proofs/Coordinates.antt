-- Values as coordinates, there and back, and the text of a number below 0. Assumes nothing.
use mathlib.Core.Path.{◌≡◌, refl}
use mathlib.Core.Bool.{Bool, true, false, cond}
use Prim.Native.Nat.{ℕ, suc, ◌+◌, ◌-◌, ◌≤◌}
use native.Mathlib.Omega.{arith}
use lib.Dec.{ltb, leb}
use lib.IntN.{ℤ, pos, negsuc, nat_abs}
use borrow.Author.Tests.{ltb-true, leb-true, lt-ltb, le-ltb, le-leb}
use Rattle.places.specs.Places.{on_grid}
use Rattle.forms.specs.Numbers.{signed_of, integer_text, signed_value, signed_code, coordinate_of}
use Rattle.forms.specs.Kinds.{amount_of}

-- on the grid a coordinate is what its value says
pub coordinate-back : (z : ℤ) → on_grid z ≡ true → coordinate_of (signed_code z) ≡ z
unfolding coordinate_of signed_value signed_code
coordinate-back (pos n) h =
    let l = leb-true n 1000000 h in
    rw (lt-ltb n 10000000000 (omega arith), h)
coordinate-back (negsuc n) h =
    let l = leb-true (suc n) 1000000 h in
    let e : 10000000001 + n - 10000000000 ≡ suc n = omega arith in
    rw (le-ltb (10000000001 + n) 10000000000 (omega arith), lt-ltb (10000000001 + n) 20000000000 (omega arith), e, h)

-- and it is on the grid, whatever the value
pub coordinate-grid : (v : ℕ) → on_grid (coordinate_of v) ≡ true
unfolding coordinate_of
coordinate-grid v = by-grid (on_grid (signed_value v)) refl
  where
    by-grid : (b : Bool) → on_grid (signed_value v) ≡ b → on_grid (cond b (signed_value v) (pos 0)) ≡ true
    by-grid true e = e
    by-grid false e = refl

-- as the code reads one
pub coordinate-off : (v : ℕ) → on_grid (signed_value v) ≡ false → pos 0 ≡ coordinate_of v
unfolding coordinate_of
coordinate-off v e = rw e

pub coordinate-on : (v : ℕ) → on_grid (signed_value v) ≡ true → signed_value v ≡ coordinate_of v
unfolding coordinate_of
coordinate-on v e = rw e

-- the value of a coordinate in its range
pub code-back : (v : ℕ) → leb (amount_of v) 1000000 ≡ true → signed_code (coordinate_of v) ≡ v
unfolding amount_of coordinate_of signed_value signed_code
code-back v h = by_sign (ltb 10000000000 v) refl
  where
    high : ltb 10000000000 v ≡ true → signed_code (cond (on_grid (signed_value v)) (signed_value v) (pos 0)) ≡ v
    high e =
        let l = ltb-true 10000000000 v e in
        let m = leb-true (v - 10000000000) 1000000 (rw e at h) in
        let d : v - 10000000000 ≡ suc (v - 10000000001) = omega arith in
        rw (le-ltb v 10000000000 (omega arith), lt-ltb v 20000000000 (omega arith), d, le-leb (suc (v - 10000000001)) 1000000 (omega arith)) (omega arith)

    low : ltb 10000000000 v ≡ false → signed_code (cond (on_grid (signed_value v)) (signed_value v) (pos 0)) ≡ v
    low e =
        let m = leb-true v 1000000 (rw e at h) in
        rw (lt-ltb v 10000000000 (omega arith), le-leb v 1000000 m)

    by_sign : (negative : Bool) → ltb 10000000000 v ≡ negative → signed_code (cond (on_grid (signed_value v)) (signed_value v) (pos 0)) ≡ v
    by_sign true e = high e
    by_sign false e = low e

-- a coordinate on the grid is in its range
pub code-range : (z : ℤ) → on_grid z ≡ true → leb (amount_of (signed_code z)) 1000000 ≡ true
unfolding amount_of signed_code
code-range (pos n) h = let l = leb-true n 1000000 h in rw (le-ltb 10000000000 n (omega arith)) h
code-range (negsuc n) h =
    let l = leb-true (suc n) 1000000 h in
    let e : 10000000001 + n - 10000000000 ≡ suc n = omega arith in
    rw (lt-ltb 10000000000 (10000000001 + n) (omega arith), e) h

-- a number of at most ten digits, held as a value and written, is its own text
pub signed-text : (z : ℤ) → nat_abs z ≤ 9999999999 → signed_of (signed_code z) ≡ integer_text z
unfolding signed_of signed_code
signed-text (pos n) short = rw (le-ltb 10000000000 n (omega arith))
signed-text (negsuc n) short =
    let e : 10000000001 + n - 10000000000 ≡ suc n = omega arith in
    rw (lt-ltb 10000000000 (10000000001 + n) (omega arith), e)
