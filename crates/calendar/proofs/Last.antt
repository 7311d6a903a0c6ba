-- The last number that has started by a day: how a search from above finds it, and that it is the one whose span has the day.
-- Assumes nothing.
use mathlib.Core.Path.{◌≡◌, refl}
use mathlib.Core.Bool.{Bool, true, false}
use Prim.Native.Nat.{ℕ, zero, suc, ◌-◌, ◌<◌, ◌≤◌}
use native.Mathlib.Decide.{ℕ_discrete}
use native.Mathlib.Numerals.{sub-one}
use native.Mathlib.Omega.{arith}
use borrow.Author.Tests.{le-leb, lt-leb, leb-true, leb-false}
use lib.Dec.{leb}
use Rattle.calendar.specs.Days.{last_started}

-- A number that has not started is passed over.
pub last-skip : (start : ℕ → ℕ) (day k : ℕ) → 1 ≤ k → day < start k → last_started start day (k - 1) ≡ last_started start day k
unfolding last_started
last-skip start day zero positive later = absurd (omega arith)
last-skip start day (suc k) positive later = simp (lt-leb _ _ later, sub-one)

-- One that has started is the last.
pub last-stop : (start : ℕ → ℕ) (day k : ℕ) → start k ≤ day → last_started start day k ≡ k
unfolding last_started
last-stop start day zero started = refl
last-stop start day (suc k) started = simp (le-leb _ _ started)

-- The number m is one of 0 to k, and the day is in its span.
pub record Contains (start end : ℕ → ℕ) (k day m : ℕ) : Type 0 where
  pub high : m ≤ k
  pub started : start m ≤ day
  pub ended : day < end m

-- The spans of 0 to k follow on each other.
pub record Adjoin (start end : ℕ → ℕ) (k : ℕ) : Type 0 where
  pub next : (m : ℕ) → m < k → end m ≡ start (suc m)
  pub grows : (m : ℕ) → m ≤ k → start m ≤ end m

module _ {start end : ℕ → ℕ} {k : ℕ} (spans : Adjoin start end k) where
  later-by : (m n : ℕ) → m < suc n → suc n ≤ k → (m < n → end m ≤ start n) → Dec (m ≡ n) → end m ≤ start (suc n)
  later-by m n less high before (yes same) = rw same (omega (arith, spans.next n high))
  later-by m n less high before (no other) = omega (arith, before (omega arith), spans.grows n (omega arith), spans.next n high)

  -- A span ends before a later one starts.
  pub later : (m n : ℕ) → m < n → n ≤ k → end m ≤ start n
  later m zero less high = absurd (omega arith)
  later m (suc n) less high = later-by m n less high (λ before. later m n before (omega arith)) (ℕ_discrete m n)

  found-by : (day n : ℕ) (test : Bool) → leb (start (suc n)) day ≡ test → suc n ≤ k → day < end (suc n) → (day < end n → Contains start end n day (last_started start day n)) → Contains start end (suc n) day (last_started start day (suc n))
  unfolding last_started
  found-by day n true tested high ended lower =
      simp tested (record { high = omega arith; started = leb-true (start (suc n)) day tested; ended = ended })
  found-by day n false tested high ended lower =
      let inner = lower (omega (arith, leb-false (start (suc n)) day tested, spans.next n high)) in
      simp tested (record { high = omega arith; started = inner.started; ended = inner.ended })

  found-to : (day n : ℕ) → n ≤ k → start 0 ≤ day → day < end n → Contains start end n day (last_started start day n)
  unfolding last_started
  found-to day zero high started ended = record { high = omega arith; started = started; ended = ended }
  found-to day (suc n) high started ended =
      found-by day n (leb (start (suc n)) day) refl high ended (found-to day n (omega arith) started)

  -- The last that has started has the day in its span.
  pub found : (day : ℕ) → start 0 ≤ day → day < end k → Contains start end k day (last_started start day k)
  found day started ended = found-to day k (omega arith) started ended

  only-by : (day m n : ℕ) (test : Bool) → leb (start (suc n)) day ≡ test → suc n ≤ k → Contains start end (suc n) day m → (m ≤ n → last_started start day n ≡ m) → Dec (m ≡ suc n) → last_started start day (suc n) ≡ m
  unfolding last_started
  only-by day m n true tested high has lower (yes same) = simp (tested, same)
  only-by day m n true tested high has lower (no other) =
      absurd (omega (arith, leb-true (start (suc n)) day tested, has.ended, has.high, later m (suc n) (omega arith) high))
  only-by day m n false tested high has lower (yes same) =
      absurd (omega (arith, leb-false (start (suc n)) day tested, rw same at has.started))
  only-by day m n false tested high has lower (no other) = simp tested (lower (omega arith))

  only-to : (day m n : ℕ) → n ≤ k → Contains start end n day m → last_started start day n ≡ m
  unfolding last_started
  only-to day m zero high has = omega arith
  only-to day m (suc n) high has =
      only-by day m n (leb (start (suc n)) day) refl high has
      (λ lower. only-to day m n (omega arith) (record { high = lower; started = has.started; ended = has.ended })) (ℕ_discrete m (suc n))

  -- And no other has.
  pub only : (day m : ℕ) → Contains start end k day m → last_started start day k ≡ m
  only day m has = only-to day m k (omega arith) has
