-- Weekdays: from 1 to 7, one after the other; the weekday before, and the one that a moment of a shift counts for.
-- Assumes nothing.
use mathlib.Core.Path.{◌≡◌, refl, sym}
use mathlib.Core.Bool.{Bool, true, false, cond}
use mathlib.Core.Logic.{◌↔◌, inl, inr, ⊎_elim}
use Prim.Native.Nat.{ℕ, ◌+◌, ◌-◌, ◌*◌, ◌%◌, ◌≤◌}
use native.Mathlib.Nat.{eq-or-lt_of_le}
use native.Mathlib.Omega.{arith}
use borrow.Author.Tests.{eqb-true, eqb-false}
use lib.Dec.{eqb}
use Rattle.calendar.specs.Days.{weekday_of}
use Rattle.calendar.specs.Terms.{weekday_before, counted_weekday}
use Rattle.calendar.specs.Statements.{WeekdayBefore}

-- 2026-03, with minutes of the day 360 (06:00) and 1320 (22:00): in a shift from 22:00 to 06:00 a Saturday, day 9660, counts at 01:00 for Friday and
-- at 22:00 for itself; in one from 06:00 to 22:00 it counts for itself at 01:00 too; and in the first a Monday, day 9655, counts at 01:00 for Sunday.
pub counted-weekdays :
    (counted_weekday 1320 360 (9660 * 86400 + 3600) ≡ 5) × (counted_weekday 1320 360 (9660 * 86400 + 79200) ≡ 6)
    × (counted_weekday 360 1320 (9660 * 86400 + 3600) ≡ 6) × (counted_weekday 1320 360 (9655 * 86400 + 3600) ≡ 7)
unfolding counted_weekday
counted-weekdays = (refl, refl, refl, refl)

-- Each day has one of the seven weekdays.
pub weekday-range : (day : ℕ) → (1 ≤ weekday_of day) × (weekday_of day ≤ 7)
weekday-range day = (omega arith, omega arith)

-- Seven days later it is the same weekday.
pub weekday-week : (day : ℕ) → weekday_of (day + 7) ≡ weekday_of day
weekday-week day = omega arith

-- The next day has the next weekday, and after 7 comes 1.
pub weekday-next : (day : ℕ) → weekday_of (day + 1) ≡ weekday_of day % 7 + 1
weekday-next day = omega arith

-- The weekday before is 7 where it is 1, else one less.
pub weekday-before-means : (weekday before : ℕ) → 1 ≤ weekday → (weekday_before weekday ≡ before) ↔ WeekdayBefore weekday before
weekday-before-means weekday before positive = by-monday (eqb weekday 1) refl
  where
    by-monday : (monday : Bool) → eqb weekday 1 ≡ monday → (cond monday 7 (weekday - 1) ≡ before) ↔ WeekdayBefore weekday before
    by-monday true known =
        let one = eqb-true weekday 1 known in
        (λ same. inl (one, sym same), ⊎_elim (λ found. sym found.1) (λ found. absurd (omega (arith, found.0, one))))
    by-monday false known =
        let other = eqb-false weekday 1 known in
        (λ same. inr (omega (arith, positive, other), omega (arith, same, positive)), ⊎_elim (λ found. absurd (other found.0)) (λ found. omega (arith, found.1)))

-- Day 0 is a Saturday, and the weekday before it is Friday.
pub weekday-before-first : weekday_before (weekday_of 0) ≡ 5
weekday-before-first = refl

-- The weekday before is that of the day before.
pub weekday-before-next : (day : ℕ) → weekday_before (weekday_of (day + 1)) ≡ weekday_of day
weekday-before-next day =
    (weekday-before-means (weekday_of (day + 1)) (weekday_of day) (weekday-range (day + 1)).0).1
    (⊎_elim (λ monday. inl (sym monday, omega (arith, monday))) (λ later. inr (later, omega (arith, later)))
    (eq-or-lt_of_le (weekday-range (day + 1)).0))
