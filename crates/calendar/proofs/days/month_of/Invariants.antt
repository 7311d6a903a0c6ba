use Prim.Native.Nat.{◌≤◌}
use mathlib.Core.Path.{◌≡◌}
use Rattle.calendar.specs.Days.{month_of}
use Rattle.calendar.proofs.Months.{month_up_to}
use Rattle.calendar.proofs.days.month_of.Given as goal

abbrev pub invariant-loop-month : goal.invariant-loop-month
invariant-loop-month l = (1 ≤ l.month) × (l.month ≤ 12) × (month_up_to l.leap l.rest l.month ≡ month_of l.leap l.rest)

abbrev pub decreases-loop-month : goal.decreases-loop-month
decreases-loop-month l = l.month
