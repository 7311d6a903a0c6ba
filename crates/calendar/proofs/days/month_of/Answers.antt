use Prim.Native.Nat.{◌<◌}
use mathlib.Core.Path.{◌∙◌}
use native.Mathlib.Omega.{arith}
use Rattle.calendar.specs.Days.{month_start}
use Rattle.calendar.proofs.Months.{month-skip}
use Rattle.calendar.proofs.days.month_of.Goals as goal

pub loop-month-preserved : goal.loop-month-preserved
loop-month-preserved c =
    let args = c.args in
    let loop = c.loop-month in
    let later : args.rest < month_start args.leap loop.month = omega arith in
    let skip = month-skip args.leap args.rest loop.month loop.invariant.0 later in
    (omega (arith, skip.0), omega arith, skip.1 ∙ loop.invariant.2)
