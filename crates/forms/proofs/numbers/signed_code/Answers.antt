use mir.Syntax.{w64}
use mir.ValLaws.{to_z-of_z}
use Rattle.forms.proofs.Signs.{wide_fits, cast_same, below-fits, below_code, below-natural, above-natural, above-code}
use Rattle.forms.proofs.numbers.signed_code.Goals as goal

pub overflow_cast-wide : goal.overflow_cast-wide
overflow_cast-wide c = wide_fits _ c.ranges.number

pub overflow_sub-result : goal.overflow_sub-result
overflow_sub-result c = rw (cast_same _ c.ranges.number) (below-fits _ c.ranges.number (rw (cast_same _ c.ranges.number) at c.if-wide-lt0.true))

pub overflow_cast-result : goal.overflow_cast-result
overflow_cast-result c =
    let h = rw (cast_same _ c.ranges.number) at c.if-wide-lt0.true in
    rw (cast_same _ c.ranges.number, to_z-of_z w64 _ (below-fits _ c.ranges.number h)) (below-natural _ c.ranges.number h)

pub returns-then-wide-lt0 : goal.returns-then-wide-lt0
returns-then-wide-lt0 c =
    let h = rw (cast_same _ c.ranges.number) at c.if-wide-lt0.true in
    rw (cast_same _ c.ranges.number, to_z-of_z w64 _ (below-fits _ c.ranges.number h)) (below_code _ c.ranges.number h)

pub overflow_cast-result-2 : goal.overflow_cast-result-2
overflow_cast-result-2 c = rw (cast_same _ c.ranges.number) (above-natural _ c.ranges.number (rw (cast_same _ c.ranges.number) at c.if-wide-lt0.false))

pub returns : goal.returns
returns c = rw (cast_same _ c.ranges.number) (above-code _ c.ranges.number (rw (cast_same _ c.ranges.number) at c.if-wide-lt0.false))
