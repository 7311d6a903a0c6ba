use mathlib.Core.Path.{refl}
use native.Mathlib.Omega.{arith}
use Rattle.rule_text.specs.Lines.{right_lines}
use Rattle.texts.proofs.JoinedTexts.{counted-turn, counted-end}
use Rattle.texts.proofs.joined_rules.lines_before.Goals as goal

pub loop-slot-init : goal.loop-slot-init
unfolding right_lines
loop-slot-init c = record { last = omega arith; few = omega arith; same = refl }

pub overflow_add-lines : goal.overflow_add-lines
overflow_add-lines c = omega (arith, c.loop-slot.invariant.few, c.loop-slot.invariant.last, c.line_count-lines.ensures.1)

pub loop-slot-preserved : goal.loop-slot-preserved
loop-slot-preserved c = counted-turn c.loop-slot.invariant (omega arith) (omega arith) c.line_count-lines.ensures.0 c.line_count-lines.ensures.1

pub returns : goal.returns
returns c = counted-end _ c.loop-slot.invariant c.loop-slot-test.false c.requires
