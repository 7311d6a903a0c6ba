use mir.Facts.{to_z-of_z}
use Rattle.rule_text.proofs.lines.circle_line.Goals as goal

pub returns : goal.returns
returns c = simp (c.full_line.ensures, c.signed_code-2.ensures, c.signed_code.ensures, to_z-of_z, c.ranges.x, c.ranges.y)
