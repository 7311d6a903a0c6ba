use mir.Facts.{to_z-of_z}
use Rattle.rule_text.proofs.lines.box_line.Goals as goal

pub returns : goal.returns
returns c = simp (c.full_line.ensures, c.signed_code-4.ensures, c.signed_code-3.ensures, c.signed_code-2.ensures, c.signed_code.ensures, to_z-of_z, c.ranges.left, c.ranges.bottom, c.ranges.right, c.ranges.top)
