use mathlib.Core.Path.{ap, ◌∙◌}
use native.Mathlib.Nat.{zero-add}
use lib.ListN.{length}
use Rattle.forms.specs.Writing.{capped}
use Rattle.state_text.specs.Entries.{line_text}
use Rattle.state_text.proofs.measuring.line_length.Goals as goal

pub returns : goal.returns
returns c = c.write_line.ensures.next ∙ ap capped (zero-add (length (line_text c.args.entry)))
