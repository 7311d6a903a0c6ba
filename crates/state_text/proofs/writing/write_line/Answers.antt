use Rattle.forms.proofs.Index.{index-line}
use Rattle.state_text.specs.Entries.{saved_forms, line_text}
use Rattle.state_text.proofs.Values.{form_starts, index-right}
use Rattle.state_text.proofs.writing.write_line.Goals as goal

pub returns : goal.returns
unfolding saved_forms line_text
returns c = rw (← c.values.ensures, ← c.form.ensures, ← index-line saved_forms form_starts index-right) c.write_line.ensures
