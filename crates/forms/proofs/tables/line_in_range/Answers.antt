use Rattle.forms.proofs.tables.line_in_range.Goals as goal

pub returns : goal.returns
returns c = rw (← c.line_at.ensures) c.values_in_range.ensures
