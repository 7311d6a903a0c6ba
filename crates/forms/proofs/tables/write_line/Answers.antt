use Rattle.forms.proofs.tables.write_line.Goals as goal

pub returns : goal.returns
returns c = rw (← c.line_at.ensures) c.put_form.ensures
