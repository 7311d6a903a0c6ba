use Rattle.forms.specs.Forms.{scanned_as}
use Rattle.forms.proofs.Turns.{Scan}
use Rattle.forms.proofs.scanning.scan_form.Given as goal

abbrev pub invariant-loop-mark : goal.invariant-loop-mark
invariant-loop-mark l = Scan l.form l.text (scanned_as l.scanned.values l.scanned.count l.scanned.length) l.mark-index
