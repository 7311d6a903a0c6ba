use native.Mathlib.Omega.{arith}
use Rattle.forms.proofs.Puts.{then}
use Rattle.rule_text.proofs.writing.put_list.Goals as goal

pub returns : goal.returns
returns c = then (omega arith) c.put_rights-at.ensures c.put_rules.ensures
