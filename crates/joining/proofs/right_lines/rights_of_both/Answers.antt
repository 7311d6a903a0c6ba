use Rattle.std.proofs.Common.{rules}
use Rattle.joining.proofs.Rights.{six_rights}
use Rattle.joining.proofs.right_lines.rights_of_both.Goals as goal

pub returns : goal.returns
returns c = search (rules, six_rights)
