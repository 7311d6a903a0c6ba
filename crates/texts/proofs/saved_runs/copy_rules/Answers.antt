use Rattle.rule_text.proofs.Back.{read-accepted}
use Rattle.texts.proofs.ListWriting.{list-given}
use Rattle.texts.proofs.saved_runs.copy_rules.Goals as goal

pub write_list-requires : goal.write_list-requires
write_list-requires c = rw c.read_rules.ensures (read-accepted _)

pub returns-clause-given : goal.returns-clause-given
returns-clause-given c = list-given _ _ _ _ c.read_rules.ensures c.write_list.ensures.given
