use Rattle.policy_text.proofs.Back.{read-accepted}
use Rattle.texts.proofs.ListWriting.{list-given}
use Rattle.texts.proofs.policies.rules_from_policies.Goals as goal

pub write_list-requires : goal.write_list-requires
write_list-requires c = rw c.read_policies.ensures (read-accepted _)

pub returns-clause-given : goal.returns-clause-given
returns-clause-given c = list-given _ _ _ _ c.read_policies.ensures c.write_list.ensures.given
