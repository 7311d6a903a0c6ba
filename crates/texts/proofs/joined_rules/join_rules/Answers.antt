use mathlib.Core.Path.{refl, ap, ◌∙◌}
use lib.ListN.{length}
use Rattle.rule_text.specs.Reading.{LoadedRules}
use Rattle.rule_text.proofs.Loaded.{refusal-number}
use Rattle.texts.proofs.JoinedTexts.{first-unread, first_read, read_whole}
use Rattle.texts.proofs.joined_rules.join_rules.Goals as goal

pub join_text-requires : goal.join_text-requires
join_text-requires c = ap (λ (l : LoadedRules). length l.list.rights) c.in-Ok.ensures ∙ (read_whole _).1

pub returns-in-Ok-clause-given : goal.returns-in-Ok-clause-given
returns-in-Ok-clause-given c = first_read c.in-Ok.ensures refl _ _ _ c.join_text.ensures.given

pub returns-in-Err-clause-given : goal.returns-in-Err-clause-given
returns-in-Err-clause-given c = first-unread c.in-Err.ensures (refusal-number _) c.of_line.ensures.given _ _ _
