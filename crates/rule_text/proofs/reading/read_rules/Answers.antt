use Rattle.rule_text.proofs.Loaded.{load-refused, load-all}
use Rattle.rule_text.proofs.reading.read_rules.Goals as goal

pub returns-in-Some : goal.returns-in-Some
returns-in-Some c = load-refused _ _ c.read_prefix-prefix.ensures _ c.in-Some.is

pub returns : goal.returns
returns c = load-all _ _ c.read_prefix-prefix.ensures c.in_default.is
