use Rattle.state_text.proofs.LineTexts.{line-ranged}
use Rattle.state_text.proofs.reading.next_line.Goals as goal

pub rank-requires : goal.rank-requires
rank-requires c = line-ranged _ c.scan_line.ensures c.in_ok-parsed.was

pub rests-requires : goal.rests-requires
rests-requires c = (line-ranged _ c.scan_line.ensures c.in_ok-parsed.was, c.requires)
