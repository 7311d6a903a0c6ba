use Rattle.enforcement.specs.Deciding.{RuledOut}
use Rattle.enforcement.proofs.plans.rule_out.Given as goal

abbrev pub invariant-loop-i : goal.invariant-loop-i
invariant-loop-i l = RuledOut l.i l.initial.out l.state.sessions l.state.active l.role l.side l.out
