use mathlib.Core.Path.{◌≡◌, sym, ◌∙◌}
use mathlib.Core.Bool.{true}
use lib.ListN.{length}
use native.Mathlib.Omega.{arith}
use Rattle.forms.proofs.Puts.{measure}
use Rattle.rules.specs.Acceptance.{list_accepted}
use Rattle.rule_text.specs.Writing.{rules_length}
use Rattle.rule_text.proofs.Texts.{text-short}
use Rattle.rule_text.proofs.writing.rules_length.Goals as goal

pub returns-then-not-is_accepted : goal.returns-then-not-is_accepted
unfolding rules_length
returns-then-not-is_accepted c = rw (sym c.is_accepted.ensures ∙ c.if-not-is_accepted.true)

pub returns : goal.returns
unfolding rules_length
returns c =
    let accepted : list_accepted c.args.list ≡ true = sym c.is_accepted.ensures ∙ c.if-not-is_accepted.false in
    let six : length c.args.list.rights ≡ 6 = omega arith in
    rw accepted (measure (text-short _ six accepted) c.put_list.ensures)
