use mathlib.Core.Path.{◌≡◌, refl, sym, ◌∙◌}
use mathlib.Core.Bool.{true}
use native.Mathlib.Omega.{arith}
use lib.ListN.{length}
use Rattle.forms.proofs.Puts.{measured, placed}
use Rattle.rules.specs.Acceptance.{list_accepted}
use Rattle.rule_text.specs.Writing.{written_rules, lent_after_rules}
use Rattle.rule_text.proofs.Texts.{text-short}
use Rattle.rule_text.proofs.writing.write_rules.Goals as goal

pub returns-then-not-is_accepted : goal.returns-then-not-is_accepted
unfolding written_rules lent_after_rules
returns-then-not-is_accepted c = rw (sym c.is_accepted.ensures ∙ c.if-not-is_accepted.true) (refl, refl)

pub returns-then-out-needed : goal.returns-then-out-needed
unfolding written_rules lent_after_rules
returns-then-out-needed c =
    let accepted : list_accepted c.args.list ≡ true = sym c.is_accepted.ensures ∙ c.if-not-is_accepted.false in
    let six : length c.args.list.rights ≡ 6 = omega arith in
    rw accepted (measured c.put_list-needed.new.out _ (text-short c.args.list six accepted) c.put_list-needed.auto.out c.put_list-needed.ensures c.if-out-needed.true)

pub returns : goal.returns
unfolding written_rules lent_after_rules
returns c =
    let accepted : list_accepted c.args.list ≡ true = sym c.is_accepted.ensures ∙ c.if-not-is_accepted.false in
    let six : length c.args.list.rights ≡ 6 = omega arith in
    rw accepted (placed c.put_list-needed.new.out _ (text-short c.args.list six accepted) c.put_list-needed.auto.out c.put_list-needed.ensures c.if-out-needed.false c.put_list.ensures)
