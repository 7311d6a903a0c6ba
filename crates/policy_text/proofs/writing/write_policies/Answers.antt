use Rattle.std.proofs.Common.{◌≡◌, ◌≤◌, true, length, sym, ◌∙◌, None}
use Rattle.forms.specs.Writing.{last_place}
use Rattle.forms.proofs.Puts.{measure, measured, placed}
use Rattle.rules.specs.Acceptance.{list_accepted}
use Rattle.policy_text.specs.Writing.{without_policy, policies_text}
use Rattle.policy_text.proofs.Fitting.{policies-short, too_long, long-enough}
use Rattle.policy_text.proofs.writing.write_policies.Goals as goal

pub returns-then-out-needed : goal.returns-then-out-needed
returns-then-out-needed c =
    let accepted : list_accepted c.args.list ≡ true = sym c.is_accepted.ensures ∙ c.if-not-is_accepted.false in
    let nothing : without_policy c.args.list ≡ None = sym c.without_policy.ensures ∙ c.in_default.is in
    let short : length (policies_text c.args.list) ≤ last_place = policies-short c.args.list accepted in
    let p = c.put_policies-needed in
    too_long _ _ accepted nothing (measure short p.ensures) (measured p.new.out _ short p.auto.out p.ensures c.if-out-needed.true)

pub returns : goal.returns
returns c =
    let accepted : list_accepted c.args.list ≡ true = sym c.is_accepted.ensures ∙ c.if-not-is_accepted.false in
    let nothing : without_policy c.args.list ≡ None = sym c.without_policy.ensures ∙ c.in_default.is in
    let short : length (policies_text c.args.list) ≤ last_place = policies-short c.args.list accepted in
    let p = c.put_policies-needed in
    long-enough _ _ accepted nothing (placed p.new.out _ short p.auto.out p.ensures c.if-out-needed.false c.put_policies.ensures)
