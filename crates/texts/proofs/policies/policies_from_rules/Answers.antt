use mathlib.Core.Path.{refl, ap, ◌∙◌}
use Prim.Native.Nat.{ℕ}
use Rattle.policy_text.specs.Writing.{number_of}
use Rattle.texts.specs.SavedRuns.{refused_report}
use Rattle.rule_text.proofs.Back.{read-accepted}
use Rattle.rule_text.proofs.Loaded.{refusal-number}
use Rattle.texts.proofs.ListWriting.{unread, policies-refused, policies-written}
use Rattle.texts.proofs.policies.policies_from_rules.Goals as goal

pub returns-in-Err-clause-given : goal.returns-in-Err-clause-given
returns-in-Err-clause-given c = unread c.in-Err.ensures _ (refusal-number _) c.of_line.ensures.given

pub returns-in-Ok-write_policies-clause-given : goal.returns-in-Ok-write_policies-clause-given
returns-in-Ok-write_policies-clause-given c =
    let written = c.in-Ok-write_policies.ensures in
    policies-written c.in-Ok.ensures _ (read-accepted _) refl written.1 _ written.0 refl

pub returns-in-Err-write_policies-clause-given : goal.returns-in-Err-write_policies-clause-given
returns-in-Err-write_policies-clause-given c =
    let written = c.in-Err-write_policies.ensures in
    let text = rw c.number.ensures at c.refused_text.ensures in
    let report =
    ap (λ (n : ℕ). refused_report c.refused_text.result n c.place.result) c.number-in-Err-write_policies.ensures
    ∙ ap (λ (n : ℕ). refused_report c.refused_text.result (number_of c.in-Err-write_policies.refusal) n) c.place.ensures in
    policies-refused c.in-Ok.ensures _ (read-accepted _) refl written.1 _ _ written.0 text report
