use mathlib.Core.Path.{sym, ap, ◌∙◌}
use mathlib.Core.Logic.{inl}
use Rattle.rules.specs.Acceptance.{rules_of}
use Rattle.loans.specs.declared.Loans.{Loans}
use Rattle.enforcement.specs.Steps.{with_loans}
use Rattle.enforcement.specs.Deciding.{request_of}
use Rattle.enforcement.proofs.EndedPairs.{none-ended}
use Rattle.enforcement.proofs.RequestLaws.{request-granted, request-broken}
use Rattle.enforcement.proofs.states.State.add_loan.Goals as goal

pub returns : goal.returns
returns c =
    let s = c.args.self.now in
    rw c.granted.ensures (request-granted _ s (with_loans s c.with-self.result) _ _ _ c.judge-judged.ensures (inl c.held-held.ensures) _ c.in_default.is (sym (none-ended _)))
    ∙ ap (λ (loans : Loans). request_of (rules_of c.args.list.now) s c.args.action (with_loans s loans)) c.with-self.ensures

pub returns-in-Some : goal.returns-in-Some
returns-in-Some c =
    let s = c.args.self.now in
    rw c.broken.ensures (request-broken _ s (with_loans s c.with-self.result) _ _ _ c.judge-judged.ensures (inl c.held-held.ensures) _ c.in-Some.is)
    ∙ ap (λ (loans : Loans). request_of (rules_of c.args.list.now) s c.args.action (with_loans s loans)) c.with-self.ensures
