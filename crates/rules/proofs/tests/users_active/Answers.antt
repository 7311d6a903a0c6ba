use borrow.Author.Rules.{rules}
use mathlib.Core.Path.{sym, ap, ap₂, ◌∙◌}
use Prim.Native.Nat.{ℕ}
use lib.ListN.{length}
use Rattle.std.proofs.lemmas.Slice.Zip.{zip_turn}
use Rattle.std.proofs.Common.{length-append}
use Rattle.sets.specs.Sets.{with}
use Rattle.rules.specs.Families.{closed_session}
use Rattle.rules.specs.declared.sessions.Session.{Session}
use Rattle.rules.proofs.Steps.{active_users, user-more}
use Rattle.rules.proofs.tests.users_active.Goals as goal

pub loop-session-preserved-then-contains : goal.loop-session-preserved-then-contains
loop-session-preserved-then-contains c =
    let turn = zip_turn c.args.sessions.now c.args.active.now c.loop-session.yielded c.into_iter-session-iterator.result c.loop-session.session-iterator c.next.new.self _ (search rules) (search rules) c.loop-session.yielded_by (c.in-Some.session, c.in-Some.roles) c.in-Some.is c.next.ensures.steps in
    c.with-users.ensures
    ∙ ap₂ (λ (n : ℕ) (session : Session). with 64 n session.user) c.loop-session.invariant (turn.2 closed_session)
    ∙ user-more c.args.sessions.now c.args.active.now c.args.role (length c.loop-session.yielded) (rw (← turn.3 0) (sym c.contains.ensures.member ∙ c.if-contains.true))
    ∙ ap (active_users c.args.sessions.now c.args.active.now c.args.role) (sym (length-append _ _))
