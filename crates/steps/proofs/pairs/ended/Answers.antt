use borrow.Author.Rules.{rules}
use mathlib.Core.Path.{refl, ap, ap₂, ◌∙◌}
use Prim.Native.Nat.{ℕ}
use native.Mathlib.Omega.{arith}
use lib.ListN.{length}
use Rattle.std.proofs.Common.{length-append}
use Rattle.std.proofs.lemmas.Slice.Zip.{zip_turn, zip_end}
use Rattle.sets.specs.Sets.{member, count}
use Rattle.steps.specs.Pairs.{ended_roles, pair_count}
use Rattle.steps.proofs.EndedPairs.{ended-next, ended-all}
use Rattle.steps.proofs.pairs.ended.Goals as goal

pub loop-roles-init : goal.loop-roles-init
unfolding pair_count
loop-roles-init c = (refl, omega arith)

pub loop-roles-preserved : goal.loop-roles-preserved
loop-roles-preserved c =
    let now = c.loop-roles in
    let before = c.args.before.now in
    let after = c.args.after.now in
    let turn = zip_turn before after now.yielded c.into_iter-roles-iterator.result now.roles-iterator c.next.new.self _ (search rules) (search rules) now.yielded_by (c.in-Some.roles, c.in-Some.kept) c.in-Some.is c.next.ensures.steps in
    let here = ap₂ (λ (roles kept : ℕ). count 32 (member (ended_roles roles kept))) (turn.2 0) (turn.3 0) in
    rw (length-append now.yielded)
    (ended-next before after (length now.yielded) _ _ turn.0 turn.1 now.invariant.0 (c.fewer-total.ensures.number ∙ here), omega (arith, c.fewer-total.ensures.small))

pub returns : goal.returns
returns c =
    let now = c.loop-roles in
    let end = zip_end c.args.before.now c.args.after.now now.yielded c.into_iter-roles-iterator.result now.roles-iterator c.next.new.self _ (search rules) (search rules) now.yielded_by c.in-None.is c.next.ensures.steps in
    now.invariant.0 ∙ ap pair_count (ended-all c.args.before.now c.args.after.now (length now.yielded) (omega arith))
