use Rattle.std.proofs.Common.{◌≤◌, ℕ, length, sym, ap, ◌∙◌, arith}
use Rattle.std.proofs.Math.ListN.{replicate, length-replicate, length-take}
use Rattle.sets.proofs.Booleans.{both}
use Rattle.rules.specs.Acceptance.{list_accepted}
use Rattle.steps.specs.declared.answers.Answer.TheVariants.{Refused}
use Rattle.enforcement.specs.States.{state_accepted}
use Rattle.enforcement.specs.Reached.{Accepted}
use Rattle.enforcement.specs.Batches.{entry_of, unanswered}
use Rattle.enforcement.specs.declared.batches.Entry.{Entry}
use Rattle.enforcement.proofs.Batching.{batch-refused, batch-ended}
use Rattle.enforcement.proofs.Running.{state-none, values-none, state-next, values-next}
use Rattle.enforcement.proofs.Typing.{typed-state}
use Rattle.enforcement.proofs.states.State.run_batch.Goals as goal

pub returns-then-not-is_accepted_under : goal.returns-then-not-is_accepted_under
returns-then-not-is_accepted_under c =
    ap (λ (n : ℕ). record { state = c.args.self; entries = replicate 32 (record { answer = Refused n }) }) c.number.ensures
    ∙ batch-refused c.args.list c.args.self (sym c.is_accepted_under.ensures ∙ c.if-not-is_accepted_under.true) c.args.batch (omega arith)

pub loop-i-init : goal.loop-i-init
loop-i-init c = (
  sym (state-none c.args.list c.args.self c.used-step-items.result.now),
  ap (λ (n : ℕ). replicate 32 (record { answer = Refused n })) c.number.ensures ∙ sym (values-none c.args.list c.args.self c.used-step-items.result.now entry_of unanswered),
)

pub loop-i-preserved : goal.loop-i-preserved
loop-i-preserved c =
    let each = both (list_accepted c.args.list) (state_accepted c.args.self) (sym c.is_accepted_under.ensures ∙ c.if-not-is_accepted_under.false) in
    let accepted : Accepted c.args.self = record { typed = typed-state c.args.self _ c.well_formed.0; unrefused = each.1 } in
    let few : length c.used-step-items.result.now ≤ 32 = rw c.used-step-items.ensures (omega (arith, length-take c.args.batch.length c.args.batch.steps)) in
    let room : length c.used-step-items.result.now ≤ length unanswered = omega (arith, length-replicate {A = Entry} 32 (record { answer = Refused 40 })) in (
      state-next _ _ _ each.0 accepted _ _ _ _ c.loop-i-test.true c.loop-i.invariant.0 c.decide.ensures,
      values-next _ _ _ each.0 accepted _ _ _ _ c.loop-i-test.true c.loop-i.invariant.0 c.decide.ensures entry_of _ _ room c.loop-i.invariant.1,
    )

pub returns : goal.returns
returns c = batch-ended c.args.list c.args.self c.args.batch _ _ _ c.loop-i.i c.used-step-items.ensures (omega arith) c.loop-i.invariant.0 c.loop-i.invariant.1
