use mathlib.Core.Path.{◌≡◌, sym, ap, subst, ◌∙◌}
use mathlib.Core.List.{map}
use native.Mathlib.Omega.{arith}
use Prim.Native.Nat.{ℕ, ◌^◌, ◌≤◌, ◌<◌}
use lib.ListN.{length}
use Rattle.sets.specs.Sets.{union_of}
use Rattle.rules.specs.Families.{word_at}
use Rattle.std.proofs.lemmas.Grind.{common_steps}
use lib.Seq.{take_all}
use Rattle.rules.specs.Acceptance.{rule_of, rules_of}
use Rattle.selection.proofs.Judgement.{first_rules}
use Rattle.enforcement.proofs.Planning.{adds-idle, planned-none, planned-selected, planned-unselected, planned-small, planned-told}
use Rattle.enforcement.proofs.Settling.{live-small, plan-settles}
use Rattle.enforcement.proofs.states.State.plan_of.Goals as goal
use Rattle.enforcement.proofs.states.State.plan_of.Goals.{then-is_chosen+then-contains, then-is_chosen+else-contains, else-is_chosen}

pub loop-slot-init : goal.loop-slot-init
loop-slot-init c = rw c.none-plan.ensures (planned-none _ _ c.used-slot-items.result.now)

pub overflow_add-plan : goal.overflow_add-plan
overflow_add-plan c = let few : c.loop-slot.plan.selected ≤ c.loop-slot.slot-index = planned-small _ _ c.used-slot-items.result.now c.loop-slot.slot-index c.loop-slot.plan (omega arith) c.loop-slot.invariant in grind (arith, common_steps)

pub loop-slot-preserved : goal.loop-slot-preserved
loop-slot-preserved c =
    let now = c.loop-slot in
    elim c.if-is_chosen.branch [
      | then-is_chosen+then-contains w ↦ rw w.plan-is (planned-selected _ _ _ now.slot-index _ now.plan c.loop-slot-test.true now.invariant (sym c.is_chosen.ensures ∙ w.if-is_chosen.true) _ w.add.ensures)
      | then-is_chosen+else-contains w ↦
          let idle = rw (c.active_somewhere-live.ensures, w.first_of.ensures) at (sym w.contains.ensures.member ∙ w.if-contains.false) in
          rw w.plan-is (planned-selected _ _ _ now.slot-index _ now.plan c.loop-slot-test.true now.invariant (sym c.is_chosen.ensures ∙ w.if-is_chosen.true) _ (adds-idle _ _ now.invariant.outs now.invariant.lacks _ idle))
      | else-is_chosen w ↦ rw w.plan-is (planned-unselected _ _ _ now.slot-index _ now.plan c.loop-slot-test.true now.invariant (sym c.is_chosen.ensures ∙ w.if-is_chosen.false))
    ]

pub returns : goal.returns
returns c =
    let s = c.args.self.now in
    let all : first_rules c.loop-slot.slot-index c.used-slot-items.result.now ≡ rules_of c.args.list.now =
    ap (map rule_of) (take_all c.loop-slot.slot-index c.used-slot-items.result.now (omega arith) ∙ c.used-slot-items.ensures) in
    let planned = planned-told _ _ c.choice_of-choice.ensures _ _ _ (rw all at c.loop-slot.invariant) in
    let long : length s.active ≡ 32 = omega arith in
    let live : union_of 32 (word_at s.active) < 2 ^ 32 = subst (λ (n : ℕ). n < 2 ^ 32) c.active_somewhere-live.ensures c.active_somewhere-live.type_inv in
    record { planned = planned; settled = plan-settles _ _ s _ long (live-small s.active long live) planned }
