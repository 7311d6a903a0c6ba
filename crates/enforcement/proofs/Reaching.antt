-- What holds of every reached state, and of every state that a step hands back.
-- Assumes nothing.
use mathlib.Core.Path.{◌≡◌}
use mathlib.Core.Bool.{Bool, true, false, cond, ◌&&◌}
use Rattle.rules.specs.Acceptance.{rules_of, list_accepted}
use Rattle.rules.specs.declared.lists.RuleList.{RuleList}
use Rattle.steps.specs.Steps.{action_of}
use Rattle.enforcement.specs.Steps.{target}
use Rattle.enforcement.specs.Gate.{refused_next, decide_step, step_of}
use Rattle.enforcement.specs.Narrow.{Narrow, refusing, breaking, taking, ending}
pub use Rattle.enforcement.specs.Reached.{Good}
use Rattle.enforcement.specs.Reached.{Accepted, Held, Lending, Reached, start, read, stepped}
use Rattle.enforcement.specs.declared.states.State.{State}
use Rattle.steps.specs.declared.steps.Step.{Step}
use Rattle.steps.specs.declared.answers.Answer.TheVariants.{Refused}
use Rattle.enforcement.specs.declared.states.Next.{Next}
use Rattle.enforcement.proofs.Ranges.{action-ranged}
use Rattle.enforcement.proofs.Checks.{step-passes}
use Rattle.enforcement.proofs.Kept.{accepted-target, accepted-part, held-target, held-part, fresh-accepted, fresh-held}
use Rattle.enforcement.proofs.Lending.{lending-target, lending-part, fresh-lending}
use Rattle.enforcement.proofs.Agreement.{step-narrow, step_keeps, all-hold-fresh}

-- 40 does not refuse it; each active role is held by its session's user, and the loans run as they were lent, where it was so before
record Kept (before after : State) : Type 0 where
  still_accepted : Accepted after
  still_held : Held before → Held after
  still_lending : Lending before → Lending after

narrow_keeps : (list : RuleList) (s : State) (step : Step) (given : Next) → Accepted s → Narrow list s step given → Kept s given.state
narrow_keeps list s step given accepted (refusing number e) = record { still_accepted = accepted; still_held = λ held. held; still_lending = λ lending. lending }
narrow_keeps list s step given accepted (breaking rule e event low) = record { still_accepted = accepted; still_held = λ held. held; still_lending = λ lending. lending }
narrow_keeps list s step given accepted (taking e event low) =
    let pass = step-passes list s step e in
    record {
      still_accepted = accepted-target (action_of step) s accepted (action-ranged step) pass;
      still_held = held-target (action_of step) s accepted (action-ranged step) pass;
      still_lending = lending-target (action_of step) s accepted (action-ranged step) pass;
    }
narrow_keeps list s step given accepted (ending l e event largest) =
    let pass = step-passes list s step e in
    record {
      still_accepted = accepted-part (target s (action_of step)) l (accepted-target (action_of step) s accepted (action-ranged step) pass) largest.is_part;
      still_held = λ held. held-part (target s (action_of step)) l (held-target (action_of step) s accepted (action-ranged step) pass held) largest.is_part;
      still_lending = λ lending. lending-part (target s (action_of step)) l (lending-target (action_of step) s accepted (action-ranged step) pass lending);
    }

step_kept : (list : RuleList) (s : State) (step : Step) → Accepted s → Kept s (step_of list s step).state
unfolding step_of
step_kept list s step accepted = rw accepted.unrefused (by-list (list_accepted list))
  where
    by-list : (listed : Bool) → Kept s (cond (listed && true) (decide_step list s step) (refused_next s (Refused 40))).state
    by-list true = narrow_keeps list s step (decide_step list s step) accepted (step-narrow list s accepted step)
    by-list false = record { still_accepted = accepted; still_held = λ held. held; still_lending = λ lending. lending }

-- a step hands back a state that 40 does not refuse, whatever the rules
pub step-accepted : (list : RuleList) (s : State) (step : Step) → Accepted s → Accepted (step_of list s step).state
step-accepted list s step accepted = (step_kept list s step accepted).still_accepted

-- and in which each active role is held by its session's user, where it was before
pub step-held : (list : RuleList) (s : State) (step : Step) → Accepted s → Held s → Held (step_of list s step).state
step-held list s step accepted = (step_kept list s step accepted).still_held

-- and whose loans run as they were lent, where they did before
pub step-lending : (list : RuleList) (s : State) (step : Step) → Accepted s → Lending s → Lending (step_of list s step).state
step-lending list s step accepted = (step_kept list s step accepted).still_lending

-- so what is claimed of every reached state stays so
pub step-good : (list : RuleList) → list_accepted list ≡ true → (s : State) → Good list s → (step : Step) → Good list (step_of list s step).state
step-good list listed s good step =
    record {
      accepted = step-accepted list s step good.accepted;
      held = step-held list s step good.accepted good.held;
      lending = step-lending list s step good.accepted good.lending;
      obeyed = (step_keeps list listed s good.accepted good.obeyed step).1;
    }

-- every reached state is one that 40 does not refuse, has its active roles held and its loans as they were lent, and obeys the rules, where
-- what was read is so
pub reached-good : (list : RuleList) → list_accepted list ≡ true → (Read : State → Type 0) → ((s : State) → Read s → Good list s) → {s : State} → Reached list Read s → Good list s
reached-good list listed Read read_good start = record { accepted = fresh-accepted; held = fresh-held; lending = fresh-lending; obeyed = all-hold-fresh (rules_of list) }
reached-good list listed Read read_good (read {s = s} h) = read_good s h
reached-good list listed Read read_good (stepped {s = s} step h) = step-good list listed s (reached-good list listed Read read_good h) step
