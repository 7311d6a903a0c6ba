-- Request 2026-05: "Suppose all six kinds have rights, and no role that a user holds carries any of their permissions. Then no list of his own
-- steps, from a state reached by the gate, changes what anyone is assigned or what any role carries."
-- Assumes nothing.
use Rattle.std.specs.Prelude.{ℕ, ◌<◌, ◌≡◌, true}
use mathlib.Core.List.{List, Memᴰ}
use Rattle.rules.specs.Acceptance.{right_at}
use Rattle.rules.specs.declared.rights.Right.TheVariants.{Permission}
use Rattle.rules.specs.declared.lists.RuleList.{RuleList}
use Rattle.steps.specs.Steps.{action_of}
use Rattle.steps.specs.declared.acting.Acting.{Acting}
use Rattle.steps.specs.declared.acting.Acting.TheVariants.{Nobody, InSession}
use Rattle.steps.specs.declared.actions.Action.{Action}
use Rattle.steps.specs.declared.actions.Action.TheVariants.{Malformed, Assign, Withdraw, Grant, Take, Open, Activate, Deactivate, Access, Finish, Close, Move, Lost, Clock, Lend, Recall}
use Rattle.steps.specs.declared.steps.Step.{Step}
use Rattle.loans.specs.declared.Loan.{Loan}
use Rattle.enforcement.specs.States.{loans_of, holds_role, carries, is_open, user_of}
use Rattle.enforcement.specs.Gate.{run_of}
use Rattle.enforcement.specs.Reached.{Held}
use Rattle.enforcement.specs.Claims.{Along}
use Rattle.enforcement.specs.declared.states.State.{State}
use Rattle.enforcement.specs.declared.runs.Ran.{Ran}

-- "all six kinds have rights"
abbrev pub AllRights : RuleList → Type 0
AllRights list = (kind : ℕ) → kind < 6 → (p : ℕ) × (right_at list.rights kind ≡ Permission p)

-- "no role that a user holds carries any of their permissions"
abbrev pub HoldsNoRight : RuleList → State → ℕ → Type 0
HoldsNoRight list s u =
    (kind p r : ℕ) → kind < 6 → right_at list.rights kind ≡ Permission p → holds_role s u r ≡ true → carries s r p ≡ true → ⊥

-- a session is his while it is open for him
abbrev pub His : ℕ → State → ℕ → Type 0
His u s i = (is_open s i ≡ true) × (user_of s i ≡ u)

-- "with one of his sessions acting or none"
abbrev pub ActsHimself : ℕ → State → Acting → Type 0
ActsHimself u s Nobody = Unit {0}
ActsHimself u s (InSession i) = His u s i

-- "His own steps are open for himself, steps in sessions that are his, finish, clock, and the six kinds with one of his sessions acting or
-- none."; and any malformed step. Whether the gate grants them is left open.
abbrev pub OwnAction : ℕ → State → Acting → Action → Type 0
OwnAction u s by Malformed = Unit {0}
OwnAction u s by (Assign v r) = ActsHimself u s by
OwnAction u s by (Withdraw v r) = ActsHimself u s by
OwnAction u s by (Grant r p) = ActsHimself u s by
OwnAction u s by (Take r p) = ActsHimself u s by
OwnAction u s by (Open i v) = v ≡ u
OwnAction u s by (Activate i r) = His u s i
OwnAction u s by (Deactivate i r) = His u s i
OwnAction u s by (Access i p o) = His u s i
OwnAction u s by (Finish o) = Unit {0}
OwnAction u s by (Close i) = His u s i
OwnAction u s by (Move i point) = His u s i
OwnAction u s by (Lost i) = His u s i
OwnAction u s by (Clock t) = Unit {0}
OwnAction u s by (Lend v w r t) = ActsHimself u s by
OwnAction u s by (Recall v w r) = ActsHimself u s by

abbrev pub Own : ℕ → State → Step → Type 0
Own u s step = OwnAction u s step.by (action_of step)

-- "list of his own steps": each is his in the state that the one before it handed back
abbrev pub OwnSteps : ℕ → RuleList → State → List Step → Type 0
OwnSteps u list s steps = Along (λ before step given. Own u before step) s steps (run_of list s steps)

-- what anyone is assigned and what any role carries are as they were, and no loan is made
pub record Unchanged (s after : State) : Type 0 where
  pub assigned : after.assigned ≡ s.assigned
  pub carried : after.granted ≡ s.granted
  pub lent : (loan : Loan) → Memᴰ loan (loans_of after) → Memᴰ loan (loans_of s)

-- what `run` promises: of a reached state its active roles are held (`reached-good` of proofs/Reaching.antt), and that is all that is asked of it
abbrev pub RunSafe : RuleList → State → List Step → Ran → Type 0
RunSafe list s steps ran =
    (u : ℕ) → AllRights list → HoldsNoRight list s u → Held s → OwnSteps u list s steps → Unchanged s ran.state
