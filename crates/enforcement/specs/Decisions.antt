-- What both gates share besides the steps, the lowest broken rule and the pairs ended: the largest part, and what is compared.
-- Assumes nothing.
use Rattle.std.specs.Prelude.{ℕ, ◌≡◌, Bool, true, List}
use Rattle.steps.specs.Pairs.{Part}
use Rattle.enforcement.specs.Steps.{with_active}
use Rattle.enforcement.specs.declared.states.State.{State}

-- ---- "a part is any choice of them, all else as in the target, and the largest contains every other such part"

-- l is the largest part of a state's active pairs under which the test holds
pub record Largest (test : State → Bool) (s : State) (l : List ℕ) : Type 0 where
  pub is_part : Part l s.active
  pub holding : test (with_active s l) ≡ true
  pub largest : (m : List ℕ) → Part m s.active → test (with_active s m) ≡ true → Part m l

-- ---- "Compared at every step: the decision (yes or the refusal's number), the rule, the pairs ended, one by one and as the number
-- defined above, and the whole state"

pub data Decision : Type 0 where
  granted : Decision
  refused : ℕ → Decision

pub record Verdict : Type 0 where
  pub decision : Decision
  pub rule : ℕ
  pub ended : List ℕ
  pub ended_number : ℕ
  pub state : State
