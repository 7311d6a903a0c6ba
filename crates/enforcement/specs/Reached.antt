-- Which states are meant where a claim speaks of a state: any value of the type, one that 40 does not refuse, one that is reached.
-- Assumes nothing.
use Rattle.std.specs.Prelude.{ℕ, ◌^◌, ◌<◌, ◌≡◌, true, false, length}
use mathlib.Core.List.{Memᴰ}
use Rattle.rules.specs.Acceptance.{rules_of}
use Rattle.rules.specs.Families.{word_at}
use Rattle.rules.specs.declared.lists.RuleList.{RuleList}
use Rattle.loans.specs.Loans.{stored}
use Rattle.loans.specs.declared.Loan.{Loan}
use Rattle.enforcement.specs.States.{fresh, assigned_role, loans_of, active_role, holds_role, user_of, state_accepted}
use Rattle.enforcement.specs.Plain.{obeys}
use Rattle.enforcement.specs.Gate.{step_of}
use Rattle.enforcement.specs.declared.states.State.{State}
use Rattle.steps.specs.declared.steps.Step.{Step}

-- what the declared type says of each of its values: the arrays' lengths, and that a word has 32 or 64 digits
pub record Typed (s : State) : Type 0 where
  pub users : length s.assigned ≡ 64
  pub roles : length s.granted ≡ 32
  pub all_loans : length s.loans.entries ≡ 32
  pub all_sessions : length s.sessions ≡ 32
  pub actives : length s.active ≡ 32
  pub records : length s.history ≡ 1024
  pub small_assigned : (u : ℕ) → word_at s.assigned u < 2 ^ 32
  pub small_granted : (r : ℕ) → word_at s.granted r < 2 ^ 32
  pub small_active : (i : ℕ) → word_at s.active i < 2 ^ 32
  pub small_history : (k : ℕ) → word_at s.history k < 2 ^ 64

-- a value of the type that 40 does not refuse
pub record Accepted (s : State) : Type 0 where
  pub typed : Typed s
  pub unrefused : state_accepted s ≡ true

-- each active role is held by its session's user
abbrev pub Held : State → Type 0
Held s = (i r : ℕ) → active_role s i r ≡ true → holds_role s (user_of s i) r ≡ true

-- 2026-01, of loans: each ends later than now, its lender is assigned the role, its borrower is not and has it from this lender alone; entries
-- past them hold the filler
pub record Lending (s : State) : Type 0 where
  pub unended : (loan : Loan) → Memᴰ loan (loans_of s) → s.time < loan.until
  pub lent : (loan : Loan) → Memᴰ loan (loans_of s) → assigned_role s loan.lender loan.role ≡ true
  pub borrowed : (loan : Loan) → Memᴰ loan (loans_of s) → assigned_role s loan.borrower loan.role ≡ false
  pub single : (loan other : Loan) → Memᴰ loan (loans_of s) → Memᴰ other (loans_of s) → loan.borrower ≡ other.borrower → loan.role ≡ other.role → loan ≡ other
  pub filled : s.loans ≡ stored (loans_of s)

-- "A state is reached when steps lead to it from a fresh state, or from one read from a saved text under the rules in force."
pub data Reached (list : RuleList) (Read : State → Type 0) : State → Type 0 where
  start : Reached list Read fresh
  read : {s : State} → Read s → Reached list Read s
  stepped : {s : State} (step : Step) → Reached list Read s → Reached list Read (step_of list s step).state

-- what is claimed of every reached state: 40 does not refuse it, its active roles are held, its loans run as they were lent, and it obeys the
-- rules
pub record Good (list : RuleList) (s : State) : Type 0 where
  pub accepted : Accepted s
  pub held : Held s
  pub lending : Lending s
  pub obeyed : obeys (rules_of list) s ≡ true
