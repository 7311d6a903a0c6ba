-- The causes of 20 to 28, of 40 and of 50 to 54, each in plain quantifiers over what can be observed. That the gate gives a number exactly for its cause
-- is proved in proofs/Causes.antt.
-- Assumes nothing.
use Rattle.std.specs.Prelude.{◌≡◌, true, false, ◌⊎◌, ℕ, suc, ◌≤◌, ◌<◌, length, get_or}
use mathlib.Core.List.{List, [], ◌∷◌, Memᴰ}
use Rattle.places.specs.Places.{position_in_range}
use Rattle.places.specs.declared.Position.TheVariants.{Unknown, Known}
use Rattle.places.specs.declared.Point.{Point}
use Rattle.rules.specs.declared.rights.Right.{Right}
use Rattle.rules.specs.declared.rights.Right.TheVariants.{Unstated, Permission}
use Rattle.rules.specs.declared.rights.RightSlot.{RightSlot}
use Rattle.steps.specs.Steps.{is_administrative}
use Rattle.steps.specs.declared.acting.Acting.{Acting}
use Rattle.steps.specs.declared.acting.Acting.TheVariants.{Nobody, InSession}
use Rattle.rights.specs.Rights.{right_for}
use Rattle.steps.specs.declared.actions.Action.{Action}
use Rattle.steps.specs.declared.actions.Action.TheVariants.{Malformed, Assign, Withdraw, Grant, Take, Open, Activate, Deactivate, Access, Finish, Close, Move, Lost, Clock, Lend, Recall}
use Rattle.loans.specs.Loans.{key, no_loan}
use Rattle.loans.specs.declared.Loan.{Loan}
use Rattle.enforcement.specs.States.{assigned_role, loans_of, holds_role, carries, is_open, user_of, position_of, active_role}
use Rattle.enforcement.specs.declared.states.State.{State}
use Rattle.steps.specs.declared.steps.Step.{Step}

-- ---- the causes of 20 to 28

-- the step's kind and numbers are those of the action, each in its range
abbrev pub Numbers : Step → Action → Type 0
Numbers step Malformed = ⊥
Numbers step (Assign u r) = (step.kind ≡ 0) × (step.first ≡ u) × (step.second ≡ r) × (u < 64) × (r < 32)
Numbers step (Withdraw u r) = (step.kind ≡ 1) × (step.first ≡ u) × (step.second ≡ r) × (u < 64) × (r < 32)
Numbers step (Grant r p) = (step.kind ≡ 2) × (step.first ≡ r) × (step.second ≡ p) × (r < 32) × (p < 32)
Numbers step (Take r p) = (step.kind ≡ 3) × (step.first ≡ r) × (step.second ≡ p) × (r < 32) × (p < 32)
Numbers step (Open i u) = (step.kind ≡ 4) × (step.first ≡ i) × (step.second ≡ u) × (i < 32) × (u < 64)
Numbers step (Activate i r) = (step.kind ≡ 5) × (step.first ≡ i) × (step.second ≡ r) × (i < 32) × (r < 32)
Numbers step (Deactivate i r) = (step.kind ≡ 6) × (step.first ≡ i) × (step.second ≡ r) × (i < 32) × (r < 32)
Numbers step (Access i p o) = (step.kind ≡ 7) × (step.first ≡ i) × (step.second ≡ p) × (step.third ≡ o) × (i < 32) × (p < 32) × (o < 32)
Numbers step (Finish o) = (step.kind ≡ 8) × (step.first ≡ o) × (o < 32)
Numbers step (Close i) = (step.kind ≡ 9) × (step.first ≡ i) × (i < 32)
Numbers step (Move i point) = (step.kind ≡ 10) × (step.first ≡ i) × (step.x ≡ point.x) × (step.y ≡ point.y) × (step.fourth ≡ point.error) × (i < 32) × (position_in_range (Known point) ≡ true)
Numbers step (Lost i) = (step.kind ≡ 11) × (step.first ≡ i) × (i < 32)
Numbers step (Clock t) = (step.kind ≡ 12) × (step.first ≡ t) × (t ≤ 3155759999)
Numbers step (Lend u v r t) = (step.kind ≡ 13) × (step.first ≡ u) × (step.second ≡ v) × (step.third ≡ r) × (step.fourth ≡ t) × (u < 64) × (v < 64) × (r < 32) × (t ≤ 3155759999)
Numbers step (Recall u v r) = (step.kind ≡ 14) × (step.first ≡ u) × (step.second ≡ v) × (step.third ≡ r) × (u < 64) × (v < 64) × (r < 32)

-- 2026-05: "`by` before any other step, or before another `by`, is .. 20 handed in"; sessions are 0 to 31
abbrev pub CanAct : Acting → Action → Type 0
CanAct Nobody action = Unit {0}
CanAct (InSession i) action = (i < 32) × (is_administrative action ≡ true)

-- the step is the action; where there is no such action the cause of 20 is there
abbrev pub Writes : Step → Action → Type 0
Writes step action = Numbers step action × CanAct step.by action

-- the table's second column: the numbers of a step's checks before 30, in their order
abbrev pub checks_of : Action → List ℕ
checks_of Malformed = 20 ∷ []
checks_of (Assign u r) = 24 ∷ []
checks_of (Withdraw u r) = 25 ∷ 27 ∷ []
checks_of (Grant r p) = 24 ∷ []
checks_of (Take r p) = 25 ∷ []
checks_of (Open i u) = 22 ∷ []
checks_of (Activate i r) = 23 ∷ 24 ∷ 26 ∷ []
checks_of (Deactivate i r) = 23 ∷ 25 ∷ []
checks_of (Access i p o) = 23 ∷ 28 ∷ []
checks_of (Finish o) = []
checks_of (Close i) = 23 ∷ []
checks_of (Move i point) = 23 ∷ []
checks_of (Lost i) = 23 ∷ []
checks_of (Clock t) = 21 ∷ []
-- 2026-01: "lend checks 20, 50, 24, 52, 51, 30"
checks_of (Lend u v r t) = 50 ∷ 24 ∷ 52 ∷ 51 ∷ []
checks_of (Recall u v r) = 25 ∷ []

-- the cause of a number for a step: one line for each number in the table's second column
pub data Cause (s : State) : Action → ℕ → Type 0 where
  malformed : Cause s Malformed 20
  -- "t before the present time"
  past : (t : ℕ) → t < s.time → Cause s (Clock t) 21
  -- "session open"
  open_already : (i u : ℕ) → is_open s i ≡ true → Cause s (Open i u) 22
  -- "session not open"
  activate_closed : (i r : ℕ) → is_open s i ≡ false → Cause s (Activate i r) 23
  deactivate_closed : (i r : ℕ) → is_open s i ≡ false → Cause s (Deactivate i r) 23
  access_closed : (i p o : ℕ) → is_open s i ≡ false → Cause s (Access i p o) 23
  close_closed : (i : ℕ) → is_open s i ≡ false → Cause s (Close i) 23
  move_closed : (i : ℕ) (point : Point) → is_open s i ≡ false → Cause s (Move i point) 23
  lost_closed : (i : ℕ) → is_open s i ≡ false → Cause s (Lost i) 23
  -- "already assigned, granted, active in this session"
  assign_already : (u r : ℕ) → holds_role s u r ≡ true → Cause s (Assign u r) 24
  grant_already : (r p : ℕ) → carries s r p ≡ true → Cause s (Grant r p) 24
  activate_already : (i r : ℕ) → active_role s i r ≡ true → Cause s (Activate i r) 24
  lend_already : (u v r t : ℕ) → holds_role s v r ≡ true → Cause s (Lend u v r t) 24
  -- "not assigned, granted, active in this session"
  withdraw_not : (u r : ℕ) → assigned_role s u r ≡ false → Cause s (Withdraw u r) 25
  take_not : (r p : ℕ) → carries s r p ≡ false → Cause s (Take r p) 25
  deactivate_not : (i r : ℕ) → active_role s i r ≡ false → Cause s (Deactivate i r) 25
  -- 2026-01: "is 25 where there is none"
  recall_none : (u v r : ℕ) → ((loan : Loan) → Memᴰ loan (loans_of s) → loan.lender ≡ u → loan.borrower ≡ v → loan.role ≡ r → ⊥) → Cause s (Recall u v r) 25
  -- "role not assigned to the session's user"
  activate_unheld : (i r : ℕ) → holds_role s (user_of s i) r ≡ false → Cause s (Activate i r) 26
  -- "role active in a session of the user"
  withdraw_active : (u r i : ℕ) → i < 32 → user_of s i ≡ u → active_role s i r ≡ true → Cause s (Withdraw u r) 27
  -- 2026-01: "also while the user has the role lent out"
  withdraw_lent_out : (u r : ℕ) (loan : Loan) → Memᴰ loan (loans_of s) → loan.lender ≡ u → loan.role ≡ r → Cause s (Withdraw u r) 27
  -- "no role active in the session carries the permission"
  access_uncarried : (i p o : ℕ) → ((r : ℕ) → r < 32 → active_role s i r ≡ true → carries s r p ≡ true → ⊥) → Cause s (Access i p o) 28
  -- 2026-01: "50 u isn't assigned r, 51 32 loans run, 52 t not later than now"
  lend_unassigned : (u v r t : ℕ) → assigned_role s u r ≡ false → Cause s (Lend u v r t) 50
  lend_full : (u v r t : ℕ) → 32 ≤ s.loans.count → Cause s (Lend u v r t) 51
  lend_ended : (u v r t : ℕ) → t ≤ s.time → Cause s (Lend u v r t) 52

-- of a step's numbers, the first whose cause is there
abbrev pub FirstCause : State → Action → List ℕ → ℕ → Type 0
FirstCause s action [] n = ⊥
FirstCause s action (number ∷ rest) n = ((n ≡ number) × Cause s action number) ⊎ ((Cause s action number → ⊥) × FirstCause s action rest n)

-- ---- the causes of 53 and 54, which come after 20 and before the kind's own

-- 2026-05: "53 acting session not open (whenever `by` stands)"
abbrev pub ActingClosed : State → Acting → Type 0
ActingClosed s Nobody = ⊥
ActingClosed s (InSession i) = is_open s i ≡ false

-- 2026-05: "the step then needs an acting session with an active role that carries permission 30"; "A step of a kind with a right and no `by`
-- counts as lacking it."
abbrev pub RightLacking : State → Acting → Right → Type 0
RightLacking s by Unstated = ⊥
RightLacking s Nobody (Permission p) = Unit {0}
RightLacking s (InSession i) (Permission p) = (r : ℕ) → r < 32 → active_role s i r ≡ true → carries s r p ≡ true → ⊥

-- 2026-05: "both after 20, in that order": of a step of the six kinds, the first cause of all
abbrev pub FirstOfAll : List RightSlot → State → Acting → Action → ℕ → Type 0
FirstOfAll rights s by action n =
    ((n ≡ 53) × ActingClosed s by)
    ⊎ ((ActingClosed s by → ⊥)
    × (((n ≡ 54) × RightLacking s by (right_for rights action)) ⊎ ((RightLacking s by (right_for rights action) → ⊥) × FirstCause s action (checks_of action) n)))

-- ---- the cause of 40 in a state

-- "field outside its range, closed session that keeps anything"
pub data Unaccepted (s : State) : Type 0 where
  late : 3155759999 < s.time → Unaccepted s
  user_past : (i : ℕ) → i < 32 → is_open s i ≡ true → 64 ≤ user_of s i → Unaccepted s
  position_outside : (i : ℕ) → i < 32 → is_open s i ≡ true → position_in_range (position_of s i) ≡ false → Unaccepted s
  keeps_user : (i : ℕ) → i < 32 → is_open s i ≡ false → (user_of s i ≡ 0 → ⊥) → Unaccepted s
  keeps_position : (i : ℕ) → i < 32 → is_open s i ≡ false → (position_of s i ≡ Unknown → ⊥) → Unaccepted s
  keeps_role : (i r : ℕ) → i < 32 → is_open s i ≡ false → active_role s i r ≡ true → Unaccepted s
  -- 2026-01: "up to 32 loans, kept in ascending order, at most one for the same u, v and r (handed in otherwise: 40)"
  too_many_loans : 32 < s.loans.count → Unaccepted s
  loan_past : (loan : Loan) → Memᴰ loan (loans_of s) → (64 ≤ loan.lender) ⊎ ((64 ≤ loan.borrower) ⊎ ((32 ≤ loan.role) ⊎ (3155759999 < loan.until))) → Unaccepted s
  loans_unordered : (k : ℕ) → suc k < length (loans_of s) → key (get_or (loans_of s) (suc k) no_loan) ≤ key (get_or (loans_of s) k no_loan) → Unaccepted s
