-- Document 01, 'State and steps': a step's checks in the table's order, and its target.
-- Assumes nothing.
use Rattle.std.specs.Prelude.{ℕ, zero, suc, ◌+◌, ◌*◌, Bool, true, false, not, cond, ◌&&◌, ◌||◌, List, ltb, leb, set}
use Rattle.sets.specs.Sets.{with, without, any}
use Rattle.places.specs.declared.Position.{Position}
use Rattle.places.specs.declared.Position.TheVariants.{Unknown, Known}
use Rattle.rules.specs.Families.{word_at, closed_session, is_active_for}
use Rattle.rules.specs.declared.rights.RightSlot.{RightSlot}
use Rattle.rules.specs.declared.lists.RuleList.{RuleList}
use Rattle.rules.specs.declared.sessions.Session.{Session}
use Rattle.steps.specs.Steps.{is_administrative, action_of}
use Rattle.steps.specs.declared.acting.Acting.{Acting}
use Rattle.steps.specs.declared.steps.Step.{Step}
use Rattle.steps.specs.declared.actions.Action.{Action}
use Rattle.steps.specs.declared.actions.Action.TheVariants.{Malformed, Assign, Withdraw, Grant, Take, Open, Activate, Deactivate, Access, Finish, Close, Move, Lost, Clock, Lend, Recall}
use Rattle.steps.specs.Pairs.{sifted}
use Rattle.rights.specs.Rights.{right_for, acts_closed, lacks_right}
use Rattle.loans.specs.Loans.{some_loan, kept_loans, is_named, runs_at, loan_of, stored, inserted}
use Rattle.loans.specs.declared.Loan.{Loan}
use Rattle.loans.specs.declared.Loans.{Loans}
use Rattle.enforcement.specs.States.{assigned_role, lent_out_role, loans_of, holds_role, carries, is_open, user_of, active_role}
use Rattle.enforcement.specs.declared.states.State.{State}

-- ---- the table's second column: "Checks run in the order given", those before 30

pub data Checked : Type 0 where
  passes : Checked
  refuses : ℕ → Checked

-- where the cause is there its number, else the checks after it
abbrev pub refuse_if : Bool → ℕ → Checked → Checked
refuse_if true number later = refuses number
refuse_if false number later = later

unfoldable pub check : State → Action → Checked
check s Malformed = refuses 20
check s (Assign u r) = refuse_if (holds_role s u r) 24 passes
-- 2026-01: "Withdraw is 27 also while the user has the role lent out."
check s (Withdraw u r) =
    refuse_if (not (assigned_role s u r)) 25 (refuse_if (is_active_for s.sessions s.active u r || lent_out_role s u r) 27 passes)
check s (Grant r p) = refuse_if (carries s r p) 24 passes
check s (Take r p) = refuse_if (not (carries s r p)) 25 passes
check s (Open i u) = refuse_if (is_open s i) 22 passes
check s (Activate i r) =
    refuse_if (not (is_open s i)) 23 (refuse_if (active_role s i r) 24 (refuse_if (not (holds_role s (user_of s i) r)) 26 passes))
check s (Deactivate i r) = refuse_if (not (is_open s i)) 23 (refuse_if (not (active_role s i r)) 25 passes)
check s (Access i p o) = refuse_if (not (is_open s i)) 23 (refuse_if (not (any 32 (λ r. active_role s i r && carries s r p))) 28 passes)
check s (Finish o) = passes
check s (Close i) = refuse_if (not (is_open s i)) 23 passes
check s (Move i point) = refuse_if (not (is_open s i)) 23 passes
check s (Lost i) = refuse_if (not (is_open s i)) 23 passes
check s (Clock t) = refuse_if (ltb t s.time) 21 passes
-- 2026-01: "50 u isn't assigned r, 51 32 loans run, 52 t not later than now; lend checks 20, 50, 24, 52, 51, 30"
check s (Lend u v r t) =
    refuse_if (not (assigned_role s u r)) 50
    (refuse_if (holds_role s v r) 24 (refuse_if (leb t s.time) 52 (refuse_if (leb 32 s.loans.count) 51 passes)))
-- 2026-01: "`recall u v r` ends one early and is 25 where there is none"
check s (Recall u v r) = refuse_if (not (some_loan (is_named u v r) (loans_of s))) 25 passes

-- 2026-05: "an acting session with an active role that carries permission 30"
abbrev pub right_lacking : List RightSlot → State → Acting → Action → Bool
right_lacking rights s by action = lacks_right (right_for rights action) by s.active s.granted

-- 2026-05: "53 acting session not open (whenever `by` stands), 54 right lacking; both after 20, in that order". Of any other kind `by` is 20,
-- and none has a right.
unfoldable pub check_by : List RightSlot → State → Acting → Action → Checked
check_by rights s by action =
    cond (is_administrative action)
    (refuse_if (acts_closed s.sessions by) 53 (refuse_if (right_lacking rights s by action) 54 (check s action)))
    (check s action)

-- the checks of a step as it is handed in
abbrev pub check_step : RuleList → State → Step → Checked
check_step list s step = check_by list.rights s step.by (action_of step)

-- ---- "the target: the state as if allowed"

abbrev pub with_assigned : State → List ℕ → State
with_assigned s l = record { time = s.time; assigned = l; granted = s.granted; loans = s.loans; sessions = s.sessions; active = s.active; history = s.history }

abbrev pub with_granted : State → List ℕ → State
with_granted s l = record { time = s.time; assigned = s.assigned; granted = l; loans = s.loans; sessions = s.sessions; active = s.active; history = s.history }

abbrev pub with_loans : State → Loans → State
with_loans s loans = record { time = s.time; assigned = s.assigned; granted = s.granted; loans = loans; sessions = s.sessions; active = s.active; history = s.history }

abbrev pub with_sessions : State → List Session → State
with_sessions s l = record { time = s.time; assigned = s.assigned; granted = s.granted; loans = s.loans; sessions = l; active = s.active; history = s.history }

abbrev pub with_active : State → List ℕ → State
with_active s l = record { time = s.time; assigned = s.assigned; granted = s.granted; loans = s.loans; sessions = s.sessions; active = l; history = s.history }

abbrev pub with_history : State → List ℕ → State
with_history s l = record { time = s.time; assigned = s.assigned; granted = s.granted; loans = s.loans; sessions = s.sessions; active = s.active; history = l }

abbrev pub with_time : State → ℕ → State
with_time s t = record { time = t; assigned = s.assigned; granted = s.granted; loans = s.loans; sessions = s.sessions; active = s.active; history = s.history }

-- number x put into the set at a place, and taken out of it
abbrev pub put : ℕ → List ℕ → ℕ → ℕ → List ℕ
put width words i x = set words i (with width (word_at words i) x)

abbrev pub take_out : List ℕ → ℕ → ℕ → List ℕ
take_out words i x = set words i (without (word_at words i) x)

-- the sets at k places from a place on emptied
unfoldable pub emptied : ℕ → List ℕ → ℕ → List ℕ
emptied zero words start = words
emptied (suc k) words start = set (emptied k words start) (start + k) 0

abbrev pub session : Bool → ℕ → Position → Session
session is_open user position = record { is_open = is_open; user = user; position = position }

-- session i positioned so
abbrev pub placed : State → ℕ → Position → State
placed s i position = with_sessions s (set s.sessions i (session (is_open s i) (user_of s i) position))

-- 2026-01: "both, as they are applied .., themselves close every active role not held"
unfoldable pub unheld_closed : State → State
unheld_closed s = with_active s (sifted 0 (λ i r. holds_role s (user_of s i) r) s.active)

-- the loans that pass a test go on, the others end
abbrev pub loans_left : (Loan → Bool) → State → State
loans_left test s = with_loans s (stored (kept_loans test (loans_of s)))

unfoldable pub target : State → Action → State
target s Malformed = s
-- "assign gives u the role r, withdraw removes it"
target s (Assign u r) = with_assigned s (put 32 s.assigned u r)
target s (Withdraw u r) = with_assigned s (take_out s.assigned u r)
-- "grant gives r the permission p, take removes it"
target s (Grant r p) = with_granted s (put 32 s.granted r p)
target s (Take r p) = with_granted s (take_out s.granted r p)
-- "open opens s for u"; "(position unknown)"
target s (Open i u) = with_sessions s (set s.sessions i (session true u Unknown))
-- "activate and deactivate add and remove the pair (s, r)"
target s (Activate i r) = with_active s (put 32 s.active i r)
target s (Deactivate i r) = with_active s (take_out s.active i r)
-- "access records the user of s under o and p"
target s (Access i p o) = with_history s (put 64 s.history (o * 32 + p) (user_of s i))
-- "finish empties o's record"
target s (Finish o) = with_history s (emptied 32 s.history (o * 32))
-- "close leaves s closed and empty"
target s (Close i) = with_active (with_sessions s (set s.sessions i closed_session)) (set s.active i 0)
-- "move and lost set its position"
target s (Move i point) = placed s i (Known point)
target s (Lost i) = placed s i Unknown
-- "clock sets the time"; 2026-01: "A loan ends when the clock reaches t"
target s (Clock t) = unheld_closed (loans_left (runs_at t) (with_time s t))
-- 2026-01: "u is assigned r, v gets it until t"
target s (Lend u v r t) = with_loans s (stored (inserted (loan_of u v r t) (loans_of s)))
-- 2026-01: "`recall u v r` ends one early"
target s (Recall u v r) = unheld_closed (loans_left (λ loan. not (is_named u v r loan)) s)
