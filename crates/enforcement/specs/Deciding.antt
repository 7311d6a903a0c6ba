-- What the code computes on the way to a decision. No reader has to believe these: each is only cited by a private contract, and what a
-- step gives is stated by `step_of`.
-- Assumes nothing.
use Rattle.std.specs.Prelude.{ℕ, ◌^◌, ◌<◌, ◌≤◌, ◌≡◌, Bool, true, not, cond, ◌&&◌, ◌||◌, List, eqb, ltb, length, set, replicate, Result, Ok, Err}
use Rattle.places.specs.Places.{side_holds, point_in_range}
use Rattle.places.specs.declared.Position.{Position}
use Rattle.places.specs.declared.Side.{Side}
use Rattle.rules.specs.Families.{word_at, has_role, session_at}
use Rattle.rules.specs.declared.families.Rule.{Rule}
use Rattle.rules.specs.declared.rights.RightSlot.{RightSlot}
use Rattle.rules.specs.declared.sessions.Session.{Session}
use Rattle.rules.specs.Lowest.{lowest}
use Rattle.steps.specs.Pairs.{ended_pairs, pair_count}
use Rattle.selection.specs.Selection.{selects, selected_number}
use Rattle.selection.specs.Ending.{lets}
use Rattle.steps.specs.declared.acting.Acting.{Acting}
use Rattle.steps.specs.declared.actions.Action.{Action}
use Rattle.steps.specs.declared.actions.Action.TheVariants.{Malformed, Assign, Withdraw, Grant, Take, Open, Activate, Deactivate, Access, Finish, Close, Move, Lost, Clock, Lend, Recall}
use Rattle.loans.specs.Loans.{stored, inserted}
use Rattle.loans.specs.declared.Loan.{Loan}
use Rattle.enforcement.specs.States.{loans_of, is_open, active_role}
use Rattle.enforcement.specs.Steps.{Checked, refuses, check, check_by, with_assigned, with_granted, with_loans, with_active, with_history, placed, unheld_closed}
use Rattle.enforcement.specs.Gate.{tests_selected, refused_next, request_next, checked_next}
use Rattle.steps.specs.Refusals.{number_of}
use Rattle.enforcement.specs.Rounds.{keeps, stays, remaining}
use Rattle.steps.specs.declared.refusals.Refusal.{Refusal}
use Rattle.enforcement.specs.declared.states.State.{State}
use Rattle.steps.specs.declared.answers.Answer.{Answer}
use Rattle.steps.specs.declared.answers.Answer.TheVariants.{Granted, Refused}
use Rattle.enforcement.specs.declared.states.Next.{Next}
use Rattle.enforcement.specs.declared.plans.Plan.{Plan}

-- ---- an event

-- a plan says of each active pair what the selected rules say, whatever pairs of roles in range are still active; and how many they are
pub record Planned (selected : Rule → Bool) (rules : List Rule) (s : State) (plan : Plan) : Type 0 where
  pub outs : length plan.out ≡ 32
  pub lacks : length plan.needs ≡ 32
  pub means : (l : List ℕ) → ((j : ℕ) → word_at l j < 2 ^ 32) → (i r : ℕ) → i < 32 → r < 32 → active_role s i r ≡ true → lets plan.dead plan.out plan.needs l i r ≡ stays selected rules s l i r
  pub number : plan.selected ≡ selected_number selected rules

-- a plan with one rule more, and as many selected
pub record Adds (rule : Rule) (s : State) (before after : Plan) : Type 0 where
  pub outs : length after.out ≡ 32
  pub lacks : length after.needs ≡ 32
  pub means : (l : List ℕ) → ((j : ℕ) → word_at l j < 2 ^ 32) → (i r : ℕ) → i < 32 → r < 32 → active_role s i r ≡ true →
      lets after.dead after.out after.needs l i r ≡ (lets before.dead before.out before.needs l i r && keeps rule s l i r)
  pub number : after.selected ≡ before.selected

-- a plan that says nothing
abbrev pub no_plan : Plan
no_plan = record { dead = 0; out = replicate 32 0; needs = replicate 32 0; selected = 0 }

-- role r is ruled out in each of the first n sessions that has it active and is not positioned so
pub record RuledOut (n : ℕ) (out : List ℕ) (sessions : List Session) (active : List ℕ) (r : ℕ) (side : Side) (more : List ℕ) : Type 0 where
  pub same_length : length more ≡ 32
  pub means : (i q : ℕ) → i < 32 → q < 32 → has_role more i q ≡ (has_role out i q || (ltb i n && (eqb r q && (has_role active i r && not (side_holds side (session_at sessions i).position)))))

-- ---- a step

-- a step by its kind's own checks, where neither 53 nor 54 refuses it
unfoldable pub decide : List Rule → State → Action → Next
decide rules s action = checked_next (check s action) rules s action

-- a state and an answer as a step hands them back
abbrev pub next_of : State → Answer → Next
next_of s answer = record { state = s; answer = answer }

-- the answer that is decided, or the one that a refusal gives
abbrev pub answered : Result Answer Refusal → Answer
answered (Ok answer) = answer
answered (Err refusal) = Refused (number_of refusal)

-- the checks of a step as far as 53 and 54, beside those that are left where neither refuses
abbrev pub Told : Checked → Checked → Result (Unit {0}) Refusal → Type 0
Told all left (Ok passed) = all ≡ left
Told all left (Err refusal) = all ≡ refuses (number_of refusal)

-- 53 and 54 let the kind's own checks decide, or one of them refuses
abbrev pub RightChecked : List RightSlot → State → Acting → Action → Result (Unit {0}) Refusal → Type 0
RightChecked rights s by action checked = Told (check_by rights s by action) (check s action) checked

-- each number is in the range that document 01 gives it
abbrev pub Ranged : Action → Type 0
Ranged Malformed = Unit {0}
Ranged (Assign u r) = (u < 64) × (r < 32)
Ranged (Withdraw u r) = (u < 64) × (r < 32)
Ranged (Grant r p) = (r < 32) × (p < 32)
Ranged (Take r p) = (r < 32) × (p < 32)
Ranged (Open i u) = (i < 32) × (u < 64)
Ranged (Activate i r) = (i < 32) × (r < 32)
Ranged (Deactivate i r) = (i < 32) × (r < 32)
Ranged (Access i p o) = (i < 32) × (p < 32) × (o < 32)
Ranged (Finish o) = o < 32
Ranged (Close i) = i < 32
Ranged (Move i point) = (i < 32) × (point_in_range point ≡ true)
Ranged (Lost i) = i < 32
Ranged (Clock t) = t ≤ 3155759999
Ranged (Lend u v r t) = (u < 64) × (v < 64) × (r < 32) × (t ≤ 3155759999)
Ranged (Recall u v r) = (u < 64) × (v < 64) × (r < 32)

-- other roles of one user, other permissions of one role, other active roles of one session, other users at one place of the history
abbrev pub with_user_roles : ℕ → ℕ → State → State
with_user_roles user roles s = with_assigned s (set s.assigned user roles)

abbrev pub with_role_permissions : ℕ → ℕ → State → State
with_role_permissions role permissions s = with_granted s (set s.granted role permissions)

abbrev pub with_session_roles : ℕ → ℕ → State → State
with_session_roles i roles s = with_active s (set s.active i roles)

abbrev pub with_users_done : ℕ → ℕ → State → State
with_users_done place users s = with_history s (set s.history place users)

-- one loan more
abbrev pub with_loan : Loan → State → State
with_loan loan s = with_loans s (stored (inserted loan (loans_of s)))

-- a request that has passed its checks, by its target
unfoldable pub request_of : List Rule → State → Action → State → Next
request_of rules s action after =
    request_next (selected_number (selects action) rules) s after (lowest (tests_selected (selects action) after) 1 rules)

-- the same by what it changes
abbrev pub request_by : List Rule → State → Action → (State → State) → Next
request_by rules s action change = request_of rules s action (change s)

-- an event that has passed its checks, by the pairs active before it and its target
unfoldable pub event_of : List Rule → List ℕ → State → Action → Next
event_of rules before s action =
    record {
      state = with_active s (remaining (selects action) rules s);
      answer = Granted (selected_number (selects action) rules) (pair_count (ended_pairs before (remaining (selects action) rules s)));
    }

-- the same for an event that itself closes the roles that are not held
abbrev pub held_event_of : List Rule → List ℕ → State → Action → Next
held_event_of rules before s action = event_of rules before (unheld_closed s) action

-- a step that selects no rule and ends nothing
abbrev pub plain_next : State → Next
plain_next s = record { state = s; answer = Granted 0 0 }

-- move and lost
unfoldable pub placed_of : List Rule → State → Action → ℕ → Position → Next
placed_of rules s action i position =
    cond (is_open s i) (event_of rules s.active (placed s i position) action) (refused_next s (Refused 23))
