-- Document 01, 'State and steps': the state and what can be observed of it, a rule over a state, and what 40 looks for in a state.
-- Assumes nothing.
use Rattle.std.specs.Prelude.{ℕ, Bool, true, false, cond, ◌&&◌, List, eqb, ltb, replicate}
use Rattle.sets.specs.Sets.{member, is_empty, all}
use Rattle.places.specs.Places.{position_in_range}
use Rattle.places.specs.declared.Position.{Position}
use Rattle.places.specs.declared.Position.TheVariants.{Unknown, Known}
use Rattle.rules.specs.Families.{View, view, word_at, has_role, closed_session, session_at, permissions_of, has_done, holds}
use Rattle.rules.specs.declared.families.Rule.{Rule}
use Rattle.rules.specs.declared.sessions.Session.{Session}
use Rattle.steps.specs.Steps.{is_time}
use Rattle.loans.specs.Loans.{running, no_loans, loans_accepted, is_borrowed, is_lent_out, held_with}
use Rattle.loans.specs.declared.Loan.{Loan}
use Rattle.enforcement.specs.declared.states.State.{State}

-- "Fresh: time 0, all else empty."
unfoldable pub fresh : State
fresh =
    record {
      time = 0;
      assigned = replicate 64 0;
      granted = replicate 32 0;
      loans = no_loans;
      sessions = replicate 32 closed_session;
      active = replicate 32 0;
      history = replicate 1024 0;
    }

-- ---- "The state: time; who is assigned what; which role carries which permission; per session open or not, user, position,
-- active roles; per object and permission the users who did it."

-- user u is assigned role r
abbrev pub assigned_role : State → ℕ → ℕ → Bool
assigned_role s u r = has_role s.assigned u r

-- the loans that run
abbrev pub loans_of : State → List Loan
loans_of s = running s.loans

-- user v has role r on loan
abbrev pub borrowed_role : State → ℕ → ℕ → Bool
borrowed_role s v r = is_borrowed (loans_of s) v r

-- user u has role r lent out
abbrev pub lent_out_role : State → ℕ → ℕ → Bool
lent_out_role s u r = is_lent_out (loans_of s) u r

-- the roles that users hold. 2026-01: "A role is held when assigned or on loan"
abbrev pub held_roles : State → List ℕ
held_roles s = held_with s.assigned (loans_of s)

-- user u holds role r; that this is to be assigned it or to have it on loan is `holds-means` of proofs/Loans.antt
abbrev pub holds_role : State → ℕ → ℕ → Bool
holds_role s u r = has_role (held_roles s) u r

-- role r carries permission p
abbrev pub carries : State → ℕ → ℕ → Bool
carries s r p = member (permissions_of s.granted r) p

abbrev pub is_open : State → ℕ → Bool
is_open s i = (session_at s.sessions i).is_open

abbrev pub user_of : State → ℕ → ℕ
user_of s i = (session_at s.sessions i).user

abbrev pub position_of : State → ℕ → Position
position_of s i = (session_at s.sessions i).position

-- role r is active in session i
abbrev pub active_role : State → ℕ → ℕ → Bool
active_role s i r = has_role s.active i r

-- user u did permission p on object o
abbrev pub did : State → ℕ → ℕ → ℕ → Bool
did s o p u = has_done s.history o p u

-- ---- a rule over a state

-- what the full tests read of a state
abbrev pub view_of : State → View
view_of s = view s.assigned (held_roles s) s.granted s.sessions s.active s.history s.time

abbrev pub rule_holds : Rule → State → Bool
rule_holds rule s = holds rule (view_of s)

-- ---- "handed-in state ..: field outside its range, closed session that keeps anything" is 40; 2026-01: loans "kept in ascending order, at
-- most one for the same u, v and r (handed in otherwise: 40)"

abbrev pub is_unknown : Position → Bool
is_unknown Unknown = true
is_unknown (Known point) = false

-- an open session has a user and a position in range; a closed one has user 0, no position and no active role
unfoldable pub session_accepted : Session → ℕ → Bool
session_accepted session roles =
    cond session.is_open
    (ltb session.user 64 && position_in_range session.position)
    (eqb session.user 0 && (is_unknown session.position && is_empty roles))

unfoldable pub state_accepted : State → Bool
state_accepted s =
    is_time s.time && (loans_accepted s.loans && all 32 (λ i. session_accepted (session_at s.sessions i) (word_at s.active i)))
