-- Request 2026-05: "assign, withdraw, grant, take, lend and recall held by named roles". What 53 and 54 look at, of a step that 20 does not
-- refuse.
-- Assumes nothing.
use Rattle.std.specs.Prelude.{ℕ, Bool, true, false, not, cond, ◌&&◌, ◌||◌, List, Result, Ok, Err}
use Rattle.sets.specs.Sets.{member, any}
use Rattle.rules.specs.Acceptance.{right_at}
use Rattle.rules.specs.Families.{word_at, session_at, permissions_of}
use Rattle.rules.specs.declared.rights.Right.{Right}
use Rattle.rules.specs.declared.rights.Right.TheVariants.{Unstated, Permission}
use Rattle.rules.specs.declared.rights.RightSlot.{RightSlot}
use Rattle.rules.specs.declared.sessions.Session.{Session}
use Rattle.steps.specs.Steps.{right_kind, is_administrative}
use Rattle.steps.specs.declared.acting.Acting.{Acting}
use Rattle.steps.specs.declared.acting.Acting.TheVariants.{Nobody, InSession}
use Rattle.steps.specs.declared.actions.Action.{Action}
use Rattle.steps.specs.declared.refusals.Refusal.{Refusal}
use Rattle.steps.specs.declared.refusals.Refusal.TheVariants.{ActorNotOpen, RightLacking}

-- the right of a step's kind: "one line a kind in that order"; there is none for a kind that is not one of the six
abbrev pub right_for : List RightSlot → Action → Right
right_for rights action = right_at rights (right_kind action)

-- ---- "53 acting session not open (whenever `by` stands)"

abbrev pub is_closed : List Session → ℕ → Bool
is_closed sessions i = not (session_at sessions i).is_open

abbrev pub acts_closed : List Session → Acting → Bool
acts_closed sessions Nobody = false
acts_closed sessions (InSession i) = is_closed sessions i

-- ---- "54 right lacking"

-- one of the roles of a set carries the permission
unfoldable pub is_carried : List ℕ → ℕ → ℕ → Bool
is_carried granted roles p = any 32 (λ r. member roles r && member (permissions_of granted r) p)

-- "the step then needs an acting session with an active role that carries permission 30"; "A step of a kind with a right and no `by` counts
-- as lacking it."
abbrev pub lacks_right : Right → Acting → List ℕ → List ℕ → Bool
lacks_right Unstated by active granted = false
lacks_right (Permission p) Nobody active granted = true
lacks_right (Permission p) (InSession i) active granted = not (is_carried granted (word_at active i) p)

-- ---- as the code goes about it

abbrev pub refusal_by : Right → Acting → List Session → List ℕ → List ℕ → Result (Unit {0}) Refusal
refusal_by right by sessions active granted =
    cond (acts_closed sessions by) (Err ActorNotOpen) (cond (lacks_right right by active granted) (Err RightLacking) (Ok tt))

abbrev pub acts : Acting → Bool
acts Nobody = false
acts (InSession i) = true

abbrev pub is_stated : Right → Bool
is_stated Unstated = false
is_stated (Permission p) = true

-- one of the two may refuse the step
abbrev pub is_bound : List RightSlot → Acting → Action → Bool
is_bound rights by action = is_administrative action && (acts by || is_stated (right_for rights action))
