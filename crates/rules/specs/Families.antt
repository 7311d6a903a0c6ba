-- Document 01, 'Rules': the twelve families over what a full test reads. What each says, in plain quantifiers, is proved in
-- proofs/Meaning.antt.
-- Assumes nothing.
use Rattle.std.specs.Prelude.{Bool, false, not, cond, ◌&&◌, ◌||◌, List, ℕ, ◌+◌, ◌*◌, get_or, eqb, leb, ltb, Option}
use Rattle.sets.specs.Sets.{member, all, any, count}
use Rattle.calendar.specs.Terms.{term_holds}
use Rattle.calendar.specs.declared.terms.Term.{Term}
use Rattle.places.specs.Places.{side_holds}
use Rattle.places.specs.declared.Position.{Position}
use Rattle.places.specs.declared.Position.TheVariants.{Unknown}
use Rattle.places.specs.declared.Side.{Side}
use Rattle.rules.specs.Breach.{first_broken, over_limit, is_kept}
use Rattle.rules.specs.declared.sessions.Session.{Session}
use Rattle.rules.specs.declared.families.Rule.{Rule}
use Rattle.rules.specs.declared.families.Rule.TheVariants.{Prerequisite, MaxUsers, MaxRoles, MaxPermissions, MaxActive, StaticSeparation, DynamicSeparation, Dependency, TimeContext, LocationContext, HistorySeparation, BindingOfDuty}

-- ---- what a full test reads

-- what stands at a place of a list of words; past its end the empty set
abbrev pub word_at : List ℕ → ℕ → ℕ
word_at words i = get_or words i 0

-- role r is in the word at i: user i holds it, or it is active in session i
abbrev pub has_role : List ℕ → ℕ → ℕ → Bool
has_role words i r = member (word_at words i) r

abbrev pub closed_session : Session
closed_session = record { is_open = false; user = 0; position = Unknown }

abbrev pub session_at : List Session → ℕ → Session
session_at sessions s = get_or sessions s closed_session

-- user u has role r active in some session of his
unfoldable pub is_active_for : List Session → List ℕ → ℕ → ℕ → Bool
is_active_for sessions active u r = any 32 (λ s. eqb (session_at sessions s).user u && has_role active s r)

-- role r is active in some session
unfoldable pub is_active : List ℕ → ℕ → Bool
is_active active r = any 32 (λ s. has_role active s r)

-- role r is not active in session s
unfoldable pub inactive_at : List ℕ → ℕ → ℕ → Bool
inactive_at active r s = not (has_role active s r)

-- the permissions that role r carries: none where there is no such role
unfoldable pub permissions_of : List ℕ → ℕ → ℕ
permissions_of granted r = cond (ltb r 32) (word_at granted r) 0

-- the users who did permission p on object o: none where there is no such permission
unfoldable pub users_who : List ℕ → ℕ → ℕ → ℕ
users_who history o p = cond (ltb p 32) (word_at history (o * 32 + p)) 0

-- user u did permission p on object o
abbrev pub has_done : List ℕ → ℕ → ℕ → ℕ → Bool
has_done history o p u = member (users_who history o p) u

-- ---- the families: at a user, a session or an object, or as a count

-- "`before r q`: each user assigned r is assigned q"
unfoldable pub prerequisite_at : List ℕ → ℕ → ℕ → ℕ → Bool
prerequisite_at assigned r q u = not (has_role assigned u r && not (has_role assigned u q))

-- "`max-users r n`"
unfoldable pub max_users : List ℕ → ℕ → ℕ → Option ℕ
max_users held r n = over_limit (count 64 (λ u. has_role held u r)) n

-- "`max-roles n` (each user)"
unfoldable pub max_roles_at : List ℕ → ℕ → ℕ → Bool
max_roles_at held n u = leb (count 32 (has_role held u)) n

-- "`max-permissions r n`"
unfoldable pub max_permissions : List ℕ → ℕ → ℕ → Option ℕ
max_permissions granted r n = over_limit (count 32 (member (permissions_of granted r))) n

-- "`max-active n` (each session)"
unfoldable pub max_active_at : List ℕ → ℕ → ℕ → Bool
max_active_at active n s = leb (count 32 (has_role active s)) n

-- "`apart r q`: no user is assigned both"
unfoldable pub static_separation_at : List ℕ → ℕ → ℕ → ℕ → Bool
static_separation_at held r q u = not (has_role held u r && has_role held u q)

-- "`apart-active r q`: no user has both active, over all his sessions"
unfoldable pub dynamic_separation_at : List Session → List ℕ → ℕ → ℕ → ℕ → Bool
dynamic_separation_at sessions active r q u = not (is_active_for sessions active u r && is_active_for sessions active u q)

-- "`needs r q`: while r is active anywhere, q is active in some session"
unfoldable pub dependency_at : List ℕ → ℕ → ℕ → ℕ → Bool
dependency_at active r q s = not (has_role active s r && not (is_active active q))

-- "`during r (term)`: r is active only while the term holds"
unfoldable pub time_context_at : List ℕ → ℕ → Term → ℕ → ℕ → Bool
time_context_at active r term time s = not (has_role active s r && not (term_holds term time))

-- "`at r (inside (shape))` or `outside`: r is active only in sessions positioned so"
unfoldable pub placed_at : ℕ → ℕ → Side → Position → Bool
placed_at roles r side position = not (member roles r && not (side_holds side position))

unfoldable pub location_context_at : List Session → List ℕ → ℕ → Side → ℕ → Bool
location_context_at sessions active r side s = placed_at (word_at active s) r side (session_at sessions s).position

-- "`two-hands p q`: no user did both on one object"
unfoldable pub history_separation_at : List ℕ → ℕ → ℕ → ℕ → Bool
history_separation_at history p q o = all 64 (λ u. not (has_done history o p u && has_done history o q u))

-- "`same-hand p q`: on each object at most one user did p or q"
unfoldable pub binding_of_duty_at : List ℕ → ℕ → ℕ → ℕ → Bool
binding_of_duty_at history p q o = leb (count 64 (λ u. has_done history o p u || has_done history o q u)) 1

-- ---- the full test

-- all that a full test reads; `before` reads what is assigned, the other families on users' roles what is held
pub record View : Type 0 where
  pub assigned : List ℕ
  pub held : List ℕ
  pub granted : List ℕ
  pub sessions : List Session
  pub active : List ℕ
  pub history : List ℕ
  pub time : ℕ

abbrev pub view : List ℕ → List ℕ → List ℕ → List Session → List ℕ → List ℕ → ℕ → View
view assigned held granted sessions active history time =
    record {
      assigned = assigned;
      held = held;
      granted = granted;
      sessions = sessions;
      active = active;
      history = history;
      time = time;
    }

unfoldable pub tested : Rule → View → Option ℕ
tested (Prerequisite r q) v = first_broken 64 (prerequisite_at v.assigned r q)
tested (MaxUsers r n) v = max_users v.held r n
tested (MaxRoles n) v = first_broken 64 (max_roles_at v.held n)
tested (MaxPermissions r n) v = max_permissions v.granted r n
tested (MaxActive n) v = first_broken 32 (max_active_at v.active n)
tested (StaticSeparation r q) v = first_broken 64 (static_separation_at v.held r q)
tested (DynamicSeparation r q) v = first_broken 64 (dynamic_separation_at v.sessions v.active r q)
tested (Dependency r q) v = first_broken 32 (dependency_at v.active r q)
tested (TimeContext r term) v = first_broken 32 (time_context_at v.active r term v.time)
tested (LocationContext r side) v = first_broken 32 (location_context_at v.sessions v.active r side)
tested (HistorySeparation p q) v = first_broken 32 (history_separation_at v.history p q)
tested (BindingOfDuty p q) v = first_broken 32 (binding_of_duty_at v.history p q)

-- the rule holds
abbrev pub holds : Rule → View → Bool
holds rule v = is_kept (tested rule v)
