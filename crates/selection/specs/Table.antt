-- Document 01's table, its last column, once more as a reader would say it: the rules that a step selects, each cell one line. That `selects`
-- says the same is proved in proofs/Table.antt.
-- Assumes nothing.
use Rattle.std.specs.Prelude.{ℕ}
use Rattle.calendar.specs.declared.terms.Term.{Term}
use Rattle.places.specs.declared.Point.{Point}
use Rattle.places.specs.declared.Side.{Side}
use Rattle.rules.specs.declared.families.Rule.{Rule}
use Rattle.rules.specs.declared.families.Rule.TheVariants.{Prerequisite, MaxUsers, MaxRoles, MaxPermissions, MaxActive, StaticSeparation, DynamicSeparation, Dependency, TimeContext, LocationContext, HistorySeparation, BindingOfDuty}
use Rattle.steps.specs.declared.actions.Action.{Action}
use Rattle.steps.specs.declared.actions.Action.TheVariants.{Assign, Withdraw, Grant, Activate, Deactivate, Access, Close, Move, Lost, Clock, Lend, Recall}

-- "Rules selected"

pub data Selected : Action → Rule → Type 0 where
  -- assign u r: "before with r first, max-users r, max-roles, apart naming r"
  assign_before : (u r q : ℕ) → Selected (Assign u r) (Prerequisite r q)
  assign_max_users : (u r n : ℕ) → Selected (Assign u r) (MaxUsers r n)
  assign_max_roles : (u r n : ℕ) → Selected (Assign u r) (MaxRoles n)
  assign_apart_first : (u r q : ℕ) → Selected (Assign u r) (StaticSeparation r q)
  assign_apart_second : (u r q : ℕ) → Selected (Assign u r) (StaticSeparation q r)
  -- withdraw u r: "before with r second"
  withdraw_before : (u r q : ℕ) → Selected (Withdraw u r) (Prerequisite q r)
  -- grant r p: "max-permissions r"
  grant_max_permissions : (r p n : ℕ) → Selected (Grant r p) (MaxPermissions r n)
  -- activate s r: "max-active, apart-active naming r, needs with r first, during r, at r"
  activate_max_active : (i r n : ℕ) → Selected (Activate i r) (MaxActive n)
  activate_apart_first : (i r q : ℕ) → Selected (Activate i r) (DynamicSeparation r q)
  activate_apart_second : (i r q : ℕ) → Selected (Activate i r) (DynamicSeparation q r)
  activate_needs : (i r q : ℕ) → Selected (Activate i r) (Dependency r q)
  activate_during : (i r : ℕ) (term : Term) → Selected (Activate i r) (TimeContext r term)
  activate_at : (i r : ℕ) (side : Side) → Selected (Activate i r) (LocationContext r side)
  -- deactivate s r: "needs with r second"
  deactivate_needs : (i r q : ℕ) → Selected (Deactivate i r) (Dependency q r)
  -- access s p o: "two-hands and same-hand naming p"
  access_two_hands_first : (i p o q : ℕ) → Selected (Access i p o) (HistorySeparation p q)
  access_two_hands_second : (i p o q : ℕ) → Selected (Access i p o) (HistorySeparation q p)
  access_same_hand_first : (i p o q : ℕ) → Selected (Access i p o) (BindingOfDuty p q)
  access_same_hand_second : (i p o q : ℕ) → Selected (Access i p o) (BindingOfDuty q p)
  -- close s: "all needs"
  close_needs : (i r q : ℕ) → Selected (Close i) (Dependency r q)
  -- move s x y, lost s: "all at, all needs"
  move_at : (i : ℕ) (point : Point) (r : ℕ) (side : Side) → Selected (Move i point) (LocationContext r side)
  move_needs : (i : ℕ) (point : Point) (r q : ℕ) → Selected (Move i point) (Dependency r q)
  lost_at : (i r : ℕ) (side : Side) → Selected (Lost i) (LocationContext r side)
  lost_needs : (i r q : ℕ) → Selected (Lost i) (Dependency r q)
  -- clock t: "all during, all needs"
  clock_during : (t r : ℕ) (term : Term) → Selected (Clock t) (TimeContext r term)
  clock_needs : (t r q : ℕ) → Selected (Clock t) (Dependency r q)
  -- lend u v r t, 2026-01: "Lend selects max-users r, max-roles and apart naming r"
  lend_max_users : (u v r t n : ℕ) → Selected (Lend u v r t) (MaxUsers r n)
  lend_max_roles : (u v r t n : ℕ) → Selected (Lend u v r t) (MaxRoles n)
  lend_apart_first : (u v r t q : ℕ) → Selected (Lend u v r t) (StaticSeparation r q)
  lend_apart_second : (u v r t q : ℕ) → Selected (Lend u v r t) (StaticSeparation q r)
  -- recall u v r, 2026-01: "recall selects all needs"
  recall_needs : (u v r p q : ℕ) → Selected (Recall u v r) (Dependency p q)
