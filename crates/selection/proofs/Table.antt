-- A step selects the rules of document 01's table and no other.
-- Assumes nothing.
use mathlib.Core.Path.{◌≡◌, refl}
use mathlib.Core.Bool.{Bool, true, ◌&&◌, ◌||◌, or-true, false≢true}
use mathlib.Core.Logic.{◌↔◌, ⊎_elim}
use Prim.Native.Nat.{ℕ}
use lib.Dec.{eqb}
use borrow.Author.Tests.{eq-eqb, eqb-true}
use Rattle.sets.proofs.Booleans.{both, of_or}
use Rattle.calendar.specs.declared.terms.Term.{Term}
use Rattle.places.specs.declared.Side.{Side}
use Rattle.rules.specs.declared.families.Rule.{Rule}
use Rattle.rules.specs.declared.families.Rule.TheVariants.{Prerequisite, MaxUsers, MaxRoles, MaxPermissions, MaxActive, StaticSeparation, DynamicSeparation, Dependency, TimeContext, LocationContext, HistorySeparation, BindingOfDuty}
use Rattle.selection.specs.Selection.{family, selects, has_first, has_second, names}
use Rattle.steps.specs.declared.actions.Action.{Action}
use Rattle.steps.specs.declared.actions.Action.TheVariants.{Malformed, Assign, Withdraw, Grant, Take, Open, Activate, Deactivate, Access, Finish, Close, Move, Lost, Clock, Lend, Recall}
use Rattle.selection.specs.Table.{Selected, assign_before, assign_max_users, assign_max_roles, assign_apart_first, assign_apart_second, withdraw_before, grant_max_permissions, activate_max_active, activate_apart_first, activate_apart_second, activate_needs, activate_during, activate_at, deactivate_needs, access_two_hands_first, access_two_hands_second, access_same_hand_first, access_same_hand_second, close_needs, move_at, move_needs, lost_at, lost_needs, clock_during, clock_needs, lend_max_users, lend_max_roles, lend_apart_first, lend_apart_second, recall_needs}

-- ---- a rule by its family's number

data Numbered : ℕ → Rule → Type 0 where
  before : (r q : ℕ) → Numbered 1 (Prerequisite r q)
  max_users : (r n : ℕ) → Numbered 2 (MaxUsers r n)
  max_roles : (n : ℕ) → Numbered 3 (MaxRoles n)
  max_permissions : (r n : ℕ) → Numbered 4 (MaxPermissions r n)
  max_active : (n : ℕ) → Numbered 5 (MaxActive n)
  apart : (r q : ℕ) → Numbered 6 (StaticSeparation r q)
  apart_active : (r q : ℕ) → Numbered 7 (DynamicSeparation r q)
  needs : (r q : ℕ) → Numbered 8 (Dependency r q)
  during : (r : ℕ) (term : Term) → Numbered 9 (TimeContext r term)
  at : (r : ℕ) (side : Side) → Numbered 10 (LocationContext r side)
  two_hands : (p q : ℕ) → Numbered 11 (HistorySeparation p q)
  same_hand : (p q : ℕ) → Numbered 12 (BindingOfDuty p q)

numbered-by-family : (rule : Rule) → Numbered (family rule) rule
numbered-by-family (Prerequisite r q) = before r q
numbered-by-family (MaxUsers r n) = max_users r n
numbered-by-family (MaxRoles n) = max_roles n
numbered-by-family (MaxPermissions r n) = max_permissions r n
numbered-by-family (MaxActive n) = max_active n
numbered-by-family (StaticSeparation r q) = apart r q
numbered-by-family (DynamicSeparation r q) = apart_active r q
numbered-by-family (Dependency r q) = needs r q
numbered-by-family (TimeContext r term) = during r term
numbered-by-family (LocationContext r side) = at r side
numbered-by-family (HistorySeparation p q) = two_hands p q
numbered-by-family (BindingOfDuty p q) = same_hand p q

module _ (n : ℕ) (rule : Rule) {A : Type 0} where
  -- what follows of the rules of a family follows where the family's test says so
  all-of-family : (Numbered n rule → A) → eqb (family rule) n ≡ true → A
  all-of-family follows h = follows (rw (eqb-true (family rule) n h) at (numbered-by-family rule))

  -- and of those of them that pass a further test
  some-of-family : (test : Bool) → (Numbered n rule → test ≡ true → A) → (eqb (family rule) n && test) ≡ true → A
  some-of-family test follows h = let t = both (eqb (family rule) n) test h in all-of-family (λ of. follows of t.1) t.0

either : (a b : Bool) {A : Type 0} → (a ≡ true → A) → (b ≡ true → A) → (a || b) ≡ true → A
either a b f g h = ⊎_elim f g (of_or a b h)

-- ---- the table's cells

-- what a cell names is selected
of-selected : (action : Action) (rule : Rule) → Selected action rule → selects action rule ≡ true
unfolding selects
of-selected action rule (assign_before u r q) = rw (eq-eqb r r refl)
of-selected action rule (assign_max_users u r n) = rw (eq-eqb r r refl)
of-selected action rule (assign_max_roles u r n) = refl
of-selected action rule (assign_apart_first u r q) = rw (eq-eqb r r refl)
of-selected action rule (assign_apart_second u r q) = rw (eq-eqb r r refl, or-true)
of-selected action rule (withdraw_before u r q) = rw (eq-eqb r r refl)
of-selected action rule (grant_max_permissions r p n) = rw (eq-eqb r r refl)
of-selected action rule (activate_max_active i r n) = refl
of-selected action rule (activate_apart_first i r q) = rw (eq-eqb r r refl)
of-selected action rule (activate_apart_second i r q) = rw (eq-eqb r r refl, or-true)
of-selected action rule (activate_needs i r q) = rw (eq-eqb r r refl)
of-selected action rule (activate_during i r term) = rw (eq-eqb r r refl)
of-selected action rule (activate_at i r side) = rw (eq-eqb r r refl)
of-selected action rule (deactivate_needs i r q) = rw (eq-eqb r r refl)
of-selected action rule (access_two_hands_first i p o q) = rw (eq-eqb p p refl)
of-selected action rule (access_two_hands_second i p o q) = rw (eq-eqb p p refl, or-true)
of-selected action rule (access_same_hand_first i p o q) = rw (eq-eqb p p refl)
of-selected action rule (access_same_hand_second i p o q) = rw (eq-eqb p p refl, or-true)
of-selected action rule (close_needs i r q) = refl
of-selected action rule (move_at i point r side) = refl
of-selected action rule (move_needs i point r q) = refl
of-selected action rule (lost_at i r side) = refl
of-selected action rule (lost_needs i r q) = refl
of-selected action rule (clock_during t r term) = refl
of-selected action rule (clock_needs t r q) = refl
of-selected action rule (lend_max_users u v r t n) = rw (eq-eqb r r refl)
of-selected action rule (lend_max_roles u v r t n) = refl
of-selected action rule (lend_apart_first u v r t q) = rw (eq-eqb r r refl)
of-selected action rule (lend_apart_second u v r t q) = rw (eq-eqb r r refl, or-true)
of-selected action rule (recall_needs u v r p q) = refl

-- a rule of the cell's family that passes the cell's test is named by the cell
module _ (u r : ℕ) where
  in-assign-before : {rule : Rule} → Numbered 1 rule → has_first r rule ≡ true → Selected (Assign u r) rule
  in-assign-before (before a q) h = rw (eqb-true a r h) (assign_before u r q)

  in-assign-max-users : {rule : Rule} → Numbered 2 rule → has_first r rule ≡ true → Selected (Assign u r) rule
  in-assign-max-users (max_users a n) h = rw (eqb-true a r h) (assign_max_users u r n)

  in-assign-max-roles : {rule : Rule} → Numbered 3 rule → Selected (Assign u r) rule
  in-assign-max-roles (max_roles n) = assign_max_roles u r n

  in-assign-apart : {rule : Rule} → Numbered 6 rule → names r rule ≡ true → Selected (Assign u r) rule
  in-assign-apart (apart a q) =
      either _ _ (λ h. rw (eqb-true a r h) (assign_apart_first u r q)) (λ h. rw (eqb-true q r h) (assign_apart_second u r a))

  in-withdraw-before : {rule : Rule} → Numbered 1 rule → has_second r rule ≡ true → Selected (Withdraw u r) rule
  in-withdraw-before (before q a) h = rw (eqb-true a r h) (withdraw_before u r q)

in-grant-max-permissions : (r p : ℕ) {rule : Rule} → Numbered 4 rule → has_first r rule ≡ true → Selected (Grant r p) rule
in-grant-max-permissions r p (max_permissions a n) h = rw (eqb-true a r h) (grant_max_permissions r p n)

module _ (i r : ℕ) where
  in-activate-max-active : {rule : Rule} → Numbered 5 rule → Selected (Activate i r) rule
  in-activate-max-active (max_active n) = activate_max_active i r n

  in-activate-apart : {rule : Rule} → Numbered 7 rule → names r rule ≡ true → Selected (Activate i r) rule
  in-activate-apart (apart_active a q) =
      either _ _ (λ h. rw (eqb-true a r h) (activate_apart_first i r q)) (λ h. rw (eqb-true q r h) (activate_apart_second i r a))

  in-activate-needs : {rule : Rule} → Numbered 8 rule → has_first r rule ≡ true → Selected (Activate i r) rule
  in-activate-needs (needs a q) h = rw (eqb-true a r h) (activate_needs i r q)

  in-activate-during : {rule : Rule} → Numbered 9 rule → has_first r rule ≡ true → Selected (Activate i r) rule
  in-activate-during (during a term) h = rw (eqb-true a r h) (activate_during i r term)

  in-activate-at : {rule : Rule} → Numbered 10 rule → has_first r rule ≡ true → Selected (Activate i r) rule
  in-activate-at (at a side) h = rw (eqb-true a r h) (activate_at i r side)

  in-deactivate-needs : {rule : Rule} → Numbered 8 rule → has_second r rule ≡ true → Selected (Deactivate i r) rule
  in-deactivate-needs (needs q a) h = rw (eqb-true a r h) (deactivate_needs i r q)

module _ (i p o : ℕ) where
  in-access-two-hands : {rule : Rule} → Numbered 11 rule → names p rule ≡ true → Selected (Access i p o) rule
  in-access-two-hands (two_hands a q) =
      either _ _ (λ h. rw (eqb-true a p h) (access_two_hands_first i p o q)) (λ h. rw (eqb-true q p h) (access_two_hands_second i p o a))

  in-access-same-hand : {rule : Rule} → Numbered 12 rule → names p rule ≡ true → Selected (Access i p o) rule
  in-access-same-hand (same_hand a q) =
      either _ _ (λ h. rw (eqb-true a p h) (access_same_hand_first i p o q)) (λ h. rw (eqb-true q p h) (access_same_hand_second i p o a))

module _ (u v r t : ℕ) where
  in-lend-max-users : {rule : Rule} → Numbered 2 rule → has_first r rule ≡ true → Selected (Lend u v r t) rule
  in-lend-max-users (max_users a n) h = rw (eqb-true a r h) (lend_max_users u v r t n)

  in-lend-max-roles : {rule : Rule} → Numbered 3 rule → Selected (Lend u v r t) rule
  in-lend-max-roles (max_roles n) = lend_max_roles u v r t n

  in-lend-apart : {rule : Rule} → Numbered 6 rule → names r rule ≡ true → Selected (Lend u v r t) rule
  in-lend-apart (apart a q) =
      either _ _ (λ h. rw (eqb-true a r h) (lend_apart_first u v r t q)) (λ h. rw (eqb-true q r h) (lend_apart_second u v r t a))

-- a family selected whole
module _ (action : Action) where
  in-all-needs : ((r q : ℕ) → Selected action (Dependency r q)) → {rule : Rule} → Numbered 8 rule → Selected action rule
  in-all-needs cell (needs r q) = cell r q

  in-all-during : ((r : ℕ) (term : Term) → Selected action (TimeContext r term)) → {rule : Rule} → Numbered 9 rule → Selected action rule
  in-all-during cell (during r term) = cell r term

  in-all-at : ((r : ℕ) (side : Side) → Selected action (LocationContext r side)) → {rule : Rule} → Numbered 10 rule → Selected action rule
  in-all-at cell (at r side) = cell r side

-- what is selected is named by a cell
to-selected : (action : Action) (rule : Rule) → selects action rule ≡ true → Selected action rule
unfolding selects
to-selected Malformed rule h = absurd (false≢true h)
to-selected (Assign u r) rule h =
    either _ _
    (some-of-family 1 rule (has_first r rule) (in-assign-before u r))
    (either _ _
    (some-of-family 2 rule (has_first r rule) (in-assign-max-users u r))
    (either _ _ (all-of-family 3 rule (in-assign-max-roles u r)) (some-of-family 6 rule (names r rule) (in-assign-apart u r)))) h
to-selected (Withdraw u r) rule h = some-of-family 1 rule (has_second r rule) (in-withdraw-before u r) h
to-selected (Grant r p) rule h = some-of-family 4 rule (has_first r rule) (in-grant-max-permissions r p) h
to-selected (Take r p) rule h = absurd (false≢true h)
to-selected (Open i u) rule h = absurd (false≢true h)
to-selected (Activate i r) rule h =
    either _ _
    (all-of-family 5 rule (in-activate-max-active i r))
    (either _ _
    (some-of-family 7 rule (names r rule) (in-activate-apart i r))
    (either _ _
    (some-of-family 8 rule (has_first r rule) (in-activate-needs i r))
    (either _ _
    (some-of-family 9 rule (has_first r rule) (in-activate-during i r))
    (some-of-family 10 rule (has_first r rule) (in-activate-at i r))))) h
to-selected (Deactivate i r) rule h = some-of-family 8 rule (has_second r rule) (in-deactivate-needs i r) h
to-selected (Access i p o) rule h =
    either _ _
    (some-of-family 11 rule (names p rule) (in-access-two-hands i p o))
    (some-of-family 12 rule (names p rule) (in-access-same-hand i p o)) h
to-selected (Finish o) rule h = absurd (false≢true h)
to-selected (Close i) rule h = all-of-family 8 rule (in-all-needs (Close i) (close_needs i)) h
to-selected (Move i point) rule h =
    either _ _
    (all-of-family 10 rule (in-all-at (Move i point) (move_at i point)))
    (all-of-family 8 rule (in-all-needs (Move i point) (move_needs i point))) h
to-selected (Lost i) rule h =
    either _ _
    (all-of-family 10 rule (in-all-at (Lost i) (lost_at i)))
    (all-of-family 8 rule (in-all-needs (Lost i) (lost_needs i))) h
to-selected (Clock t) rule h =
    either _ _
    (all-of-family 9 rule (in-all-during (Clock t) (clock_during t)))
    (all-of-family 8 rule (in-all-needs (Clock t) (clock_needs t))) h
to-selected (Lend u v r t) rule h =
    either _ _
    (some-of-family 2 rule (has_first r rule) (in-lend-max-users u v r t))
    (either _ _ (all-of-family 3 rule (in-lend-max-roles u v r t)) (some-of-family 6 rule (names r rule) (in-lend-apart u v r t))) h
to-selected (Recall u v r) rule h = all-of-family 8 rule (in-all-needs (Recall u v r) (recall_needs u v r)) h

-- a step selects a rule exactly where the table's cell names it
pub table : (action : Action) (rule : Rule) → (selects action rule ≡ true) ↔ Selected action rule
table action rule = (to-selected action rule, of-selected action rule)
