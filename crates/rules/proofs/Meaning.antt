-- What each family says of users, roles, sessions and objects, in plain quantifiers and in both directions.
-- Assumes nothing.
use mathlib.Core.Path.{◌≡◌}
use mathlib.Core.Bool.{Bool, true, not, ◌&&◌, ◌||◌}
use mathlib.Core.Logic.{◌↔◌}
use Prim.Native.Nat.{ℕ, ◌≤◌, ◌<◌}
use lib.Dec.{eqb}
use borrow.Author.Tests.{leb-true, le-leb, eq-eqb, eqb-true}
use Rattle.sets.specs.Sets.{member, count}
use Rattle.sets.proofs.Booleans.{both_true, left-true, right-true, not-both, of-not-both, implied, of-implied}
use Rattle.sets.proofs.Bounded.{all-means, any-means}
use Rattle.sets.proofs.Counting.{AtMostOne, at_most_one}
use Rattle.calendar.specs.Terms.{term_holds}
use Rattle.calendar.specs.declared.terms.Term.{Term}
use Rattle.places.specs.Places.{side_holds}
use Rattle.places.specs.declared.Side.{Side}
use Rattle.rules.specs.Breach.{first_broken, is_kept}
use Rattle.rules.specs.Families.{View, permissions_of, has_role, session_at, is_active_for, is_active, has_done, prerequisite_at, max_users, max_roles_at, max_permissions, max_active_at, static_separation_at, dynamic_separation_at, dependency_at, time_context_at, placed_at, location_context_at, history_separation_at, binding_of_duty_at, tested, holds}
use Rattle.rules.specs.declared.families.Rule.TheVariants.{Prerequisite, MaxUsers, MaxRoles, MaxPermissions, MaxActive, StaticSeparation, DynamicSeparation, Dependency, TimeContext, LocationContext, HistorySeparation, BindingOfDuty}
use Rattle.rules.proofs.Breach.{kept-means, limit-means}

-- a test at each number below k, and what it says there
module _ (k : ℕ) (p : ℕ → Bool) (Says : ℕ → Type 0) (to : (i : ℕ) → p i ≡ true → Says i) (from : (i : ℕ) → Says i → p i ≡ true) where
  each-means : (is_kept (first_broken k p) ≡ true) ↔ ((i : ℕ) → i < k → Says i)
  each-means = (λ h i l. to i ((kept-means k p).0 h i l), λ h. (kept-means k p).1 (λ i l. from i (h i l)))

-- session s is one of user u with role r active
abbrev pub ActiveFor : View → ℕ → ℕ → ℕ → Type 0
ActiveFor v u r s = ((session_at v.sessions s).user ≡ u) × (has_role v.active s r ≡ true)

module _ (v : View) where
  -- each user assigned r is assigned q
  pub prerequisite-means : (r q : ℕ) → (holds (Prerequisite r q) v ≡ true) ↔ ((u : ℕ) → u < 64 → has_role v.assigned u r ≡ true → has_role v.assigned u q ≡ true)
  unfolding tested prerequisite_at
  prerequisite-means r q =
      each-means 64 (prerequisite_at v.assigned r q) (λ u. has_role v.assigned u r ≡ true → has_role v.assigned u q ≡ true)
      (λ u. implied (has_role v.assigned u r) (has_role v.assigned u q)) (λ u. of-implied (has_role v.assigned u r) (has_role v.assigned u q))

  -- at most n users hold r
  pub max-users-means : (r n : ℕ) → (holds (MaxUsers r n) v ≡ true) ↔ (count 64 (λ u. has_role v.held u r) ≤ n)
  unfolding tested max_users
  max-users-means r n = limit-means (count 64 (λ u. has_role v.held u r)) n

  -- each user holds at most n roles
  pub max-roles-means : (n : ℕ) → (holds (MaxRoles n) v ≡ true) ↔ ((u : ℕ) → u < 64 → count 32 (has_role v.held u) ≤ n)
  unfolding tested max_roles_at
  max-roles-means n =
      each-means 64 (max_roles_at v.held n) (λ u. count 32 (has_role v.held u) ≤ n)
      (λ u. leb-true (count 32 (has_role v.held u)) n) (λ u. le-leb (count 32 (has_role v.held u)) n)

  -- r carries at most n permissions
  pub max-permissions-means : (r n : ℕ) → (holds (MaxPermissions r n) v ≡ true) ↔ (count 32 (member (permissions_of v.granted r)) ≤ n)
  unfolding tested max_permissions
  max-permissions-means r n = limit-means (count 32 (member (permissions_of v.granted r))) n

  -- each session has at most n active roles
  pub max-active-means : (n : ℕ) → (holds (MaxActive n) v ≡ true) ↔ ((s : ℕ) → s < 32 → count 32 (has_role v.active s) ≤ n)
  unfolding tested max_active_at
  max-active-means n =
      each-means 32 (max_active_at v.active n) (λ s. count 32 (has_role v.active s) ≤ n)
      (λ s. leb-true (count 32 (has_role v.active s)) n) (λ s. le-leb (count 32 (has_role v.active s)) n)

  -- no user holds both
  pub static-separation-means : (r q : ℕ) → (holds (StaticSeparation r q) v ≡ true) ↔ ((u : ℕ) → u < 64 → has_role v.held u r ≡ true → has_role v.held u q ≡ true → ⊥)
  unfolding tested static_separation_at
  static-separation-means r q =
      each-means 64 (static_separation_at v.held r q) (λ u. has_role v.held u r ≡ true → has_role v.held u q ≡ true → ⊥)
      (λ u. not-both (has_role v.held u r) (has_role v.held u q)) (λ u. of-not-both (has_role v.held u r) (has_role v.held u q))

  -- of no user is r active in one session and q in one, the same or another
  pub dynamic-separation-means :
      (r q : ℕ) → (holds (DynamicSeparation r q) v ≡ true) ↔ ((u s t : ℕ) → u < 64 → s < 32 → t < 32 → ActiveFor v u r s → ActiveFor v u q t → ⊥)
  unfolding tested dynamic_separation_at is_active_for
  dynamic-separation-means r q = (
    λ h u s t lu ls lt hs ht. each.0 h u lu (active-of u r s ls hs) (active-of u q t lt ht),
    λ h. each.1 (λ u lu hr hq. let s = of-active u r hr in let t = of-active u q hq in h u s.0 t.0 lu s.1 t.1 s.2 t.2),
  )
    where
      active-of : (u i s : ℕ) → s < 32 → ActiveFor v u i s → is_active_for v.sessions v.active u i ≡ true
      active-of u i s l h =
          (any-means 32 (λ s. eqb (session_at v.sessions s).user u && has_role v.active s i)).1
          (s, l, both_true (eqb (session_at v.sessions s).user u) (has_role v.active s i) (eq-eqb (session_at v.sessions s).user u h.0) h.1)

      of-active : (u i : ℕ) → is_active_for v.sessions v.active u i ≡ true → (s : ℕ) × (s < 32) × ActiveFor v u i s
      of-active u i h =
          let t = (any-means 32 (λ s. eqb (session_at v.sessions s).user u && has_role v.active s i)).0 h in
          let s = t.0 in
          let test = eqb (session_at v.sessions s).user u in
          (s, t.1, (eqb-true (session_at v.sessions s).user u (left-true test (has_role v.active s i) t.2), right-true test (has_role v.active s i) t.2))

      each : (is_kept (first_broken 64 (dynamic_separation_at v.sessions v.active r q)) ≡ true) ↔ ((u : ℕ) → u < 64 → is_active_for v.sessions v.active u r ≡ true → is_active_for v.sessions v.active u q ≡ true → ⊥)
      each =
          each-means 64 (dynamic_separation_at v.sessions v.active r q) (λ u. is_active_for v.sessions v.active u r ≡ true → is_active_for v.sessions v.active u q ≡ true → ⊥)
          (λ u. not-both (is_active_for v.sessions v.active u r) (is_active_for v.sessions v.active u q)) (λ u. of-not-both (is_active_for v.sessions v.active u r) (is_active_for v.sessions v.active u q))

  -- while r is active in a session, q is active in some session
  pub dependency-means :
      (r q : ℕ) → (holds (Dependency r q) v ≡ true) ↔ ((s : ℕ) → s < 32 → has_role v.active s r ≡ true → (t : ℕ) × (t < 32) × (has_role v.active t q ≡ true))
  unfolding tested dependency_at is_active
  dependency-means r q =
      each-means 32 (dependency_at v.active r q) (λ s. has_role v.active s r ≡ true → (t : ℕ) × (t < 32) × (has_role v.active t q ≡ true))
      (λ s h e. (any-means 32 (λ t. has_role v.active t q)).0 (implied (has_role v.active s r) (is_active v.active q) h e))
      (λ s h. of-implied (has_role v.active s r) (is_active v.active q) (λ e. (any-means 32 (λ t. has_role v.active t q)).1 (h e)))

  -- r is active only while the term holds
  pub time-context-means : (r : ℕ) (term : Term) → (holds (TimeContext r term) v ≡ true) ↔ ((s : ℕ) → s < 32 → has_role v.active s r ≡ true → term_holds term v.time ≡ true)
  unfolding tested time_context_at
  time-context-means r term =
      each-means 32 (time_context_at v.active r term v.time) (λ s. has_role v.active s r ≡ true → term_holds term v.time ≡ true)
      (λ s. implied (has_role v.active s r) (term_holds term v.time)) (λ s. of-implied (has_role v.active s r) (term_holds term v.time))

  -- r is active only in sessions positioned so
  pub location-context-means : (r : ℕ) (side : Side) → (holds (LocationContext r side) v ≡ true) ↔ ((s : ℕ) → s < 32 → has_role v.active s r ≡ true → side_holds side (session_at v.sessions s).position ≡ true)
  unfolding tested location_context_at placed_at
  location-context-means r side =
      each-means 32 (location_context_at v.sessions v.active r side) (λ s. has_role v.active s r ≡ true → side_holds side (session_at v.sessions s).position ≡ true)
      (λ s. implied (has_role v.active s r) (side_holds side (session_at v.sessions s).position)) (λ s. of-implied (has_role v.active s r) (side_holds side (session_at v.sessions s).position))

  -- there are no object and user with both
  pub history-separation-means :
      (p q : ℕ) → (holds (HistorySeparation p q) v ≡ true) ↔ ((o : ℕ) → o < 32 → (u : ℕ) → u < 64 → has_done v.history o p u ≡ true → has_done v.history o q u ≡ true → ⊥)
  unfolding tested history_separation_at
  history-separation-means p q =
      each-means 32 (history_separation_at v.history p q) (λ o. (u : ℕ) → u < 64 → has_done v.history o p u ≡ true → has_done v.history o q u ≡ true → ⊥)
      (λ o h u l. not-both (has_done v.history o p u) (has_done v.history o q u) ((all-means 64 (λ u. not (has_done v.history o p u && has_done v.history o q u))).0 h u l))
      (λ o h. (all-means 64 (λ u. not (has_done v.history o p u && has_done v.history o q u))).1 (λ u l. of-not-both (has_done v.history o p u) (has_done v.history o q u) (h u l)))

  -- on each object any two users who did p or q are one
  pub binding-of-duty-means :
      (p q : ℕ) → (holds (BindingOfDuty p q) v ≡ true) ↔ ((o : ℕ) → o < 32 → AtMostOne 64 (λ u. has_done v.history o p u || has_done v.history o q u))
  unfolding tested binding_of_duty_at
  binding-of-duty-means p q =
      each-means 32 (binding_of_duty_at v.history p q) (λ o. AtMostOne 64 (λ u. has_done v.history o p u || has_done v.history o q u))
      (λ o h. (at_most_one 64 (λ u. has_done v.history o p u || has_done v.history o q u)).0 (leb-true (count 64 (λ u. has_done v.history o p u || has_done v.history o q u)) 1 h))
      (λ o h. le-leb (count 64 (λ u. has_done v.history o p u || has_done v.history o q u)) 1 ((at_most_one 64 (λ u. has_done v.history o p u || has_done v.history o q u)).1 h))
