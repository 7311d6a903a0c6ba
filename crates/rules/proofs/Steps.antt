-- What the functions of a full test compute, as the definitions of the families have it.
-- Assumes nothing.
use mathlib.Core.Path.{◌≡◌, refl, sym, ap, ap₂, ◌∙◌}
use mathlib.Core.Bool.{Bool, true, false, not, ◌&&◌, ◌||◌, and-true, and-false, or-false}
use mathlib.Core.List.{List}
use Prim.Native.Nat.{ℕ, ◌+◌, ◌^◌, ◌<◌, ◌≤◌}
use native.Mathlib.Numerals.{add-one}
use lib.Dec.{eqb}
use borrow.Author.Tests.{lt-ltb, le-leb, lt-leb}
use Rattle.sets.specs.Sets.{member, union, intersection, is_empty, with, any, count, set_of, union_of}
use Rattle.sets.proofs.Width.{disjoint-all}
use Rattle.sets.proofs.Counting.{count-union}
use Rattle.sets.proofs.Members.{with-below}
use Rattle.sets.proofs.Built.{member-set-of, set-of-same, set-of-with, set-of-none, set-of-in, set-of-out, count-set-of, member-union-of, union-of-in}
use Rattle.rules.specs.Breach.{first_broken}
use Rattle.calendar.specs.Terms.{term_holds}
use Rattle.calendar.specs.declared.terms.Term.{Term}
use Rattle.rules.specs.Families.{time_context_at, dependency_at, word_at, has_role, session_at, is_active_for, is_active, inactive_at, dynamic_separation_at, users_who, history_separation_at, binding_of_duty_at}
use Rattle.rules.specs.declared.sessions.Session.{Session}
use Rattle.std.specs.Prelude.{None}
use Rattle.rules.proofs.Breach.{first-same, first-none, none_yet, first_more, broken_here}

-- ---- a role that is active only under a condition

module _ (active : List ℕ) (r : ℕ) (condition : Bool) where
  while-met : condition ≡ true → None ≡ first_broken 32 (λ s. not (has_role active s r && not condition))
  while-met e = sym (first-none 32 (λ s. not (has_role active s r && not condition)) (λ s l. rw (e, and-false)))

  while-unmet : condition ≡ false → first_broken 32 (inactive_at active r) ≡ first_broken 32 (λ s. not (has_role active s r && not condition))
  unfolding inactive_at
  while-unmet e = first-same 32 (inactive_at active r) (λ s. not (has_role active s r && not condition)) (λ s l. rw (e, and-true))

module _ (active : List ℕ) (r : ℕ) where
  pub term_holding : (term : Term) (time : ℕ) → term_holds term time ≡ true → None ≡ first_broken 32 (time_context_at active r term time)
  unfolding time_context_at
  term_holding term time e = while-met active r (term_holds term time) e

  pub term_over : (term : Term) (time : ℕ) → term_holds term time ≡ false → first_broken 32 (inactive_at active r) ≡ first_broken 32 (time_context_at active r term time)
  unfolding time_context_at
  term_over term time e = while-unmet active r (term_holds term time) e

  pub need_met : (q : ℕ) → member (union_of 32 (word_at active)) q ≡ true → None ≡ first_broken 32 (dependency_at active r q)
  unfolding dependency_at is_active
  need_met q e = while-met active r (is_active active q) (sym (member-union-of 32 q (word_at active)) ∙ e)

  pub need_unmet : (q : ℕ) → member (union_of 32 (word_at active)) q ≡ false → first_broken 32 (inactive_at active r) ≡ first_broken 32 (dependency_at active r q)
  unfolding dependency_at is_active
  need_unmet q e = while-unmet active r (is_active active q) (sym (member-union-of 32 q (word_at active)) ∙ e)

pub ruleset while_active = (term_holding, term_over, need_met, need_unmet)

-- ---- the users who have a role active

module _ (sessions : List Session) (active : List ℕ) (r : ℕ) where
  -- over the first k sessions
  abbrev pub active_users : ℕ → ℕ
  active_users k = set_of 64 (λ u. any k (λ s. eqb (session_at sessions s).user u && has_role active s r))

  pub no-users : 0 ≡ active_users 0
  unfolding any
  no-users = set-of-none 64 _ (λ u l. refl)

  next-any : (k u : ℕ) → any (k + 1) (λ s. eqb (session_at sessions s).user u && has_role active s r) ≡ (any k (λ s. eqb (session_at sessions s).user u && has_role active s r) || (eqb (session_at sessions k).user u && has_role active k r))
  unfolding any
  next-any k u = ap (λ (n : ℕ). any n (λ s. eqb (session_at sessions s).user u && has_role active s r)) (add-one k)

  pub user-more : (k : ℕ) → has_role active k r ≡ true → with 64 (active_users k) (session_at sessions k).user ≡ active_users (k + 1)
  user-more k e = set-of-with 64 (session_at sessions k).user _ _ (λ u l. rw (next-any k u, e, and-true))

  pub user-same : (k : ℕ) → has_role active k r ≡ false → active_users k ≡ active_users (k + 1)
  user-same k e = set-of-same 64 _ _ (λ u l. sym (rw (next-any k u, e, and-false, or-false)))

  pub ruleset user_turns = (no-users, user-more, user-same)

  pub is-active-for : (users u : ℕ) → u < 64 → users ≡ set_of 64 (λ u. is_active_for sessions active u r) → member users u ≡ is_active_for sessions active u r
  is-active-for users u l e = rw (e, member-set-of 64 u (λ u. is_active_for sessions active u r), lt-ltb u 64 l)

-- no user is in both sets: the test of two sets of users
unfoldable pub not_in_both : ℕ → ℕ → ℕ → Bool
not_in_both a b u = not (member a u && member b u)

pub in_both : (sessions : List Session) (active : List ℕ) (r q a b : ℕ) → a ≡ set_of 64 (λ u. is_active_for sessions active u r) → b ≡ set_of 64 (λ u. is_active_for sessions active u q) → first_broken 64 (not_in_both a b) ≡ first_broken 64 (dynamic_separation_at sessions active r q)
unfolding not_in_both dynamic_separation_at
in_both sessions active r q a b ea eb =
    first-same 64 (not_in_both a b) (dynamic_separation_at sessions active r q)
    (λ u l. ap₂ (λ (x y : Bool). not (x && y)) (is-active-for sessions active r a u l ea) (is-active-for sessions active q b u l eb))

pub ruleset active_turns = (none_yet, first_more, broken_here, is-active-for)

-- ---- what was done on an object

module _ (history : List ℕ) (p q o a b : ℕ) (ea : a ≡ users_who history o p) (eb : b ≡ users_who history o q) where
  pub separated : a < 2 ^ 64 → is_empty (intersection a b) ≡ history_separation_at history p q o
  unfolding history_separation_at
  separated l = rw (← ea, ← eb) (disjoint-all 64 a b l)

module _ (history : List ℕ) (p q o : ℕ) where
  pub one_doer : count 64 (member (union (users_who history o p) (users_who history o q))) ≤ 1 → binding_of_duty_at history p q o ≡ true
  unfolding binding_of_duty_at
  one_doer few = rw (← count-union 64 (users_who history o p) (users_who history o q)) (le-leb _ 1 few)

  pub two_doers : 1 < count 64 (member (union (users_who history o p) (users_who history o q))) → binding_of_duty_at history p q o ≡ false
  unfolding binding_of_duty_at
  two_doers more = rw (← count-union 64 (users_who history o p) (users_who history o q)) (lt-leb _ 1 more)

pub ruleset object_turns = (none_yet, first_more, broken_here, separated, one_doer, two_doers)

-- ---- sets built by a loop

pub nothing-yet : (p : ℕ → Bool) → 0 ≡ set_of 0 p
unfolding set_of
nothing-yet p = refl

pub ruleset set_turns = (nothing-yet, with-below, set-of-in, set-of-out)

pub ruleset set_counted = (count-set-of)

pub no-union : (f : ℕ → ℕ) → 0 ≡ union_of 0 f
unfolding union_of
no-union f = refl

pub ruleset union_turns = (no-union, union-of-in)
