-- The judgement of a step that selects no rule that reads held is the same whatever is held.
-- Assumes nothing.
use mathlib.Core.Path.{◌≡◌, refl, ap, fun_ext}
use mathlib.Core.Bool.{Bool, false, not, ◌||◌, true≢false}
use mathlib.Core.List.{List}
use Prim.Native.Nat.{ℕ}
use Rattle.rules.specs.Families.{view, holds, tested}
use Rattle.rules.specs.declared.families.Rule.{Rule}
use Rattle.rules.specs.declared.families.Rule.TheVariants.{Prerequisite, MaxUsers, MaxRoles, MaxPermissions, MaxActive, StaticSeparation, DynamicSeparation, Dependency, TimeContext, LocationContext, HistorySeparation, BindingOfDuty}
use Rattle.rules.specs.declared.sessions.Session.{Session}
use Rattle.steps.specs.declared.actions.Action.{Action}
use Rattle.steps.specs.declared.actions.Action.TheVariants.{Malformed, Assign, Withdraw, Grant, Take, Open, Activate, Deactivate, Access, Finish, Close, Move, Lost, Clock, Lend, Recall}
use Rattle.rules.specs.Lowest.{lowest}
use Rattle.selection.specs.Selection.{selects, selected_number}
use Rattle.selection.specs.Judging.{judged_of, reads_held}

-- no rule that reads held is selected
record NoneReads (action : Action) : Type 0 where
  users : (r n : ℕ) → selects action (MaxUsers r n) ≡ false
  roles : (n : ℕ) → selects action (MaxRoles n) ≡ false
  apart : (r q : ℕ) → selects action (StaticSeparation r q) ≡ false

none_reads : (action : Action) → reads_held action ≡ false → NoneReads action
unfolding selects
none_reads Malformed h = record { users = λ r n. refl; roles = λ n. refl; apart = λ r q. refl }
none_reads (Assign u r) h = absurd (true≢false h)
none_reads (Withdraw u r) h = record { users = λ r n. refl; roles = λ n. refl; apart = λ r q. refl }
none_reads (Grant r p) h = record { users = λ r n. refl; roles = λ n. refl; apart = λ r q. refl }
none_reads (Take r p) h = record { users = λ r n. refl; roles = λ n. refl; apart = λ r q. refl }
none_reads (Open i u) h = record { users = λ r n. refl; roles = λ n. refl; apart = λ r q. refl }
none_reads (Activate i r) h = record { users = λ r n. refl; roles = λ n. refl; apart = λ r q. refl }
none_reads (Deactivate i r) h = record { users = λ r n. refl; roles = λ n. refl; apart = λ r q. refl }
none_reads (Access i p o) h = record { users = λ r n. refl; roles = λ n. refl; apart = λ r q. refl }
none_reads (Finish o) h = record { users = λ r n. refl; roles = λ n. refl; apart = λ r q. refl }
none_reads (Close i) h = record { users = λ r n. refl; roles = λ n. refl; apart = λ r q. refl }
none_reads (Move i point) h = record { users = λ r n. refl; roles = λ n. refl; apart = λ r q. refl }
none_reads (Lost i) h = record { users = λ r n. refl; roles = λ n. refl; apart = λ r q. refl }
none_reads (Clock t) h = record { users = λ r n. refl; roles = λ n. refl; apart = λ r q. refl }
none_reads (Lend u v r t) h = absurd (true≢false h)
none_reads (Recall u v r) h = record { users = λ r n. refl; roles = λ n. refl; apart = λ r q. refl }

module _ (action : Action) (assigned held other granted : List ℕ) (sessions : List Session) (active history : List ℕ) (time : ℕ) where
  abbrev kept : List ℕ → Rule → Bool
  kept roles rule = not (selects action rule) || holds rule (view assigned roles granted sessions active history time)

  same_kept : NoneReads action → (rule : Rule) → kept held rule ≡ kept other rule
  unfolding tested
  same_kept none (Prerequisite r q) = refl
  same_kept none (MaxUsers r n) = rw (none.users r n)
  same_kept none (MaxRoles n) = rw (none.roles n)
  same_kept none (MaxPermissions r n) = refl
  same_kept none (MaxActive n) = refl
  same_kept none (StaticSeparation r q) = rw (none.apart r q)
  same_kept none (DynamicSeparation r q) = refl
  same_kept none (Dependency r q) = refl
  same_kept none (TimeContext r term) = refl
  same_kept none (LocationContext r side) = refl
  same_kept none (HistorySeparation p q) = refl
  same_kept none (BindingOfDuty p q) = refl

  pub held-unread : reads_held action ≡ false → (rules : List Rule)
      → judged_of (selects action) (view assigned held granted sessions active history time) rules ≡ judged_of (selects action) (view assigned other granted sessions active history time) rules
  unfolding judged_of
  held-unread unread rules =
      ap (λ (test : Rule → Bool). record { broken = lowest test 1 rules; selected = selected_number (selects action) rules }) (fun_ext (same_kept (none_reads action unread)))
