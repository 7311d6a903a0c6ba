-- A plan says what the selected rules say: a plan for no rule, one rule more, and all rules of a list.
-- Assumes nothing.
use mathlib.Core.Path.{◌≡◌, refl, sym, ap, ◌∙◌, subst, fun_ext}
use mathlib.Core.Bool.{Bool, true, false, not, cond, ◌&&◌, ◌||◌, or-true, or-false, and-true, and-false, false≢true}
use mathlib.Core.List.{List, [], ◌∷◌}
use mathlib.Core.Logic.{⊎_elim}
use Prim.Native.Nat.{ℕ, zero, suc, ◌+◌, ◌^◌, ◌≤◌, ◌<◌, zero-le}
use native.Mathlib.Decide.{ℕ_discrete, dec_lt}
use native.Mathlib.Nat.{add-zero}
use native.Mathlib.Omega.{arith}
use native.Mathlib.Numerals.{add-one}
use lib.Dec.{eqb, ltb}
use lib.ListN.{length, get_or, length-set, length-replicate, get_or-replicate}
use borrow.Author.Tests.{eq-eqb, ne_eqb, eqb-true, lt-ltb, le-ltb}
use Rattle.sets.specs.Sets.{member, with, subset, any, union_of}
use Rattle.sets.proofs.Booleans.{clash, both_true, left-true, right-true, left_or, right_or, of_or, not_so, same_test}
use Rattle.sets.proofs.Bounded.{of-any, any_of}
use Rattle.sets.proofs.Members.{member-empty, member-with}
use Rattle.sets.proofs.Width.{member-past, subset-means}
use Rattle.sets.proofs.Built.{member-union-of}
use Rattle.calendar.specs.Terms.{term_holds}
use Rattle.calendar.specs.declared.terms.Term.{Term}
use Rattle.places.specs.Places.{side_holds}
use Rattle.places.specs.declared.Side.{Side}
use Rattle.rules.specs.Families.{word_at, has_role, session_at, is_active}
use Rattle.rules.specs.Acceptance.{every, rule_of}
use Rattle.rules.specs.declared.families.Rule.{Rule}
use Rattle.rules.specs.declared.families.Rule.TheVariants.{Prerequisite, MaxUsers, MaxRoles, MaxPermissions, MaxActive, StaticSeparation, DynamicSeparation, Dependency, TimeContext, LocationContext, HistorySeparation, BindingOfDuty}
use Rattle.rules.specs.declared.lists.Slot.{Slot}
use Rattle.rules.specs.declared.sessions.Session.{Session}
use Rattle.selection.specs.Selection.{first, selects, selected_number}
use Rattle.selection.specs.Choices.{chosen}
use Rattle.steps.specs.declared.actions.Action.{Action}
use Rattle.selection.specs.declared.selection.Choice.{Choice}
use Rattle.selection.specs.Ending.{lets}
use Rattle.enforcement.specs.States.{position_of, active_role}
use Rattle.enforcement.specs.Steps.{put}
use Rattle.enforcement.specs.Rounds.{keeps, stays}
use Rattle.enforcement.specs.Deciding.{Planned, Adds, RuledOut, no_plan}
use Rattle.enforcement.specs.declared.states.State.{State}
use Rattle.enforcement.specs.declared.plans.Plan.{Plan}
use Rattle.enforcement.proofs.Words.{set_at, has-put}
use Rattle.selection.proofs.Judgement.{first_rules, number_more, number-le}

-- ---- a role ruled out session by session

one_more : (i n : ℕ) → ltb i (n + 1) ≡ (ltb i n || eqb n i)
one_more i n = go (dec_lt i n) (ℕ_discrete n i)
  where
    go : Dec (i < n) → Dec (n ≡ i) → ltb i (n + 1) ≡ (ltb i n || eqb n i)
    go (yes l) d = rw (lt-ltb i n l, lt-ltb i (n + 1) (omega arith))
    go (no l) (yes e) = rw (le-ltb i n (omega (arith, l)), eq-eqb n i e, lt-ltb i (n + 1) (omega arith))
    go (no l) (no d) = rw (le-ltb i n (omega (arith, l)), ne_eqb n i d, le-ltb i (n + 1) (omega (arith, l, d)))

ruled-bits : (a u v w e x : Bool) → (v ≡ true → x ≡ true) → (e ≡ true → w ≡ true) → ((a || (u && (e && x))) || (v && (w && e))) ≡ (a || ((u || v) && (e && x)))
ruled-bits true u v w e x hx hw = refl
ruled-bits false true false w e x hx hw = or-false (e && x)
ruled-bits false false false w e x hx hw = refl
ruled-bits false u true w e x hx hw = rw (hx refl) (go u w e hw)
  where
    go : (u w e : Bool) → (e ≡ true → w ≡ true) → ((u && (e && true)) || (w && e)) ≡ ((u || true) && (e && true))
    go true w true h = refl
    go true true false h = refl
    go true false false h = refl
    go false true true h = refl
    go false false true h = h refl
    go false true false h = refl
    go false false false h = refl

module _ (out : List ℕ) (sessions : List Session) (active : List ℕ) (r : ℕ) (side : Side) where
  -- session i has the role active and is not positioned so
  abbrev misplaced : ℕ → Bool
  misplaced i = has_role active i r && not (side_holds side (session_at sessions i).position)

  pub ruled-none : length out ≡ 32 → RuledOut 0 out sessions active r side out
  ruled-none long = record { same_length = long; means = λ i q low small. rw (le-ltb i 0 zero-le, or-false) }

  module _ (n : ℕ) (more : List ℕ) (below : n < 32) (ruled : RuledOut n out sessions active r side more) where
    -- the next session is misplaced
    pub ruled-in : misplaced n ≡ true → RuledOut (n + 1) out sessions active r side (put 32 more n r)
    ruled-in here =
        record {
          same_length = length-set more n (with 32 (word_at more n) r) ∙ ruled.same_length;
          means = λ i q low small.
              has-put more n (rw ruled.same_length below) 32 r i q
              ∙ rw (ruled.means i q low small, one_more i n)
              (ruled-bits (has_role out i q) (ltb i n) (eqb n i) (ltb r 32) (eqb r q) (misplaced i)
              (λ e. rw (← eqb-true n i e) here) (λ e. lt-ltb r 32 (rw (eqb-true r q e) small)));
        }

    -- it is not
    pub ruled_out : misplaced n ≡ false → RuledOut (n + 1) out sessions active r side more
    ruled_out here =
        record {
          same_length = ruled.same_length;
          means = λ i q low small. ruled.means i q low small ∙ rw (one_more i n) (go i q (eqb n i) refl);
        }
      where
        go : (i q : ℕ) (b : Bool) → eqb n i ≡ b → (has_role out i q || (ltb i n && (eqb r q && misplaced i))) ≡ (has_role out i q || ((ltb i n || b) && (eqb r q && misplaced i)))
        go i q true same = rw (← eqb-true n i same, here, and-false (eqb r q), and-false (ltb n n), and-false (ltb n n || true))
        go i q false same = rw (or-false)

-- ---- a plan with one rule more

-- one role more is needed
subset-with : (n q m : ℕ) → q < 32 → subset (with 32 n q) m ≡ (subset n m && member m q)
subset-with n q m low = same_test (subset (with 32 n q) m) (subset n m && member m q) to from
  where
    has : (r : ℕ) → member (with 32 n q) r ≡ (member n r || eqb q r)
    has r = rw (member-with 32 n q r, lt-ltb q 32 low)

    to : subset (with 32 n q) m ≡ true → (subset n m && member m q) ≡ true
    to h =
        let within = (subset-means (with 32 n q) m).0 h in
        both_true (subset n m) (member m q)
        ((subset-means n m).1 (λ r e. within r (has r ∙ left_or (member n r) (eqb q r) e)))
        (within q (has q ∙ right_or (member n q) (eqb q q) (eq-eqb q q refl)))

    from : (subset n m && member m q) ≡ true → subset (with 32 n q) m ≡ true
    from h =
        (subset-means (with 32 n q) m).1
        (λ r e.
        ⊎_elim
        (λ a. (subset-means n m).0 (left-true (subset n m) (member m q) h) r a)
        (λ b. rw (← eqb-true q r b) (right-true (subset n m) (member m q) h))
        (of_or (member n r) (eqb q r) (sym (has r) ∙ e)))

needs-bits : (o d n a : Bool) → (o && (d && (n && a))) ≡ ((o && (d && n)) && a)
needs-bits false d n a = refl
needs-bits true false n a = refl
needs-bits true true n a = refl

dead-bits : (o d w e n : Bool) → (e ≡ true → w ≡ true) → (o && (not (d || (w && e)) && n)) ≡ ((o && (not d && n)) && not e)
dead-bits false d w e n h = refl
dead-bits true true w e n h = refl
dead-bits true false true true n h = sym (and-false n)
dead-bits true false false true n h = absurd (false≢true (h refl))
dead-bits true false true false n h = sym (and-true n)
dead-bits true false false false n h = sym (and-true n)

out-bits : (o e h p n : Bool) → (e ≡ true → h ≡ true) → (not (o || (e && (h && not p))) && n) ≡ ((not o && n) && (not e || p))
out-bits true e h p n f = refl
out-bits false false h p n f = sym (and-true n)
out-bits false true true true n f = sym (and-true n)
out-bits false true true false n f = sym (and-false n)
out-bits false true false p n f = absurd (false≢true (f refl))

-- what a rule lets stay goes by the role alone, where the sets have roles of the range
abbrev Keeps : Rule → State → (ℕ → Bool) → Type 0
Keeps rule s test = (l : List ℕ) → ((j : ℕ) → word_at l j < 2 ^ 32) → (i r : ℕ) → r < 32 → keeps rule s l i r ≡ test r

-- a rule on a role that is active nowhere lets every active pair stay
module _ (s : State) (l : List ℕ) (i r : ℕ) (low : i < 32) (active : active_role s i r ≡ true) where
  another : (a : ℕ) → member (union_of 32 (word_at s.active)) a ≡ false → eqb a r ≡ false
  another a none = go (eqb a r) refl
    where
      go : (b : Bool) → eqb a r ≡ b → b ≡ false
      go false e = refl
      go true e =
          clash (member-union-of 32 a (word_at s.active) ∙ any_of 32 i (λ j. member (word_at s.active j) a) low (rw (eqb-true a r e) active)) none

  keeps-idle : (rule : Rule) → member (union_of 32 (word_at s.active)) (first rule) ≡ false → keeps rule s l i r ≡ true
  unfolding keeps
  keeps-idle (Prerequisite a q) none = refl
  keeps-idle (MaxUsers a n) none = refl
  keeps-idle (MaxRoles n) none = refl
  keeps-idle (MaxPermissions a n) none = refl
  keeps-idle (MaxActive n) none = refl
  keeps-idle (StaticSeparation a q) none = refl
  keeps-idle (DynamicSeparation a q) none = refl
  keeps-idle (Dependency a q) none = rw (another a none) refl
  keeps-idle (TimeContext a term) none = rw (another a none) refl
  keeps-idle (LocationContext a side) none = rw (another a none) refl
  keeps-idle (HistorySeparation p q) none = refl
  keeps-idle (BindingOfDuty p q) none = refl

module _ (s : State) (plan : Plan) (outs : length plan.out ≡ 32) (lacks : length plan.needs ≡ 32) where
  -- one that lets every role stay
  pub adds-nothing : (rule : Rule) → Keeps rule s (λ r. true) → Adds rule s plan plan
  adds-nothing rule stay =
      record {
        outs = outs;
        lacks = lacks;
        means = λ l small i r low below active. rw (stay l small i r below) (sym (and-true (lets plan.dead plan.out plan.needs l i r)));
        number = refl;
      }

  -- one on a role that is active nowhere
  pub adds-idle : (rule : Rule) → member (union_of 32 (word_at s.active)) (first rule) ≡ false → Adds rule s plan plan
  adds-idle rule none =
      record {
        outs = outs;
        lacks = lacks;
        means = λ l small i r low below active. rw (keeps-idle s l i r low active rule none) (sym (and-true (lets plan.dead plan.out plan.needs l i r)));
        number = refl;
      }

  -- one that ends a role everywhere
  pub adds-dead : (a : ℕ) (rule : Rule) → Keeps rule s (λ r. not (eqb a r)) → Adds rule s plan (record { dead = with 32 plan.dead a; out = plan.out; needs = plan.needs; selected = plan.selected })
  unfolding lets
  adds-dead a rule stay =
      record {
        outs = outs;
        lacks = lacks;
        means = λ l small i r low below active.
            rw (stay l small i r below, member-with 32 plan.dead a r)
            (dead-bits (not (has_role plan.out i r)) (member plan.dead r) (ltb a 32) (eqb a r) (subset (word_at plan.needs r) (union_of 32 (word_at l)))
            (λ e. lt-ltb a 32 (rw (eqb-true a r e) below)));
        number = refl;
      }

  -- one by which a role needs another
  pub adds-needs : (a q : ℕ) → a < 32 → q < 32 → Adds (Dependency a q) s plan (record { dead = plan.dead; out = plan.out; needs = put 32 plan.needs a q; selected = plan.selected })
  unfolding lets keeps is_active
  adds-needs a q place low =
      record {
        outs = outs;
        lacks = length-set plan.needs a (with 32 (word_at plan.needs a) q) ∙ lacks;
        means = λ l small i r inside below active.
            rw (set_at plan.needs a r (with 32 (word_at plan.needs a) q) 0 (rw lacks place)) (go l i r (eqb a r) refl);
        number = refl;
      }
    where
      go : (l : List ℕ) (i r : ℕ) (e : Bool) → eqb a r ≡ e →
          (not (has_role plan.out i r) && (not (member plan.dead r) && subset (cond e (with 32 (word_at plan.needs a) q) (word_at plan.needs r)) (union_of 32 (word_at l))))
          ≡ ((not (has_role plan.out i r) && (not (member plan.dead r) && subset (word_at plan.needs r) (union_of 32 (word_at l)))) && (not e || any 32 (λ j. has_role l j q)))
      go l i r true known =
          rw (eqb-true a r known, subset-with (word_at plan.needs r) q (union_of 32 (word_at l)) low, member-union-of 32 q (word_at l))
          (needs-bits (not (has_role plan.out i r)) (not (member plan.dead r)) (subset (word_at plan.needs r) (union_of 32 (word_at l))) (any 32 (λ j. has_role l j q)))
      go l i r false known = sym (and-true (not (has_role plan.out i r) && (not (member plan.dead r) && subset (word_at plan.needs r) (union_of 32 (word_at l)))))

  -- one that ends a role in sessions that are not positioned so
  pub adds-out : (a : ℕ) (side : Side) (more : List ℕ) → RuledOut 32 plan.out s.sessions s.active a side more → Adds (LocationContext a side) s plan (record { dead = plan.dead; out = more; needs = plan.needs; selected = plan.selected })
  unfolding lets keeps
  adds-out a side more ruled =
      record {
        outs = ruled.same_length;
        lacks = lacks;
        means = λ l small i r low below active.
            rw (ruled.means i r low below, lt-ltb i 32 low)
            (out-bits (has_role plan.out i r) (eqb a r) (active_role s i a) (side_holds side (position_of s i))
            (not (member plan.dead r) && subset (word_at plan.needs r) (union_of 32 (word_at l)))
            (λ e. rw (eqb-true a r e) active));
        number = refl;
      }

-- ---- what the families that end roles let stay

module _ (s : State) (a : ℕ) where
  -- a role past the last needs something: no role of the range does
  pub keeps-past-first : (q : ℕ) → 32 ≤ a → Keeps (Dependency a q) s (λ r. true)
  unfolding keeps
  keeps-past-first q past l small i r below = rw (ne_eqb a r (λ e. omega arith))

  -- a role needs one past the last, which is never active
  pub keeps-past-second : (q : ℕ) → 32 ≤ q → Keeps (Dependency a q) s (λ r. not (eqb a r))
  unfolding keeps is_active
  keeps-past-second q past l small i r below =
      rw (not_so (any 32 (λ j. has_role l j q)) (λ e. let some = of-any 32 (λ j. has_role l j q) e in clash some.2 (member-past 32 (word_at l some.0) q (small some.0) past)), or-false)

  -- the term holds, and it does not
  pub keeps-in-term : (term : Term) → term_holds term s.time ≡ true → Keeps (TimeContext a term) s (λ r. true)
  unfolding keeps
  keeps-in-term term holds l small i r below = rw (holds, or-true)

  pub keeps-past-term : (term : Term) → term_holds term s.time ≡ false → Keeps (TimeContext a term) s (λ r. not (eqb a r))
  unfolding keeps
  keeps-past-term term holds l small i r below = rw (holds, or-false)

-- any other family ends no role
pub keeps-other : (s : State) (rule : Rule) → ((a q : ℕ) → rule ≡ Dependency a q → ⊥) → ((a : ℕ) (term : Term) → rule ≡ TimeContext a term → ⊥) → ((a : ℕ) (side : Side) → rule ≡ LocationContext a side → ⊥) → Keeps rule s (λ r. true)
unfolding keeps
keeps-other s (Prerequisite a q) needs time place l small i r below = refl
keeps-other s (MaxUsers a n) needs time place l small i r below = refl
keeps-other s (MaxRoles n) needs time place l small i r below = refl
keeps-other s (MaxPermissions a n) needs time place l small i r below = refl
keeps-other s (MaxActive n) needs time place l small i r below = refl
keeps-other s (StaticSeparation a q) needs time place l small i r below = refl
keeps-other s (DynamicSeparation a q) needs time place l small i r below = refl
keeps-other s (Dependency a q) needs time place l small i r below = absurd (needs a q refl)
keeps-other s (TimeContext a term) needs time place l small i r below = absurd (time a term refl)
keeps-other s (LocationContext a side) needs time place l small i r below = absurd (place a side refl)
keeps-other s (HistorySeparation p q) needs time place l small i r below = refl
keeps-other s (BindingOfDuty p q) needs time place l small i r below = refl

-- ---- all rules of a list

module _ (test : Rule → Bool) where
  every_more : (slots : List Slot) (n : ℕ) (filler : Slot) → n < length slots → every test (first_rules (suc n) slots) ≡ (every test (first_rules n slots) && test (rule_of (get_or slots n filler)))
  unfolding every
  every_more [] n filler l = absurd (omega arith)
  every_more (slot ∷ slots) zero filler l = and-true (test slot.rule)
  every_more (slot ∷ slots) (suc n) filler l =
      ap (λ (b : Bool). test slot.rule && b) (every_more slots n filler (omega arith)) ∙ joined (test slot.rule) (every test (first_rules n slots)) (test (rule_of (get_or slots n filler)))
    where
      joined : (x y z : Bool) → (x && (y && z)) ≡ ((x && y) && z)
      joined true y z = refl
      joined false y z = refl

module _ (selected : Rule → Bool) (s : State) (slots : List Slot) where
  pub planned-none : Planned selected (first_rules 0 slots) s no_plan
  unfolding lets every selected_number
  planned-none =
      record {
        outs = length-replicate {A = ℕ} 32 0;
        lacks = length-replicate {A = ℕ} 32 0;
        means = λ l small i r low below active.
            rw (get_or-replicate {A = ℕ} 32 i 0 0 low, get_or-replicate {A = ℕ} 32 r 0 0 below, member-empty r)
            ((subset-means 0 (union_of 32 (word_at l))).1 (λ q e. clash e (member-empty q)));
        number = refl;
      }

  -- one rule more
  module _ (n : ℕ) (filler : Slot) (before : Plan) (within : n < length slots) (planned : Planned selected (first_rules n slots) s before) where
    pub planned-unselected : selected (rule_of (get_or slots n filler)) ≡ false → Planned selected (first_rules (n + 1) slots) s before
    planned-unselected none =
        rw (add-one n)
        (record {
          outs = planned.outs;
          lacks = planned.lacks;
          means = λ l small i r low below active.
              rw (planned.means l small i r low below active, every_more (λ rule. not (selected rule) || keeps rule s l i r) slots n filler within, none)
              (sym (and-true (stays selected (first_rules n slots) s l i r)));
          number = rw (planned.number, number_more selected slots n filler within, none) (sym (add-zero (selected_number selected (first_rules n slots))));
        })

    pub planned-selected : selected (rule_of (get_or slots n filler)) ≡ true → (after : Plan) →
        Adds (rule_of (get_or slots n filler)) s (record { dead = before.dead; out = before.out; needs = before.needs; selected = before.selected + 1 }) after → Planned selected (first_rules (n + 1) slots) s after
    planned-selected chosen after adds =
        rw (add-one n)
        (record {
          outs = adds.outs;
          lacks = adds.lacks;
          means = λ l small i r low below active.
              adds.means l small i r low below active
              ∙ rw (planned.means l small i r low below active, every_more (λ rule. not (selected rule) || keeps rule s l i r) slots n filler within, chosen);
          number = rw (adds.number, planned.number, number_more selected slots n filler within, chosen);
        })

  pub planned-small : (n : ℕ) (plan : Plan) → n ≤ length slots → Planned selected (first_rules n slots) s plan → plan.selected ≤ n
  planned-small n plan within planned = rw planned.number (number-le selected slots n within)

-- what is planned by a choice is so by the table
pub planned-told : (choice : Choice) (action : Action) → ((k : Rule) → chosen choice k ≡ selects action k) → (rules : List Rule) (s : State) (plan : Plan) → Planned (chosen choice) rules s plan → Planned (selects action) rules s plan
planned-told choice action same rules s plan = subst (λ (selected : Rule → Bool). Planned selected rules s plan) (fun_ext same)
