-- What 11, 13 and 14 refuse in a rule, and what 40 lets pass of a rule list: document 01's causes over numbers, both ways, for each family.
-- Assumes nothing.
use mathlib.Core.Path.{◌≡◌, refl, sym}
use mathlib.Core.Bool.{Bool, true, false, not, ◌&&◌, true≢false}
use mathlib.Core.List.{List, [], ◌∷◌}
use mathlib.Core.Logic.Iff
use mathlib.Core.Logic.{◌↔◌}
use Prim.Native.Nat.{ℕ, zero, suc, ◌≤◌, ◌<◌}
use native.Mathlib.Omega.{arith}
use borrow.Author.Tests.{eqb-true, eq-eqb, not-false}
use lib.Dec.{leb, ltb, eqb}
use lib.ListN.{length, get_or}
use Rattle.sets.specs.Sets.{all}
use Rattle.sets.proofs.Booleans.{both_true}
use Rattle.sets.proofs.Bounded.{all_of, of-all}
use Rattle.calendar.specs.Terms.{term_in_range}
use Rattle.calendar.proofs.Meaning.{le-means, lt-means, both-mean}
use Rattle.calendar.proofs.TermMeaning.{term-range-means, term-sound-means}
use Rattle.places.specs.Places.{shape_in_range}
use Rattle.places.specs.Statements.{RangedShape}
use Rattle.places.specs.declared.Shape.{Shape}
use Rattle.places.specs.declared.Side.TheVariants as side
use Rattle.places.proofs.Meaning.{shape-range-means, shape-sound-means}
use Rattle.rules.specs.Acceptance.{is_role, rule_in_range, rule_distinct, rule_sound, rule_accepted, right_at, right_accepted, every, rules_of, list_accepted}
use Rattle.rules.specs.Statements.{RangedRule, NamesTwice, SoundRule, AcceptedRule, AcceptedRight}
use Rattle.rules.specs.declared.families.Rule.{Rule}
use Rattle.rules.specs.declared.families.Rule.TheVariants.{Prerequisite, MaxUsers, MaxRoles, MaxPermissions, MaxActive, StaticSeparation, DynamicSeparation, Dependency, TimeContext, LocationContext, HistorySeparation, BindingOfDuty}
use Rattle.rules.specs.declared.rights.Right.{Right}
use Rattle.rules.specs.declared.rights.Right.TheVariants.{Unstated, Permission}
use Rattle.rules.specs.declared.rights.RightSlot.{RightSlot}
use Rattle.rules.specs.declared.lists.Slot.{Slot}
use Rattle.rules.specs.declared.lists.RuleList.{RuleList}
use Rattle.rules.proofs.Every.{every_first, every-at}

-- ---- one rule

two-below : (r q : ℕ) → (ltb r 32 && ltb q 32 ≡ true) ↔ ((r < 32) × (q < 32))
two-below r q = both-mean (ltb r 32) (ltb q 32) (lt-means r 32) (lt-means q 32)

-- a role and a limit
role-limit : (r n most : ℕ) → (is_role r && leb n most ≡ true) ↔ ((r < 32) × (n ≤ most))
role-limit r n most = both-mean (is_role r) (leb n most) (lt-means r 32) (le-means n most)

-- a role and a shape
role-shape : (r : ℕ) (shape : Shape) → (is_role r && shape_in_range shape ≡ true) ↔ ((r < 32) × RangedShape shape)
role-shape r shape = both-mean (is_role r) (shape_in_range shape) (lt-means r 32) (shape-range-means shape)

-- 11 does not refuse a rule exactly where each of its numbers is in its range.
pub rule-range-means : (rule : Rule) → (rule_in_range rule ≡ true) ↔ RangedRule rule
unfolding rule_in_range
rule-range-means (Prerequisite r q) = two-below r q
rule-range-means (MaxUsers r n) = role-limit r n 64
rule-range-means (MaxRoles n) = le-means n 32
rule-range-means (MaxPermissions r n) = role-limit r n 32
rule-range-means (MaxActive n) = le-means n 32
rule-range-means (StaticSeparation r q) = two-below r q
rule-range-means (DynamicSeparation r q) = two-below r q
rule-range-means (Dependency r q) = two-below r q
rule-range-means (TimeContext r term) =
    both-mean (is_role r) (term_in_range term) (lt-means r 32) (term-range-means term)
rule-range-means (LocationContext r (side.Inside shape)) = role-shape r shape
rule-range-means (LocationContext r (side.Outside shape)) = role-shape r shape
rule-range-means (HistorySeparation p q) = two-below p q
rule-range-means (BindingOfDuty p q) = two-below p q

twice : (a b : ℕ) → (not (eqb a b) ≡ false) ↔ (a ≡ b)
twice a b = (λ e. eqb-true a b (not-false (eqb a b) e), λ same. rw (eq-eqb a b same))

never : (true ≡ false) ↔ ⊥
never = (true≢false, λ h. absurd h)

-- 13 refuses a rule exactly where it names the same role or permission twice.
pub names-twice-means : (rule : Rule) → (rule_distinct rule ≡ false) ↔ NamesTwice rule
unfolding rule_distinct
names-twice-means (Prerequisite r q) = twice r q
names-twice-means (MaxUsers r n) = never
names-twice-means (MaxRoles n) = never
names-twice-means (MaxPermissions r n) = never
names-twice-means (MaxActive n) = never
names-twice-means (StaticSeparation r q) = twice r q
names-twice-means (DynamicSeparation r q) = twice r q
names-twice-means (Dependency r q) = twice r q
names-twice-means (TimeContext r term) = never
names-twice-means (LocationContext r which) = never
names-twice-means (HistorySeparation p q) = twice p q
names-twice-means (BindingOfDuty p q) = twice p q

always : (true ≡ true) ↔ Unit {0}
always = (λ e. tt, λ h. refl)

-- 14 does not refuse a rule exactly where its term or shape, if it has one, is sound.
pub rule-sound-means : (rule : Rule) → (rule_sound rule ≡ true) ↔ SoundRule rule
unfolding rule_sound
rule-sound-means (Prerequisite r q) = always
rule-sound-means (MaxUsers r n) = always
rule-sound-means (MaxRoles n) = always
rule-sound-means (MaxPermissions r n) = always
rule-sound-means (MaxActive n) = always
rule-sound-means (StaticSeparation r q) = always
rule-sound-means (DynamicSeparation r q) = always
rule-sound-means (Dependency r q) = always
rule-sound-means (TimeContext r term) = term-sound-means term
rule-sound-means (LocationContext r (side.Inside shape)) = shape-sound-means shape
rule-sound-means (LocationContext r (side.Outside shape)) = shape-sound-means shape
rule-sound-means (HistorySeparation p q) = always
rule-sound-means (BindingOfDuty p q) = always

distinct-means : (rule : Rule) → (rule_distinct rule ≡ true) ↔ (NamesTwice rule → ⊥)
distinct-means rule =
    by-test (rule_distinct rule) (names-twice-means rule)
  where
    by-test : (b : Bool) → (b ≡ false) ↔ NamesTwice rule → (b ≡ true) ↔ (NamesTwice rule → ⊥)
    by-test true h = (λ e twice. true≢false (h.1 twice), λ n. refl)
    by-test false h = (λ e. absurd (true≢false (sym e)), λ n. absurd (n (h.0 refl)))

-- None of 11, 13 and 14 refuses a rule exactly where it is in range, names none twice and is sound.
pub rule-accepted-means : (rule : Rule) → (rule_accepted rule ≡ true) ↔ AcceptedRule rule
rule-accepted-means rule =
    Iff.trans (both-mean (rule_in_range rule) (rule_distinct rule && rule_sound rule) (rule-range-means rule) (both-mean (rule_distinct rule) (rule_sound rule) (distinct-means rule) (rule-sound-means rule)))
    (λ h. record { ranged = h.0; distinct = h.1.0; sound = h.1.1 }, λ h. (h.ranged, (h.distinct, h.sound)))

-- ---- a rule list

each-accepted : (slots : List Slot) (n : ℕ) → ((i : ℕ) (other : Slot) → i < n → i < length slots → AcceptedRule (get_or slots i other).rule) →
    every_first rule_accepted n slots ≡ true
unfolding every
each-accepted [] zero h = refl
each-accepted [] (suc n) h = refl
each-accepted (slot ∷ slots) zero h = refl
each-accepted (slot ∷ slots) (suc n) h =
    both_true (rule_accepted slot.rule) (every_first rule_accepted n slots)
    ((rule-accepted-means slot.rule).1 (h 0 slot (omega arith) (omega arith)))
    (each-accepted slots n (λ i other below within. h (suc i) other (omega arith) (omega arith)))

right-accepted-means : (right : Right) → (right_accepted right ≡ true) ↔ AcceptedRight right
right-accepted-means Unstated = (λ h. tt, λ h. refl)
right-accepted-means (Permission p) = lt-means p 32

each_right : (rights : List RightSlot) → (all 6 (λ kind. right_accepted (right_at rights kind)) ≡ true) ↔ ((kind : ℕ) → kind < 6 → AcceptedRight (right_at rights kind))
each_right rights = (
  λ h kind low. (right-accepted-means (right_at rights kind)).0 (of-all 6 (λ k. right_accepted (right_at rights k)) h kind low),
  λ h. all_of 6 (λ k. right_accepted (right_at rights k)) (λ kind low. (right-accepted-means (right_at rights kind)).1 (h kind low)),
)

-- 40 lets a rule list pass exactly where it has at most 128 rules, 11, 13 and 14 refuse none of them, and each right's permission is in its
-- range: rule i + 1 is that of slot i, and `other` is never taken.
pub list-accepted-means : (list : RuleList) →
    (list_accepted list ≡ true) ↔
    ((list.length ≤ 128)
    × (((i : ℕ) (other : Slot) → i < list.length → i < length list.slots → AcceptedRule (get_or list.slots i other).rule)
    × ((kind : ℕ) → kind < 6 → AcceptedRight (right_at list.rights kind))))
unfolding list_accepted
list-accepted-means list =
    both-mean (leb list.length 128) (every rule_accepted (rules_of list) && all 6 (λ kind. right_accepted (right_at list.rights kind))) (le-means list.length 128)
    (both-mean (every rule_accepted (rules_of list)) (all 6 (λ kind. right_accepted (right_at list.rights kind))) (
      λ h i other below within. (rule-accepted-means (get_or list.slots i other).rule).0 (every-at rule_accepted list.slots list.length i other below within h),
      each-accepted list.slots list.length,
    ) (each_right list.rights))
