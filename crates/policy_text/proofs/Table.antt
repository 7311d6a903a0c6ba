-- The table of policies, as computed tests, and that it is a table of numbered lines; which rules have a policy.
-- Assumes nothing.
use mathlib.Core.Path.{◌≡◌, refl, ◌∙◌}
use mathlib.Core.Bool.{Bool, true, false, ◌&&◌}
use mathlib.Core.Logic.{◌↔◌}
use mathlib.Core.List.{List, [], ◌∷◌}
use Prim.Native.Nat.{ℕ, ◌≤◌, ◌<◌}
use native.Mathlib.Omega.{arith}
use lib.ListN.{length, get_or, get_or-eq_default}
use lib.Dec.{leb}
use Rattle.sets.proofs.Booleans.{clash}
use Rattle.forms.specs.Numbers.{is_digit}
use Rattle.forms.specs.Kinds.{kind_of, lookup, is_slot}
use Rattle.forms.specs.Forms.{all_in_range}
use Rattle.forms.specs.Tables.{lines_in, form_at, distinct, starts_of}
use Rattle.rules.specs.Acceptance.{is_role, rule_in_range, rule_sound}
use Rattle.rules.specs.declared.families.Rule.{Rule}
use Rattle.rules.specs.declared.families.Rule.TheVariants.{Prerequisite, MaxUsers, MaxRoles, MaxPermissions, MaxActive, StaticSeparation, DynamicSeparation, Dependency, TimeContext, LocationContext, HistorySeparation, BindingOfDuty}
use Rattle.rule_text.specs.Lines.{line, narrow, filler}
use Rattle.rule_text.proofs.Marks.{marks_in, values_for, ranges_hold, ranges-by-marks, padded}
use Rattle.rule_text.proofs.Values.{held_for, holdable, each_below}
use Rattle.rule_text.proofs.Ranges.{number-range, role-range, user-limit-range, limit-range, and-true, IsShortRule}
use Rattle.rule_text.proofs.LineTables.{is_rule_form, HoldsAll, OwnLine, LineTable}
use Rattle.policy_text.specs.Lines.{policy_forms, policy_count, policy_of, has_policy, policies_with, rule_of_policy}
use Rattle.policy_text.specs.Causes.{OfFiveKinds, before, max_users, max_roles, max_active, needs}

-- ---- the table, as computed tests

pub table-length : length (lines_in policy_forms) ≡ policy_count
unfolding policy_forms lines_in
table-length = refl

-- the forms can be told from their texts
pub table-distinct : distinct (lines_in policy_forms) ≡ true
unfolding policy_forms lines_in is_slot is_digit kind_of lookup
table-distinct = refl

-- the index that the code has is the table's
abbrev pub policy_starts : List ℕ
policy_starts = 0 ∷ 37 ∷ 73 ∷ 97 ∷ 122 ∷ 175 ∷ []

pub index-right : policy_starts ≡ starts_of policy_forms
unfolding policy_forms starts_of lines_in
index-right = refl

-- each form has its number first
numbered : (k : ℕ) → k < policy_count → is_rule_form (form_at policy_forms k) ≡ true
unfolding is_rule_form holdable marks_in form_at lines_in policy_forms is_slot kind_of lookup
numbered k h = each_below policy_count (λ k. is_rule_form (form_at policy_forms k) ≡ true) (refl, (refl, (refl, (refl, (refl, tt))))) k h

-- ---- the rule of a form

-- the rule has the policy of that form, and what its fields hold of the values
held : (k a b c d e f : ℕ) → k < policy_count
    → policy_of (narrow a) (rule_of_policy k (a ∷ b ∷ c ∷ d ∷ e ∷ f ∷ [])) ≡ line k (padded (held_for (marks_in (form_at policy_forms k)) (a ∷ b ∷ c ∷ d ∷ e ∷ f ∷ [])))
unfolding policy_of rule_of_policy held_for marks_in form_at lines_in policy_forms is_slot kind_of lookup
held k a b c d e f h =
    each_below policy_count
    (λ k. policy_of (narrow a) (rule_of_policy k (a ∷ b ∷ c ∷ d ∷ e ∷ f ∷ [])) ≡ line k (padded (held_for (marks_in (form_at policy_forms k)) (a ∷ b ∷ c ∷ d ∷ e ∷ f ∷ []))))
    (refl, (refl, (refl, (refl, (refl, tt))))) k h

made_has : (k : ℕ) (values : List ℕ) → k < policy_count → has_policy (rule_of_policy k values) ≡ true
unfolding has_policy policy_of rule_of_policy
made_has k values h = each_below policy_count (λ k. has_policy (rule_of_policy k values) ≡ true) (refl, (refl, (refl, (refl, (refl, tt))))) k h

made_short : (k : ℕ) (values : List ℕ) → k < policy_count → IsShortRule (rule_of_policy k values)
unfolding rule_of_policy
made_short k values h = each_below policy_count (λ k. IsShortRule (rule_of_policy k values)) (tt, (tt, (tt, (tt, (tt, tt))))) k h

-- no policy has a term or a shape, so 14 refuses none
pub made-sound : (k : ℕ) (values : List ℕ) → k < policy_count → rule_sound (rule_of_policy k values) ≡ true
unfolding rule_sound rule_of_policy
made-sound k values h = each_below policy_count (λ k. rule_sound (rule_of_policy k values) ≡ true) (refl, (refl, (refl, (refl, (refl, tt))))) k h

-- past the last form it is the filler
pub past-forms : (k : ℕ) (values : List ℕ) → policy_count ≤ k → rule_of_policy k values ≡ filler
unfolding rule_of_policy
past-forms k values past = get_or-eq_default (policies_with (λ i. narrow (get_or values i 0))) filler past

-- ---- which rules have a policy

pub has-kind : (rule : Rule) → has_policy rule ≡ true → OfFiveKinds rule
unfolding has_policy policy_of
has-kind (Prerequisite r q) h = before r q
has-kind (MaxUsers r limit) h = max_users r limit
has-kind (MaxRoles limit) h = max_roles limit
has-kind (MaxPermissions r limit) h = clash h refl
has-kind (MaxActive limit) h = max_active limit
has-kind (StaticSeparation r q) h = clash h refl
has-kind (DynamicSeparation r q) h = clash h refl
has-kind (Dependency r q) h = needs r q
has-kind (TimeContext r term) h = clash h refl
has-kind (LocationContext r side) h = clash h refl
has-kind (HistorySeparation p q) h = clash h refl
has-kind (BindingOfDuty p q) h = clash h refl

pub kind-has : {rule : Rule} → OfFiveKinds rule → has_policy rule ≡ true
unfolding has_policy policy_of
kind-has (before r q) = refl
kind-has (max_users r limit) = refl
kind-has (max_roles limit) = refl
kind-has (max_active limit) = refl
kind-has (needs r q) = refl

pub has-policy-means : (rule : Rule) → (has_policy rule ≡ true) ↔ OfFiveKinds rule
has-policy-means rule = (has-kind rule, kind-has)

-- ---- the policy of a rule

and_comm : (a b : Bool) → (a && b) ≡ (b && a)
and_comm true true = refl
and_comm true false = refl
and_comm false true = refl
and_comm false false = refl

-- what 11 looks for in a policy is what 40 looks for in a rule handed in
by-marks : (n : ℕ) {rule : Rule} → OfFiveKinds rule
    → ranges_hold (marks_in (form_at policy_forms (policy_of n rule).form)) (policy_of n rule).values ≡ (leb 1 n && leb n 128) && rule_in_range rule
unfolding policy_of rule_in_range ranges_hold marks_in form_at lines_in policy_forms is_slot kind_of lookup
by-marks n (before r q) = simp (number-range, role-range, and-true)
by-marks n (max_users r limit) = simp (number-range, role-range, user-limit-range, and-true, and_comm (leb limit 64) (is_role r))
by-marks n (max_roles limit) = simp (number-range, limit-range, and-true)
by-marks n (max_active limit) = simp (number-range, limit-range, and-true)
by-marks n (needs r q) = simp (number-range, role-range, and-true)

ranged : (n : ℕ) (rule : Rule) → has_policy rule ≡ true → IsShortRule rule
    → all_in_range (form_at policy_forms (policy_of n rule).form) (policy_of n rule).values ≡ (leb 1 n && leb n 128) && rule_in_range rule
ranged n rule h short = ranges-by-marks (form_at policy_forms (policy_of n rule).form) (policy_of n rule).values ∙ by-marks n (has-kind rule h)

own : (n : ℕ) {rule : Rule} → OfFiveKinds rule → OwnLine policy_forms policy_count n (policy_of n rule)
unfolding policy_of values_for marks_in form_at lines_in policy_forms is_slot kind_of lookup
own n (before r q) = record { form = omega arith; values = refl; number = refl }
own n (max_users r limit) = record { form = omega arith; values = refl; number = refl }
own n (max_roles limit) = record { form = omega arith; values = refl; number = refl }
own n (max_active limit) = record { form = omega arith; values = refl; number = refl }
own n (needs r q) = record { form = omega arith; values = refl; number = refl }

back : (n : ℕ) {rule : Rule} → OfFiveKinds rule → HoldsAll policy_forms (policy_of n rule) → rule_of_policy (policy_of n rule).form (policy_of n rule).values ≡ rule
unfolding policy_of rule_of_policy held_for values_for marks_in form_at lines_in policy_forms is_slot kind_of lookup
back n (before r q) e = rw (e 1, e 2)
back n (max_users r limit) e = rw (e 1, e 2)
back n (max_roles limit) e = rw (e 1)
back n (max_active limit) e = rw (e 1)
back n (needs r q) e = rw (e 1, e 2)

pub policy-table : LineTable policy_forms policy_count policy_of rule_of_policy has_policy
policy-table = record {
  told = table-distinct;
  within = rw table-length (omega arith);
  numbered = numbered;
  held = held;
  made_has = made_has;
  made_short = made_short;
  ranged = ranged;
  own = λ n rule h. own n (has-kind rule h);
  back = λ n rule h short. back n (has-kind rule h);
}
