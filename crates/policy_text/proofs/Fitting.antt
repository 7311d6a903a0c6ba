-- How long a text of policies can be, and what is answered of one that is measured.
-- Assumes nothing.
use mathlib.Core.Path.{◌≡◌, refl, sym, ap}
use mathlib.Core.Bool.{Bool, true, false}
use mathlib.Core.List.{List, []}
use Prim.Native.Nat.{ℕ, ◌≤◌, ◌<◌}
use native.Mathlib.Omega.{arith}
use lib.ListN.{length}
use lib.Dec.{leb}
use borrow.Author.Tests.{leb-true, le-leb, lt-leb}
use Rattle.sets.proofs.Booleans.{clash}
use Rattle.forms.specs.Forms.{fill}
use Rattle.forms.specs.Tables.{lines_in, form_at}
use Rattle.forms.specs.Writing.{last_place, written_of, lent_after}
use Rattle.std.specs.Prelude.{None, Ok, Err}
use Rattle.forms.proofs.Marks.{range-fits}
use Rattle.forms.proofs.Puts.{fill-length}
use Rattle.forms.proofs.Room.{written-18, written-length}
use Rattle.rules.specs.Acceptance.{rule_in_range, rules_of, list_accepted}
use Rattle.rules.specs.declared.families.Rule.{Rule}
use Rattle.rules.specs.declared.families.Rule.TheVariants.{Prerequisite, MaxUsers, MaxRoles, MaxPermissions, MaxActive, StaticSeparation, DynamicSeparation, Dependency, TimeContext, LocationContext, HistorySeparation, BindingOfDuty}
use Rattle.rules.specs.declared.lists.RuleList.{RuleList}
use Rattle.rule_text.proofs.Values.{each_below}
use Rattle.rule_text.proofs.LineTables.{rule-line-in-range}
use Rattle.rule_text.proofs.Slots.{list-few, accepted-rules}
use Rattle.rule_text.proofs.Texts.{rules-short}
use Rattle.policy_text.specs.Lines.{policy_forms, policy_count, policy_of, has_policy, policy_text}
use Rattle.policy_text.specs.Writing.{Length, Refused, without_policy, policies_text, written_policies, lent_after_policies}
use Rattle.policy_text.proofs.Table.{policy-table}

-- ---- the length of a text

-- a rule that has no policy has no text
no_text : (n : ℕ) (rule : Rule) → has_policy rule ≡ false → policy_text n rule ≡ []
unfolding has_policy policy_text policy_of fill form_at lines_in policy_forms
no_text n (Prerequisite r q) none = clash refl none
no_text n (MaxUsers r limit) none = clash refl none
no_text n (MaxRoles limit) none = clash refl none
no_text n (MaxPermissions r limit) none = refl
no_text n (MaxActive limit) none = clash refl none
no_text n (StaticSeparation r q) none = refl
no_text n (DynamicSeparation r q) none = refl
no_text n (Dependency r q) none = clash refl none
no_text n (TimeContext r term) none = refl
no_text n (LocationContext r side) none = refl
no_text n (HistorySeparation p q) none = refl
no_text n (BindingOfDuty p q) none = refl

forms-short : (k : ℕ) → k < policy_count → leb (length (form_at policy_forms k)) 54 ≡ true
unfolding form_at lines_in policy_forms
forms-short k h = each_below policy_count (λ k. leb (length (form_at policy_forms k)) 54 ≡ true) (refl, (refl, (refl, (refl, (refl, tt))))) k h

policy-short : (n : ℕ) (rule : Rule) → 1 ≤ n → n ≤ 128 → rule_in_range rule ≡ true → length (policy_text n rule) ≤ 600
unfolding policy_text
policy-short n rule first last fits_range = by-policy (has_policy rule) refl
  where
    by-policy : (b : Bool) → has_policy rule ≡ b → length (policy_text n rule) ≤ 600
    by-policy true has =
        let k = (policy_of n rule).form in
        let values = (policy_of n rule).values in
        let form = leb-true (length (form_at policy_forms k)) 54 (forms-short k (policy-table.own n rule has).form) in
        omega (arith, form, fill-length (form_at policy_forms k) values (range-fits (form_at policy_forms k) values (rule-line-in-range policy-table n rule has first last fits_range)))
    by-policy false none = omega (arith, ap length (no_text n rule none))

pub policies-short : (list : RuleList) → list_accepted list ≡ true → length (policies_text list) ≤ last_place
policies-short list accepted =
    let few = list-few list accepted in
    omega (arith, rules-short policy_text policy-short 1 (rules_of list) (omega arith) (omega arith) (accepted-rules list accepted))

-- ---- what is answered of a text that is measured

module _ (list : RuleList) (lent : List ℕ) {left : List ℕ} {length_found : ℕ} (accepted : list_accepted list ≡ true) (nothing : without_policy list ≡ None) where
  pub too_long : length_found ≡ length (policies_text list) → (Err 18 ≡ written_of (policies_text list) lent) × (left ≡ lent_after (policies_text list) lent)
      → (Refused 18 length_found ≡ written_policies list lent) × (left ≡ lent_after_policies list lent)
  unfolding written_policies lent_after_policies
  too_long same answer =
      let short = ((written-18 (policies_text list) lent true).0 (sym answer.0)).1 in
      (rw (accepted, nothing, lt-leb (length (policies_text list)) (length lent) short, same), rw (accepted, nothing) answer.1)

  pub long-enough : (Ok length_found ≡ written_of (policies_text list) lent) × (left ≡ lent_after (policies_text list) lent)
      → (Length length_found ≡ written_policies list lent) × (left ≡ lent_after_policies list lent)
  unfolding written_policies lent_after_policies
  long-enough answer =
      let fits = (written-length (policies_text list) lent true length_found).0 (sym answer.0) in
      (rw (accepted, nothing, le-leb (length (policies_text list)) (length lent) fits.1, fits.2), rw (accepted, nothing) answer.1)
