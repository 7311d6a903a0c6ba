-- Policies have at most 7,188 bytes, and those of one list have as many. Assumes nothing.
use mathlib.Core.Path.{◌≡◌, refl, sym, ap, ◌∙◌, subst}
use mathlib.Core.Bool.{true, ◌&&◌}
use mathlib.Core.List.{List, [], ◌∷◌, ◌++◌}
use Prim.Native.Nat.{ℕ, zero, suc, ◌+◌, ◌-◌, ◌≤◌, ◌<◌}
use native.Mathlib.Omega.{arith}
use lib.ListN.{length, drop, replicate, length-append, length-replicate, get_or-replicate}
use lib.Dec.{leb}
use borrow.Author.Tests.{leb-true, lt-leb}
use Rattle.sets.proofs.Booleans.{both}
use Rattle.forms.specs.Numbers.{digits_of, digits_within}
use Rattle.forms.specs.Kinds.{kind_of, lookup, is_slot, in_range_by, in_range}
use Rattle.forms.specs.Forms.{text_by, item_text, head, tail, fill, all_in_range}
use Rattle.forms.specs.Tables.{bytes, lines_in, form_at}
use Rattle.rules.specs.Acceptance.{rule_in_range, rule_distinct, rule_sound, rule_accepted, every, rules_of, list_accepted}
use Rattle.rules.specs.declared.families.Rule.{Rule}
use Rattle.rules.specs.declared.lists.RuleList.{RuleList}
use Rattle.rule_text.specs.Lines.{filler, list_text}
use Rattle.rule_text.specs.Reading.{no_rights, list_of, read_rules}
use Rattle.rule_text.specs.Writing.{text_of}
use Rattle.rule_text.proofs.Values.{each_below}
use Rattle.rule_text.proofs.LineTables.{rule-line-in-range}
use Rattle.policy_text.specs.Lines.{policy_forms, policy_count, policy_of, has_policy, policy_text}
use Rattle.policy_text.specs.Reading.{read_policies}
use Rattle.policy_text.specs.Writing.{policies_text}
use Rattle.policy_text.specs.Causes.{OfFiveKinds, needs, GoodPolicies, Expressible}
use Rattle.policy_text.proofs.Table.{policy-table}
use Rattle.policy_text.proofs.Causes.{passes}
use Rattle.policy_text.proofs.Lists.{good-passes}
use Rattle.policy_text.proofs.Missing.{expressible-means}
use Rattle.policy_text.proofs.Back.{list-of-rules, list-expressible, accepted-policies, write-back, read-accepted, read-expressible}
use Rattle.policy_text.proofs.Journeys.{own_back}
use Rattle.texts.specs.Sizes.{longest_policy, longest_policies}
use Rattle.texts.specs.SavedRuns.{refused_report, output_report}
use Rattle.texts.specs.Policies.{policies_from_report}
use Rattle.texts.specs.declared.saved_runs.Text.TheVariants as Text
use Rattle.texts.proofs.RuleSizes.{widest_by, widest, fill-most, head_first, digit_sum, sum-grows, sum-all, list-most, longest-lines}

-- ---- one line

-- each form begins with its number
begins : (k : ℕ) → k < policy_count → form_at policy_forms k ≡ bytes "PL#" ++ drop 3 (form_at policy_forms k)
unfolding form_at lines_in policy_forms
begins k h = each_below policy_count (λ k. form_at policy_forms k ≡ bytes "PL#" ++ drop 3 (form_at policy_forms k)) (refl, (refl, (refl, (refl, (refl, tt))))) k h

opened : (rest values : List ℕ) → length (fill (bytes "PL#" ++ rest) values) ≡ 2 + (length (digits_of (head values)) + length (fill rest (tail values)))
unfolding fill item_text text_by is_slot kind_of lookup
opened rest values = omega (arith, length-append (digits_of (head values)) (fill rest (tail values)))

rest-in-range : (rest values : List ℕ) → all_in_range (bytes "PL#" ++ rest) values ≡ true → all_in_range rest (tail values) ≡ true
unfolding all_in_range in_range in_range_by is_slot kind_of lookup
rest-in-range rest values h = (both (leb 1 (head values) && leb (head values) 128) (all_in_range rest (tail values)) h).1

-- after the number no form takes more than 52 bytes
forms-short : (k : ℕ) → k < policy_count → leb (widest (drop 3 (form_at policy_forms k))) 52 ≡ true
unfolding widest widest_by kind_of lookup form_at lines_in policy_forms digits_of digits_within
forms-short k h = each_below policy_count (λ k. leb (widest (drop 3 (form_at policy_forms k))) 52 ≡ true) (refl, (refl, (refl, (refl, (refl, tt))))) k h

line-most : (n : ℕ) (rule : Rule) → 1 ≤ n → n ≤ 128 → passes rule ≡ true → length (policy_text n rule) ≤ 54 + length (digits_of n)
unfolding policy_text
line-most n rule first last passed =
    let parts = both (rule_accepted rule) (has_policy rule) passed in
    let fits_range = (both (rule_in_range rule) (rule_distinct rule && rule_sound rule) parts.0).0 in
    let k = (policy_of n rule).form in
    let values = (policy_of n rule).values in
    let own = policy-table.own n rule parts.1 in
    let rest = drop 3 (form_at policy_forms k) in
    let same = begins k own.form in
    let ranged = rest-in-range rest values (subst (λ (form : List ℕ). all_in_range form values ≡ true) same (rule-line-in-range policy-table n rule parts.1 first last fits_range)) in
    let whole : length (fill (form_at policy_forms k) values) ≡ 2 + (length (digits_of (head values)) + length (fill rest (tail values))) = ap (λ (form : List ℕ). length (fill form values)) same ∙ opened rest values in
    let number : length (digits_of (head values)) ≡ length (digits_of n) = ap (λ (m : ℕ). length (digits_of m)) (head_first values ∙ own.number) in
    omega (arith, whole, number, fill-most rest (tail values) ranged, leb-true (widest rest) 52 (forms-short k own.form))

-- ---- all of a list

most : (rules : List Rule) → GoodPolicies rules → length (list_text policy_text 1 rules) ≤ 7188
most rules good =
    let few = good.few in
    let all : length rules + (128 - length rules) ≡ 128 = omega arith in
    let digits : digit_sum (length rules) 1 ≤ digit_sum 128 1 = rw all at (sum-grows (length rules) (128 - length rules) 1) in
    omega (arith, list-most policy_text passes 54 line-most rules 1 (omega arith) (omega arith) (good-passes good), digits, sum-all)

-- no accepted list of the five kinds has longer policies
pub policies-most : (list : RuleList) → list_accepted list ≡ true → Expressible list → length (policies_text list) ≤ 7188
policies-most list accepted good = most (rules_of list) (accepted-policies list accepted good)

-- and so no policies that are accepted are longer
pub accepted-most : (policies : List ℕ) → (read_policies policies).number ≡ 0 → length policies ≤ 7188
accepted-most policies none =
    subst (λ (text : List ℕ). length text ≤ 7188) (write-back policies none) (policies-most (read_policies policies).list (read-accepted policies) (read-expressible policies none))

-- ---- and least

longest-rest : length (fill (drop 3 (form_at policy_forms 4)) (31 ∷ 30 ∷ 0 ∷ 0 ∷ 0 ∷ [])) ≡ 52
unfolding fill item_text text_by is_slot kind_of lookup form_at lines_in policy_forms digits_of digits_within
longest-rest = refl

longest-line : (n : ℕ) → length (policy_text n longest_policy) ≡ 54 + length (digits_of n)
unfolding policy_text policy_of
longest-line n =
    ap (λ (form : List ℕ). length (fill form (n ∷ 31 ∷ 30 ∷ 0 ∷ 0 ∷ 0 ∷ []))) (begins 4 (omega arith))
    ∙ opened (drop 3 (form_at policy_forms 4)) (n ∷ 31 ∷ 30 ∷ 0 ∷ 0 ∷ 0 ∷ [])
    ∙ omega (arith, longest-rest)

-- one list has as many bytes
pub longest-policies : length (list_text policy_text 1 longest_policies) ≡ 7188
unfolding longest_policies
longest-policies = omega (arith, longest-lines policy_text longest_policy 54 longest-line 128 1, sum-all)

longest-accepted : (n : ℕ) → every rule_accepted (replicate n longest_policy) ≡ true
unfolding every rule_in_range rule_distinct rule_sound
longest-accepted zero = refl
longest-accepted (suc n) = longest-accepted n

longest-good : GoodPolicies longest_policies
unfolding longest_policies
longest-good = record {
  few = omega (arith, length-replicate 128 longest_policy);
  accepted = longest-accepted 128;
  kinds = λ i low. subst OfFiveKinds (sym (get_or-replicate 128 i longest_policy filler (omega (arith, length-replicate 128 longest_policy)))) (needs 31 30);
}

-- its rules are accepted in our text, and a space that is shorter by a byte is too short for its policies
pub policies-least : (room : ℕ) → room < 7188 → policies_from_report (read_rules (text_of (list_of no_rights longest_policies))) room ≡ refused_report Text.OutputSpace 18 7188
unfolding policies_from_report output_report
policies-least room h =
    let rules = list-of-rules longest_policies longest-good in
    rw (own_back longest_policies longest-good, (expressible-means (list_of no_rights longest_policies)).1 (list-expressible longest_policies longest-good), rules, longest-policies, lt-leb 7188 room h)
