-- Two rules are equal just where their lines are, number aside, and of accepted rules just where they are the same rule.
-- Assumes nothing.
use mathlib.Core.Path.{◌≡◌, refl, sym, ap, ◌∙◌}
use mathlib.Core.Bool.{true, ◌&&◌}
use mathlib.Core.Logic.{◌↔◌}
use mathlib.Core.List.{List, [], ◌∷◌, ◌++◌}
use Prim.Native.Nat.{ℕ, ◌≤◌, ◌<◌}
use native.Mathlib.Omega.{arith}
use lib.ListN.{get_or, length}
use lib.Seq.{ext_get_or}
use lib.Pointwise.{pointwise}
use lib.Dec.{eqb}
use borrow.Author.Tests.{eqb-true, eq-eqb}
use Rattle.std.proofs.lemmas.Slice.Eq.{bytes_eq-Decides}
use Rattle.sets.proofs.Booleans.{both_true, left-true, right-true, same_test}
use Rattle.sets.proofs.Bounded.{all_of, of-all}
use Rattle.rules.specs.Acceptance.{rule_in_range, rule_distinct, rule_sound, rule_accepted}
use Rattle.rules.specs.declared.families.Rule.{Rule}
use Rattle.forms.specs.Tables.{found}
use Rattle.forms.specs.declared.tables.Found.{Found}
use Rattle.rule_text.specs.Lines.{rule_forms, line_of, rule_text, rule_of_form}
use Rattle.rule_text.proofs.Inverse.{rule-same, found-rule}
use Rattle.joining.specs.Joining.{same_values, equal_rules}

fits_range : (rule : Rule) → rule_accepted rule ≡ true → rule_in_range rule ≡ true
fits_range rule h = left-true (rule_in_range rule) (rule_distinct rule && rule_sound rule) h

-- a rule equals itself
pub equal-self : (rule : Rule) → equal_rules rule rule ≡ true
unfolding equal_rules
equal-self rule =
    both_true (eqb (line_of 1 rule).form (line_of 1 rule).form) (same_values (line_of 1 rule).values (line_of 1 rule).values)
    (eq-eqb (line_of 1 rule).form (line_of 1 rule).form refl)
    (all_of 6 (λ i. eqb (get_or (line_of 1 rule).values i 0) (get_or (line_of 1 rule).values i 0)) (λ i h. eq-eqb (get_or (line_of 1 rule).values i 0) (get_or (line_of 1 rule).values i 0) refl))

-- `==` of six values says what the definition does
pub same-values : (values others : List ℕ) → length values ≡ 6 → length others ≡ 6 → pointwise eqb values others ≡ same_values values others
same-values values others k l =
    same_test (pointwise eqb values others) (same_values values others)
    (λ h. all_of 6 (λ i. eqb (get_or values i 0) (get_or others i 0)) (λ i below. eq-eqb (get_or values i 0) (get_or others i 0) (ap (λ (list : List ℕ). get_or list i 0) ((bytes_eq-Decides values others).0 h))))
    (λ h. (bytes_eq-Decides values others).1
    (ext_get_or 0 values others (k ∙ sym l)
    (λ i below. eqb-true (get_or values i 0) (get_or others i 0) (of-all 6 (λ i. eqb (get_or values i 0) (get_or others i 0)) h i (omega (arith, k))))))

-- the rule of a form hangs on its values below 6 alone
rule-of-values : (form : ℕ) (values others : List ℕ) → ((i : ℕ) → i < 6 → get_or values i 0 ≡ get_or others i 0) → rule_of_form form values ≡ rule_of_form form others
unfolding rule_of_form
rule-of-values form values others e =
    (λ j. rule_of_form form (get_or values 0 0 ∷ e 1 (omega arith) j ∷ e 2 (omega arith) j ∷ e 3 (omega arith) j ∷ e 4 (omega arith) j ∷ e 5 (omega arith) j ∷ []))

module _ (rule other : Rule) (accepted : rule_accepted rule ≡ true) (other-accepted : rule_accepted other ≡ true) where
  -- accepted rules that are equal are one rule
  pub equal-same : equal_rules rule other ≡ true → rule ≡ other
  unfolding equal_rules
  equal-same h =
      let line = line_of 1 rule in
      let other-line = line_of 1 other in
      let forms : line.form ≡ other-line.form =
      eqb-true line.form other-line.form (left-true (eqb line.form other-line.form) (same_values line.values other-line.values) h) in
      let values : (i : ℕ) → i < 6 → get_or line.values i 0 ≡ get_or other-line.values i 0 =
      λ i below. eqb-true (get_or line.values i 0) (get_or other-line.values i 0)
      (of-all 6 (λ k. eqb (get_or line.values k 0) (get_or other-line.values k 0)) (right-true (eqb line.form other-line.form) (same_values line.values other-line.values) h) i below) in
      sym (rule-same 1 rule (omega arith) (omega arith) (fits_range rule accepted))
      ∙ rule-of-values line.form line.values other-line.values values
      ∙ ap (λ (form : ℕ). rule_of_form form other-line.values) forms
      ∙ rule-same 1 other (omega arith) (omega arith) (fits_range other other-accepted)

  -- THEOREM: "Two rules are equal when their lines are, number aside": under any one number their texts are the same bytes
  pub equal-lines : (n : ℕ) → 1 ≤ n → n ≤ 128 → (equal_rules rule other ≡ true) ↔ (rule_text n rule ≡ rule_text n other)
  equal-lines n first last = (λ h. ap (rule_text n) (equal-same h), λ e. ap (equal_rules rule) (sym (same-rule e)) ∙ equal-self rule)
    where
      found-line : (line : Rule) → rule_accepted line ≡ true → (found rule_forms (rule_text n line ++ [])).form ≡ (line_of n line).form
      found-line line h = ap (λ (f : Found). f.form) (found-rule n line first last (fits_range line h) [])

      found-values : (line : Rule) → rule_accepted line ≡ true → (found rule_forms (rule_text n line ++ [])).values ≡ (line_of n line).values
      found-values line h = ap (λ (f : Found). f.values) (found-rule n line first last (fits_range line h) [])

      same-rule : rule_text n rule ≡ rule_text n other → rule ≡ other
      same-rule e =
          sym (rule-same n rule first last (fits_range rule accepted))
          ∙ ap (λ (form : ℕ). rule_of_form form (line_of n rule).values)
          (sym (found-line rule accepted) ∙ ap (λ (text : List ℕ). (found rule_forms (text ++ [])).form) e ∙ found-line other other-accepted)
          ∙ ap (rule_of_form (line_of n other).form)
          (sym (found-values rule accepted) ∙ ap (λ (text : List ℕ). (found rule_forms (text ++ [])).values) e ∙ found-values other other-accepted)
          ∙ rule-same n other first last (fits_range other other-accepted)
