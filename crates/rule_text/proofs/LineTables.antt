-- A table of numbered lines, in any language of rules: a rule's line and a line's rule undo each other, where 11 passes.
-- Assumes nothing.
use mathlib.Core.Path.{◌≡◌, refl, sym, ap, ◌∙◌, subst, subst⁻¹}
use mathlib.Core.Bool.{Bool, true, ◌&&◌}
use mathlib.Core.List.{List, [], ◌∷◌, ◌++◌}
use Prim.Native.Nat.{ℕ, ◌≤◌, ◌<◌}
use native.Mathlib.Omega.{arith}
use lib.ListN.{length, get_or}
use lib.Dec.{leb, eqb}
use borrow.Author.Tests.{leb-true, le-leb, eqb-true}
use Rattle.sets.proofs.Booleans.{both, both_true, left-true, right-true}
use Rattle.forms.specs.Kinds.{in_range}
use Rattle.forms.specs.Forms.{head, tail, fill, all_in_range}
use Rattle.forms.specs.Tables.{lines_in, form_at, found, distinct}
use Rattle.forms.specs.declared.tables.Found.{Found}
use Rattle.rules.specs.Acceptance.{rule_in_range}
use Rattle.rules.specs.declared.families.Rule.{Rule}
use Rattle.rule_text.specs.Lines.{line, narrow}
use Rattle.rule_text.specs.declared.lines.Line.{Line}
use Rattle.forms.proofs.Finding.{found-hits, found-written}
use Rattle.forms.proofs.Marks.{range-fits}
use Rattle.rule_text.proofs.Marks.{marks_in, values_for, ranges_hold, values-by-marks, ranges-by-marks, padded, padded-in-range, padded-text}
use Rattle.rule_text.proofs.Values.{narrow-same, held_for, holdable, all_held}
use Rattle.rule_text.proofs.Ranges.{number-range, IsShortRule, in-range-short}

-- ---- a form

-- a form of a rule has at most six numbers, the rule's own first, and a rule's fields hold them
unfoldable pub is_rule_form : List ℕ → Bool
is_rule_form t = eqb (head (marks_in t)) 35 && (leb 1 (length (marks_in t)) && (leb (length (marks_in t)) 6 && holdable (marks_in t)))

record RuleForm (marks : List ℕ) : Type 0 where
  few : length marks ≤ 6
  fields_hold : holdable marks ≡ true
  number_first : (values : List ℕ) → ranges_hold marks values ≡ true → (1 ≤ head values) × (head values ≤ 128)

rule-form : (t : List ℕ) → is_rule_form t ≡ true → RuleForm (marks_in t)
unfolding is_rule_form
rule-form t h =
    let marks = marks_in t in
    let first = both (eqb (head marks) 35) (leb 1 (length marks) && (leb (length marks) 6 && holdable marks)) h in
    let second = both (leb 1 (length marks)) (leb (length marks) 6 && holdable marks) first.1 in
    let third = both (leb (length marks) 6) (holdable marks) second.1 in
    record {
      few = leb-true (length marks) 6 third.0;
      fields_hold = third.1;
      number_first = λ values. number marks values (eqb-true (head marks) 35 first.0) (leb-true 1 (length marks) second.0);
    }
  where
    bounds : (n : ℕ) → in_range 35 n ≡ true → (1 ≤ n) × (n ≤ 128)
    bounds n r = let parts = both (leb 1 n) (leb n 128) (sym (number-range n) ∙ r) in (leb-true 1 n parts.0, leb-true n 128 parts.1)

    number : (marks values : List ℕ) → head marks ≡ 35 → 1 ≤ length marks → ranges_hold marks values ≡ true → (1 ≤ head values) × (head values ≤ 128)
    number [] values e some r = absurd (omega arith)
    number (m ∷ marks) values e some r = bounds (head values) (rw e at (first_range m marks values r))
      where
        first_range : (m : ℕ) (marks values : List ℕ) → ranges_hold (m ∷ marks) values ≡ true → in_range m (head values) ≡ true
        first_range m marks values r = unfold ranges_hold in (left-true (in_range m (head values)) (ranges_hold marks (tail values)) r)

-- ---- a table

-- the fields of a rule hold each value of its line
abbrev pub HoldsAll : List ℕ → Line → Type 0
HoldsAll table l = (i : ℕ) → get_or (held_for (marks_in (form_at table l.form)) l.values) i 0 ≡ get_or (values_for (marks_in (form_at table l.form)) l.values) i 0

-- a line's form is one of a rule, it has no value that the form has not, and its first is the number
pub record OwnLine (table : List ℕ) (count n : ℕ) (l : Line) : Type 0 where
  pub form : l.form < count
  pub values : padded (values_for (marks_in (form_at table l.form)) l.values) ≡ l.values
  pub number : get_or l.values 0 0 ≡ n

-- the first forms of a table are those of rules: the line of each rule that has one, and the rule of each form and its values
pub record LineTable (table : List ℕ) (count : ℕ) (line_of : ℕ → Rule → Line) (rule_of_form : ℕ → List ℕ → Rule) (has : Rule → Bool) : Type 0 where
  pub told : distinct (lines_in table) ≡ true
  pub within : count ≤ length (lines_in table)
  pub numbered : (k : ℕ) → k < count → is_rule_form (form_at table k) ≡ true
  pub held : (k a b c d e f : ℕ) → k < count
      → line_of (narrow a) (rule_of_form k (a ∷ b ∷ c ∷ d ∷ e ∷ f ∷ [])) ≡ line k (padded (held_for (marks_in (form_at table k)) (a ∷ b ∷ c ∷ d ∷ e ∷ f ∷ [])))
  pub made_has : (k : ℕ) (values : List ℕ) → k < count → has (rule_of_form k values) ≡ true
  pub made_short : (k : ℕ) (values : List ℕ) → k < count → IsShortRule (rule_of_form k values)
  pub ranged : (n : ℕ) (rule : Rule) → has rule ≡ true → IsShortRule rule
      → all_in_range (form_at table (line_of n rule).form) (line_of n rule).values ≡ (leb 1 n && leb n 128) && rule_in_range rule
  pub own : (n : ℕ) (rule : Rule) → has rule ≡ true → OwnLine table count n (line_of n rule)
  pub back : (n : ℕ) (rule : Rule) → has rule ≡ true → IsShortRule rule → HoldsAll table (line_of n rule) → rule_of_form (line_of n rule).form (line_of n rule).values ≡ rule

head_first : (values : List ℕ) → get_or values 0 0 ≡ head values
head_first [] = refl
head_first (v ∷ values) = refl

six-values : (v : List ℕ) → length v ≡ 6 → v ≡ get_or v 0 0 ∷ get_or v 1 0 ∷ get_or v 2 0 ∷ get_or v 3 0 ∷ get_or v 4 0 ∷ get_or v 5 0 ∷ []
six-values [] e = absurd (omega arith)
six-values (a ∷ []) e = absurd (omega arith)
six-values (a ∷ b ∷ []) e = absurd (omega arith)
six-values (a ∷ b ∷ c ∷ []) e = absurd (omega arith)
six-values (a ∷ b ∷ c ∷ d ∷ []) e = absurd (omega arith)
six-values (a ∷ b ∷ c ∷ d ∷ f ∷ []) e = absurd (omega arith)
six-values (a ∷ b ∷ c ∷ d ∷ f ∷ g ∷ []) e = refl
six-values (a ∷ b ∷ c ∷ d ∷ f ∷ g ∷ h ∷ v) e = absurd (omega arith)

module _ {table : List ℕ} {count : ℕ} {line_of : ℕ → Rule → Line} {rule_of_form : ℕ → List ℕ → Rule} {has : Rule → Bool}
    (laws : LineTable table count line_of rule_of_form has) where
  abbrev marks_at : ℕ → List ℕ
  marks_at k = marks_in (form_at table k)

  -- ---- from a line to its rule and back

  module _ (k : ℕ) (values : List ℕ) (h : k < count) (six : length values ≡ 6) (fits_range : all_in_range (form_at table k) values ≡ true) where
    form : RuleForm (marks_at k)
    form = rule-form (form_at table k) (laws.numbered k h)

    ranges : ranges_hold (marks_at k) values ≡ true
    ranges = sym (ranges-by-marks (form_at table k) values) ∙ fits_range

    pub number-bounds : (1 ≤ get_or values 0 0) × (get_or values 0 0 ≤ 128)
    number-bounds = rw (head_first values) (form.number_first values ranges)

    pub line_same : line_of (get_or values 0 0) (rule_of_form k values) ≡ line k (padded (values_for (marks_at k) values))
    line_same =
        ap (λ (n : ℕ). line_of n (rule_of_form k values)) (sym (narrow-same (get_or values 0 0) 128 number-bounds.1 (omega arith)))
        ∙ subst⁻¹ (λ (v : List ℕ). line_of (narrow (get_or v 0 0)) (rule_of_form k v) ≡ line k (padded (held_for (marks_at k) v))) (six-values values six)
        (laws.held k (get_or values 0 0) (get_or values 1 0) (get_or values 2 0) (get_or values 3 0) (get_or values 4 0) (get_or values 5 0) h)
        ∙ ap (λ (v : List ℕ). line k (padded v)) (all_held (marks_at k) values form.fields_hold ranges)

    pub text_same : fill (form_at table (line_of (get_or values 0 0) (rule_of_form k values)).form) (line_of (get_or values 0 0) (rule_of_form k values)).values ≡ fill (form_at table k) values
    text_same = ap (λ (l : Line). fill (form_at table l.form) l.values) line_same ∙ padded-text (form_at table k) values form.few

    pub made-in-range : rule_in_range (rule_of_form k values) ≡ true
    made-in-range =
        right-true (leb 1 (get_or values 0 0) && leb (get_or values 0 0) 128) (rule_in_range (rule_of_form k values))
        (sym (laws.ranged (get_or values 0 0) (rule_of_form k values) (laws.made_has k values h) (laws.made_short k values h))
        ∙ ap (λ (l : Line). all_in_range (form_at table l.form) l.values) line_same
        ∙ padded-in-range (form_at table k) values form.few
        ∙ fits_range)

  -- ---- from a rule to its line and back

  module _ (n : ℕ) (rule : Rule) (stated : has rule ≡ true) (first : 1 ≤ n) (last : n ≤ 128) (fits_range : rule_in_range rule ≡ true) where
    abbrev form-of : List ℕ
    form-of = form_at table (line_of n rule).form

    in_table : (line_of n rule).form < length (lines_in table)
    in_table = omega (arith, (laws.own n rule stated).form, laws.within)

    pub rule-line-in-range : all_in_range (form_at table (line_of n rule).form) (line_of n rule).values ≡ true
    rule-line-in-range =
        laws.ranged n rule stated (in-range-short rule fits_range)
        ∙ both_true (leb 1 n && leb n 128) (rule_in_range rule) (both_true (leb 1 n) (leb n 128) (le-leb 1 n first) (le-leb n 128 last)) fits_range

    pub rule-same : rule_of_form (line_of n rule).form (line_of n rule).values ≡ rule
    rule-same =
        laws.back n rule stated (in-range-short rule fits_range)
        (λ i. ap (λ (l : List ℕ). get_or l i 0)
        (all_held (marks_in form-of) (line_of n rule).values (rule-form form-of (laws.numbered (line_of n rule).form (laws.own n rule stated).form)).fields_hold
        (sym (ranges-by-marks form-of (line_of n rule).values) ∙ rule-line-in-range)))

    -- its text is found again, whatever follows
    pub found-rule : (s : List ℕ)
        → found table (fill form-of (line_of n rule).values ++ s)
        ≡ record { form = (line_of n rule).form; values = (line_of n rule).values; length = length (fill form-of (line_of n rule).values) }
    found-rule s =
        found-written table (line_of n rule).form (line_of n rule).values s laws.told in_table (range-fits form-of (line_of n rule).values rule-line-in-range)
        ∙ ap (λ (v : List ℕ). record { form = (line_of n rule).form; values = v; length = length (fill form-of (line_of n rule).values) })
        (ap padded (values-by-marks form-of (line_of n rule).values) ∙ (laws.own n rule stated).values)

    pub text-some : 0 < length (fill (form_at table (line_of n rule).form) (line_of n rule).values)
    text-some =
        subst (λ (f : Found). f.form < length (lines_in table) → 0 < f.length) (found-rule [])
        (found-hits table (fill form-of (line_of n rule).values ++ []) laws.told).some in_table
