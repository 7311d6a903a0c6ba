-- A line is refused with a number exactly where it has that number's cause, and is good exactly where it is an accepted rule's text.
-- Assumes nothing.
use mathlib.Core.Path.{◌≡◌, refl, sym, ap, ◌∙◌, subst}
use mathlib.Core.Bool.{Bool, true, false, not, cond}
use mathlib.Core.Logic.{◌↔◌, ◌⊎◌, inl, inr}
use mathlib.Core.List.{List}
use Prim.Native.Nat.{ℕ, ◌+◌, ◌-◌, ◌≤◌, ◌<◌}
use native.Mathlib.Omega.{arith}
use lib.ListN.{length, drop, get_or, replicate, get_or-replicate}
use lib.Dec.{eqb, leb}
use borrow.Author.Tests.{eqb-true, eqb-false, leb-true, leb-false, eq-eqb, ne_eqb, le-leb, lt-leb}
use Rattle.forms.specs.Forms.{head, all_in_range}
use Rattle.forms.specs.Tables.{lines_in, form_at, found}
use Rattle.forms.specs.declared.tables.Found.{Found}
use Rattle.rules.specs.Acceptance.{rule_distinct, rule_sound, unstated}
use Rattle.rules.specs.declared.families.Rule.{Rule}
use Rattle.rules.specs.declared.rights.Right.TheVariants.{Permission}
use Rattle.rules.specs.declared.rights.RightSlot.{RightSlot}
use Rattle.rule_text.specs.Lines.{rule_forms, form_count, rule_form_count, line_of, rule_text, rule_of_form}
use Rattle.rule_text.specs.Reading.{rule_read, line_after, read_line, right_slot}
use Rattle.rule_text.specs.Causes.{Stands, RuleStands, RightStands, Misplaced, second_of_kind, Cause, no_form, out_of_range, not_next, misplaced, same_twice, unsound, GoodLine, RightsEnd}
use Rattle.rule_text.specs.declared.reading.Parsed.{Parsed}
use Rattle.std.specs.Prelude.{Result, Ok, Err}
use Rattle.sets.proofs.Booleans.{clash}
use Rattle.forms.proofs.Finding.{Hits, found-hits, found_none}
use Rattle.rule_text.proofs.Values.{table-length}
use Rattle.rule_text.proofs.Inverse.{table-distinct, number-bounds, text_same, made-in-range, form-of-rule, number-of-rule, rule-line-in-range, rule-same, found-rule}
use Rattle.rule_text.proofs.RightLines.{right-at, right-in-range, right-found, one-kind, no-rule}

-- ---- what was read has its cause

abbrev pub Says : List RightSlot → ℕ → List ℕ → Result Parsed ℕ → Type 0
Says rights n text (Ok entry) = GoodLine n text entry
Says rights n text (Err number) = Cause rights n text number

-- what was found, where it is a form
module _ {text : List ℕ} {f : Found} (hits : Hits rule_forms text f) where
  in_table : (f.form ≡ form_count → ⊥) → f.form < form_count
  in_table other = omega (arith, hits.most, table-length)

  in_lines : f.form < form_count → f.form < length (lines_in rule_forms)
  in_lines h = rw table-length h

  line_at : f.form < form_count → Stands text f.form f.values
  line_at h = record { form = h; fits = hits.fit (in_lines h); rest = drop f.length text; reads = hits.text (in_lines h) }

  module _ (h : f.form < rule_form_count) (fits_range : all_in_range (form_at rule_forms f.form) f.values ≡ true) where
    in-forms : f.form < length (lines_in rule_forms)
    in-forms = in_lines (omega arith)

    rule-at : RuleStands text (get_or f.values 0 0) (rule_of_form f.form f.values)
    rule-at =
        let bounds = number-bounds f.form f.values h hits.six fits_range in
        record {
          first = bounds.0;
          last = bounds.1;
          fits_range = made-in-range f.form f.values h hits.six fits_range;
          rest = drop f.length text;
          reads = rw (text_same f.form f.values h hits.six fits_range) (hits.text in-forms);
        }

    length_at : f.length ≡ length (rule_text (get_or f.values 0 0) (rule_of_form f.form f.values))
    length_at = rw (text_same f.form f.values h hits.six fits_range) (hits.exact in-forms)

module _ (rights : List RightSlot) (n : ℕ) {text : List ℕ} (ended : RightsEnd rights n text) {f : Found} (hits : Hits rule_forms text f)
    (none : f.form ≡ form_count → (k : ℕ) (values : List ℕ) → Stands text k values → ⊥)
    (outside : all_in_range (form_at rule_forms f.form) f.values ≡ false → (m : ℕ) (rule : Rule) → RuleStands text m rule → ⊥)
    (outside-right : all_in_range (form_at rule_forms f.form) f.values ≡ false → (kind permission : ℕ) → RightStands text kind permission → ⊥) where
  right-misplaced : (f.form ≡ form_count → ⊥) → rule_form_count ≤ f.form → all_in_range (form_at rule_forms f.form) f.values ≡ true → Cause rights n text 12
  right-misplaced other past fits_range =
      let low = in_table hits other in
      let st = right-at hits (f.form - rule_form_count) (omega arith) (omega arith) fits_range in
      misplaced (f.form - rule_form_count) (head f.values) st (ended (f.form - rule_form_count) (head f.values) st)

  by_tests : (no : Bool) → eqb f.form form_count ≡ no → (ranged : Bool) → all_in_range (form_at rule_forms f.form) f.values ≡ ranged
      → (right : Bool) → leb rule_form_count f.form ≡ right
      → (next : Bool) → eqb (get_or f.values 0 0) n ≡ next → (distinct : Bool) → rule_distinct (rule_of_form f.form f.values) ≡ distinct
      → (sound : Bool) → rule_sound (rule_of_form f.form f.values) ≡ sound
      → Says rights n text (cond no (Err 10) (cond (not ranged) (Err 11) (cond right (Err 12) (cond (not next) (Err 12) (cond (not distinct) (Err 13) (cond (not sound) (Err 14)
      (Ok (record { rule = rule_of_form f.form f.values; length = f.length }))))))))
  by_tests true a ranged b right r next c distinct d sound e = no_form (none (eqb-true f.form form_count a))
  by_tests false a false b right r next c distinct d sound e =
      out_of_range f.form f.values (line_at hits (in_table hits (eqb-false _ _ a))) (outside b) (outside-right b)
  by_tests false a true b true r next c distinct d sound e = right-misplaced (eqb-false _ _ a) (leb-true rule_form_count f.form r) b
  by_tests false a true b false r false c distinct d sound e =
      not_next (get_or f.values 0 0) (rule_of_form f.form f.values) (rule-at hits (leb-false rule_form_count f.form r) b) (eqb-false (get_or f.values 0 0) n c)
  by_tests false a true b false r true c false d sound e =
      same_twice (rule_of_form f.form f.values) (rw (eqb-true (get_or f.values 0 0) n c) at (rule-at hits (leb-false rule_form_count f.form r) b)) d
  by_tests false a true b false r true c true d false e =
      unsound (rule_of_form f.form f.values) (rw (eqb-true (get_or f.values 0 0) n c) at (rule-at hits (leb-false rule_form_count f.form r) b)) d e
  by_tests false a true b false r true c true d true e =
      let h = leb-false rule_form_count f.form r in
      let next = eqb-true (get_or f.values 0 0) n c in
      record { stands = rw next at (rule-at hits h b); distinct = d; sound = e; length = rw next at (length_at hits h b) }

  says : Says rights n text (line_after n f)
  unfolding line_after rule_read
  says =
      by_tests (eqb f.form form_count) refl (all_in_range (form_at rule_forms f.form) f.values) refl (leb rule_form_count f.form) refl
      (eqb (get_or f.values 0 0) n) refl (rule_distinct (rule_of_form f.form f.values)) refl (rule_sound (rule_of_form f.form f.values)) refl

-- where a rule or a right in range stands, its numbers are found in their ranges
rule_found : (text : List ℕ) (m : ℕ) (rule : Rule) → RuleStands text m rule
    → all_in_range (form_at rule_forms (found rule_forms text).form) (found rule_forms text).values ≡ true
rule_found text m rule st =
    rw (st.reads, found-rule m rule st.first st.last st.fits_range st.rest) (rule-line-in-range m rule st.first st.last st.fits_range)

right-ranged : (text : List ℕ) (kind permission : ℕ) → RightStands text kind permission
    → all_in_range (form_at rule_forms (found rule_forms text).form) (found rule_forms text).values ≡ true
right-ranged text kind permission st = rw (right-found st) (right-in-range kind permission st.known st.fits_range)

pub line-says : (rights : List RightSlot) (n : ℕ) (text : List ℕ) → RightsEnd rights n text → Says rights n text (read_line n text)
unfolding read_line
line-says rights n text ended =
    says rights n ended (found-hits rule_forms text table-distinct)
    (λ e k values st. found_none rule_forms text table-distinct (e ∙ sym table-length) k values st.rest (rw table-length st.form) st.fits st.reads)
    (λ outside m rule st. clash (rule_found text m rule st) outside)
    (λ outside kind permission st. clash (right-ranged text kind permission st) outside)

-- ---- and what has a cause is read so

-- rule m stands there: all is decided by its number and the rule
rule-decides : (n : ℕ) (text : List ℕ) (m : ℕ) (rule : Rule) → RuleStands text m rule
    → read_line n text ≡ cond (not (eqb m n)) (Err 12) (rule_read rule (length (rule_text m rule)))
unfolding read_line line_after
rule-decides n text m rule st =
    let form = form-of-rule m rule in
    rw (
      st.reads,
      found-rule m rule st.first st.last st.fits_range st.rest,
      ne_eqb (line_of m rule).form form_count (λ e. omega arith),
      rule-line-in-range m rule st.first st.last st.fits_range,
      lt-leb rule_form_count (line_of m rule).form form,
      number-of-rule m rule,
      rule-same m rule st.first st.last st.fits_range,
    )

-- a right's line stands there
right-decides : (n : ℕ) (text : List ℕ) (kind permission : ℕ) → RightStands text kind permission → read_line n text ≡ Err 12
unfolding read_line line_after
right-decides n text kind permission st =
    rw (
      right-found st,
      ne_eqb (rule_form_count + kind) form_count (λ e. omega (arith, st.known)),
      right-in-range kind permission st.known st.fits_range,
      le-leb rule_form_count (rule_form_count + kind) (omega arith),
    )

no-form-read : (n : ℕ) (text : List ℕ) → ((k : ℕ) (values : List ℕ) → Stands text k values → ⊥) → read_line n text ≡ Err 10
unfolding read_line line_after
no-form-read n text none = by_form (eqb (found rule_forms text).form form_count) refl
  where
    by_form : (no : Bool) → eqb (found rule_forms text).form form_count ≡ no → line_after n (found rule_forms text) ≡ Err 10
    by_form true e = rw e
    by_form false e =
        let hits = found-hits rule_forms text table-distinct in
        absurd (none (found rule_forms text).form (found rule_forms text).values (line_at hits (in_table hits (eqb-false _ _ e))))

module _ (rights : List RightSlot) (n : ℕ) (text : List ℕ) where
  -- each cause leaves no good line of a right there
  pub cause-ends : {number : ℕ} → Cause rights n text number → RightsEnd rights n text
  cause-ends (no_form none) kind permission st =
      let hits = found-hits rule_forms text table-distinct in
      let same : (found rule_forms text).form ≡ rule_form_count + kind = ap (λ (f : Found). f.form) (right-found st) in
      absurd (none (found rule_forms text).form (found rule_forms text).values (line_at hits (omega (arith, st.known))))
  cause-ends (out_of_range k values there outside none) kind permission st = absurd (none kind permission st)
  cause-ends (not_next m rule there other) kind permission st = absurd (no-rule st there)
  cause-ends (misplaced other p there why) kind permission st = subst (Misplaced rights n) (one-kind st there) why
  cause-ends (same_twice rule there same) kind permission st = absurd (no-rule st there)
  cause-ends (unsound rule there distinct bad) kind permission st = absurd (no-rule st there)

  out-of-range-read : (k : ℕ) (values : List ℕ) → Stands text k values → ((m : ℕ) (rule : Rule) → RuleStands text m rule → ⊥)
      → ((kind permission : ℕ) → RightStands text kind permission → ⊥) → read_line n text ≡ Err 11
  out-of-range-read k values st none none_right = by_read (read_line n text) (line-says rights n text (λ kind permission there. absurd (none_right kind permission there)))
    where
      by-cause : {number : ℕ} → Cause rights n text number → number ≡ 11
      by-cause (no_form none-there) = absurd (none-there k values st)
      by-cause (out_of_range j others there outside outside-right) = refl
      by-cause (not_next m rule there other) = absurd (none m rule there)
      by-cause (misplaced kind permission there why) = absurd (none_right kind permission there)
      by-cause (same_twice rule there same) = absurd (none n rule there)
      by-cause (unsound rule there distinct bad) = absurd (none n rule there)

      by_read : (read : Result Parsed ℕ) → Says rights n text read → read ≡ Err 11
      by_read (Ok entry) good = absurd (none n entry.rule good.stands)
      by_read (Err number) cause = ap Err (by-cause cause)

  pub has-cause : {number : ℕ} → Cause rights n text number → read_line n text ≡ Err number
  unfolding rule_read
  has-cause (no_form none) = no-form-read n text none
  has-cause (out_of_range k values st outside outside-right) = out-of-range-read k values st outside outside-right
  has-cause (not_next m rule st other) = rule-decides n text m rule st ∙ rw (ne_eqb m n other)
  has-cause (misplaced kind permission st why) = right-decides n text kind permission st
  has-cause (same_twice rule st same) = rule-decides n text n rule st ∙ rw (eq-eqb n n refl, same)
  has-cause (unsound rule st distinct bad) = rule-decides n text n rule st ∙ rw (eq-eqb n n refl, distinct, bad)

is-good : (n : ℕ) (text : List ℕ) (entry : Parsed) → GoodLine n text entry → read_line n text ≡ Ok entry
unfolding rule_read
is-good n text entry good = rule-decides n text n entry.rule good.stands ∙ rw (eq-eqb n n refl, good.distinct, good.sound, ← good.length)

-- ---- the laws

-- after the lines of these rights, where rule n is the next and no good line of a right stands, a line is refused with a number exactly where
-- it has the number's cause
pub line_refused : (rights : List RightSlot) (n : ℕ) (text : List ℕ) → RightsEnd rights n text → (number : ℕ)
    → (read_line n text ≡ Err number) ↔ Cause rights n text number
line_refused rights n text ended number = ((λ e. subst (Says rights n text) e (line-says rights n text ended)), has-cause rights n text)

-- where every kind has a right, no line of one is good
every-right : List RightSlot
every-right = replicate 6 (right_slot (Permission 0))

every-right-ends : (n : ℕ) (text : List ℕ) → RightsEnd every-right n text
unfolding every-right
every-right-ends n text kind permission st =
    second_of_kind 0 (ap (λ (slot : RightSlot). slot.right) (get_or-replicate 6 kind (right_slot (Permission 0)) unstated st.known))

-- and is good exactly where it is an accepted rule's text
pub line-good : (n : ℕ) (text : List ℕ) (entry : Parsed) → (read_line n text ≡ Ok entry) ↔ GoodLine n text entry
line-good n text entry = ((λ e. subst (Says every-right n text) e (line-says every-right n text (every-right-ends n text))), is-good n text entry)

-- ---- number by number

module _ (rights : List RightSlot) (n : ℕ) (text : List ℕ) (ended : RightsEnd rights n text) where
  -- a cause in other words
  means : {A : Type 0} {number : ℕ} → (Cause rights n text number → A) → (A → Cause rights n text number) → (read_line n text ≡ Err number) ↔ A
  means {A} {number} says causes = ((λ e. says ((line_refused rights n text ended number).0 e)), (λ a. (line_refused rights n text ended number).1 (causes a)))

  -- no form with any numbers is the front of the text
  pub line-10 : (read_line n text ≡ Err 10) ↔ ((k : ℕ) (values : List ℕ) → Stands text k values → ⊥)
  line-10 = means says no_form
    where
      says : Cause rights n text 10 → (k : ℕ) (values : List ℕ) → Stands text k values → ⊥
      says (no_form none) = none

  -- one is, and no rule in range is, under no number in range, and no right in range
  abbrev pub OutOfRange : Type 0
  OutOfRange = (k : ℕ) × (values : List ℕ) × Stands text k values × ((m : ℕ) (rule : Rule) → RuleStands text m rule → ⊥)
      × ((kind permission : ℕ) → RightStands text kind permission → ⊥)

  pub line-11 : (read_line n text ≡ Err 11) ↔ OutOfRange
  line-11 = means says (λ cause. out_of_range cause.0 cause.1 cause.2 cause.3 cause.4)
    where
      says : Cause rights n text 11 → OutOfRange
      says (out_of_range k values st outside outside-right) = (k, values, st, outside, outside-right)

  -- a rule in range is, under another number than the next; or a right in range, which is second of its kind, out of order or after a rule
  abbrev pub NotNext : Type 0
  NotNext = ((m : ℕ) × (rule : Rule) × RuleStands text m rule × (m ≡ n → ⊥)) ⊎ ((kind : ℕ) × (permission : ℕ) × RightStands text kind permission × Misplaced rights n kind)

  pub line-12 : (read_line n text ≡ Err 12) ↔ NotNext
  line-12 = means says causes
    where
      says : Cause rights n text 12 → NotNext
      says (not_next m rule st other) = inl (m, rule, st, other)
      says (misplaced kind permission st why) = inr (kind, permission, st, why)

      causes : NotNext → Cause rights n text 12
      causes (inl cause) = not_next cause.0 cause.1 cause.2 cause.3
      causes (inr cause) = misplaced cause.0 cause.1 cause.2 cause.3

  -- the next rule is, and names a role or permission twice
  pub line-13 : (read_line n text ≡ Err 13) ↔ ((rule : Rule) × RuleStands text n rule × (rule_distinct rule ≡ false))
  line-13 = means says (λ cause. same_twice cause.0 cause.1 cause.2)
    where
      says : Cause rights n text 13 → (rule : Rule) × RuleStands text n rule × (rule_distinct rule ≡ false)
      says (same_twice rule st same) = (rule, st, same)

  -- the next rule is, names none twice, and its term or shape is not sound
  pub line-14 : (read_line n text ≡ Err 14) ↔ ((rule : Rule) × RuleStands text n rule × (rule_distinct rule ≡ true) × (rule_sound rule ≡ false))
  line-14 = means says (λ cause. unsound cause.0 cause.1 cause.2 cause.3)
    where
      says : Cause rights n text 14 → (rule : Rule) × RuleStands text n rule × (rule_distinct rule ≡ true) × (rule_sound rule ≡ false)
      says (unsound rule st distinct bad) = (rule, st, distinct, bad)

-- where no form is the front of the text, none is a right's
pub no-form-there : (rights : List RightSlot) (n : ℕ) (text : List ℕ) → read_line n text ≡ Err 10 → Cause rights n text 10
no-form-there rights n text e = no_form ((line-10 every-right n text (every-right-ends n text)).0 e)
