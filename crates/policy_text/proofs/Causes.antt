-- A policy is refused with a number exactly where it has that number's cause, and is good exactly where it is the text of an accepted rule of
-- the five kinds.
-- Assumes nothing.
use mathlib.Core.Path.{◌≡◌, refl, sym, ap, ◌∙◌, subst}
use mathlib.Core.Bool.{Bool, true, false, not, cond, ◌&&◌}
use mathlib.Core.Logic.{◌↔◌}
use mathlib.Core.List.{List}
use Prim.Native.Nat.{ℕ, ◌<◌}
use native.Mathlib.Omega.{arith}
use lib.ListN.{length, drop, get_or}
use lib.Dec.{eqb}
use borrow.Author.Tests.{eqb-true, eqb-false, eq-eqb, ne_eqb}
use Rattle.sets.proofs.Booleans.{clash, both, both_true}
use Rattle.forms.specs.Forms.{fill, all_in_range}
use Rattle.forms.specs.Tables.{lines_in, form_at, found}
use Rattle.forms.specs.declared.tables.Found.{Found}
use Rattle.forms.proofs.Finding.{Hits, found-hits, found_none}
use Rattle.rules.specs.Acceptance.{rule_in_range, rule_distinct, rule_sound, rule_accepted}
use Rattle.rules.specs.declared.families.Rule.{Rule}
use Rattle.rule_text.specs.Reading.{rule_read}
use Rattle.rule_text.specs.declared.reading.Parsed.{Parsed}
use Rattle.std.specs.Prelude.{Result, Ok, Err}
use Rattle.rule_text.proofs.NumberedLines.{LineStands, Language}
use Rattle.rule_text.proofs.LineTables.{number-bounds, text_same, made-in-range, rule-line-in-range, rule-same, found-rule, text-some}
use Rattle.policy_text.specs.Lines.{policy_forms, policy_count, policy_of, has_policy, policy_text, rule_of_policy}
use Rattle.policy_text.specs.Reading.{policy_after, read_policy}
use Rattle.policy_text.specs.Causes.{Stands, PolicyStands, Cause, outside_subset, out_of_range, not_next, same_twice}
use Rattle.policy_text.proofs.Table.{table-length, table-distinct, made-sound, has-kind, kind-has, policy-table}

-- the rules that can stand in a line: accepted, and of the five kinds
abbrev pub passes : Rule → Bool
passes rule = rule_accepted rule && has_policy rule

-- what is known of a place before its line is read: nothing
abbrev pub Ready : ℕ → List ℕ → Type 0
Ready n text = Unit {0}

-- ---- what was read has its cause

abbrev Says : ℕ → List ℕ → Result Parsed ℕ → Type 0
Says n text (Ok entry) = LineStands policy_text passes n text entry
Says n text (Err number) = Cause n text number

-- what was found, where it is a form
module _ {text : List ℕ} {f : Found} (hits : Hits policy_forms text f) where
  in_table : (f.form ≡ policy_count → ⊥) → f.form < policy_count
  in_table other = omega (arith, hits.most, table-length)

  in_lines : f.form < policy_count → f.form < length (lines_in policy_forms)
  in_lines h = rw table-length h

  line_at : f.form < policy_count → Stands text f.form f.values
  line_at h = record { form = h; fits = hits.fit (in_lines h); rest = drop f.length text; reads = hits.text (in_lines h) }

  module _ (h : f.form < policy_count) (fits_range : all_in_range (form_at policy_forms f.form) f.values ≡ true) where
    same : policy_text (get_or f.values 0 0) (rule_of_policy f.form f.values) ≡ fill (form_at policy_forms f.form) f.values
    unfolding policy_text
    same = text_same policy-table f.form f.values h hits.six fits_range

    policy-at : PolicyStands text (get_or f.values 0 0) (rule_of_policy f.form f.values)
    policy-at =
        let bounds = number-bounds policy-table f.form f.values h hits.six fits_range in
        record {
          first = bounds.0;
          last = bounds.1;
          kind = has-kind (rule_of_policy f.form f.values) (policy-table.made_has f.form f.values h);
          fits_range = made-in-range policy-table f.form f.values h hits.six fits_range;
          rest = drop f.length text;
          reads = rw same (hits.text (in_lines h));
        }

    length_at : f.length ≡ length (policy_text (get_or f.values 0 0) (rule_of_policy f.form f.values))
    length_at = rw same (hits.exact (in_lines h))

-- what stands there is in range and of the five kinds
standing : {n : ℕ} {text : List ℕ} {entry : Parsed} → LineStands policy_text passes n text entry → PolicyStands text n entry.rule
standing {n} {text} {entry} line =
    let rule = entry.rule in
    let parts = both (rule_accepted rule) (has_policy rule) line.passed in
    record {
      first = line.first;
      last = line.last;
      kind = has-kind rule parts.1;
      fits_range = (both (rule_in_range rule) (rule_distinct rule && rule_sound rule) parts.0).0;
      rest = line.rest;
      reads = line.reads;
    }

-- and is accepted where it names no role twice
stands-accepted : {n : ℕ} {text : List ℕ} {rule : Rule} (bytes : ℕ) → PolicyStands text n rule → rule_distinct rule ≡ true → rule_sound rule ≡ true → bytes ≡ length (policy_text n rule)
    → LineStands policy_text passes n text (record { rule = rule; length = bytes })
stands-accepted {n} {text} {rule} bytes st distinct sound exact = record {
  first = st.first;
  last = st.last;
  passed =
      both_true (rule_accepted rule) (has_policy rule)
      (both_true (rule_in_range rule) (rule_distinct rule && rule_sound rule) st.fits_range (both_true (rule_distinct rule) (rule_sound rule) distinct sound)) (kind-has st.kind);
  rest = st.rest;
  reads = st.reads;
  length = exact;
}

module _ (n : ℕ) {text : List ℕ} {f : Found} (hits : Hits policy_forms text f)
    (none : f.form ≡ policy_count → (k : ℕ) (values : List ℕ) → Stands text k values → ⊥)
    (outside : all_in_range (form_at policy_forms f.form) f.values ≡ false → (m : ℕ) (rule : Rule) → PolicyStands text m rule → ⊥) where
  by_tests : (no : Bool) → eqb f.form policy_count ≡ no → (ranged : Bool) → all_in_range (form_at policy_forms f.form) f.values ≡ ranged
      → (next : Bool) → eqb (get_or f.values 0 0) n ≡ next → (distinct : Bool) → rule_distinct (rule_of_policy f.form f.values) ≡ distinct
      → (sound : Bool) → rule_sound (rule_of_policy f.form f.values) ≡ sound
      → Says n text (cond no (Err 55) (cond (not ranged) (Err 11) (cond (not next) (Err 12) (cond (not distinct) (Err 13) (cond (not sound) (Err 14)
      (Ok (record { rule = rule_of_policy f.form f.values; length = f.length })))))))
  by_tests true a ranged b next c distinct d sound e = outside_subset (none (eqb-true f.form policy_count a))
  by_tests false a false b next c distinct d sound e = out_of_range f.form f.values (line_at hits (in_table hits (eqb-false _ _ a))) (outside b)
  by_tests false a true b false c distinct d sound e =
      not_next (get_or f.values 0 0) (rule_of_policy f.form f.values) (policy-at hits (in_table hits (eqb-false _ _ a)) b) (eqb-false (get_or f.values 0 0) n c)
  by_tests false a true b true c false d sound e =
      same_twice (rule_of_policy f.form f.values) (rw (eqb-true (get_or f.values 0 0) n c) at (policy-at hits (in_table hits (eqb-false _ _ a)) b)) d
  by_tests false a true b true c true d false e = clash (made-sound f.form f.values (in_table hits (eqb-false _ _ a))) e
  by_tests false a true b true c true d true e =
      let h = in_table hits (eqb-false _ _ a) in
      let next = eqb-true (get_or f.values 0 0) n c in
      stands-accepted f.length (rw next at (policy-at hits h b)) d e (rw next at (length_at hits h b))

  says : Says n text (policy_after n f)
  unfolding policy_after rule_read
  says =
      by_tests (eqb f.form policy_count) refl (all_in_range (form_at policy_forms f.form) f.values) refl
      (eqb (get_or f.values 0 0) n) refl (rule_distinct (rule_of_policy f.form f.values)) refl (rule_sound (rule_of_policy f.form f.values)) refl

-- ---- and what has a cause is read so

-- the policy of rule m stands there: all is decided by its number and the rule
module _ (n : ℕ) (text : List ℕ) (m : ℕ) (rule : Rule) (st : PolicyStands text m rule) where
  found-there : found policy_forms text ≡ record { form = (policy_of m rule).form; values = (policy_of m rule).values; length = length (policy_text m rule) }
  unfolding policy_text
  found-there = ap (found policy_forms) st.reads ∙ found-rule policy-table m rule (kind-has st.kind) st.first st.last st.fits_range st.rest

  in-range-there : all_in_range (form_at policy_forms (policy_of m rule).form) (policy_of m rule).values ≡ true
  in-range-there = rule-line-in-range policy-table m rule (kind-has st.kind) st.first st.last st.fits_range

  decides : read_policy n text ≡ cond (not (eqb m n)) (Err 12) (rule_read rule (length (policy_text m rule)))
  unfolding read_policy policy_after
  decides =
      let own = policy-table.own m rule (kind-has st.kind) in
      rw (
        found-there,
        ne_eqb (policy_of m rule).form policy_count (λ e. omega (arith, own.form)),
        in-range-there,
        own.number,
        rule-same policy-table m rule (kind-has st.kind) st.first st.last st.fits_range,
      )

  ranged-there : all_in_range (form_at policy_forms (found policy_forms text).form) (found policy_forms text).values ≡ true
  ranged-there = rw found-there in-range-there

policy-says : (n : ℕ) (text : List ℕ) → Says n text (read_policy n text)
unfolding read_policy
policy-says n text =
    says n (found-hits policy_forms text table-distinct)
    (λ e k values st. found_none policy_forms text table-distinct (e ∙ sym table-length) k values st.rest (rw table-length st.form) st.fits st.reads)
    (λ outside m rule st. clash (ranged-there n text m rule st) outside)

outside-read : (n : ℕ) (text : List ℕ) → ((k : ℕ) (values : List ℕ) → Stands text k values → ⊥) → read_policy n text ≡ Err 55
unfolding read_policy policy_after
outside-read n text none = by_form (eqb (found policy_forms text).form policy_count) refl
  where
    by_form : (no : Bool) → eqb (found policy_forms text).form policy_count ≡ no → policy_after n (found policy_forms text) ≡ Err 55
    by_form true e = rw e
    by_form false e =
        let hits = found-hits policy_forms text table-distinct in
        absurd (none (found policy_forms text).form (found policy_forms text).values (line_at hits (in_table hits (eqb-false _ _ e))))

out-of-range-read : (n : ℕ) (text : List ℕ) (k : ℕ) (values : List ℕ) → Stands text k values → ((m : ℕ) (rule : Rule) → PolicyStands text m rule → ⊥) → read_policy n text ≡ Err 11
out-of-range-read n text k values st none = by_read (read_policy n text) (policy-says n text)
  where
    by-cause : {number : ℕ} → Cause n text number → number ≡ 11
    by-cause (outside_subset none-there) = absurd (none-there k values st)
    by-cause (out_of_range j others there outside) = refl
    by-cause (not_next m rule there other) = absurd (none m rule there)
    by-cause (same_twice rule there same) = absurd (none n rule there)

    by_read : (read : Result Parsed ℕ) → Says n text read → read ≡ Err 11
    by_read (Ok entry) line = absurd (none n entry.rule (standing line))
    by_read (Err number) cause = ap Err (by-cause cause)

pub has-cause : (n : ℕ) (text : List ℕ) {number : ℕ} → Cause n text number → read_policy n text ≡ Err number
unfolding rule_read
has-cause n text (outside_subset none) = outside-read n text none
has-cause n text (out_of_range k values st outside) = out-of-range-read n text k values st outside
has-cause n text (not_next m rule st other) = decides n text m rule st ∙ rw (ne_eqb m n other)
has-cause n text (same_twice rule st same) = decides n text n rule st ∙ rw (eq-eqb n n refl, same)

-- ---- the laws

-- where rule n is the next, a line is refused with a number exactly where it has the number's cause
pub line_refused : (n : ℕ) (text : List ℕ) (number : ℕ) → (read_policy n text ≡ Err number) ↔ Cause n text number
line_refused n text number = ((λ e. subst (Says n text) e (policy-says n text)), has-cause n text)

-- and is good exactly where it is the policy of an accepted rule of the five kinds
pub line-good : (n : ℕ) (text : List ℕ) (entry : Parsed) → (read_policy n text ≡ Ok entry) ↔ LineStands policy_text passes n text entry
line-good n text entry = ((λ e. subst (Says n text) e (policy-says n text)), is-good)
  where
    is-good : LineStands policy_text passes n text entry → read_policy n text ≡ Ok entry
    is-good line =
        let rule = entry.rule in
        let parts = both (rule_accepted rule) (has_policy rule) line.passed in
        let ranged = both (rule_in_range rule) (rule_distinct rule && rule_sound rule) parts.0 in
        let others = both (rule_distinct rule) (rule_sound rule) ranged.1 in
        decides n text n rule (standing line)
        ∙ unfold rule_read in rw (eq-eqb n n refl, others.0, others.1, ← line.length)

pub policy-language : Language read_policy policy_text passes Cause Ready
policy-language = record {
  later = λ n text more. tt;
  good-stands = λ n text entry. (line-good n text entry).0;
  stands_good = λ n text entry. (line-good n text entry).1;
  bad-cause = λ n text number ready. (line_refused n text number).0;
  cause-bad = λ n text number. has-cause n text;
  some = λ n rule first last passed.
      let parts = both (rule_accepted rule) (has_policy rule) passed in
      unfold policy_text in
      (text-some policy-table n rule parts.1 first last (both (rule_in_range rule) (rule_distinct rule && rule_sound rule) parts.0).0);
}

-- ---- number by number

module _ (n : ℕ) (text : List ℕ) where
  -- a cause in other words
  means : {A : Type 0} {number : ℕ} → (Cause n text number → A) → (A → Cause n text number) → (read_policy n text ≡ Err number) ↔ A
  means {A} {number} says causes = ((λ e. says ((line_refused n text number).0 e)), (λ a. (line_refused n text number).1 (causes a)))

  -- none of the five lines, with any numbers, is the front of the text
  pub line-55 : (read_policy n text ≡ Err 55) ↔ ((k : ℕ) (values : List ℕ) → Stands text k values → ⊥)
  line-55 = means says outside_subset
    where
      says : Cause n text 55 → (k : ℕ) (values : List ℕ) → Stands text k values → ⊥
      says (outside_subset none) = none

  -- one is, and no policy in range is, under no number in range
  abbrev pub OutOfRange : Type 0
  OutOfRange = (k : ℕ) × (values : List ℕ) × Stands text k values × ((m : ℕ) (rule : Rule) → PolicyStands text m rule → ⊥)

  pub line-11 : (read_policy n text ≡ Err 11) ↔ OutOfRange
  line-11 = means says (λ cause. out_of_range cause.0 cause.1 cause.2 cause.3)
    where
      says : Cause n text 11 → OutOfRange
      says (out_of_range k values st outside) = (k, values, st, outside)

  -- a policy in range is, under another number than the next
  pub line-12 : (read_policy n text ≡ Err 12) ↔ ((m : ℕ) × (rule : Rule) × PolicyStands text m rule × (m ≡ n → ⊥))
  line-12 = means says (λ cause. not_next cause.0 cause.1 cause.2 cause.3)
    where
      says : Cause n text 12 → (m : ℕ) × (rule : Rule) × PolicyStands text m rule × (m ≡ n → ⊥)
      says (not_next m rule st other) = (m, rule, st, other)

  -- the next policy is, and names a role twice
  pub line-13 : (read_policy n text ≡ Err 13) ↔ ((rule : Rule) × PolicyStands text n rule × (rule_distinct rule ≡ false))
  line-13 = means says (λ cause. same_twice cause.0 cause.1 cause.2)
    where
      says : Cause n text 13 → (rule : Rule) × PolicyStands text n rule × (rule_distinct rule ≡ false)
      says (same_twice rule st same) = (rule, st, same)
