-- The line of a right and a line's right undo each other, where 11 passes.
-- Assumes nothing.
use mathlib.Core.Path.{◌≡◌, refl, sym, ap, ◌∙◌, subst}
use mathlib.Core.Bool.{Bool, true, false, ◌&&◌}
use mathlib.Core.Logic.{◌↔◌}
use mathlib.Core.List.{List, [], ◌∷◌, ◌++◌}
use Prim.Native.Nat.{ℕ, ◌+◌, ◌<◌}
use native.Mathlib.Omega.{arith}
use lib.ListN.{length, drop, get_or}
use lib.Dec.{eqb}
use borrow.Author.Tests.{ltb-true, eqb-true, eq-eqb}
use Rattle.sets.proofs.Booleans.{clash, both, both_true}
use Rattle.forms.specs.Kinds.{kind_of, lookup, is_slot, in_range}
use Rattle.forms.specs.Forms.{head, text_by, item_text, fill, all_in_range}
use Rattle.forms.specs.Tables.{lines_in, form_at, found}
use Rattle.forms.specs.declared.tables.Found.{Found}
use Rattle.rules.specs.Acceptance.{is_permission}
use Rattle.rules.specs.declared.families.Rule.{Rule}
use Rattle.rules.specs.declared.rights.Right.TheVariants.{Permission}
use Rattle.rule_text.specs.Lines.{rule_forms, rule_form_count, line_of, right_text}
use Rattle.rule_text.specs.Reading.{no_right, right_after, read_right}
use Rattle.rule_text.specs.Causes.{RuleStands, RightStands}
use Rattle.rule_text.specs.declared.rights.RightRead.{RightRead}
use Rattle.forms.proofs.Finding.{Hits, found-hits, found-written}
use Rattle.forms.proofs.Marks.{range-fits}
use Rattle.rule_text.proofs.Marks.{marks_in, values_for, ranges_hold, values-by-marks, ranges-by-marks, padded, padded-text}
use Rattle.rule_text.proofs.Values.{narrow-same, each-kind, table-length, marks_at}
use Rattle.rule_text.proofs.Ranges.{permission-range, and-true}
use Rattle.rule_text.proofs.Inverse.{table-distinct, form-of-rule, found-rule}

-- ---- the form of a kind

-- its one number is a permission
right-marks : (kind : ℕ) → kind < 6 → marks_at (rule_form_count + kind) ≡ 37 ∷ []
unfolding marks_in form_at lines_in rule_forms is_slot kind_of lookup
right-marks kind h = each-kind (λ kind. marks_at (rule_form_count + kind) ≡ 37 ∷ []) (refl, (refl, (refl, (refl, (refl, (refl, tt)))))) kind h

module _ (kind : ℕ) (h : kind < 6) where
  abbrev form : List ℕ
  form = form_at rule_forms (rule_form_count + kind)

  in_table : rule_form_count + kind < length (lines_in rule_forms)
  in_table = rw table-length (omega arith)

  pub right-range : (values : List ℕ) → all_in_range (form_at rule_forms (rule_form_count + kind)) values ≡ is_permission (head values)
  unfolding ranges_hold
  right-range values =
      ranges-by-marks form values
      ∙ ap (λ (marks : List ℕ). ranges_hold marks values) (right-marks kind h)
      ∙ and-true (in_range 37 (head values))
      ∙ permission-range (head values)

  pub right-fill : (values : List ℕ) → right_text kind (Permission (head values)) ≡ fill (form_at rule_forms (rule_form_count + kind)) values
  unfolding right_text values_for
  right-fill values =
      subst (λ (marks : List ℕ). fill form (padded (values_for marks values)) ≡ fill form values) (right-marks kind h)
      (padded-text form values (rw (right-marks kind h) (omega arith)))

-- ---- a right's line is found again, whatever follows

module _ (kind permission : ℕ) (h : kind < 6) (fits_range : is_permission permission ≡ true) where
  abbrev values : List ℕ
  values = permission ∷ 0 ∷ 0 ∷ 0 ∷ 0 ∷ 0 ∷ []

  pub right-in-range : all_in_range (form_at rule_forms (rule_form_count + kind)) (permission ∷ 0 ∷ 0 ∷ 0 ∷ 0 ∷ 0 ∷ []) ≡ true
  right-in-range = right-range kind h values ∙ fits_range

  pub found_right : (s : List ℕ)
      → found rule_forms (right_text kind (Permission permission) ++ s)
      ≡ record { form = rule_form_count + kind; values = permission ∷ 0 ∷ 0 ∷ 0 ∷ 0 ∷ 0 ∷ []; length = length (right_text kind (Permission permission)) }
  unfolding right_text values_for
  found_right s =
      found-written rule_forms (rule_form_count + kind) values s table-distinct (in_table kind h) (range-fits (form_at rule_forms (rule_form_count + kind)) values right-in-range)
      ∙ ap (λ (v : List ℕ). record { form = rule_form_count + kind; values = padded v; length = length (right_text kind (Permission permission)) })
      (values-by-marks (form_at rule_forms (rule_form_count + kind)) values ∙ ap (λ (marks : List ℕ). values_for marks values) (right-marks kind h))

  pub right-some : 0 < length (right_text kind (Permission permission))
  right-some =
      subst (λ (f : Found). f.form < length (lines_in rule_forms) → 0 < f.length) (found_right [])
      (found-hits rule_forms (right_text kind (Permission permission) ++ []) table-distinct).some (in_table kind h)

-- one line stands at the front of a text

module _ {text : List ℕ} {kind permission : ℕ} (st : RightStands text kind permission) where
  pub right-found : found rule_forms text
      ≡ record { form = rule_form_count + kind; values = permission ∷ 0 ∷ 0 ∷ 0 ∷ 0 ∷ 0 ∷ []; length = length (right_text kind (Permission permission)) }
  right-found = ap (found rule_forms) st.reads ∙ found_right kind permission st.known st.fits_range st.rest

  pub one-kind : {other p : ℕ} → RightStands text other p → other ≡ kind
  one-kind {other} {p} st' =
      let same : rule_form_count + other ≡ rule_form_count + kind =
      ap (λ (f : Found). f.form) (sym (ap (found rule_forms) st'.reads ∙ found_right other p st'.known st'.fits_range st'.rest) ∙ right-found) in
      omega arith

  pub no-rule : {m : ℕ} {rule : Rule} → RuleStands text m rule → ⊥
  no-rule {m} {rule} there =
      let same : (line_of m rule).form ≡ rule_form_count + kind =
      ap (λ (f : Found). f.form) (sym (ap (found rule_forms) there.reads ∙ found-rule m rule there.first there.last there.fits_range there.rest) ∙ right-found) in
      omega (arith, form-of-rule m rule)

-- what was found, where it is a form of a right and its number is in range
pub right-at : {text : List ℕ} {f : Found} → Hits rule_forms text f → (kind : ℕ) → kind < 6 → f.form ≡ rule_form_count + kind
    → all_in_range (form_at rule_forms f.form) f.values ≡ true → RightStands text kind (head f.values)
right-at {text} {f} hits kind h same fits_range = record {
  known = h;
  fits_range = sym (right-range kind h f.values) ∙ ap (λ (k : ℕ). all_in_range (form_at rule_forms k) f.values) (sym same) ∙ fits_range;
  rest = drop f.length text;
  reads =
      hits.text (rw same (in_table kind h))
      ∙ ap (λ (front : List ℕ). front ++ drop f.length text) (ap (λ (k : ℕ). fill (form_at rule_forms k) f.values) same ∙ sym (right-fill kind h f.values));
}

-- ---- what reading a kind's line gives

module _ (kind : ℕ) (text : List ℕ) where
  abbrev is_line : Bool
  is_line =
      eqb (found rule_forms text).form (rule_form_count + kind)
      && all_in_range (form_at rule_forms (found rule_forms text).form) (found rule_forms text).values

  line-there : {permission : ℕ} → RightStands text kind permission → is_line ≡ true
  line-there {permission} st =
      rw (right-found st)
      (both_true (eqb (rule_form_count + kind) (rule_form_count + kind)) (all_in_range (form_at rule_forms (rule_form_count + kind)) (permission ∷ 0 ∷ 0 ∷ 0 ∷ 0 ∷ 0 ∷ []))
      (eq-eqb (rule_form_count + kind) (rule_form_count + kind) refl) (right-in-range kind permission st.known st.fits_range))

  -- a line that stands there is read
  pub right-read : (permission : ℕ) → RightStands text kind permission
      → read_right kind text ≡ record { right = Permission permission; length = length (right_text kind (Permission permission)) }
  unfolding read_right right_after
  right-read permission st =
      let small = ltb-true permission 32 st.fits_range in
      rw (line-there st, right-found st, narrow-same permission 31 (omega arith) (omega arith))

  -- the line of the kind stands there and was read, or it does not
  pub data RightSays : RightRead → Type 0 where
    no_line : ((permission : ℕ) → RightStands text kind permission → ⊥) → RightSays no_right
    a_line : (permission : ℕ) → RightStands text kind permission → RightSays (record { right = Permission permission; length = length (right_text kind (Permission permission)) })

  pub right-says : kind < 6 → RightSays (read_right kind text)
  right-says h = go is_line refl
    where
      none_read : is_line ≡ false → read_right kind text ≡ no_right
      none_read e = unfold read_right right_after in rw e

      go : (b : Bool) → is_line ≡ b → RightSays (read_right kind text)
      go false e = rw (none_read e) (no_line (λ permission st. clash (line-there st) e))
      go true e =
          let tests = both (eqb (found rule_forms text).form (rule_form_count + kind)) (all_in_range (form_at rule_forms (found rule_forms text).form) (found rule_forms text).values) e in
          let st = right-at (found-hits rule_forms text table-distinct) kind h (eqb-true _ _ tests.0) tests.1 in
          rw (right-read (head (found rule_forms text).values) st) (a_line (head (found rule_forms text).values) st)

-- and where no line stands, none is
pub none_read : (kind : ℕ) (text : List ℕ) → kind < 6 → ((permission : ℕ) → RightStands text kind permission → ⊥) → read_right kind text ≡ no_right
none_read kind text h none = go (read_right kind text) (right-says kind text h)
  where
    go : (read : RightRead) → RightSays kind text read → read ≡ no_right
    go read (no_line absent) = refl
    go read (a_line permission st) = absurd (none permission st)

-- a right is read exactly where its kind's line is the front of the text, its permission in range
pub right-good : (kind : ℕ) (text : List ℕ) → kind < 6 → (permission : ℕ) → ((read_right kind text).right ≡ Permission permission) ↔ RightStands text kind permission
right-good kind text h permission = (go (read_right kind text) (right-says kind text h), λ st. ap (λ (read : RightRead). read.right) (right-read kind text permission st))
  where
    go : (read : RightRead) → RightSays kind text read → read.right ≡ Permission permission → RightStands text kind permission
    go read (no_line none) e = let z : ◌≡◌ {A = ℕ} 0 1 = cc in absurd (omega arith)
    go read (a_line p st) e = let same : p ≡ permission = cc in rw same at st

-- the third byte of a right's line
pub third-byte : (kind : ℕ) (text : List ℕ) → kind < 6 → (get_or text 2 0 ≡ 105 → ⊥) → read_right kind text ≡ no_right
third-byte kind text h other = none_read kind text h (λ permission st. other (ap (λ (t : List ℕ). get_or t 2 0) st.reads ∙ begins permission st.rest))
  where
    begins : (permission : ℕ) (rest : List ℕ) → get_or (right_text kind (Permission permission) ++ rest) 2 0 ≡ 105
    begins permission rest =
        unfold right_text fill item_text text_by is_slot kind_of lookup form_at lines_in rule_forms in
        each-kind (λ kind. get_or (right_text kind (Permission permission) ++ rest) 2 0 ≡ 105) (refl, (refl, (refl, (refl, (refl, (refl, tt)))))) kind h
