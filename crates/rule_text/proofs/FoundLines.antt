-- What was found at the front of a text decides how its line is read. Assumes nothing.
use mathlib.Core.Path.{◌≡◌, refl, ap, ◌∙◌}
use mathlib.Core.Bool.{Bool, true, false, cond}
use mathlib.Core.Logic.{◌⊎◌, ⊎_elim}
use mathlib.Core.List.{List}
use Prim.Native.Nat.{ℕ, ◌+◌, ◌≤◌, ◌<◌}
use lib.ListN.{length, get_or}
use lib.Dec.{leb}
use borrow.Author.Tests.{eq-eqb, ne_eqb, le-leb, lt-leb}
use native.Mathlib.Omega.{arith}
use Rattle.std.specs.Prelude.{Some, None, Err}
use Rattle.forms.specs.Forms.{all_in_range}
use Rattle.forms.specs.Tables.{lines_in, found_form, found, found_likely, line_at, form_at}
use Rattle.forms.specs.declared.tables.Found.{Found}
use Rattle.forms.proofs.Finding.{answered-some, answered-none}
use Rattle.forms.proofs.Index.{index-line, likely-found}
use Rattle.rule_text.specs.Lines.{rule_forms, rule_of_form, narrow}
use Rattle.rule_text.specs.Reading.{rule_read, line_after, read_line, no_right, right_after, read_right}
use Rattle.rules.specs.declared.rights.Right.TheVariants.{Permission}
use Rattle.rule_text.proofs.Inverse.{table-distinct, rule_starts, index-right}

same_either : {A : Type 0} {x : A} (b : Bool) → x ≡ cond b x x
same_either true = refl
same_either false = refl

forms-there : length (lines_in rule_forms) ≡ 25
unfolding lines_in rule_forms
forms-there = refl

module _ (likely n : ℕ) (text : List ℕ) where
  answered : found_form (found_likely rule_forms rule_starts likely text) ≡ found_form (found rule_forms text)
  answered = ap found_form (likely-found rule_forms rule_starts table-distinct index-right likely text)

  pub is-no-form : None ≡ found_form (found_likely rule_forms rule_starts likely text) → Err 10 ≡ read_line n text
  unfolding read_line line_after
  is-no-form none =
      let past : (found rule_forms text).form ≡ 25 = answered-none rule_forms text table-distinct (none ∙ answered) ∙ forms-there in
      rw (eq-eqb (found rule_forms text).form 25 past)

  module _ (f : Found) (some : Some f ≡ found_form (found_likely rule_forms rule_starts likely text)) where
    there : line_after n f ≡ read_line n text
    unfolding read_line
    there = ap (line_after n) (answered-some rule_forms text table-distinct (some ∙ answered)).0

    known : f.form ≡ 25 → ⊥
    known none = let below = (answered-some rule_forms text table-distinct (some ∙ answered)).1 in omega (arith, none, below, forms-there)

    pub is-out-of-range : all_in_range (line_at rule_forms rule_starts f.form) f.values ≡ false → Err 11 ≡ read_line n text
    unfolding line_after
    is-out-of-range outside = rw (ne_eqb f.form 25 known, ← index-line rule_forms rule_starts index-right f.form, outside) at there

    module _ (inside : all_in_range (line_at rule_forms rule_starts f.form) f.values ≡ true) where
      pub is-not-next : (19 ≤ f.form) ⊎ (get_or f.values 0 0 ≡ n → ⊥) → Err 12 ≡ read_line n text
      unfolding line_after
      is-not-next why =
          ⊎_elim
          (λ right. rw (ne_eqb f.form 25 known, ← index-line rule_forms rule_starts index-right f.form, inside, le-leb 19 f.form right) at there)
          (λ other.
          same_either (leb 19 f.form)
          ∙ rw (ne_eqb f.form 25 known, ← index-line rule_forms rule_starts index-right f.form, inside, ne_eqb (get_or f.values 0 0) n other) at there)
          why

      pub is-rule : f.form < 19 → get_or f.values 0 0 ≡ n → rule_read (rule_of_form f.form f.values) f.length ≡ read_line n text
      unfolding line_after
      is-rule rule next =
          rw (ne_eqb f.form 25 known, ← index-line rule_forms rule_starts index-right f.form, inside, lt-leb 19 f.form rule, eq-eqb (get_or f.values 0 0) n next) at there

module _ (likely kind : ℕ) (text : List ℕ) (below : kind < 6) where
  right-answered : found_form (found_likely rule_forms rule_starts likely text) ≡ found_form (found rule_forms text)
  right-answered = ap found_form (likely-found rule_forms rule_starts table-distinct index-right likely text)

  pub is-no-right : None ≡ found_form (found_likely rule_forms rule_starts likely text) → no_right ≡ read_right kind text
  unfolding read_right right_after
  is-no-right none =
      let past : (found rule_forms text).form ≡ 25 = answered-none rule_forms text table-distinct (none ∙ right-answered) ∙ forms-there in
      let other : (found rule_forms text).form ≡ 19 + kind → ⊥ = λ e. omega (arith, e, past, below) in
      rw (ne_eqb (found rule_forms text).form (19 + kind) other)

  module _ (f : Found) (some : Some f ≡ found_form (found_likely rule_forms rule_starts likely text)) where
    right-there : right_after kind f ≡ read_right kind text
    unfolding read_right
    right-there = ap (right_after kind) (answered-some rule_forms text table-distinct (some ∙ right-answered)).0

    pub is-other : (f.form ≡ 19 + kind → ⊥) → no_right ≡ read_right kind text
    unfolding right_after
    is-other other = rw (ne_eqb f.form (19 + kind) other) at right-there

    module _ (right : f.form ≡ 19 + kind) where
      pub is-outside : all_in_range (line_at rule_forms rule_starts f.form) f.values ≡ false → no_right ≡ read_right kind text
      unfolding right_after
      is-outside outside = rw (eq-eqb f.form (19 + kind) right, ← index-line rule_forms rule_starts index-right f.form, outside) at right-there

      pub is-right : all_in_range (line_at rule_forms rule_starts f.form) f.values ≡ true → {permission : ℕ} → permission ≡ narrow (get_or f.values 0 0)
          → record { right = Permission permission; length = f.length } ≡ read_right kind text
      unfolding right_after
      is-right inside told = rw told (rw (eq-eqb f.form (19 + kind) right, ← index-line rule_forms rule_starts index-right f.form, inside) at right-there)
