use mathlib.Core.Path.{◌≡◌, refl, sym, ap, ◌∙◌}
use mathlib.Core.Bool.{Bool}
use mathlib.Core.List.{List}
use Prim.Native.Nat.{ℕ, ◌<◌}
use native.Mathlib.Omega.{arith}
use Rattle.std.specs.Prelude.{Some}
use Rattle.forms.specs.Forms.{all_in_range}
use Rattle.forms.specs.Tables.{form_at, line_at, found_form, found, found_likely}
use Rattle.forms.specs.declared.tables.Found.{Found}
use Rattle.forms.proofs.Index.{index-line, likely-some, likely-none}
use Rattle.state_text.specs.Entries.{saved_forms}
use Rattle.state_text.proofs.Values.{nine-forms, forms-distinct, form_starts, index-right}
use Rattle.state_text.proofs.LineTexts.{line-none, line-outside, line-good}
use Rattle.state_text.proofs.reading.scan_line.Goals as goal

-- by the index, which is the table's
there : (likely : ℕ) (text : List ℕ) {f : Found} → Some f ≡ found_form (found_likely saved_forms form_starts likely text) → (f ≡ found saved_forms text) × (f.form < 9)
there likely text some = let at = likely-some saved_forms form_starts forms-distinct index-right likely text some in (at.0, omega (arith, at.1, nine-forms))

ranges : (form : ℕ) (values : List ℕ) {b : Bool} → b ≡ all_in_range (line_at saved_forms form_starts form) values → all_in_range (form_at saved_forms form) values ≡ b
ranges form values e = sym (e ∙ ap (λ (t : List ℕ). all_in_range t values) (index-line saved_forms form_starts index-right form))

pub returns-in_default : goal.returns-in_default
unfolding saved_forms
returns-in_default c =
    let past = likely-none saved_forms form_starts forms-distinct index-right _ c.args.text.now c.in_default.ensures in
    line-none c.args.text.now _ refl (omega (arith, past, nine-forms))

pub returns-then-not-line_in_range : goal.returns-then-not-line_in_range
unfolding saved_forms
returns-then-not-line_in_range c =
    let at = there _ c.args.text.now c.in-Some.ensures in
    line-outside _ _ at.0 at.1 (ranges _ _ c.line_in_range.ensures ∙ c.if-not-line_in_range.true)

pub returns : goal.returns
unfolding saved_forms
returns c =
    let at = there _ c.args.text.now c.in-Some.ensures in
    line-good _ _ at.0 at.1 (ranges _ _ c.line_in_range.ensures ∙ c.if-not-line_in_range.false) _ c.of_values.ensures
