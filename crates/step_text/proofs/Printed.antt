-- "It prints `(yes selected ended)` or `(no number rule selected)` for each step, or only `(bad number line)`": the bytes of each line, whose
-- numbers are `digits_of`. Assumes nothing.
use mathlib.Core.Path.{◌≡◌, refl}
use mathlib.Core.List.{[], ◌∷◌}
use Prim.Native.Nat.{ℕ}
use Rattle.steps.specs.declared.answers.Answer.TheVariants.{Granted, Broken, Refused}
use Rattle.forms.specs.Numbers.{digits_of}
use Rattle.forms.specs.Kinds.{is_slot, kind_of, lookup}
use Rattle.forms.specs.Forms.{text_by, item_text, fill}
use Rattle.forms.specs.Tables.{lines_in, form_at}
use Rattle.step_text.specs.Answers.{answer_forms, line_text, answer_text, bad_text}
use Rattle.step_text.specs.Rows.{line_with}

pub granted-line : (selected ended : ℕ) → answer_text (Granted selected ended) ≡ line_with "yes" (digits_of selected ∷ digits_of ended ∷ [])
unfolding answer_text line_text answer_forms form_at lines_in fill item_text text_by is_slot kind_of lookup
granted-line selected ended = refl

pub broken-line : (rule selected : ℕ) → answer_text (Broken rule selected) ≡ line_with "no" (digits_of 30 ∷ digits_of rule ∷ digits_of selected ∷ [])
unfolding answer_text line_text answer_forms form_at lines_in fill item_text text_by is_slot kind_of lookup
broken-line rule selected = refl

pub refused-line : (number : ℕ) → answer_text (Refused number) ≡ line_with "no" (digits_of number ∷ digits_of 0 ∷ digits_of 0 ∷ [])
unfolding answer_text line_text answer_forms form_at lines_in fill item_text text_by is_slot kind_of lookup
refused-line number = refl

pub bad-line : (number line : ℕ) → bad_text number line ≡ line_with "bad" (digits_of number ∷ digits_of line ∷ [])
unfolding bad_text line_text answer_forms form_at lines_in fill item_text text_by is_slot kind_of lookup
bad-line number line = refl
