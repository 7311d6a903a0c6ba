use mathlib.Core.Path.{◌≡◌, refl, sym, ap}
use mathlib.Core.List.{List, [], ◌∷◌}
use Prim.Native.Nat.{ℕ}
use Rattle.forms.specs.Forms.{fill}
use Rattle.forms.specs.Tables.{lines_in, starts_of}
use Rattle.forms.proofs.Index.{index-line}
use Rattle.forms.proofs.Puts.{like}
use Rattle.step_text.specs.Answers.{answer_forms, line_text}
use Rattle.step_text.proofs.answers.put.Goals as goal

-- the index that the code has is the table's
abbrev answer_starts : List ℕ
answer_starts = 0 ∷ 10 ∷ 21 ∷ 31 ∷ []

index-right : answer_starts ≡ starts_of answer_forms
unfolding answer_forms starts_of lines_in
index-right = refl

pub returns : goal.returns
unfolding line_text answer_forms
returns c =
    let a = c.args in
    like (ap (λ (t : List ℕ). fill t (a.first ∷ a.second ∷ a.third ∷ [])) (sym (index-line answer_forms answer_starts index-right a.form))) c.write_line.ensures
