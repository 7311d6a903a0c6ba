-- Document 01, 'Texts': "It prints `(yes selected ended)` or `(no number rule selected)` for each step, or only `(bad number line)`."
-- Assumes nothing.
use Rattle.std.specs.Prelude.{ℕ, List, [], ◌∷◌, ◌++◌}
use Rattle.forms.specs.Forms.{fill}
use Rattle.forms.specs.Tables.{bytes, form_at}
use Rattle.steps.specs.declared.answers.Answer.{Answer}
use Rattle.steps.specs.declared.answers.Answer.TheVariants.{Granted, Broken, Refused}
use Rattle.enforcement.specs.declared.states.Next.{Next}

unfoldable pub answer_forms : List ℕ
answer_forms = bytes "(yes ? ?)\n" ++ bytes "(no ? ? ?)\n" ++ bytes "(bad ? ?)\n"

-- a form of fewer numbers leaves the last out
unfoldable pub line_text : ℕ → ℕ → ℕ → ℕ → List ℕ
line_text form first second third = fill (form_at answer_forms form) (first ∷ second ∷ third ∷ [])

-- "A 30 carries the lowest broken rule and the number selected. Other refusals carry 0 and 0."
unfoldable pub answer_text : Answer → List ℕ
answer_text (Granted selected ended) = line_text 0 selected ended 0
answer_text (Broken rule selected) = line_text 1 30 rule selected
answer_text (Refused number) = line_text 1 number 0 0

unfoldable pub bad_text : ℕ → ℕ → List ℕ
bad_text number line = line_text 2 number line 0

-- "one a line"
unfoldable pub answers_text : List Next → List ℕ
answers_text [] = []
answers_text (next ∷ rest) = answer_text next.answer ++ answers_text rest
