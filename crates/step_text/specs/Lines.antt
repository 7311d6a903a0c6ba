-- Document 01, 'State and steps' and 'Texts': a step's line, and the lines of a text. "10 alone (steps)".
-- Assumes nothing.
use Rattle.std.specs.Prelude.{ℕ, zero, suc, cond, List, [], ◌∷◌, length, drop, get_or, eqb, ltb, Option, Some, None, Result, Ok, Err}
use Rattle.forms.specs.Numbers.{signed_value}
use Rattle.forms.specs.Tables.{bytes, joined, found}
use Rattle.forms.specs.declared.tables.Found.{Found}
use Rattle.steps.specs.Steps.{numbered, with_by}
use Rattle.steps.specs.declared.acting.Acting.TheVariants.{Nobody, InSession}
use Rattle.steps.specs.declared.steps.Step.{Step}
use Rattle.step_text.specs.declared.lines.StepLine.{StepLine}

-- the table of steps, in its order; each mark stands for any number, `_` for one that may have a minus
unfoldable pub form_lines : List (List ℕ)
form_lines =
    bytes "(assign ? ?)\n"
    ∷ bytes "(withdraw ? ?)\n"
    ∷ bytes "(grant ? ?)\n"
    ∷ bytes "(take ? ?)\n"
    ∷ bytes "(open ? ?)\n"
    ∷ bytes "(activate ? ?)\n"
    ∷ bytes "(deactivate ? ?)\n"
    ∷ bytes "(access ? ? ?)\n"
    ∷ bytes "(finish ?)\n"
    ∷ bytes "(close ?)\n"
    ∷ bytes "(move ? _ _)\n"
    ∷ bytes "(lost ?)\n"
    ∷ bytes "(clock ?)\n"
    -- 2026-01: "Step `lend u v r t`", "`recall u v r`"
    ∷ bytes "(lend ? ? ? ?)\n"
    ∷ bytes "(recall ? ? ?)\n"
    -- 2026-04: "`move` .. take a fourth number e, 1 to 1000"
    ∷ bytes "(move ? _ _ `)\n"
    -- 2026-05: "Steps are written `(by 4 (assign 5 2))`"; "`by` before any other step, or before another `by`, is 10 in a text"
    ∷ bytes "(by ? (assign ? ?))\n"
    ∷ bytes "(by ? (withdraw ? ?))\n"
    ∷ bytes "(by ? (grant ? ?))\n"
    ∷ bytes "(by ? (take ? ?))\n"
    ∷ bytes "(by ? (lend ? ? ? ?))\n"
    ∷ bytes "(by ? (recall ? ? ?))\n"
    ∷ []

unfoldable pub step_forms : List ℕ
step_forms = joined form_lines

abbrev pub form_count : ℕ
form_count = 22

-- ---- the step of a form and its values; numbers that a kind does not use are not looked at

-- without `by`: the kind is the form's number, and form 15 is a move's too
abbrev pub kind_from : ℕ → ℕ
kind_from form = cond (eqb form 15) 10 form

-- 2026-04: e "left out means 0"
abbrev pub fourth_from : ℕ → ℕ → ℕ
fourth_from form value = cond (eqb form 10) 0 value

abbrev pub step_without_by : ℕ → List ℕ → Step
step_without_by form values =
    record {
      kind = kind_from form;
      first = get_or values 0 0;
      second = get_or values 1 0;
      third = get_or values 2 0;
      fourth = fourth_from form (get_or values 3 0);
      x = signed_value (get_or values 1 0);
      y = signed_value (get_or values 2 0);
      by = Nobody;
    }

-- 2026-05: "assign, withdraw, grant, take, lend and recall"
abbrev pub kind_behind_by : ℕ → ℕ
kind_behind_by form = cond (eqb form 16) 0 (cond (eqb form 17) 1 (cond (eqb form 18) 2 (cond (eqb form 19) 3 (cond (eqb form 20) 13 14))))

-- the first value is the session's
abbrev pub step_behind_by : ℕ → List ℕ → Step
step_behind_by form values =
    with_by (InSession (get_or values 0 0)) (numbered (kind_behind_by form) (get_or values 1 0) (get_or values 2 0) (get_or values 3 0) (get_or values 4 0))

-- the forms with `by` are the last six
abbrev pub step_from : ℕ → List ℕ → Step
step_from form values = cond (ltb form 16) (step_without_by form values) (step_behind_by form values)

-- ---- a line

-- "line is no form of its text"
unfoldable pub line_after : Found → Result StepLine ℕ
line_after f = cond (eqb f.form form_count) (Err 10) (Ok (record { step = step_from f.form f.values; length = f.length }))

unfoldable pub read_step : List ℕ → Result StepLine ℕ
read_step text = line_after (found step_forms text)

-- "10 alone": a line that is not read is refused by 10
abbrev pub by_number : Option StepLine → Result StepLine ℕ
by_number (Some line) = Ok line
by_number None = Err 10

-- ---- the lines of a text

-- its steps, or its first bad line
pub data StepsRead : Type 0 where
  steps : List Step → StepsRead
  bad : ℕ → StepsRead

abbrev pub onto : Step → StepsRead → StepsRead
onto step (steps list) = steps (step ∷ list)
onto step (bad line) = bad line

abbrev pub line_length : Result StepLine ℕ → ℕ
line_length (Ok line) = line.length
line_length (Err number) = 0

abbrev pub after : ℕ → Result StepLine ℕ → StepsRead → StepsRead
after n (Ok line) rest = onto line.step rest
after n (Err number) rest = bad n

-- from line n on; a line has a byte at least, so that as many lines as bytes are enough
unfoldable pub read_from : ℕ → ℕ → List ℕ → StepsRead
read_from zero n text = steps []
read_from (suc bound) n [] = steps []
read_from (suc bound) n (c ∷ text) = after n (read_step (c ∷ text)) (read_from bound (suc n) (drop (line_length (read_step (c ∷ text))) (c ∷ text)))

unfoldable pub read_steps : ℕ → List ℕ → StepsRead
read_steps n text = read_from (length text) n text

-- none where every line is a step
abbrev pub bad_line : StepsRead → Option ℕ
bad_line (steps list) = None
bad_line (bad line) = Some line
