-- How long a response can be: a step's line has 9 bytes at least, an answer's at most 16. Assumes nothing.
use mathlib.Core.Path.{◌≡◌, refl, ap, ◌∙◌, subst}
use mathlib.Core.Bool.{Bool, true, false, cond, ◌&&◌}
use mathlib.Core.List.{List, [], ◌∷◌, ◌++◌}
use Prim.Native.Nat.{ℕ, zero, suc, ◌+◌, ◌*◌, ◌/◌, ◌%◌, ◌≤◌, ◌<◌}
use native.Mathlib.Omega.{arith}
use lib.ListN.{length, drop, get_or, length-append, length-drop}
use lib.Dec.{leb, eqb}
use borrow.Author.Tests.{leb-true, eqb-false}
use Rattle.std.specs.Prelude.{Result, Ok, Err}
use Rattle.sets.proofs.Booleans.{both}
use Rattle.forms.specs.Numbers.{digits_of}
use Rattle.forms.specs.Kinds.{is_slot, kind_of, lookup}
use Rattle.forms.specs.Forms.{text_by, item_text, fill}
use Rattle.forms.specs.Tables.{bytes, lines_in, form_at, found}
use Rattle.forms.proofs.Finding.{Hits, found-hits}
use Rattle.forms.proofs.Puts.{digits-length, fill-least}
use Rattle.rules.specs.declared.lists.RuleList.{RuleList}
use Rattle.enforcement.specs.Reached.{Accepted}
use Rattle.enforcement.specs.Gate.{step_of, run_of}
use Rattle.steps.specs.Answers.{word_of, answer_of}
use Rattle.enforcement.specs.declared.states.State.{State}
use Rattle.steps.specs.declared.steps.Step.{Step}
use Rattle.steps.specs.declared.answers.Answer.{Answer}
use Rattle.steps.specs.declared.answers.Answer.TheVariants.{Granted, Broken, Refused}
use Rattle.enforcement.proofs.AnswerFits.{answer_back}
use Rattle.enforcement.proofs.Reaching.{step-accepted}
use Rattle.step_text.specs.Lines.{form_lines, step_forms, form_count, step_from, line_after, read_step, StepsRead, steps, bad, line_length, after, read_from, read_steps}
use Rattle.step_text.specs.Answers.{answer_forms, line_text, answer_text, bad_text, answers_text}
use Rattle.step_text.proofs.Stepping.{lines-right, forms-distinct, forms-counted, below}
use Rattle.step_text.specs.declared.lines.StepLine.{StepLine}

-- ---- an answer's line

yes-text : (a b c : ℕ) → line_text 0 a b c ≡ bytes "(yes " ++ (digits_of a ++ (bytes " " ++ (digits_of b ++ bytes ")\n")))
unfolding line_text answer_forms form_at lines_in fill item_text text_by is_slot kind_of lookup
yes-text a b c = refl

no_text : (a b c : ℕ) → line_text 1 a b c ≡ bytes "(no " ++ (digits_of a ++ (bytes " " ++ (digits_of b ++ (bytes " " ++ (digits_of c ++ bytes ")\n")))))
unfolding line_text answer_forms form_at lines_in fill item_text text_by is_slot kind_of lookup
no_text a b c = refl

bad-text : (a b c : ℕ) → line_text 2 a b c ≡ bytes "(bad " ++ (digits_of a ++ (bytes " " ++ (digits_of b ++ bytes ")\n")))
unfolding line_text answer_forms form_at lines_in fill item_text text_by is_slot kind_of lookup
bad-text a b c = refl

-- two numbers between words
two-length : (x a z : List ℕ) (b : List ℕ) → length (x ++ (a ++ (bytes " " ++ (b ++ z)))) ≡ length x + (length a + (1 + (length b + length z)))
two-length x a z b =
    length-append x (a ++ (bytes " " ++ (b ++ z)))
    ∙ ap (λ (n : ℕ). length x + n) (length-append a (bytes " " ++ (b ++ z)) ∙ ap (λ (n : ℕ). length a + n) (ap suc (length-append b z) ∙ omega arith))

granted-short : (a b c : ℕ) → a < 1000 → b < 10000 → length (line_text 0 a b c) ≤ 16
granted-short a b c h k =
    omega (arith, ap length (yes-text a b c), two-length (bytes "(yes ") (digits_of a) (bytes ")\n") (digits_of b), digits-length 2 a h, digits-length 3 b k)

refused-short : (a b c : ℕ) → a < 100 → b < 1000 → c < 1000 → length (line_text 1 a b c) ≤ 16
refused-short a b c h k l =
    omega (
      arith,
      ap length (no_text a b c),
      two-length (bytes "(no ") (digits_of a) (bytes " " ++ (digits_of c ++ bytes ")\n")) (digits_of b),
      length-append (digits_of c) (bytes ")\n"),
      digits-length 1 a h,
      digits-length 2 b k,
      digits-length 2 c l,
    )

pub bad-short : (number line : ℕ) → number < 100 → line < 1000000 → length (bad_text number line) ≤ 16
unfolding bad_text
bad-short number line h k =
    omega (arith, ap length (bad-text number line 0), two-length (bytes "(bad ") (digits_of number) (bytes ")\n") (digits_of line), digits-length 1 number h, digits-length 5 line k)

word-short : (word : ℕ) → length (answer_text (answer_of word)) ≤ 16
unfolding answer_of answer_text
word-short word = go (eqb (word % 64) 0) (eqb (word % 64) 30)
  where
    go : (x y : Bool) → length (answer_text (cond x (Granted (word / 16384 % 256) (word / 4194304 % 4096)) (cond y (Broken (word / 64 % 256) (word / 16384 % 256)) (Refused (word % 64))))) ≤ 16
    go true y = granted-short (word / 16384 % 256) (word / 4194304 % 4096) 0 (omega arith) (omega arith)
    go false true = refused-short 30 (word / 64 % 256) (word / 16384 % 256) (omega arith) (omega arith) (omega arith)
    go false false = refused-short (word % 64) 0 0 (omega arith) (omega arith) (omega arith)

answer-short : (list : RuleList) (s : State) (step : Step) → Accepted s → length (answer_text (step_of list s step).answer) ≤ 16
answer-short list s step a =
    subst (λ (x : Answer). length (answer_text x) ≤ 16) (answer_back list s step a.typed.actives) (word-short (word_of (step_of list s step).answer))

pub answers-short : (list : RuleList) (s : State) (read : List Step) → Accepted s → length (answers_text (run_of list s read)) ≤ 16 * length read
unfolding run_of answers_text
answers-short list s [] a = omega arith
answers-short list s (step ∷ read) a =
    rw length-append
    (omega (arith, answer-short list s step a, answers-short list (step_of list s step).state read (step-accepted list s step a)))

-- ---- a step's line

abbrev all_long : List (List ℕ) → Bool
all_long [] = true
all_long (form ∷ rest) = leb 9 (length form) && all_long rest

forms-long : all_long (lines_in step_forms) ≡ true
unfolding form_lines
forms-long = ap all_long lines-right

long-at : (ts : List (List ℕ)) (k : ℕ) → all_long ts ≡ true → k < length ts → 9 ≤ length (get_or ts k [])
long-at [] k e h = absurd (omega arith)
long-at (t ∷ ts) zero e h = leb-true 9 (length t) (both (leb 9 (length t)) (all_long ts) e).0
long-at (t ∷ ts) (suc k) e h = long-at ts k (both (leb 9 (length t)) (all_long ts) e).1 (omega arith)

form-long : (k : ℕ) → k < length (lines_in step_forms) → 9 ≤ length (form_at step_forms k)
unfolding form_at
form-long k h = long-at (lines_in step_forms) k forms-long h

abbrev Long : List ℕ → Result StepLine ℕ → Type 0
Long text (Ok line) = (9 ≤ line.length) × (line.length ≤ length text)
Long text (Err number) = Unit {0}

line-long : (text : List ℕ) → Long text (read_step text)
unfolding read_step line_after
line-long text = go (eqb (found step_forms text).form form_count) refl (found-hits step_forms text forms-distinct)
  where
    go : (b : Bool) → eqb (found step_forms text).form form_count ≡ b → Hits step_forms text (found step_forms text)
        → Long text (cond b (Err 10) (Ok (record { step = step_from (found step_forms text).form (found step_forms text).values; length = (found step_forms text).length })))
    go true e h = tt
    go false e h =
        let less = below (found step_forms text).form (length (lines_in step_forms)) h.most (λ q. eqb-false (found step_forms text).form form_count e (q ∙ forms-counted)) in
        (omega (arith, h.exact less, fill-least (form_at step_forms (found step_forms text).form) (found step_forms text).values, form-long (found step_forms text).form less), h.short)

-- the steps that were read, and the line that was not
abbrev pub Sized : ℕ → List ℕ → StepsRead → Type 0
Sized n text (steps read) = 9 * length read ≤ length text
Sized n text (bad line) = line < n + length text

sized-after : (n : ℕ) (text : List ℕ) (a : Result StepLine ℕ) (r : StepsRead) → 0 < length text → Long text a → Sized (suc n) (drop (line_length a) text) r → Sized n text (after n a r)
sized-after n text (Err number) r h l w = omega arith
sized-after n text (Ok line) (steps read) h l w = omega (arith, length-drop line.length text, l)
sized-after n text (Ok line) (bad k) h l w = omega (arith, length-drop line.length text, l)

sized-from : (bound n : ℕ) (text : List ℕ) → Sized n text (read_from bound n text)
unfolding read_from
sized-from zero n text = omega arith
sized-from (suc bound) n [] = omega arith
sized-from (suc bound) n (c ∷ text) =
    sized-after n (c ∷ text) (read_step (c ∷ text)) (read_from bound (suc n) (drop (line_length (read_step (c ∷ text))) (c ∷ text))) (omega arith) (line-long (c ∷ text))
    (sized-from bound (suc n) (drop (line_length (read_step (c ∷ text))) (c ∷ text)))

pub sized : (text : List ℕ) → Sized 1 text (read_steps 1 text)
unfolding read_steps
sized text = sized-from (length text) 1 text
