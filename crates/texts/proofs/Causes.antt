-- `(bad number line)` is printed exactly where the input has that cause; and else the answers to its steps.
-- Assumes nothing.
use mathlib.Core.Path.{◌≡◌, refl, sym, ap, ◌∙◌, subst}
use mathlib.Core.Bool.{Bool, true, false}
use mathlib.Core.List.{List, [], ◌∷◌, ◌++◌, append-nil}
use mathlib.Core.Logic.{◌↔◌, ◌⊎◌, inl, inr}
use Prim.Native.Nat.{ℕ, zero, suc, ◌+◌, ◌/◌, ◌%◌, ◌≤◌, ◌<◌}
use native.Mathlib.Omega.{arith}
use lib.ListN.{length, drop, get_or, length-append}
use lib.Seq.{drop-append_seam}
use lib.Dec.{eqb, ltb}
use borrow.Author.Tests.{lt-ltb, ltb-true, ltb-false, eqb-true, eq-eqb, ne_eqb}
use Rattle.sets.proofs.Booleans.{clash}
use Rattle.forms.specs.Numbers.{digits_of, read_byte}
use Rattle.forms.specs.Kinds.{is_slot, kind_of, lookup}
use Rattle.forms.specs.Forms.{head, tail, text_by, item_text, read_by, read_item, fill, scan, scanned}
use Rattle.forms.specs.Tables.{bytes, lines_in, form_at, find_in, found}
use Rattle.forms.proofs.Digits.{digits-small, digits_step, digits-pos}
use Rattle.forms.proofs.Finding.{found-hits}
use Rattle.rules.specs.declared.families.Rule.{Rule}
use Rattle.rules.specs.declared.rights.RightSlot.{RightSlot}
use Rattle.rules.specs.declared.lists.RuleList.{RuleList}
use Rattle.enforcement.specs.States.{fresh}
use Rattle.enforcement.specs.Gate.{run_of}
use Rattle.steps.specs.declared.steps.Step.{Step}
use Rattle.enforcement.specs.declared.states.Next.{Next}
use Rattle.steps.specs.declared.answers.Answer.{Answer}
use Rattle.steps.specs.declared.answers.Answer.TheVariants.{Granted, Broken, Refused}
use Rattle.rule_text.specs.Lines.{rule_forms, lines_text, next_line}
use Rattle.rule_text.specs.Reading.{LinesRead, line_after, read_line, read_lines, list_of}
use Rattle.rule_text.specs.Causes.{Cause}
use Rattle.std.specs.Prelude.{Err}
use Rattle.rule_text.proofs.Causes.{no-form-there}
use Rattle.rule_text.proofs.Lists.{Reads, cause-some, reads_lines, reads-rest, reads_whole, reads-until}
use Rattle.step_text.specs.Lines.{StepsRead, steps, bad, read_steps}
use Rattle.step_text.specs.Rows.{Row, line_with}
use Rattle.step_text.specs.Causes.{AllNumbers}
use Rattle.step_text.specs.Answers.{answer_forms, line_text, answer_text, answers_text}
use Rattle.step_text.proofs.Causes.{steps-10, one_list, steps-lines, steps-good}
use Rattle.step_text.proofs.DigitRuns.{digits-all, split, no-space, no-bracket}
use Rattle.step_text.proofs.Printed.{bad-line}
use Rattle.texts.specs.Response.{steps_form, starts_steps, Outcome, bad_at, ran, steps_outcome, number_without_steps, after_rules, outcome_of, outcome_text, response_of}
use Rattle.texts.specs.Causes.{RulesThen, BadInput, too_long, missing_steps, bad_rule, bad_step, RunsSteps}
use Rattle.texts.proofs.Responding.{steps-distinct, steps-one, not-too-long, without-steps, with-steps}

differ : {X : Type 0} → ◌≡◌ {A = ℕ} 0 1 → X
differ e = absurd (omega arith)

-- ---- the line `(steps)`

steps-text : (values : List ℕ) → fill (form_at steps_form 0) values ≡ bytes "(steps)\n"
unfolding steps_form form_at lines_in fill item_text text_by is_slot kind_of lookup
steps-text values = refl

starts-here : (more : List ℕ) → starts_steps (bytes "(steps)\n" ++ more) ≡ true
unfolding starts_steps steps_form found find_in lines_in scan scanned read_item read_by read_byte is_slot kind_of lookup
starts-here more = refl

pub starts-means : (text : List ℕ) → (starts_steps text ≡ true) ↔ ((more : List ℕ) × (text ≡ bytes "(steps)\n" ++ more))
unfolding starts_steps
starts-means text = (there, λ h. subst (λ (t : List ℕ). eqb (found steps_form t).form 0 ≡ true) (sym h.1) (unfold starts_steps in starts-here h.0))
  where
    there : eqb (found steps_form text).form 0 ≡ true → (more : List ℕ) × (text ≡ bytes "(steps)\n" ++ more)
    there h =
        let hits = found-hits steps_form text steps-distinct in
        let first = eqb-true (found steps_form text).form 0 h in
        let less : (found steps_form text).form < length (lines_in steps_form) = omega (arith, steps-one) in
        let line : fill (form_at steps_form (found steps_form text).form) (found steps_form text).values ≡ bytes "(steps)\n" =
        ap (λ (k : ℕ). fill (form_at steps_form k) (found steps_form text).values) first ∙ steps-text (found steps_form text).values in
        (drop (found steps_form text).length text, hits.text less ∙ ap (λ (t : List ℕ). t ++ drop (found steps_form text).length text) line)

starts-not : (text : List ℕ) → ((more : List ℕ) → text ≡ bytes "(steps)\n" ++ more → ⊥) → starts_steps text ≡ false
starts-not text h = go (starts_steps text) refl
  where
    go : (b : Bool) → starts_steps text ≡ b → starts_steps text ≡ false
    go true e = let there = (starts-means text).0 e in absurd (h there.0 there.1)
    go false e = e

-- it is no rule
no-rule : (n : ℕ) (more : List ℕ) → read_line n (bytes "(steps)\n" ++ more) ≡ Err 10
unfolding read_line line_after rule_forms found find_in lines_in scan scanned read_item read_by read_byte is_slot kind_of lookup
no-rule n more = refl

-- ---- what comes of an input has its cause

number-zero : (n : ℕ) → n ≡ 0 → number_without_steps n ≡ 10
unfolding number_without_steps
number-zero n e = rw (eq-eqb n 0 e)

number-some : (n : ℕ) → 0 < n → number_without_steps n ≡ n
unfolding number_without_steps
number-some n h = rw (ne_eqb n 0 (λ e. omega arith))

abbrev Says : List ℕ → Outcome → Type 0
Says input (bad_at number line) = BadInput input number line
Says input (ran list read) = (lines : List Row) × RunsSteps input list lines × AllNumbers read lines

module _ (input : List ℕ) (short : length input ≤ 65536) where
  abbrev rights : List RightSlot
  rights = (read_lines input).rights

  abbrev rules : List Rule
  rules = (read_lines input).rules

  abbrev lines : Reads input (read_lines input)
  lines = reads_lines input

  rules-then : RulesThen input rights rules lines.rest
  rules-then = record { good = lines.good; reads = lines.reads }

  after-lines : outcome_of input ≡ after_rules (read_lines input) lines.rest
  after-lines = not-too-long input short ∙ ap (after_rules (read_lines input)) (reads-rest input)

  steps-say : (text : List ℕ) → lines.rest ≡ bytes "(steps)\n" ++ text → (r : StepsRead) → read_steps 1 text ≡ r → Says input (steps_outcome (list_of rights rules) (next_line rights rules) r)
  unfolding steps_outcome
  steps-say text there (steps read) e =
      let said = steps-lines 1 text read e in
      (said.0, record { short = short; rights = rights; rules = rules; text = text; before = rw there at rules-then; same = refl; given = said.1 }, said.2)
  steps-say text there (bad k) e = bad_step rights rules text k short (rw there at rules-then) ((steps-10 1 text k).0 e)

  other-says : starts_steps lines.rest ≡ false → Says input (bad_at (number_without_steps (read_lines input).number) (next_line rights rules))
  other-says none = go lines.stops
    where
      not_there : (more : List ℕ) → lines.rest ≡ bytes "(steps)\n" ++ more → ⊥
      not_there more e = clash ((starts-means lines.rest).1 (more, e)) none

      go : (((read_lines input).number ≡ 0) × (lines.rest ≡ [])) ⊎ ((0 < length lines.rest) × Cause rights (suc (length rules)) lines.rest (read_lines input).number)
          → BadInput input (number_without_steps (read_lines input).number) (next_line rights rules)
      go (inl stop) = rw (number-zero (read_lines input).number stop.0) (missing_steps rights rules short (rw stop.1 at rules-then))
      go (inr stop) =
          rw (number-some (read_lines input).number (cause-some stop.1))
          (bad_rule (read_lines input).number rights rules lines.rest short rules-then stop.0 not_there stop.1)

  short-says : Says input (outcome_of input)
  short-says = go (starts_steps lines.rest) refl
    where
      go : (b : Bool) → starts_steps lines.rest ≡ b → Says input (outcome_of input)
      go true e =
          let there = (starts-means lines.rest).0 e in
          let rest : drop 8 lines.rest ≡ there.0 = ap (drop 8) there.1 in
          subst (Says input) (sym (after-lines ∙ with-steps (read_lines input) lines.rest e ∙ ap (λ (t : List ℕ). steps_outcome (list_of rights rules) (next_line rights rules) (read_steps 1 t)) rest))
          (steps-say there.0 there.1 (read_steps 1 there.0) refl)
      go false e = subst (Says input) (sym (after-lines ∙ without-steps (read_lines input) lines.rest e)) (other-says e)

says : (input : List ℕ) → Says input (outcome_of input)
unfolding outcome_of
says input = go (ltb 65536 (length input)) refl
  where
    go : (b : Bool) → ltb 65536 (length input) ≡ b → Says input (outcome_of input)
    go true e = rw e (too_long (ltb-true _ _ e))
    go false e = short-says input (ltb-false _ _ e)

-- ---- and what has a cause comes so

module _ (input : List ℕ) (short : length input ≤ 65536) (rights : List RightSlot) (rules : List Rule) (rest : List ℕ) (then : RulesThen input rights rules rest) where
  abbrev stopped : ℕ → LinesRead
  stopped number = record { rights = rights; rules = rules; length = length (lines_text rights rules); number = number }

  came : (number : ℕ) → read_lines input ≡ stopped number → outcome_of input ≡ after_rules (stopped number) rest
  came number e =
      not-too-long input short ∙ ap (λ (l : LinesRead). after_rules l (drop l.length input)) e
      ∙ ap (after_rules (stopped number)) (ap (drop (length (lines_text rights rules))) then.reads ∙ drop-append_seam (lines_text rights rules) rest)

  stopped_by : (number : ℕ) → 0 < length rest → Cause rights (suc (length rules)) rest number → read_lines input ≡ stopped number
  stopped_by number some cause = ap read_lines then.reads ∙ reads-until rights rules then.good rest number some cause

with-steps-line : (input : List ℕ) → length input ≤ 65536 → (rights : List RightSlot) (rules : List Rule) (text : List ℕ) → RulesThen input rights rules (bytes "(steps)\n" ++ text)
    → outcome_of input ≡ steps_outcome (list_of rights rules) (next_line rights rules) (read_steps 1 text)
with-steps-line input short rights rules text then =
    let rest = bytes "(steps)\n" ++ text in
    let cause = no-form-there rights (suc (length rules)) rest (no-rule (suc (length rules)) text) in
    came input short rights rules rest then 10 (stopped_by input short rights rules rest then 10 (omega arith) cause)
    ∙ with-steps (stopped input short rights rules rest then 10) rest (starts-here text)

caused : (input : List ℕ) {number line : ℕ} → BadInput input number line → outcome_of input ≡ bad_at number line
unfolding outcome_of steps_outcome
caused input (too_long h) = rw (lt-ltb 65536 (length input) h)
caused input (missing_steps rights rules short then) =
    came input short rights rules [] then 0 (ap read_lines (then.reads ∙ append-nil (lines_text rights rules)) ∙ reads_whole rights rules then.good)
    ∙ without-steps (stopped input short rights rules [] then 0) [] (starts-not [] (λ more e. differ cc))
    ∙ rw (number-zero 0 refl)
caused input (bad_rule number rights rules rest short then some not_there cause) =
    came input short rights rules rest then number (stopped_by input short rights rules rest then number some cause)
    ∙ without-steps (stopped input short rights rules rest then number) rest (starts-not rest not_there)
    ∙ rw (number-some number (cause-some cause))
caused input (bad_step rights rules text n short then first) =
    with-steps-line input short rights rules text then ∙ rw ((steps-10 1 text n).1 first)

-- what is bad, and at which line, is its own cause
pub bad-outcome : (input : List ℕ) (number line : ℕ) → (outcome_of input ≡ bad_at number line) ↔ BadInput input number line
bad-outcome input number line = (λ e. subst (Says input) e (says input), caused input)

-- and where nothing is, steps run that have the kinds and numbers of the lines
pub ran-outcome : (input : List ℕ) (list : RuleList) (lines : List Row) → ((read : List Step) × (outcome_of input ≡ ran list read) × AllNumbers read lines) ↔ RunsSteps input list lines
unfolding steps_outcome
ran-outcome input list lines = (there, came-so)
  where
    there : (read : List Step) × (outcome_of input ≡ ran list read) × AllNumbers read lines → RunsSteps input list lines
    there r = let said = subst (Says input) r.1 (says input) in subst (RunsSteps input list) (one_list said.2 r.2) said.1

    came-so : RunsSteps input list lines → (read : List Step) × (outcome_of input ≡ ran list read) × AllNumbers read lines
    came-so runs =
        let read = (steps-good 1 runs.text lines).1 runs.given in
        (read.0, with-steps-line input runs.short runs.rights runs.rules runs.text runs.before ∙ rw (read.1, runs.same), read.2)

-- ---- what is printed says what came

last_byte : (x y : List ℕ) (a b : ℕ) → x ++ (a ∷ []) ≡ y ++ (b ∷ []) → (x ≡ y) × (a ≡ b)
last_byte [] [] a b e = (refl, ap head e)
last_byte [] (d ∷ y) a b e = absurd (omega (arith, ap length e, length-append y (b ∷ [])))
last_byte (c ∷ x) [] a b e = absurd (omega (arith, ap length e, length-append x (a ∷ [])))
last_byte (c ∷ x) (d ∷ y) a b e =
    let later = last_byte x y a b (ap tail e) in
    let first : c ≡ d = ap head e in
    (rw (first, later.0), later.1)

small_same : (a b : ℕ) → a < 10 → digits_of a ≡ digits_of b → a ≡ b
small_same a b l e = go (ltb b 10) refl
  where
    go : (t : Bool) → ltb b 10 ≡ t → a ≡ b
    go true q =
        let first : 48 + a ≡ 48 + b = ap head (sym (digits-small a l) ∙ e ∙ digits-small b (ltb-true b 10 q)) in
        omega arith
    go false q =
        let long : digits_of a ≡ digits_of (b / 10) ++ ((48 + b % 10) ∷ []) = e ∙ digits_step b (ltb-false b 10 q) in
        let one : length (digits_of a) ≡ 1 = ap length (digits-small a l) in
        absurd (omega (arith, ap length long, length-append (digits_of (b / 10)) ((48 + b % 10) ∷ []), digits-pos (b / 10)))

digits_same : (bound a b : ℕ) → a ≤ bound → digits_of a ≡ digits_of b → a ≡ b
digits_same zero a b h e = small_same a b (omega arith) e
digits_same (suc bound) a b h e = go (ltb a 10) refl (ltb b 10) refl (λ l q. digits_same bound (a / 10) (b / 10) l q)
  where
    go : (s : Bool) → ltb a 10 ≡ s → (t : Bool) → ltb b 10 ≡ t → (a / 10 ≤ bound → digits_of (a / 10) ≡ digits_of (b / 10) → a / 10 ≡ b / 10) → a ≡ b
    go true p t q next = small_same a b (ltb-true a 10 p) e
    go false p true q next = sym (small_same b a (ltb-true b 10 q) (sym e))
    go false p false q next =
        let ten : 10 ≤ a = ltb-false a 10 p in
        let parts = last_byte (digits_of (a / 10)) (digits_of (b / 10)) (48 + a % 10) (48 + b % 10) (sym (digits_step a ten) ∙ e ∙ digits_step b (ltb-false b 10 q)) in
        let less : a / 10 ≤ bound = omega arith in
        let high : a / 10 ≡ b / 10 = next less parts.0 in
        let low : a % 10 ≡ b % 10 = omega (arith, parts.1) in
        omega arith

bad-same : (a b c d : ℕ) → line_with "bad" (digits_of a ∷ digits_of b ∷ []) ≡ line_with "bad" (digits_of c ∷ digits_of d ∷ []) → (a ≡ c) × (b ≡ d)
bad-same a b c d e =
    let first = split 32 no-space (digits_of a) (digits_of c) (digits_of b ++ bytes ")\n") (digits_of d ++ bytes ")\n") (digits-all a a (omega arith)) (digits-all c c (omega arith)) (ap (drop 5) e) in
    let second = split 41 no-bracket (digits_of b) (digits_of d) (bytes "\n") (bytes "\n") (digits-all b b (omega arith)) (digits-all d d (omega arith)) first.1 in
    (digits_same a a c (omega arith) first.0, digits_same b b d (omega arith) second.0)

-- an answer's second byte is no `b`
answer-second : (answer : Answer) (more : List ℕ) → get_or (answer_text answer ++ more) 1 0 ≡ 98 → ⊥
unfolding answer_text line_text answer_forms form_at lines_in fill item_text text_by is_slot kind_of lookup
answer-second (Granted selected ended) more e = omega arith
answer-second (Broken rule selected) more e = omega arith
answer-second (Refused number) more e = omega arith

answers-second : (run : List Next) → get_or (answers_text run) 1 0 ≡ 98 → ⊥
unfolding answers_text
answers-second [] e = omega arith
answers-second (next ∷ run) e = answer-second next.answer (answers_text run) e

-- the output is `(bad number line)` exactly where the input has that cause
pub bad-printed : (input : List ℕ) (number line : ℕ) → (response_of input ≡ line_with "bad" (digits_of number ∷ digits_of line ∷ [])) ↔ BadInput input number line
unfolding outcome_text
bad-printed input number line = (printed (outcome_of input) (says input), λ cause. ap outcome_text (caused input cause) ∙ bad-line number line)
  where
    printed : (o : Outcome) → Says input o → outcome_text o ≡ line_with "bad" (digits_of number ∷ digits_of line ∷ []) → BadInput input number line
    printed (bad_at n l) said e =
        let same = bad-same n l number line (sym (bad-line n l) ∙ e) in
        rw (same.0, same.1) at said
    printed (ran list read) said e = absurd (answers-second (run_of list fresh read) (ap (λ (t : List ℕ). get_or t 1 0) e))

-- and else it is the answers to the steps
pub answers-printed : (input : List ℕ) (list : RuleList) (lines : List Row) → RunsSteps input list lines
    → (read : List Step) × AllNumbers read lines × (response_of input ≡ answers_text (run_of list fresh read))
unfolding outcome_text
answers-printed input list lines runs = let ran-so = (ran-outcome input list lines).1 runs in (ran-so.0, ran-so.2, ap outcome_text ran-so.1)

-- one of the two it is
pub bad-or-answered : (input : List ℕ) → ((number : ℕ) × (line : ℕ) × BadInput input number line) ⊎ ((list : RuleList) × (lines : List Row) × RunsSteps input list lines)
bad-or-answered input = go (outcome_of input) (says input)
  where
    go : (o : Outcome) → Says input o → ((number : ℕ) × (line : ℕ) × BadInput input number line) ⊎ ((list : RuleList) × (lines : List Row) × RunsSteps input list lines)
    go (bad_at number line) said = inl (number, line, said)
    go (ran list read) said = inr (list, said.0, said.1)
