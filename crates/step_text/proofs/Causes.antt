-- "10 alone (steps)": a line is refused where no step with any numbers is the front of the text, and only there; `by` before another kind or
-- another `by` is such a line; the first such line counts; and where every line is a step, they are read in their order. Two texts of steps,
-- one after the other, are read as one.
-- Assumes nothing.
use mathlib.Core.Path.{◌≡◌, refl, sym, ap, ◌∙◌, subst}
use mathlib.Core.Bool.{Bool, true, false, cond, ◌&&◌, ◌||◌}
use mathlib.Core.List.{List, [], ◌∷◌, ◌++◌, append_assoc, append-nil, map}
use mathlib.Core.Logic.{◌↔◌}
use Prim.Native.Nat.{ℕ, zero, suc, ◌+◌, ◌-◌, ◌≤◌, ◌<◌}
use native.Mathlib.Nat.{add-zero}
use native.Mathlib.Omega.{arith}
use lib.ListN.{length, drop, get_or, length-drop}
use lib.Seq.{drop-append_seam}
use lib.Dec.{eqb}
use Rattle.std.specs.Prelude.{Result, Ok, Err}
use Rattle.sets.proofs.Booleans.{clash}
use Rattle.steps.specs.Steps.{is_administrative}
use Rattle.steps.specs.declared.acting.Acting.{Acting}
use Rattle.steps.specs.declared.acting.Acting.TheVariants.{Nobody, InSession}
use Rattle.steps.specs.declared.actions.Action.{Action}
use Rattle.steps.specs.declared.actions.Action.TheVariants.{Malformed, Assign, Withdraw, Grant, Take, Open, Activate, Deactivate, Access, Finish, Close, Move, Lost, Clock, Lend, Recall}
use Rattle.steps.specs.declared.steps.Step.{Step}
use Rattle.forms.specs.Numbers.{digits_of}
use Rattle.forms.specs.Tables.{bytes, found}
use Rattle.step_text.specs.Lines.{step_forms, form_count, step_from, line_after, read_step, StepsRead, steps, bad, onto, line_length, after, read_from, read_steps}
use Rattle.step_text.specs.Rows.{Row, row_by, action_text, acted_text, row_text, ActionWritable, ActingWritable, Writable, HasNumbers, StepStands}
use Rattle.step_text.specs.Causes.{NoStep, rows_text, AllWritable, no_lines, line_more, AllNumbers, no_steps, step_more, FirstBadStep, GoodSteps}
use Rattle.step_text.specs.declared.lines.StepLine.{StepLine}
use Rattle.step_text.proofs.Stepping.{good-within, read_next, one_less}
use Rattle.step_text.proofs.DigitRuns.{split, digits-all, no-space}
use Rattle.step_text.proofs.Rows.{form_of, values_of, line_from, one-row, row_read, step_line, every-line}

differ : {X : Type 0} → ◌≡◌ {A = ℕ} 0 1 → X
differ e = absurd (omega arith)

-- ---- a line

only-10 : (text : List ℕ) (number : ℕ) → read_step text ≡ Err number → number ≡ 10
unfolding read_step line_after
only-10 text number h = go (eqb (found step_forms text).form form_count) h
  where
    go : (b : Bool) → cond {A = Result StepLine ℕ} b (Err 10) (Ok (record { step = step_from (found step_forms text).form (found step_forms text).values; length = (found step_forms text).length })) ≡ Err number
        → number ≡ 10
    go true e = cc
    go false e = differ cc

pub step-10 : (text : List ℕ) → (read_step text ≡ Err 10) ↔ NoStep text
step-10 text = (none, λ h. go h (read_step text) refl)
  where
    none : read_step text ≡ Err 10 → NoStep text
    none e row stands = let read = (step_line text row).1 stands in let good = read.read in differ cc

    go : NoStep text → (r : Result StepLine ℕ) → read_step text ≡ r → read_step text ≡ Err 10
    go h (Ok line) e = let there = every-line text line e in absurd (h there.0 there.1)
    go h (Err number) e = e ∙ ap Err (only-10 text number e)

-- ---- 2026-05: `by` where it cannot stand

-- a form's word begins with these two letters
abbrev begins : ℕ → ℕ → List ℕ → Bool
begins first second text = eqb (get_or text 1 0) first && eqb (get_or text 2 0) second

-- assign, withdraw, grant, take, lend and recall, told by their first two letters
abbrev administrative : List ℕ → Bool
administrative text = begins 97 115 text || begins 119 105 text || begins 103 114 text || begins 116 97 text || begins 108 101 text || begins 114 101 text

record Begins (action : Action) (text : List ℕ) : Type 0 where
  kind : administrative text ≡ is_administrative action
  other : begins 98 121 text ≡ false

word-begins : (action : Action) (end rest : List ℕ) → (action ≡ Malformed → ⊥) → Begins action (action_text action end ++ rest)
unfolding action_text
word-begins Malformed end rest proper = absurd (proper refl)
word-begins (Assign u r) end rest proper = record { kind = refl; other = refl }
word-begins (Withdraw u r) end rest proper = record { kind = refl; other = refl }
word-begins (Grant r p) end rest proper = record { kind = refl; other = refl }
word-begins (Take r p) end rest proper = record { kind = refl; other = refl }
word-begins (Open s u) end rest proper = record { kind = refl; other = refl }
word-begins (Activate s r) end rest proper = record { kind = refl; other = refl }
word-begins (Deactivate s r) end rest proper = record { kind = refl; other = refl }
word-begins (Access s p o) end rest proper = record { kind = refl; other = refl }
word-begins (Finish o) end rest proper = record { kind = refl; other = refl }
word-begins (Close s) end rest proper = record { kind = refl; other = refl }
word-begins (Move s point) end rest proper = record { kind = refl; other = refl }
word-begins (Lost s) end rest proper = record { kind = refl; other = refl }
word-begins (Clock t) end rest proper = record { kind = refl; other = refl }
word-begins (Lend u v r t) end rest proper = record { kind = refl; other = refl }
word-begins (Recall u v r) end rest proper = record { kind = refl; other = refl }

not-behind-by : (s : ℕ) (text : List ℕ) → administrative text ≡ false → NoStep (bytes "(by " ++ (digits_of s ++ (bytes " " ++ text)))
unfolding row_text
not-behind-by s text other row stands = go row.by stands.writable.acting stands.reads
  where
    proper : row.action ≡ Malformed → ⊥
    proper e = subst ActionWritable e stands.writable.numbers

    go : (by : Acting) → ActingWritable by row.action → bytes "(by " ++ (digits_of s ++ (bytes " " ++ text)) ≡ acted_text by row.action ++ stands.rest → ⊥
    go Nobody a e = clash (ap (λ (t : List ℕ). begins 98 121 t) (sym e)) (word-begins row.action (bytes ")\n") stands.rest proper).other
    go (InSession i) a e =
        let later = action_text row.action (bytes "))\n") ++ stands.rest in
        let same : text ≡ later =
        (split 32 no-space (digits_of s) (digits_of i) text later (digits-all s s (omega arith)) (digits-all i i (omega arith))
        (ap (drop 4) e ∙ append_assoc (digits_of i) (bytes " " ++ action_text row.action (bytes "))\n")) stands.rest)).1 in
        clash ((word-begins row.action (bytes "))\n") stands.rest proper).kind ∙ a.1) (ap administrative (sym same) ∙ other)

-- "`by` before any other step .. is 10 in a text": open, activate, deactivate, access, finish, close, move, lost and clock, with any numbers
pub by-before-other : (s : ℕ) (action : Action) (rest : List ℕ) → (action ≡ Malformed → ⊥) → is_administrative action ≡ false
    → read_step (row_text (row_by (InSession s) action) ++ rest) ≡ Err 10
unfolding row_text
by-before-other s action rest proper other =
    let later = action_text action (bytes "))\n") ++ rest in
    ap (λ (t : List ℕ). read_step (bytes "(by " ++ t)) (append_assoc (digits_of s) (bytes " " ++ action_text action (bytes "))\n")) rest)
    ∙ (step-10 (bytes "(by " ++ (digits_of s ++ (bytes " " ++ later)))).1 (not-behind-by s later ((word-begins action (bytes "))\n") rest proper).kind ∙ other))

-- ".. or before another `by`"
pub by-before-by : (s : ℕ) (rest : List ℕ) → read_step (bytes "(by " ++ (digits_of s ++ (bytes " (by " ++ rest))) ≡ Err 10
by-before-by s rest = (step-10 (bytes "(by " ++ (digits_of s ++ (bytes " (by " ++ rest)))).1 (not-behind-by s (bytes "(by " ++ rest) refl)

-- ---- one line and those after it

-- a bound that is large enough makes no difference
bounded : (b c n : ℕ) (text : List ℕ) → length text ≤ b → length text ≤ c → read_from b n text ≡ read_from c n text
unfolding read_from
bounded zero zero n [] k l = refl
bounded zero (suc c) n [] k l = refl
bounded (suc b) zero n [] k l = refl
bounded (suc b) (suc c) n [] k l = refl
bounded zero c n (x ∷ text) k l = absurd (omega arith)
bounded (suc b) zero n (x ∷ text) k l = absurd (omega arith)
bounded (suc b) (suc c) n (x ∷ text) k l =
    go (read_step (x ∷ text)) refl (λ h. bounded b c (suc n) (drop (line_length (read_step (x ∷ text))) (x ∷ text)) (omega (arith, length-drop (line_length (read_step (x ∷ text))) (x ∷ text))) (omega (arith, length-drop (line_length (read_step (x ∷ text))) (x ∷ text))))
  where
    go : (r : Result StepLine ℕ) → read_step (x ∷ text) ≡ r
        → (0 < line_length r → read_from b (suc n) (drop (line_length r) (x ∷ text)) ≡ read_from c (suc n) (drop (line_length r) (x ∷ text)))
        → after n r (read_from b (suc n) (drop (line_length r) (x ∷ text))) ≡ after n r (read_from c (suc n) (drop (line_length r) (x ∷ text)))
    go (Err number) e next = refl
    go (Ok line) e next = ap (onto line.step) (next (good-within (x ∷ text) (Ok line) line (sym e) refl).0)

-- where no line is left
nothing_left : (n : ℕ) → read_steps n [] ≡ steps []
unfolding read_steps read_from
nothing_left n = refl

first-line : (n : ℕ) (text : List ℕ) → 0 < length text
    → read_steps n text ≡ after n (read_step text) (read_from (length text - 1) (suc n) (drop (line_length (read_step text)) text))
unfolding read_steps
first-line n text h = ap (λ (b : ℕ). read_from b n text) (one_less (length text) (length text) h (omega arith)) ∙ read_next (length text - 1) n text h

bad-line : (n : ℕ) (text : List ℕ) (number : ℕ) → 0 < length text → read_step text ≡ Err number → read_steps n text ≡ bad n
bad-line n text number h e =
    first-line n text h ∙ ap (λ (r : Result StepLine ℕ). after n r (read_from (length text - 1) (suc n) (drop (line_length r) text))) e

good-line : (n : ℕ) (text : List ℕ) (line : StepLine) → read_step text ≡ Ok line → read_steps n text ≡ onto line.step (read_steps (suc n) (drop line.length text))
unfolding read_steps
good-line n text line e =
    let within = good-within text (Ok line) line (sym e) refl in
    first-line n text (omega (arith, within))
    ∙ ap (λ (r : Result StepLine ℕ). after n r (read_from (length text - 1) (suc n) (drop (line_length r) text))) e
    ∙ ap (onto line.step)
    (bounded (length text - 1) (length (drop line.length text)) (suc n) (drop line.length text) (omega (arith, within, length-drop line.length text)) (omega arith))

-- ---- lines that are steps

-- the step that is read from a row's line
abbrev step_at : Row → Step
step_at row = step_from (form_of row) (values_of row)

-- steps before others
abbrev preceded : List Step → StepsRead → StepsRead
preceded [] r = r
preceded (step ∷ rest) r = onto step (preceded rest r)

row_line : (n : ℕ) (row : Row) (rest : List ℕ) → Writable row → read_steps n (row_text row ++ rest) ≡ onto (step_at row) (read_steps (suc n) rest)
row_line n row rest w =
    good-line n (row_text row ++ rest) (line_from (form_of row) (values_of row) (length (row_text row))) (row_read row rest w)
    ∙ ap (λ (t : List ℕ). onto (step_at row) (read_steps (suc n) t)) (drop-append_seam (row_text row) rest)

row-lines : (lines : List Row) → AllWritable lines → (n : ℕ) (rest : List ℕ) → read_steps n (rows_text lines ++ rest) ≡ preceded (map step_at lines) (read_steps (n + length lines) rest)
unfolding rows_text
row-lines [] no_lines n rest = ap (λ (k : ℕ). read_steps k rest) (sym (add-zero n))
row-lines (row ∷ lines) (line_more w v) n rest =
    let next : suc n + length lines ≡ n + suc (length lines) = omega arith in
    ap (read_steps n) (append_assoc (row_text row) (rows_text lines) rest)
    ∙ row_line n row (rows_text lines ++ rest) w
    ∙ ap (onto (step_at row)) (row-lines lines v (suc n) rest ∙ ap (λ (k : ℕ). preceded (map step_at lines) (read_steps k rest)) next)

preceded-bad : (read : List Step) (n : ℕ) → preceded read (bad n) ≡ bad n
preceded-bad [] n = refl
preceded-bad (step ∷ read) n = ap (onto step) (preceded-bad read n)

preceded-steps : (read others : List Step) → preceded read (steps others) ≡ steps (read ++ others)
preceded-steps [] others = refl
preceded-steps (step ∷ read) others = ap (onto step) (preceded-steps read others)

row-numbers : (lines : List Row) → AllWritable lines → AllNumbers (map step_at lines) lines
row-numbers [] no_lines = no_steps
row-numbers (row ∷ lines) (line_more w v) =
    let stands : StepStands (row_text row ++ []) row = record { writable = w; rest = []; reads = refl } in
    let read = (step_line (row_text row ++ []) row).1 stands in
    let whole : Ok read.line ≡ Ok (line_from (form_of row) (values_of row) (length (row_text row))) = sym read.read ∙ row_read row [] w in
    let same : read.line ≡ line_from (form_of row) (values_of row) (length (row_text row)) = cc in
    step_more (step_at row) row (subst (λ (l : StepLine). HasNumbers l.step row) same read.numbers) (row-numbers lines v)

-- ---- what was read says the lines

abbrev Says : ℕ → List ℕ → StepsRead → Type 0
Says m text (steps read) = (lines : List Row) × GoodSteps text lines × AllNumbers read lines
Says m text (bad n) = FirstBadStep m text n

-- a good line before what is said of the rest
module _ (m : ℕ) (text : List ℕ) (line : StepLine) (row : Row) (stands : StepStands text row) (same : HasNumbers line.step row) (size : line.length ≡ length (row_text row)) where
  before : {later : List ℕ} → drop line.length text ≡ later → text ≡ row_text row ++ later
  before {later} q =
      let left : drop line.length text ≡ stands.rest =
      ap (λ (k : ℕ). drop k text) size ∙ ap (drop (length (row_text row))) stands.reads ∙ drop-append_seam (row_text row) stands.rest in
      stands.reads ∙ ap (λ (t : List ℕ). row_text row ++ t) (sym left ∙ q)

  say-more : (r : StepsRead) → Says (suc m) (drop line.length text) r → Says m text (onto line.step r)
  unfolding rows_text
  say-more (steps read) said = (
    row ∷ said.0,
    record { good = line_more stands.writable said.1.good; whole = before said.1.whole },
    step_more line.step row same said.2,
  )
  say-more (bad n) first = record {
    lines = row ∷ first.lines;
    good = line_more stands.writable first.good;
    rest = first.rest;
    whole = before first.whole ∙ sym (append_assoc (row_text row) (rows_text first.lines) first.rest);
    place = omega (arith, first.place);
    some = first.some;
    none = first.none;
  }

none-say : (m : ℕ) → Says m [] (read_steps m [])
unfolding rows_text
none-say m = rw (nothing_left m) ([], record { good = no_lines; whole = refl }, no_steps)

all_say : (bound m : ℕ) (text : List ℕ) → length text ≤ bound → Says m text (read_steps m text)
unfolding rows_text
all_say zero m [] h = none-say m
all_say zero m (c ∷ text) h = absurd (omega arith)
all_say (suc bound) m [] h = none-say m
all_say (suc bound) m (c ∷ text) h = go (read_step (c ∷ text)) refl (λ n some. all_say bound (suc m) (drop n (c ∷ text)) (omega (arith, length-drop n (c ∷ text))))
  where
    go : (r : Result StepLine ℕ) → read_step (c ∷ text) ≡ r → ((n : ℕ) → 0 < n → Says (suc m) (drop n (c ∷ text)) (read_steps (suc m) (drop n (c ∷ text)))) → Says m (c ∷ text) (read_steps m (c ∷ text))
    go (Err number) e next =
        rw (bad-line m (c ∷ text) number (omega arith) e)
        (record {
          lines = [];
          good = no_lines;
          rest = c ∷ text;
          whole = refl;
          place = sym (add-zero m);
          some = omega arith;
          none = (step-10 (c ∷ text)).0 (e ∙ ap Err (only-10 (c ∷ text) number e));
        })
    go (Ok line) e next =
        let there = every-line (c ∷ text) line e in
        rw (good-line m (c ∷ text) line e)
        (say-more m (c ∷ text) line there.0 there.1 there.2 there.3 (read_steps (suc m) (drop line.length (c ∷ text))) (next line.length (good-within (c ∷ text) (Ok line) line (sym e) refl).0))

-- ---- the laws

-- line n is refused ↔ every line before it is a step, and at it none stands
pub steps-10 : (m : ℕ) (text : List ℕ) (n : ℕ) → (read_steps m text ≡ bad n) ↔ FirstBadStep m text n
steps-10 m text n = (λ e. subst (Says m text) e (all_say (length text) m text (omega arith)), refused)
  where
    refused : FirstBadStep m text n → read_steps m text ≡ bad n
    refused b =
        ap (read_steps m) b.whole
        ∙ row-lines b.lines b.good m b.rest
        ∙ ap (preceded (map step_at b.lines)) (bad-line (m + length b.lines) b.rest 10 b.some ((step-10 b.rest).1 b.none))
        ∙ preceded-bad (map step_at b.lines) (m + length b.lines)
        ∙ ap bad (sym b.place)

lines-read : {text : List ℕ} {lines : List Row} → GoodSteps text lines → (m : ℕ) → read_steps m text ≡ steps (map step_at lines)
lines-read {text} {lines} g m =
    ap (read_steps m) (g.whole ∙ sym (append-nil (rows_text lines)))
    ∙ row-lines lines g.good m []
    ∙ ap (preceded (map step_at lines)) (nothing_left (m + length lines))
    ∙ preceded-steps (map step_at lines) []
    ∙ ap steps (append-nil (map step_at lines))

joined : {a b : Row} {x y : List Row} → a ≡ b → x ≡ y → a ∷ x ≡ b ∷ y
joined p q = rw (p, q)

-- steps have the numbers of one list of lines alone
pub one_list : {read : List Step} {lines others : List Row} → AllNumbers read lines → AllNumbers read others → lines ≡ others
one_list no_steps no_steps = refl
one_list (step_more step row h more) (step_more _ other k others) = joined (one-row step row other h k) (one_list more others)

-- steps that are read have their lines
pub steps-lines : (m : ℕ) (text : List ℕ) (read : List Step) → read_steps m text ≡ steps read → (lines : List Row) × GoodSteps text lines × AllNumbers read lines
steps-lines m text read e = subst (Says m text) e (all_say (length text) m text (omega arith))

-- the text is these lines ↔ steps are read that have the kinds and numbers of these lines
pub steps-good : (m : ℕ) (text : List ℕ) (lines : List Row) → ((read : List Step) × (read_steps m text ≡ steps read) × AllNumbers read lines) ↔ GoodSteps text lines
steps-good m text lines = (there, λ g. (map step_at lines, lines-read g m, row-numbers lines g.good))
  where
    there : (read : List Step) × (read_steps m text ≡ steps read) × AllNumbers read lines → GoodSteps text lines
    there r = let said = subst (Says m text) r.1 (all_say (length text) m text (omega arith)) in subst (GoodSteps text) (one_list said.2 r.2) said.1

-- two texts of steps, one after the other, are read as the two lists joined
pub steps-joined : (k m n : ℕ) (first second : List ℕ) (a b : List Step) → read_steps k first ≡ steps a → read_steps m second ≡ steps b → read_steps n (first ++ second) ≡ steps (a ++ b)
steps-joined k m n first second a b p q =
    let one = subst (Says k first) p (all_say (length first) k first (omega arith)) in
    let two = subst (Says m second) q (all_say (length second) m second (omega arith)) in
    let whole : steps a ≡ steps (map step_at one.0) = sym p ∙ lines-read one.1 k in
    let firsts : a ≡ map step_at one.0 = cc in
    let others : steps b ≡ steps (map step_at two.0) = sym q ∙ lines-read two.1 m in
    let seconds : b ≡ map step_at two.0 = cc in
    ap (λ (t : List ℕ). read_steps n (t ++ second)) one.1.whole
    ∙ row-lines one.0 one.1.good n second
    ∙ ap (preceded (map step_at one.0)) (lines-read two.1 (n + length one.0))
    ∙ preceded-steps (map step_at one.0) (map step_at two.0)
    ∙ rw (← firsts, ← seconds)
