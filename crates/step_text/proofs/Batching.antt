-- The steps of a text a batch at a time: what a turn of each loop keeps, and that a text's run is that of its front and then of the rest.
-- Assumes nothing.
use mathlib.Core.Path.{◌≡◌, refl, sym, ap, ap₂, ◌∙◌, subst}
use mathlib.Core.List.{List, [], ◌∷◌, ◌++◌, map, append_assoc, append-nil}
use Prim.Native.Nat.{ℕ, zero, suc, ◌+◌, ◌-◌, ◌≤◌, ◌<◌}
use native.Mathlib.Numerals.{add-one}
use native.Mathlib.Omega.{arith}
use lib.ListN.{length, take, drop, get_or, set, replicate, length-take, length-drop, length-set, length-map, drop_of_length-le}
use lib.Seq.{drop-cons, drop-drop, take-suc-set, take-append_seam}
use Rattle.std.specs.Prelude.{Option, Some, None, Result, Ok, Err}
use Rattle.forms.specs.Writing.{last_place, Wrote}
use Rattle.forms.proofs.Puts.{then, like, nothing_written, next-most}
use Rattle.forms.proofs.Puts as puts
use Rattle.forms.proofs.Turns.{rest}
use Rattle.rules.specs.declared.lists.RuleList.{RuleList}
use Rattle.steps.specs.declared.steps.Step.{Step}
use Rattle.enforcement.specs.Gate.{step_of, run_of}
use Rattle.enforcement.specs.Runs.{last_state}
use Rattle.enforcement.specs.Batches.{batch_steps, entry_of, unanswered, batch_run}
use Rattle.enforcement.specs.declared.states.State.{State}
use Rattle.enforcement.specs.declared.states.Next.{Next}
use Rattle.enforcement.specs.declared.batches.Batch.{Batch}
use Rattle.enforcement.specs.declared.batches.BatchRun.{BatchRun}
use Rattle.enforcement.specs.declared.batches.Entry.{Entry}
use Rattle.step_text.specs.Lines.{read_step, by_number, line_length}
use Rattle.step_text.specs.Answers.{answer_text, answers_text}
use Rattle.step_text.specs.Running.{line_run, run_from, text_run}
use Rattle.step_text.specs.Batches.{Front, empty_front, line_then, front_of, ReadsFront, entries_text}
use Rattle.step_text.specs.declared.lines.StepLine.{StepLine}
use Rattle.step_text.specs.declared.batches.BatchRead.{BatchRead}
use Rattle.step_text.proofs.Stepping.{one_less, good-within, answers_next, Answering, answers-stop}

-- ---- one line more

front-next : (most : ℕ) (text : List ℕ) → front_of (suc most) text ≡ line_then (read_step text) (front_of most (drop (line_length (read_step text)) text))
unfolding front_of
front-next most (c ∷ text) = refl
front-next most [] = go (read_step []) refl
  where
    go : (a : Result StepLine ℕ) → a ≡ read_step [] → empty_front ≡ line_then a (front_of most (drop (line_length a) []))
    go (Err number) e = refl
    go (Ok line) e = absurd (omega (arith, good-within [] (Ok line) line e refl))

front-full : (text : List ℕ) → front_of 0 text ≡ empty_front
unfolding front_of
front-full text = refl

-- ---- reading a batch

-- the batch's steps are read, and the rest of the text is what is left to read
pub record Reading (text : List ℕ) (batch : Batch) (remaining : List ℕ) : Type 0 where
  pub most : batch.length ≤ 32
  pub many : length batch.steps ≡ 32
  pub within : length remaining ≤ length text
  pub read : (front_of 32 text).steps ≡ take batch.length batch.steps ++ (front_of (32 - batch.length) remaining).steps
  pub taken : (front_of 32 text).bytes + length remaining ≡ length text + (front_of (32 - batch.length) remaining).bytes

pub reading-start : (text : List ℕ) (filler : Step) → Reading text (record { steps = replicate 32 filler; length = 0 }) text
reading-start text filler = record { most = omega arith; many = refl; within = omega arith; read = refl; taken = omega arith }

module _ {text : List ℕ} {batch : Batch} {remaining : List ℕ} (v : Reading text batch remaining) where
  -- nothing is left to read
  reading-done : front_of (32 - batch.length) remaining ≡ empty_front → ReadsFront text (record { batch = batch; length = length text - length remaining })
  reading-done e =
      let all : (front_of 32 text).steps ≡ take batch.length batch.steps = v.read ∙ rw e (append-nil (take batch.length batch.steps)) in
      record {
        steps = sym all;
        number = sym (ap length all ∙ length-take batch.length batch.steps ∙ omega (arith, v.most, v.many));
        bytes = omega (arith, v.taken, ap (λ (f : Front). f.bytes) e, v.within);
      }

  pub reading-full : 32 ≤ batch.length → ReadsFront text (record { batch = batch; length = length text - length remaining })
  reading-full full = let none : 32 - batch.length ≡ 0 = omega arith in reading-done (ap (λ (n : ℕ). front_of n remaining) none ∙ front-full remaining)

  module _ (few : batch.length < 32) (a : Option StepLine) (e : by_number a ≡ read_step remaining) where
    reading-next : front_of (32 - batch.length) remaining ≡ line_then (by_number a) (front_of (32 - (batch.length + 1)) (drop (line_length (by_number a)) remaining))
    reading-next =
        let one : 32 - batch.length ≡ suc (32 - (batch.length + 1)) = omega arith in
        ap (λ (n : ℕ). front_of n remaining) one ∙ front-next (32 - (batch.length + 1)) remaining
        ∙ ap (λ (x : Result StepLine ℕ). line_then x (front_of (32 - (batch.length + 1)) (drop (line_length x) remaining))) (sym e)

    pub reading-stop : a ≡ None → ReadsFront text (record { batch = batch; length = length text - length remaining })
    reading-stop g = reading-done (reading-next ∙ ap (λ (x : Option StepLine). line_then (by_number x) (front_of (32 - (batch.length + 1)) (drop (line_length (by_number x)) remaining))) g)

    module _ (good : StepLine) (g : a ≡ Some good) where
      pub reading-fits : (0 < good.length) × (good.length ≤ length remaining)
      reading-fits = good-within remaining (by_number a) good e (ap by_number g)

      pub reading-turn : Reading text (record { steps = set batch.steps batch.length good.step; length = batch.length + 1 }) (take (length remaining - good.length) (drop good.length remaining))
      reading-turn =
          let on : front_of (32 - batch.length) remaining ≡ line_then (Ok good) (front_of (32 - (batch.length + 1)) (drop good.length remaining)) =
          reading-next ∙ ap (λ (x : Option StepLine). line_then (by_number x) (front_of (32 - (batch.length + 1)) (drop (line_length (by_number x)) remaining))) g in
          let shown : take (batch.length + 1) (set batch.steps batch.length good.step) ≡ take batch.length batch.steps ++ (good.step ∷ []) =
          ap (λ (n : ℕ). take n (set batch.steps batch.length good.step)) (add-one batch.length) ∙ take-suc-set batch.steps batch.length good.step (omega (arith, v.many)) in
          rw (rest remaining good.length) (record {
            most = omega arith;
            many = length-set batch.steps batch.length good.step ∙ v.many;
            within = omega (arith, v.within, length-drop good.length remaining);
            read =
                v.read ∙ ap (λ (f : Front). take batch.length batch.steps ++ f.steps) on
                ∙ sym (append_assoc (take batch.length batch.steps) (good.step ∷ []) (front_of (32 - (batch.length + 1)) (drop good.length remaining)).steps)
                ∙ ap (λ (l : List Step). l ++ (front_of (32 - (batch.length + 1)) (drop good.length remaining)).steps) (sym shown);
            taken = omega (arith, v.taken, ap (λ (f : Front). f.bytes) on, reading-fits, length-drop good.length remaining);
          })

      pub reading-less : length (take (length remaining - good.length) (drop good.length remaining)) < length remaining
      reading-less = rw (rest remaining good.length) (omega (arith, length-drop good.length remaining, reading-fits))

-- ---- writing answers: to write what is left is to have written it all

pub record Writing (entries : List Entry) (l₀ : List ℕ) (at : ℕ) (l : List ℕ) (place i : ℕ) : Type 0 where
  pub room : length l₀ ≤ last_place
  pub within : place ≤ last_place
  pub same : length l ≡ length l₀
  pub left : (r : ℕ) (l' : List ℕ) → Wrote l place (entries_text (drop i entries)) r l' → Wrote l₀ at (entries_text entries) r l'

pub writing_start : (entries : List Entry) (l : List ℕ) (at : ℕ) → length l ≤ last_place → at ≤ last_place → Writing entries l at l at 0
writing_start entries l at m h = record { room = m; within = h; same = refl; left = λ r l' w. w }

text-more : (entry : Entry) (entries : List Entry) → entries_text (entry ∷ entries) ≡ answer_text entry.answer ++ entries_text entries
unfolding entries_text
text-more entry entries = refl

text-none : entries_text [] ≡ []
unfolding entries_text
text-none = refl

module _ {entries : List Entry} {l₀ : List ℕ} {at : ℕ} {l : List ℕ} {place i : ℕ} (v : Writing entries l₀ at l place i) where
  pub writing-turn : (filler : Entry) → i < length entries → {place' : ℕ} {l' : List ℕ} → Wrote l place (answer_text (get_or entries i filler).answer) place' l'
      → Writing entries l₀ at l' place' (i + 1)
  writing-turn filler here {place'} {l'} w =
      let on : drop i entries ≡ get_or entries i filler ∷ drop (i + 1) entries = drop-cons entries i filler here ∙ ap (λ (n : ℕ). get_or entries i filler ∷ drop n entries) (sym (add-one i)) in
      record {
        room = v.room;
        within = next-most w;
        same = puts.same_length w ∙ v.same;
        left = λ r m z. v.left r m (like (ap entries_text on ∙ text-more (get_or entries i filler) (drop (i + 1) entries)) (then (omega (arith, v.same, v.room)) w z));
      }

  pub writing-end : length entries ≤ i → Wrote l₀ at (entries_text entries) place l
  writing-end ended = v.left place l (like (ap entries_text (drop_of_length-le entries {i = i} ended) ∙ text-none) (nothing_written l place v.within))

-- ---- a text's run: that of the steps at its front, and then that of the rest from the state handed back

-- the run goes on from the rest, with lines enough
pub record Continued (list : RuleList) (state : State) (text : List ℕ) (bound : ℕ) (front : Front) : Type 0 where
  pub further : ℕ
  pub enough : length (drop front.bytes text) ≤ further
  pub within : front.bytes ≤ length text
  pub whole : run_from bound list state text ≡ run_of list state front.steps ++ run_from further list (last_state state (run_of list state front.steps)) (drop front.bytes text)

none-run : (list : RuleList) (state : State) (text : List ℕ) (bound : ℕ) → length text ≤ bound → Continued list state text bound empty_front
unfolding run_of last_state
none-run list state text bound enough = record { further = bound; enough = enough; within = omega arith; whole = refl }

line-run : (list : RuleList) (state : State) (text : List ℕ) (bound : ℕ) (good : StepLine) (front : Front) → good.length ≤ length text
    → run_from (suc bound) list state text ≡ step_of list state good.step ∷ run_from bound list (step_of list state good.step).state (drop good.length text)
    → Continued list (step_of list state good.step).state (drop good.length text) bound front
    → Continued list state text (suc bound) (line_then (Ok good) front)
unfolding run_of last_state
line-run list state text bound good front fits one v =
    let next = step_of list state good.step in
    let seam : drop front.bytes (drop good.length text) ≡ drop (good.length + front.bytes) text = drop-drop front.bytes good.length text in
    record {
      further = v.further;
      enough = rw (← seam) v.enough;
      within = omega (arith, v.within, length-drop good.length text);
      whole =
          one ∙ ap (λ (run : List Next). next ∷ run) v.whole
          ∙ ap (λ (u : List ℕ). next ∷ (run_of list next.state front.steps ++ run_from v.further list (last_state next.state (run_of list next.state front.steps)) u)) seam;
    }

front-run : (most bound : ℕ) (list : RuleList) (state : State) (text : List ℕ) → length text ≤ bound → Continued list state text bound (front_of most text)
unfolding front_of
front-run zero bound list state text enough = none-run list state text bound enough
front-run (suc most) bound list state [] enough = none-run list state [] bound enough
front-run (suc most) bound list state (c ∷ text) enough = by-line (read_step (c ∷ text)) refl (λ b s t fits. front-run most b list s t fits)
  where
    by-line : (a : Result StepLine ℕ) → a ≡ read_step (c ∷ text)
        → ((b : ℕ) (s : State) (t : List ℕ) → length t ≤ b → Continued list s t b (front_of most t))
        → Continued list state (c ∷ text) bound (line_then a (front_of most (drop (line_length a) (c ∷ text))))
    by-line (Err number) e more = none-run list state (c ∷ text) bound enough
    by-line (Ok good) e more =
        let within = good-within (c ∷ text) (Ok good) good e refl in
        let less : bound ≡ suc (bound - 1) = one_less (length (c ∷ text)) bound (omega arith) enough in
        subst (λ (n : ℕ). Continued list state (c ∷ text) n (line_then (Ok good) (front_of most (drop good.length (c ∷ text))))) (sym less)
        (line-run list state (c ∷ text) (bound - 1) good (front_of most (drop good.length (c ∷ text))) within.1
        (answers_next (bound - 1) list state (c ∷ text) (omega arith) ∙ ap (λ (x : Result StepLine ℕ). line_run list state x (λ next. run_from (bound - 1) list next (drop (line_length x) (c ∷ text)))) (sym e))
        (more (bound - 1) (step_of list state good.step).state (drop good.length (c ∷ text)) (omega (arith, length-drop good.length (c ∷ text), within.0))))

-- a text whose front has a step has fewer bytes after it
front-some : (most : ℕ) (text : List ℕ) → 0 < length (front_of most text).steps → 0 < (front_of most text).bytes
unfolding front_of
front-some zero text h = absurd (omega arith)
front-some (suc most) [] h = absurd (omega arith)
front-some (suc most) (c ∷ text) h = by-line (read_step (c ∷ text)) refl h
  where
    by-line : (a : Result StepLine ℕ) → a ≡ read_step (c ∷ text) → 0 < length (line_then a (front_of most (drop (line_length a) (c ∷ text)))).steps → 0 < (line_then a (front_of most (drop (line_length a) (c ∷ text)))).bytes
    by-line (Err number) e some = absurd (omega arith)
    by-line (Ok good) e some = omega (arith, (good-within (c ∷ text) (Ok good) good e refl).0)

-- a text with bytes whose front has no step has a bad line first
front-bad : (most : ℕ) (text : List ℕ) → 0 < length text → length (front_of (suc most) text).steps ≡ 0 → (number : ℕ) × (read_step text ≡ Err number)
front-bad most text h none = by-line (read_step text) refl (subst (λ (f : Front). length f.steps ≡ 0) (front-next most text) none)
  where
    by-line : (a : Result StepLine ℕ) → read_step text ≡ a → length (line_then a (front_of most (drop (line_length a) text))).steps ≡ 0 → (number : ℕ) × (read_step text ≡ Err number)
    by-line (Err number) e z = (number, e)
    by-line (Ok good) e z = absurd (omega arith)

-- ---- a batch's answers as text

last-append : (s : State) (run more : List Next) → last_state s (run ++ more) ≡ last_state (last_state s run) more
unfolding last_state
last-append s [] more = refl
last-append s (next ∷ run) more = last-append next.state run more

answers-append : (run more : List Next) → answers_text (run ++ more) ≡ answers_text run ++ answers_text more
unfolding answers_text
answers-append [] more = refl
answers-append (next ∷ run) more = ap (λ (x : List ℕ). answer_text next.answer ++ x) (answers-append run more) ∙ sym (append_assoc (answer_text next.answer) (answers_text run) (answers_text more))

entries-answers : (run : List Next) → entries_text (map entry_of run) ≡ answers_text run
unfolding entries_text answers_text
entries-answers [] = refl
entries-answers (next ∷ run) = ap (λ (x : List ℕ). answer_text next.answer ++ x) (entries-answers run)

run_length : (list : RuleList) (s : State) (steps : List Step) → length (run_of list s steps) ≡ length steps
unfolding run_of
run_length list s [] = refl
run_length list s (step ∷ steps) = ap suc (run_length list (step_of list s step).state steps)

module _ (list : RuleList) (s : State) (batch : Batch) (steps : List Step) (ran : BatchRun) (e : ran ≡ batch_run list s batch) (q : batch_steps batch ≡ steps) where
  ran-state : ran.state ≡ last_state s (run_of list s steps)
  unfolding batch_run
  ran-state = ap (λ (r : BatchRun). r.state) e ∙ ap (λ (l : List Step). last_state s (run_of list s l)) q

  ran-text : batch.length ≡ length steps → entries_text (take batch.length ran.entries) ≡ answers_text (run_of list s steps)
  unfolding batch_run
  ran-text number =
      let run : List Next = run_of list s (batch_steps batch) in
      let counted : batch.length ≡ length (map entry_of run) = number ∙ ap length (sym q) ∙ sym (run_length list s (batch_steps batch)) ∙ sym (length-map run entry_of) in
      ap (λ (r : BatchRun). entries_text (take batch.length r.entries)) e
      ∙ ap (λ (n : ℕ). entries_text (take n (map entry_of run ++ drop (length (batch_steps batch)) unanswered))) counted
      ∙ ap entries_text (take-append_seam (map entry_of run) (drop (length (batch_steps batch)) unanswered))
      ∙ entries-answers run ∙ ap (λ (l : List Step). answers_text (run_of list s l)) q

-- ---- a turn of the loop over the batches

module _ {list : RuleList} {s₀ : State} {text l₀ : List ℕ} {at : ℕ} {l : List ℕ} {state : State} {remaining : List ℕ} {place : ℕ}
    (v : Answering list s₀ text l₀ at l state remaining place) (h : 0 < length remaining) (read : BatchRead) (reads : ReadsFront remaining read) where
  abbrev front : Front
  front = front_of 32 remaining

  pub batch-stop : read.batch.length ≡ 0 → Wrote l₀ at (answers_text (text_run list s₀ text)) place l × (state ≡ last_state s₀ (text_run list s₀ text))
  batch-stop none =
      let bad = front-bad 31 remaining h (sym reads.number ∙ none) in
      answers-stop v h (read_step remaining) refl bad.0 bad.1

  module _ (some : read.batch.length ≡ 0 → ⊥) where
    on : Continued list state remaining v.bound (front_of 32 remaining)
    on = front-run 32 v.bound list state remaining v.enough

    pub batch-fits : read.length ≤ length remaining
    batch-fits = rw reads.bytes on.within

    pub batch-less : length (take (length remaining - read.length) (drop read.length remaining)) < length remaining
    batch-less =
        let positive : 0 < (front_of 32 remaining).bytes = front-some 32 remaining (omega (arith, reads.number, some)) in
        rw (rest remaining read.length) (omega (arith, length-drop read.length remaining, reads.bytes, batch-fits))

    pub batch-turn : (ran : BatchRun) → ran ≡ batch_run list state read.batch
        → {place' : ℕ} {l' : List ℕ} → Wrote l place (entries_text (take read.batch.length ran.entries)) place' l'
        → Answering list s₀ text l₀ at l' ran.state (take (length remaining - read.length) (drop read.length remaining)) place'
    batch-turn ran e {place'} {l'} w = record {
      bound = on.further;
      enough = rw left_over on.enough;
      room = v.room;
      within = next-most w;
      same = puts.same_length w ∙ v.same;
      left = λ r m z.
          v.left r m
          (like (ap answers_text on.whole ∙ answers-append run later)
          (then (omega (arith, v.same, v.room))
          (like (sym (ran-text list state read.batch front.steps ran e reads.steps reads.number)) w)
          (like (ap answers_text (sym later_same)) z)));
      last =
          ap₂ last_state state-same later_same ∙ sym (last-append state run later) ∙ ap (last_state state) (sym on.whole) ∙ v.last;
    }
      where
        run : List Next
        run = run_of list state front.steps

        later : List Next
        later = run_from on.further list (last_state state run) (drop front.bytes remaining)

        left_over : take (length remaining - read.length) (drop read.length remaining) ≡ drop front.bytes remaining
        left_over = rest remaining read.length ∙ ap (λ (n : ℕ). drop n remaining) reads.bytes

        state-same : ran.state ≡ last_state state run
        state-same = ran-state list state read.batch front.steps ran e reads.steps

        later_same : run_from on.further list ran.state (take (length remaining - read.length) (drop read.length remaining)) ≡ later
        later_same = ap₂ (λ (s : State) (u : List ℕ). run_from on.further list s u) state-same left_over
