-- Steps over a saved state, as the code puts the parts together. Assumes nothing.
use mathlib.Core.Path.{◌≡◌, refl, sym, ap, ◌∙◌, subst⁻¹}
use mathlib.Core.Bool.{Bool, true, false, cond}
use mathlib.Core.List.{List, [], ◌∷◌, ◌++◌}
use Prim.Native.Nat.{ℕ, zero, suc, ◌≤◌, ◌<◌}
use native.Mathlib.Omega.{arith}
use lib.ListN.{length, take, drop}
use lib.Dec.{eqb, leb}
use borrow.Author.Tests.{lt-ltb, le-ltb, le-leb, lt-leb, leb-false, eqb-false, eq-eqb, ne_eqb}
use Rattle.std.specs.Prelude.{Option, Some, None}
use Rattle.rules.specs.Acceptance.{rules_of, list_accepted}
use Rattle.rules.specs.declared.lists.RuleList.{RuleList}
use Rattle.std.specs.Prelude.{Option, Some, None}
use Rattle.rules.specs.Lowest.{lowest}
use Rattle.enforcement.specs.States.{fresh, rule_holds, state_accepted}
use Rattle.enforcement.specs.Gate.{step_of, run_of}
use Rattle.enforcement.specs.Runs.{last_state}
use Rattle.enforcement.specs.Reached.{Accepted, Lending}
use Rattle.enforcement.specs.declared.states.State.{State}
use Rattle.steps.specs.declared.steps.Step.{Step}
use Rattle.enforcement.proofs.Reaching.{Good, step-accepted, step-lending}
use Rattle.rule_text.specs.Reading as rule_text
use Rattle.rule_text.specs.Reading.{LoadedRules}
use Rattle.state_text.specs.Reading.{Loading, loaded, refused, unless_broken, under_rules, read_lines, read_state}
use Rattle.state_text.specs.Saving.{saved_text, written_state, lent_state}
use Rattle.state_text.proofs.OwnCauses.{lines-number}
use Rattle.state_text.proofs.RoundTrips as state
use Rattle.state_text.proofs.Rows.{unequal}
use Rattle.state_text.proofs.WritingCauses.{written-length, lent_written, lent-refused}
use Rattle.step_text.specs.Lines.{StepsRead, steps, bad, read_steps, bad_line}
use Rattle.step_text.specs.Answers.{answers_text}
use Rattle.step_text.specs.Running.{text_run}
use Rattle.step_text.proofs.Runs.{Runs, answers-run}
use Rattle.step_text.proofs.Sizes.{Sized, sized, answers-short}
use Rattle.forms.specs.Writing.{Wrote, written_of}
use Rattle.std.specs.Prelude.{Result, Ok, Err}
use Rattle.forms.proofs.Puts.{measure, at_front}
use Rattle.texts.proofs.Copying.{kept_whole}
use Rattle.texts.specs.SavedRuns.{Texts, holding, refused_in, state_under, rules_first, load_texts, loaded_texts, rules_in, refused_report, written_report, lent_to, saved_report, state_in, copy_report, SavedOutcome, ran_from, refused_at, steps_under, steps_after, saved_outcome, answers_of, state_of, fitted, run_report, Ran}
use Rattle.texts.specs.declared.saved_runs.Text.{Text}
use Rattle.texts.specs.declared.saved_runs.LoadedTexts.{LoadedTexts}
use Rattle.texts.specs.SavedRuns.{Report}

-- ---- loading

-- the refusals of a saved state have numbers above 0
state-number : (list : RuleList) (text : List ℕ) (number place : ℕ) → read_state list text ≡ refused number place → 0 < number
unfolding read_state
state-number list text number place h = by-list (list_accepted list) h
  where
    by-lowest : (s : State) (low : Option ℕ) → unless_broken s low ≡ refused number place → 0 < number
    by-lowest s None e = unequal cc
    by-lowest s (Some n) e = let q : 17 ≡ number = cc in omega arith

    by_lines : (l : Loading) → read_lines text ≡ l → under_rules list l ≡ refused number place → 0 < number
    by_lines (loaded s) q e = by-lowest s (lowest (λ rule. rule_holds rule s) 1 (rules_of list)) e
    by_lines (refused n p) q e =
        let same : n ≡ number = cc in
        omega (arith, lines-number text n p q)

    by-list : (b : Bool) → cond b (under_rules list (read_lines text)) (refused 40 0) ≡ refused number place → 0 < number
    by-list true e = by_lines (read_lines text) refl e
    by-list false e = let q : 40 ≡ number = cc in omega arith

-- what a state's loading says of the texts
module _ (list : RuleList) (text : List ℕ) where
  pub state-refused : (number place : ℕ) → refused number place ≡ read_state list text
      → ◌≡◌ {A = LoadedTexts} (record { text = Text.State; number = number; place = place; list = list; state = fresh }) (loaded_texts list (state_under list (read_state list text)))
  unfolding state_under loaded_texts
  state-refused number place e = rw (← e)

  pub state-loaded : (s : State) → loaded s ≡ read_state list text
      → ◌≡◌ {A = LoadedTexts} (record { text = Text.None; number = 0; place = 0; list = list; state = s }) (loaded_texts list (state_under list (read_state list text)))
  unfolding state_under loaded_texts
  state-loaded s e = rw (← e)

  -- and put into the texts that hold the list and the fresh state
  module _ (x : LoadedTexts) (q : x ≡ loaded_texts list (holding list fresh)) where
    pub put-refused : (number place : ℕ) → refused number place ≡ read_state list text
        → ◌≡◌ {A = LoadedTexts} (record { text = Text.State; number = number; place = place; list = x.list; state = x.state }) (loaded_texts list (state_under list (read_state list text)))
    unfolding state_under loaded_texts
    put-refused number place e = rw q (state-refused number place e)

    pub put-loaded : (s : State) → loaded s ≡ read_state list text
        → ◌≡◌ {A = LoadedTexts} (record { text = x.text; number = x.number; place = x.place; list = x.list; state = s }) (loaded_texts list (state_under list (read_state list text)))
    unfolding state_under loaded_texts
    put-loaded s e = rw q (state-loaded s e)

-- what the rules' loading says of the texts
module _ (saved : List ℕ) (r : LoadedRules) where
  first_refused : (r.number ≡ 0 → ⊥)
      → ◌≡◌ {A = LoadedTexts} (record { text = Text.Rules; number = r.number; place = r.line; list = r.list; state = fresh }) (loaded_texts r.list (rules_first r saved))
  unfolding rules_first loaded_texts
  first_refused n = rw (ne_eqb r.number 0 n)

  first-loaded : r.number ≡ 0 → state_under r.list (read_state r.list saved) ≡ rules_first r saved
  unfolding rules_first
  first-loaded z = rw (eq-eqb r.number 0 z)

  module _ (rules : List ℕ) (e : r ≡ rule_text.loaded_of (rule_text.read_lines rules)) where
    pub rules-refused : (r.number ≡ 0 → ⊥)
        → ◌≡◌ {A = LoadedTexts} (record { text = Text.Rules; number = r.number; place = r.line; list = r.list; state = fresh }) (loaded_texts (rules_in rules) (load_texts rules saved))
    unfolding load_texts
    rules-refused n = first_refused n ∙ ap (λ (x : LoadedRules). loaded_texts x.list (rules_first x saved)) e

    pub rules-loaded : r.number ≡ 0 → {x : LoadedTexts} → x ≡ loaded_texts r.list (state_under r.list (read_state r.list saved))
        → x ≡ loaded_texts (rules_in rules) (load_texts rules saved)
    unfolding load_texts
    rules-loaded z {x} q = q ∙ ap (loaded_texts r.list) (first-loaded z) ∙ ap (λ (y : LoadedRules). loaded_texts y.list (rules_first y saved)) e

-- ---- what was loaded

module _ (rules saved : List ℕ) where
  -- the refusals have numbers above 0, and a state that was read is under the list that was read
  data Loads : Texts → Type 0 where
    is_holding : {s : State} → Good (rules_in rules) s → Loads (holding (rules_in rules) s)
    is_refused : {text : Text} {number place : ℕ} → 0 < number → Loads (refused_in text number place)

  loads : Loads (load_texts rules saved)
  unfolding load_texts rules_first
  loads = by-rules (eqb (rule_text.loaded_of (rule_text.read_lines rules)).number 0) refl
    where
      by_state : (l : Loading) → read_state (rules_in rules) saved ≡ l → Loads (state_under (rules_in rules) l)
      by_state (loaded s) q = unfold state_under in is_holding (state.read-accepted (rules_in rules) saved s q)
      by_state (refused number place) q = unfold state_under in is_refused (state-number (rules_in rules) saved number place q)

      some : (n : ℕ) → eqb n 0 ≡ false → 0 < n
      some zero e = absurd (eqb-false 0 0 e refl)
      some (suc n) e = omega arith

      by-rules : (b : Bool) → eqb (rule_text.loaded_of (rule_text.read_lines rules)).number 0 ≡ b
          → Loads (cond b (state_under (rules_in rules) (read_state (rules_in rules) saved)) (refused_in Text.Rules (rule_text.loaded_of (rule_text.read_lines rules)).number (rule_text.loaded_of (rule_text.read_lines rules)).line))
      by-rules true e = by_state (read_state (rules_in rules) saved) refl
      by-rules false e = is_refused (some _ e)

  module _ (r : LoadedTexts) (e : r ≡ loaded_texts (rules_in rules) (load_texts rules saved)) where
    pub loaded-refused : (r.number ≡ 0 → ⊥) → (load_texts rules saved ≡ refused_in r.text r.number r.place) × (0 < r.number)
    unfolding loaded_texts
    loaded-refused n = go (load_texts rules saved) loads e
      where
        go : (t : Texts) → Loads t → r ≡ loaded_texts (rules_in rules) t → (t ≡ refused_in r.text r.number r.place) × (0 < r.number)
        go (holding list s) h q = absurd (n (ap (λ (x : LoadedTexts). x.number) q))
        go (refused_in text number place) (is_refused some) q = (rw q, rw q some)

    pub loaded-holding : r.number ≡ 0 → (load_texts rules saved ≡ holding r.list r.state) × Good r.list r.state
    unfolding loaded_texts
    loaded-holding z = go (load_texts rules saved) loads e
      where
        go : (t : Texts) → Loads t → r ≡ loaded_texts (rules_in rules) t → (t ≡ holding r.list r.state) × Good r.list r.state
        go (holding _ s) (is_holding good) q = (rw q, rw q good)
        go (refused_in text number place) (is_refused some) q =
            let same : number ≡ 0 = sym (ap (λ (x : LoadedTexts). x.number) q) ∙ z in
            absurd (omega (arith, some))

-- ---- a refusal writes nothing

pub refused-lent : (r : Report) (text lent : List ℕ) → 0 < r.number → lent ≡ lent_to r text lent
unfolding lent_to
refused-lent r text lent some = rw (ne_eqb r.number 0 (λ z. omega (arith, some)))

pub written-lent : (r : Report) (text lent lent' : List ℕ) → r.number ≡ 0 → lent' ≡ text ++ drop (length text) lent → lent' ≡ lent_to r text lent
unfolding lent_to
written-lent r text lent lent' z e = e ∙ rw (eq-eqb r.number 0 z)

pub refused-ran : {outcome : SavedOutcome} {text : Text} {number place : ℕ} {r : Report} → outcome ≡ refused_at text number place → 0 < number → r ≡ refused_report text number place
    → (answers next : List ℕ) → Ran outcome answers next r answers next
unfolding run_report
refused-ran {outcome} {text} {number} {place} {r} o some e answers next =
    let above : 0 < r.number = rw e some in
    record {
      reported = rw (o, e);
      answered = refused-lent r (answers_of outcome) answers above;
      saved = refused-lent r (state_of outcome) next above;
    }

pub like-ran : {outcome other : SavedOutcome} {answers next : List ℕ} {r : Report} {answers' next' : List ℕ} → outcome ≡ other → Ran other answers next r answers' next'
    → Ran outcome answers next r answers' next'
like-ran {outcome} {other} {answers} {next} {r} {answers'} {next'} e v = subst⁻¹ (λ (o : SavedOutcome). Ran o answers next r answers' next') e v

-- ---- steps over texts that were loaded

module _ (rules saved text : List ℕ) where
  pub too_long : 65536 < length text → saved_outcome rules saved text ≡ refused_at Text.Steps 19 0
  unfolding saved_outcome
  too_long h = rw (lt-ltb 65536 (length text) h)

  module _ (h : length text ≤ 65536) where
    short : saved_outcome rules saved text ≡ steps_after (load_texts rules saved) text
    unfolding saved_outcome
    short = rw (le-ltb 65536 (length text) h)

    pub texts-refused : {refused_text : Text} {number place : ℕ} → load_texts rules saved ≡ refused_in refused_text number place → saved_outcome rules saved text ≡ refused_at refused_text number place
    texts-refused e = short ∙ ap (λ (t : Texts). steps_after t text) e ∙ unfold steps_after in refl

    pub texts-held : {list : RuleList} {s : State} → load_texts rules saved ≡ holding list s → saved_outcome rules saved text ≡ steps_under list s (read_steps 1 text)
    texts-held e = short ∙ ap (λ (t : Texts). steps_after t text) e ∙ unfold steps_after in refl

pub steps-refused : (list : RuleList) (s : State) (text : List ℕ) (b : Option ℕ) (k : ℕ) → b ≡ bad_line (read_steps 1 text) → b ≡ Some k → steps_under list s (read_steps 1 text) ≡ refused_at Text.Steps 10 k
unfolding steps_under
steps-refused list s text b k e n = go (read_steps 1 text) (sym e ∙ n)
  where
    go : (r : StepsRead) → bad_line r ≡ Some k → steps_under list s r ≡ refused_at Text.Steps 10 k
    go (steps read) q = unequal cc
    go (bad j) q = let same : j ≡ k = cc in rw same

-- a state that 40 does not refuse is refused by 18 alone
refused-short : (s : State) (lent : List ℕ) (number : ℕ) → state_accepted s ≡ true → written_state s lent ≡ Err number → length lent < length (saved_text s)
unfolding written_state written_of
refused-short s lent number accepted h = go (leb (length (saved_text s)) (length lent)) refl (rw accepted at h)
  where
    go : (b : Bool) → leb (length (saved_text s)) (length lent) ≡ b → cond {A = Result ℕ ℕ} b (Ok (length (saved_text s))) (Err 18) ≡ Err number → length lent < length (saved_text s)
    go true e q = unequal cc
    go false e q = leb-false (length (saved_text s)) (length lent) e

-- ---- a state's text into a lent space

module _ (s : State) (accepted : state_accepted s ≡ true) (lent : List ℕ) {lent' : List ℕ} (left : lent' ≡ lent_state s lent) {r : Report} where
  pub saved-refused : (number : ℕ) → Err number ≡ written_state s lent → {needed : ℕ} → needed ≡ length (saved_text s) → r ≡ refused_report Text.StateSpace 18 needed
      → (r ≡ saved_report (saved_text s) (length lent)) × (lent' ≡ lent_to r (saved_text s) lent)
  unfolding saved_report
  saved-refused number f measured e = (
    e ∙ rw (lt-leb (length (saved_text s)) (length lent) (refused-short s lent number accepted (sym f)), measured),
    left ∙ lent-refused s lent number (sym f) ∙ refused-lent r (saved_text s) lent (rw e (omega arith)),
  )

  pub saved-written : (n : ℕ) → Ok n ≡ written_state s lent → r ≡ written_report 0 n → (r ≡ saved_report (saved_text s) (length lent)) × (lent' ≡ lent_to r (saved_text s) lent)
  unfolding saved_report
  saved-written n f e =
      let fits = (written-length s lent n).0 (sym f) in (
        e ∙ rw (le-leb (length (saved_text s)) (length lent) fits.1, fits.2),
        written-lent r (saved_text s) lent lent' (rw e) (left ∙ lent_written s lent n (sym f) ∙ ap (λ (m : ℕ). saved_text s ++ drop m lent) fits.2),
      )

-- a saved state copied
pub copied : {t : Texts} {list : RuleList} {s : State} (lent : List ℕ) {lent' : List ℕ} {r : Report} → t ≡ holding list s → (r ≡ saved_report (saved_text s) (length lent)) × (lent' ≡ lent_to r (saved_text s) lent)
    → (r ≡ copy_report t (length lent)) × (lent' ≡ lent_to r (state_in t) lent)
unfolding copy_report state_in
copied lent e h = rw e h

pub uncopied : {t : Texts} {text : Text} {number place : ℕ} (lent : List ℕ) {r : Report} → (t ≡ refused_in text number place) × (0 < number) → r ≡ refused_report text number place
    → (r ≡ copy_report t (length lent)) × (lent ≡ lent_to r (state_in t) lent)
unfolding copy_report
uncopied {t} {text} {number} {place} lent {r} h e = (e ∙ rw h.0, refused-lent r (state_in t) lent (rw e h.1))

-- ---- the steps run

-- what the last step hands back is not refused by 40
pub last-accepted : (list : RuleList) (s : State) (read : List Step) → Accepted s → Accepted (last_state s (run_of list s read))
unfolding last_state run_of
last-accepted list s [] accepted = accepted
last-accepted list s (step ∷ read) accepted = last-accepted list (step_of list s step).state read (step-accepted list s step accepted)

-- and its loans run as they were lent, where they did at the start
pub last-lending : (list : RuleList) (s : State) (read : List Step) → Accepted s → Lending s → Lending (last_state s (run_of list s read))
unfolding last_state run_of
last-lending list s [] accepted lending = lending
last-lending list s (step ∷ read) accepted lending =
    last-lending list (step_of list s step).state read (step-accepted list s step accepted) (step-lending list s step accepted lending)

-- where every line is a step: the steps, what comes of the lines, and how long the answers are
record Steps (list : RuleList) (s : State) (text : List ℕ) : Type 0 where
  read : List Step
  outcome : steps_under list s (read_steps 1 text) ≡ ran_from list s read
  run : text_run list s text ≡ run_of list s read
  few : length (answers_text (run_of list s read)) ≤ 131072

all_steps : (list : RuleList) (s : State) (text : List ℕ) → length text ≤ 65536 → bad_line (read_steps 1 text) ≡ None → Accepted s → Steps list s text
unfolding steps_under
all_steps list s text h z accepted = go (read_steps 1 text) refl (answers-run 1 list s text) (sized text) z
  where
    go : (r : StepsRead) → read_steps 1 text ≡ r → Runs list s (text_run list s text) r → Sized 1 text r → bad_line r ≡ None → Steps list s text
    go (steps read) e runs w q =
        record { read = read; outcome = ap (steps_under list s) e; run = runs; few = omega (arith, answers-short list s read accepted, w) }
    go (bad k) e runs w q = unequal cc

module _ (list : RuleList) (s : State) (text : List ℕ) (h : length text ≤ 65536) (z : bad_line (read_steps 1 text) ≡ None) (accepted : Accepted s) where
  abbrev all : Steps list s text
  all = all_steps list s text h z accepted

  abbrev outcome : SavedOutcome
  outcome = steps_under list s (read_steps 1 text)

  abbrev answers_there : List ℕ
  answers_there = answers_text (text_run list s text)

  abbrev last : State
  last = last_state s (text_run list s text)

  last-good : state_accepted last ≡ true
  last-good = rw all.run (last-accepted list s all.read accepted).unrefused

  answers-few : length answers_there ≤ 131072
  answers-few = rw all.run all.few

  -- a space that has room for the answers keeps them
  pub kept-answers : {k k' : List ℕ} {place : ℕ} → Wrote k 0 answers_there place k' → place ≤ length k' → take place k' ≡ answers_there
  kept-answers w h = kept_whole (omega (arith, answers-few)) w h

  module _ (answers next : List ℕ) where
    ran : {r : Report} {answers' next' : List ℕ} → r ≡ fitted answers_there (saved_text last) (length answers) (length next) → answers' ≡ lent_to r answers_there answers → next' ≡ lent_to r (saved_text last) next
        → Ran outcome answers next r answers' next'
    unfolding run_report answers_of state_of
    ran e a n =
        record {
          reported = e ∙ rw (all.outcome, all.run);
          answered = a ∙ rw (all.outcome, all.run);
          saved = n ∙ rw (all.outcome, all.run);
        }

    -- the answers have no room
    pub no_room : {k k' : List ℕ} {place : ℕ} → Wrote k 0 answers_there place k' → length answers < place → {r : Report} → r ≡ refused_report Text.OutputSpace 18 place
        → Ran outcome answers next r answers next
    unfolding fitted
    no_room {place = place} w few {r} e =
        let needed : place ≡ length answers_there = measure (omega (arith, answers-few)) w in
        let long : length answers < length answers_there = omega (arith, needed) in
        let above : 0 < r.number = rw e (omega arith) in
        ran (e ∙ rw (lt-leb (length answers_there) (length answers) long, needed)) (refused-lent r answers_there answers above) (refused-lent r (saved_text last) next above)

    module _ {k k' : List ℕ} {place : ℕ} (w : Wrote k 0 answers_there place k') (enough : place ≤ length answers) (s' : State) (same : s' ≡ last) where
      room : length answers_there ≤ length answers
      room = omega (arith, measure (omega (arith, answers-few)) w)

      -- the state has no room
      pub no-state-room : {next' : List ℕ} (number : ℕ) → Err number ≡ written_state s' next → next' ≡ lent_state s' next → {needed : ℕ} → needed ≡ length (saved_text s')
          → {r : Report} → r ≡ refused_report Text.StateSpace 18 needed → Ran outcome answers next r answers next'
      unfolding fitted
      no-state-room {next'} number f n measured {r} e =
          let above : 0 < r.number = rw e (omega arith) in
          let unwritten = sym (f ∙ ap (λ (x : State). written_state x next) same) in
          let kept : next ≡ next' = sym (n ∙ ap (λ (x : State). lent_state x next) same ∙ lent-refused last next number unwritten) in
          ran
          (e ∙ rw (le-leb (length answers_there) (length answers) room, lt-leb (length (saved_text last)) (length next) (refused-short last next number last-good unwritten), measured, same))
          (refused-lent r answers_there answers above)
          (sym kept ∙ refused-lent r (saved_text last) next above)

      -- both are written
      pub both-written : {next' : List ℕ} (n : ℕ) → Ok n ≡ written_state s' next → next' ≡ lent_state s' next → {answers' : List ℕ} {place' : ℕ} → Wrote answers 0 answers_there place' answers'
          → {r : Report} → r ≡ written_report place' n → Ran outcome answers next r answers' next'
      unfolding fitted
      both-written {next'} n f lent {answers'} {place'} v {r} e =
          let there = sym (f ∙ ap (λ (x : State). written_state x next) same) in
          let fits = (written-length last next n).0 there in
          let zero_number : r.number ≡ 0 = rw e in
          ran
          (e ∙ rw (le-leb (length answers_there) (length answers) room, le-leb (length (saved_text last)) (length next) fits.1, measure (omega (arith, answers-few)) v, fits.2))
          (written-lent r answers_there answers answers' zero_number (at_front room v))
          (written-lent r (saved_text last) next next' zero_number
          (lent ∙ ap (λ (x : State). lent_state x next) same ∙ lent_written last next n there ∙ ap (λ (m : ℕ). saved_text last ++ drop m next) fits.2))
