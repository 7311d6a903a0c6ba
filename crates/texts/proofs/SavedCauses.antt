-- Steps over a saved state: a text or a space is reported with a number and a place exactly where it has that cause, each earlier cause
-- being absent; and else the steps run. Also: 131,072 bytes are enough for the answers.
-- Assumes nothing.
use mathlib.Core.Path.{◌≡◌, refl, sym, ap, ◌∙◌, subst}
use mathlib.Core.Bool.{Bool, true, false, cond}
use mathlib.Core.List.{List, [], ◌∷◌, ◌++◌, append-nil}
use mathlib.Core.Logic.{◌↔◌, ◌⊎◌, inl, inr, ⊎_elim}
use Prim.Native.Nat.{ℕ, suc, ◌-◌, ◌≤◌, ◌<◌}
use native.Mathlib.Omega.{arith}
use lib.ListN.{length, length-append}
use lib.Dec.{ltb, leb}
use borrow.Author.Tests.{lt-leb, le-leb, leb-true, leb-false, ltb-true, ltb-false, ne_eqb}
use Rattle.rules.specs.Acceptance.{rules_of, list_accepted}
use Rattle.rules.specs.declared.families.Rule.{Rule}
use Rattle.rules.specs.declared.rights.RightSlot.{RightSlot}
use Rattle.rules.specs.declared.lists.RuleList.{RuleList}
use Rattle.std.specs.Prelude.{Option, Some, None}
use Rattle.rules.specs.Lowest.{lowest}
use Rattle.enforcement.specs.States.{fresh, rule_holds}
use Rattle.enforcement.specs.Plain.{obeys}
use Rattle.enforcement.specs.Gate.{run_of}
use Rattle.enforcement.specs.Runs.{last_state}
use Rattle.enforcement.specs.Reached.{Good}
use Rattle.enforcement.specs.declared.states.State.{State}
use Rattle.steps.specs.declared.steps.Step.{Step}
use Rattle.rule_text.specs.Lines.{lines_text as rule_lines_text, filler}
use Rattle.rule_text.specs.Reading as rule_text
use Rattle.rule_text.specs.Causes as rule
use Rattle.rule_text.proofs.Loaded.{loaded-whole, loaded-zero, zero-or-some}
use Rattle.rule_text.proofs.Lists.{cause-some, reads_lines, reads_whole}
use Rattle.rule_text.proofs.Slots.{rules-of-list, list-accepted}
use Rattle.rule_text.proofs.Back.{first_bad}
use Rattle.state_text.specs.Reading.{Loading, loaded, refused, unless_broken, under_rules, read_lines, read_state}
use Rattle.state_text.specs.Entries.{line_text}
use Rattle.state_text.specs.Saving.{lines_of, lines_text, saved_text}
use Rattle.state_text.specs.declared.entries.Entry.TheVariants.{Now}
use Rattle.state_text.specs.Causes.{GoodText}
use Rattle.state_text.proofs.OwnCauses.{refused-10, refused-11, refused-15, refused-16, refused-51, refused-17, read-good}
use Rattle.state_text.proofs.Refusals.{read_whole, LineCause, no_form, out_of_range, out_of_order, unrested, thirty_third, OneBad, Comes, from-comes}
use Rattle.state_text.proofs.RoundTrips.{read-accepted}
use Rattle.state_text.proofs.Rows.{unequal}
use Rattle.state_text.proofs.Values.{line-some}
use Rattle.step_text.specs.Lines.{StepsRead, steps, bad, read_steps}
use Rattle.step_text.specs.Answers.{answers_text}
use Rattle.step_text.proofs.Causes.{steps-10}
use Rattle.step_text.proofs.Sizes.{Sized, sized, answers-short}
use Rattle.texts.specs.SavedRuns.{holding, refused_in, state_under, rules_first, load_texts, refused_report, written_report, SavedOutcome, ran_from, refused_at, steps_under, saved_outcome, answers_of, state_of, fitted, run_report}
use Rattle.texts.specs.Causes.{RulesThen, StateCause, state_no_form, state_out_of_range, state_out_of_order, state_unrested, state_thirty_third, state_breaks, TextsHold, RunsSaved, RunWritten, RunRefused, long_steps, bad_rules, bad_state, bad_steps, short_answers, short_state}
use Rattle.texts.specs.declared.saved_runs.Text.{Text}
use Rattle.texts.specs.SavedRuns.{Report}
use Rattle.texts.proofs.SavedRunning.{too_long, texts-refused, texts-held}

-- ---- the rules

rules-hold : (rules : List ℕ) (rights : List RightSlot) (read : List Rule) → RulesThen rules rights read []
    → rule_text.loaded_of (rule_text.read_lines rules) ≡ record { number = 0; line = 0; list = rule_text.list_of rights read }
rules-hold rules rights read then =
    ap rule_text.loaded_of (ap rule_text.read_lines (then.reads ∙ append-nil (rule_lines_text rights read)) ∙ reads_whole rights read then.good)
    ∙ loaded-whole (record { rights = rights; rules = read; length = length (rule_lines_text rights read); number = 0 }) refl

rules-held : (rules : List ℕ) → (rule_text.loaded_of (rule_text.read_lines rules)).number ≡ 0 → RulesThen rules (rule_text.read_lines rules).rights (rule_text.read_lines rules).rules []
rules-held rules none = go (reads_lines rules).stops
  where
    rights : List RightSlot
    rights = (rule_text.read_lines rules).rights

    read : List Rule
    read = (rule_text.read_lines rules).rules

    go : (((rule_text.read_lines rules).number ≡ 0) × ((reads_lines rules).rest ≡ [])) ⊎ ((0 < length (reads_lines rules).rest) × rule.Cause rights (suc (length read)) (reads_lines rules).rest (rule_text.read_lines rules).number)
        → RulesThen rules rights read []
    go (inl stop) = record { good = (reads_lines rules).good; reads = (reads_lines rules).reads ∙ ap (λ (t : List ℕ). rule_lines_text rights read ++ t) stop.1 }
    go (inr stop) = absurd (omega (arith, loaded-zero (rule_text.read_lines rules) none, cause-some stop.1))

module _ (rules saved : List ℕ) where
  load-bad : (number n : ℕ) → 0 < number → rule.FirstBad rules number n → load_texts rules saved ≡ refused_in Text.Rules number n
  unfolding load_texts rules_first
  load-bad number n some first =
      let answer = (first_bad rules number n some).1 first in
      rw (answer.0, ne_eqb number 0 (λ e. omega arith), answer.1)

  pub load-state : (rights : List RightSlot) (read : List Rule) → RulesThen rules rights read []
      → load_texts rules saved ≡ state_under (rule_text.list_of rights read) (read_state (rule_text.list_of rights read) saved)
  unfolding load_texts rules_first
  load-state rights read then = rw (rules-hold rules rights read then)

-- ---- the saved state

lowest-some : (test : Rule → Bool) (m : ℕ) (rules : List Rule) (n : ℕ) → 0 < m → lowest test m rules ≡ Some n → 0 < n
unfolding lowest
lowest-some test m [] n h e = unequal cc
lowest-some test m (rule ∷ rules) n h e = go (test rule) (lowest-some test (suc m) rules n (omega arith)) e
  where
    go : (b : Bool) → (lowest test (suc m) rules ≡ Some n → 0 < n) → cond b (lowest test (suc m) rules) (Some m) ≡ Some n → 0 < n
    go true later e = later e
    go false later e = let same : m ≡ n = cc in omega arith

line-numbers : (text : List ℕ) (number place : ℕ) → read_lines text ≡ refused number place → (number ≡ 10) ⊎ ((number ≡ 11) ⊎ ((number ≡ 15) ⊎ ((number ≡ 16) ⊎ (number ≡ 51))))
unfolding read_lines
line-numbers [] number place e = inl cc
line-numbers (c ∷ t) number place e =
    let one : OneBad 1 0 fresh (c ∷ t) number place = subst (Comes 1 0 fresh (c ∷ t)) (sym (read_whole (c ∷ t) (omega arith)) ∙ e) (from-comes (length (c ∷ t)) 1 0 fresh (c ∷ t) (omega arith)) in
    go _ _ _ one.cause
  where
    go : (next : ℕ) (s : State) (rest : List ℕ) → LineCause next s rest number → (number ≡ 10) ⊎ ((number ≡ 11) ⊎ ((number ≡ 15) ⊎ ((number ≡ 16) ⊎ (number ≡ 51))))
    go next s rest (no_form q h) = inl q
    go next s rest (out_of_range q h) = inr (inl q)
    go next s rest (out_of_order q h) = inr (inr (inl q))
    go next s rest (unrested q h) = inr (inr (inr (inl q)))
    go next s rest (thirty_third q h) = inr (inr (inr (inr q)))

module _ (rights : List RightSlot) (read : List Rule) (good : rule.GoodLines rights read) (saved : List ℕ) where
  abbrev list : RuleList
  list = rule_text.list_of rights read

  listed : list_accepted list ≡ true
  listed = list-accepted rights read good

  same-rules : rules_of list ≡ read
  same-rules = rules-of-list rights read good.few

  state-caused : {number place : ℕ} → StateCause read saved number place → read_state list saved ≡ refused number place
  state-caused (state_no_form n b) = (refused-10 list saved listed n).1 b
  state-caused (state_out_of_range n b) = (refused-11 list saved listed n).1 b
  state-caused (state_out_of_order n b) = (refused-15 list saved listed n).1 b
  state-caused (state_unrested n b) = (refused-16 list saved listed n).1 b
  state-caused (state_thirty_third n b) = (refused-51 list saved listed n).1 b
  state-caused (state_breaks s n good less fails holds) =
      (refused-17 list saved listed filler n).1 (s, good, rw same-rules less, rw same-rules fails, λ k l. rw same-rules (holds k l))

  breaks-says : (n : ℕ) → read_state list saved ≡ refused 17 (suc n) → StateCause read saved 17 (suc n)
  breaks-says n e =
      let why = (refused-17 list saved listed filler n).0 e in
      state_breaks why.0 n why.1 (rw same-rules at why.2) (rw same-rules at why.3) (λ k l. rw same-rules at (why.4 k l))

  line-says : (number place : ℕ) → read_state list saved ≡ refused number place → (number ≡ 10) ⊎ ((number ≡ 11) ⊎ ((number ≡ 15) ⊎ ((number ≡ 16) ⊎ (number ≡ 51)))) → StateCause read saved number place
  line-says number place e (inl q) = rw q (state_no_form place ((refused-10 list saved listed place).0 (rw q at e)))
  line-says number place e (inr (inl q)) = rw q (state_out_of_range place ((refused-11 list saved listed place).0 (rw q at e)))
  line-says number place e (inr (inr (inl q))) = rw q (state_out_of_order place ((refused-15 list saved listed place).0 (rw q at e)))
  line-says number place e (inr (inr (inr (inl q)))) = rw q (state_unrested place ((refused-16 list saved listed place).0 (rw q at e)))
  line-says number place e (inr (inr (inr (inr q)))) = rw q (state_thirty_third place ((refused-51 list saved listed place).0 (rw q at e)))

  state-says : (number place : ℕ) → read_state list saved ≡ refused number place → StateCause read saved number place
  unfolding read_state
  state-says number place e = by_lines (read_lines saved) refl (rw listed at e)
    where
      by-lowest : (s : State) (low : Option ℕ) → lowest (λ rule. rule_holds rule s) 1 (rules_of list) ≡ low → unless_broken s low ≡ refused number place → StateCause read saved number place
      by-lowest s None q h = unequal cc
      by-lowest s (Some n) q h =
          let p : 17 ≡ number = cc in
          let at : n ≡ place = cc in
          let some = lowest-some (λ rule. rule_holds rule s) 1 (rules_of list) n (omega arith) q in
          let next : place ≡ suc (place - 1) = omega arith in
          rw (← p, next) (breaks-says (place - 1) (rw (← p, next) at e))

      by_lines : (l : Loading) → read_lines saved ≡ l → under_rules list l ≡ refused number place → StateCause read saved number place
      by_lines (loaded s) q h = by-lowest s (lowest (λ rule. rule_holds rule s) 1 (rules_of list)) refl h
      by_lines (refused c p) q h =
          let same : c ≡ number = cc in
          line-says number place e (subst (λ (m : ℕ). (m ≡ 10) ⊎ ((m ≡ 11) ⊎ ((m ≡ 15) ⊎ ((m ≡ 16) ⊎ (m ≡ 51))))) same (line-numbers saved c p q))

  state-held : (s : State) → (read_state list saved ≡ loaded s) ↔ (GoodText saved s × (obeys read s ≡ true))
  state-held s = (λ e. (let good = (read-good list saved listed s).0 e in (good.0, rw same-rules at good.1)), λ h. (read-good list saved listed s).1 (h.0, rw same-rules h.1))

state-some : {rules : List Rule} {saved : List ℕ} {number place : ℕ} → StateCause rules saved number place → 0 < number
state-some (state_no_form n b) = omega arith
state-some (state_out_of_range n b) = omega arith
state-some (state_out_of_order n b) = omega arith
state-some (state_unrested n b) = omega arith
state-some (state_thirty_third n b) = omega arith
state-some (state_breaks s n good less fails holds) = omega arith

front-some : (x y : List ℕ) → 0 < length x → 0 < length (x ++ y)
front-some x y h = omega (arith, length-append x y)

-- a state's text has its first line
saved-some : (s : State) → 0 < length (saved_text s)
unfolding saved_text lines_of lines_text
saved-some s = front-some (line_text (Now s.time)) _ (line-some (Now s.time))

-- ---- what comes of the three texts has its cause

module _ (rules saved text : List ℕ) where
  abbrev Says : SavedOutcome → Type 0
  Says (refused_at refused_text number place) = (answers_room state_room : ℕ) → RunRefused rules saved text answers_room state_room refused_text number place
  Says (ran_from list s given) = RunsSaved rules saved text list s given

  module _ (short : length text ≤ 65536) where
    rules-say : 0 < (rule_text.loaded_of (rule_text.read_lines rules)).number → Says (saved_outcome rules saved text)
    rules-say some =
        let number = (rule_text.loaded_of (rule_text.read_lines rules)).number in
        let line = (rule_text.loaded_of (rule_text.read_lines rules)).line in
        let first = (first_bad rules number line some).0 (refl, refl) in
        subst Says (sym (texts-refused rules saved text short (load-bad rules saved number line some first))) (λ answers_room state_room. bad_rules number line short first)

    module _ (rights : List RightSlot) (read : List Rule) (then : RulesThen rules rights read []) where
      steps-say : (s : State) → TextsHold rules saved rights read s → (r : StepsRead) → read_steps 1 text ≡ r → Says (steps_under (rule_text.list_of rights read) s r)
      unfolding steps_under
      steps-say s holds (steps given) e = record { short = short; rights = rights; read = read; texts = holds; same = refl; all_steps = e }
      steps-say s holds (bad n) e = λ answers_room state_room. bad_steps rights read s n short holds ((steps-10 1 text n).0 e)

      state-say : (l : Loading) → read_state (rule_text.list_of rights read) saved ≡ l → Says (saved_outcome rules saved text)
      state-say (refused number place) e =
          let there : load_texts rules saved ≡ refused_in Text.State number place = load-state rules saved rights read then ∙ ap (state_under (rule_text.list_of rights read)) e ∙ unfold state_under in refl in
          subst Says (sym (texts-refused rules saved text short there))
          (λ answers_room state_room. bad_state rights read number place short then (state-says rights read then.good saved number place e))
      state-say (loaded s) e =
          let there : load_texts rules saved ≡ holding (rule_text.list_of rights read) s = load-state rules saved rights read then ∙ ap (state_under (rule_text.list_of rights read)) e ∙ unfold state_under in refl in
          let good = (state-held rights read then.good saved s).0 e in
          let holds : TextsHold rules saved rights read s = record { all_rules = then; all_lines = good.0; all_hold = good.1 } in
          subst Says (sym (texts-held rules saved text short there)) (steps-say s holds (read_steps 1 text) refl)

    short-says : ((rule_text.loaded_of (rule_text.read_lines rules)).number ≡ 0) ⊎ (0 < (rule_text.loaded_of (rule_text.read_lines rules)).number) → Says (saved_outcome rules saved text)
    short-says (inr some) = rules-say some
    short-says (inl none) =
        state-say (rule_text.read_lines rules).rights (rule_text.read_lines rules).rules (rules-held rules none)
        (read_state (rule_text.list_of (rule_text.read_lines rules).rights (rule_text.read_lines rules).rules) saved) refl

  says : Says (saved_outcome rules saved text)
  says = go (ltb 65536 (length text)) refl
    where
      go : (b : Bool) → ltb 65536 (length text) ≡ b → Says (saved_outcome rules saved text)
      go true e = let long = ltb-true _ _ e in subst Says (sym (too_long rules saved text long)) (λ answers_room state_room. long_steps long)
      go false e = short-says (ltb-false _ _ e) (zero-or-some (rule_text.loaded_of (rule_text.read_lines rules)).number)

  -- ---- and what has a cause comes so

  held-there : (rights : List RightSlot) (read : List Rule) (s : State) → length text ≤ 65536 → TextsHold rules saved rights read s
      → saved_outcome rules saved text ≡ steps_under (rule_text.list_of rights read) s (read_steps 1 text)
  held-there rights read s short holds =
      let then = holds.all_rules in
      let there : load_texts rules saved ≡ holding (rule_text.list_of rights read) s =
      load-state rules saved rights read then ∙ ap (state_under (rule_text.list_of rights read)) ((state-held rights read then.good saved s).1 (holds.all_lines, holds.all_hold)) ∙ unfold state_under in refl in
      texts-held rules saved text short there

  runs : {list : RuleList} {s : State} {given : List Step} → RunsSaved rules saved text list s given → saved_outcome rules saved text ≡ ran_from list s given
  unfolding steps_under
  runs {list} {s} {given} r =
      held-there r.rights r.read s r.short r.texts ∙ ap (steps_under (rule_text.list_of r.rights r.read) s) r.all_steps ∙ ap (λ (l : RuleList). ran_from l s given) (sym r.same)

  -- the steps run exactly where no text is refused
  pub saved-runs : (list : RuleList) (s : State) (given : List Step) → (saved_outcome rules saved text ≡ ran_from list s given) ↔ RunsSaved rules saved text list s given
  saved-runs list s given = (λ e. subst Says e says, runs)

  -- no number is 0
  refused-some : {answers_room state_room : ℕ} {refused_text : Text} {number place : ℕ} → RunRefused rules saved text answers_room state_room refused_text number place → 0 < number
  refused-some (long_steps h) = omega arith
  refused-some (bad_rules number n short first) = cause-some first.cause
  refused-some (bad_state rights read number place short then cause) = state-some cause
  refused-some (bad_steps rights read s n short holds first) = omega arith
  refused-some (short_answers list s given r long) = omega arith
  refused-some (short_state list s given r fits long) = omega arith

  module _ (answers_room state_room : ℕ) where
    abbrev report : Report
    report = run_report (saved_outcome rules saved text) answers_room state_room

    refused-text : {refused_text : Text} {number place : ℕ} → saved_outcome rules saved text ≡ refused_at refused_text number place → report ≡ refused_report refused_text number place
    refused-text e = ap (λ (o : SavedOutcome). run_report o answers_room state_room) e ∙ unfold run_report in refl

    ran-report : {list : RuleList} {s : State} {given : List Step} → RunsSaved rules saved text list s given
        → report ≡ fitted (answers_text (run_of list s given)) (saved_text (last_state s (run_of list s given))) answers_room state_room
    ran-report r = ap (λ (o : SavedOutcome). run_report o answers_room state_room) (runs r) ∙ unfold run_report answers_of state_of in refl

    caused : {refused_text : Text} {number place : ℕ} → RunRefused rules saved text answers_room state_room refused_text number place → report ≡ refused_report refused_text number place
    caused (long_steps h) = refused-text (too_long rules saved text h)
    caused (bad_rules number n short first) = refused-text (texts-refused rules saved text short (load-bad rules saved number n (cause-some first.cause) first))
    caused (bad_state rights read number place short then cause) =
        let there : load_texts rules saved ≡ refused_in Text.State number place =
        load-state rules saved rights read then ∙ ap (state_under (rule_text.list_of rights read)) (state-caused rights read then.good saved cause) ∙ unfold state_under in refl in
        refused-text (texts-refused rules saved text short there)
    caused (bad_steps rights read s n short holds first) =
        refused-text (held-there rights read s short holds ∙ ap (steps_under (rule_text.list_of rights read) s) ((steps-10 1 text n).1 first) ∙ unfold steps_under in refl)
    caused (short_answers list s given r long) =
        ran-report r ∙ unfold fitted in rw (lt-leb (length (answers_text (run_of list s given))) answers_room long)
    caused (short_state list s given r fits long) =
        ran-report r ∙ unfold fitted in rw (le-leb (length (answers_text (run_of list s given))) answers_room fits, lt-leb (length (saved_text (last_state s (run_of list s given)))) state_room long)

    abbrev Reported : Report → Type 0
    Reported r = RunRefused rules saved text answers_room state_room r.text r.number r.place

    module _ (list : RuleList) (s : State) (given : List Step) (there : RunsSaved rules saved text list s given) where
      abbrev answers_length : ℕ
      answers_length = length (answers_text (run_of list s given))

      abbrev state_length : ℕ
      state_length = length (saved_text (last_state s (run_of list s given)))

      -- what is reported of a run: a refusal, which leaves no state, or both lengths
      fitted-says : (r : Report) → cond (leb answers_length answers_room) (cond (leb state_length state_room) (written_report answers_length state_length) (refused_report Text.StateSpace 18 state_length)) (refused_report Text.OutputSpace 18 answers_length) ≡ r
          → (Reported r × (r.number ≡ 18)) ⊎ ((answers_length ≤ answers_room) × (state_length ≤ state_room) × (written_report answers_length state_length ≡ r))
      fitted-says r e = go (leb answers_length answers_room) refl (leb state_length state_room) refl e
        where
          go : (x : Bool) → leb answers_length answers_room ≡ x → (y : Bool) → leb state_length state_room ≡ y
              → cond x (cond y (written_report answers_length state_length) (refused_report Text.StateSpace 18 state_length)) (refused_report Text.OutputSpace 18 answers_length) ≡ r
              → (Reported r × (r.number ≡ 18)) ⊎ ((answers_length ≤ answers_room) × (state_length ≤ state_room) × (written_report answers_length state_length ≡ r))
          go false p y q h = inl (subst Reported h (short_answers list s given there (leb-false _ _ p)), ap (λ (x : Report). x.number) (sym h))
          go true p false q h = inl (subst Reported h (short_state list s given there (leb-true _ _ p) (leb-false _ _ q)), ap (λ (x : Report). x.number) (sym h))
          go true p true q h = inr (leb-true _ _ p, leb-true _ _ q, h)

    -- which text or space, number and place are reported, is its own cause
    pub saved-refused : (refused_text : Text) (number place : ℕ)
        → (run_report (saved_outcome rules saved text) answers_room state_room ≡ refused_report refused_text number place) ↔ RunRefused rules saved text answers_room state_room refused_text number place
    unfolding run_report answers_of state_of fitted
    saved-refused refused_text number place = (go (saved_outcome rules saved text) says, caused)
      where
        go : (o : SavedOutcome) → Says o → run_report o answers_room state_room ≡ refused_report refused_text number place → RunRefused rules saved text answers_room state_room refused_text number place
        go (refused_at other m p) said h = subst Reported h (said answers_room state_room)
        go (ran_from list s given) said h =
            ⊎_elim (λ refusal. refusal.0)
            (λ written. absurd (omega (arith, ap (λ (x : Report). x.state) written.2, saved-some (last_state s (run_of list s given)))))
            (fitted-says list s given said (refused_report refused_text number place) h)

    -- and the lengths are, exactly where nothing is refused
    pub saved-written : (answers state : ℕ)
        → (run_report (saved_outcome rules saved text) answers_room state_room ≡ written_report answers state) ↔ RunWritten rules saved text answers_room state_room answers state
    unfolding run_report answers_of state_of fitted
    saved-written answers state = (go (saved_outcome rules saved text) says, written)
      where
        go : (o : SavedOutcome) → Says o → run_report o answers_room state_room ≡ written_report answers state → RunWritten rules saved text answers_room state_room answers state
        go (refused_at other m p) said h = absurd (omega (arith, ap (λ (x : Report). x.number) h, refused-some (said answers_room state_room)))
        go (ran_from list s given) said h =
            ⊎_elim (λ refusal. absurd (omega (arith, refusal.1)))
            (λ fits.
            let same-answers : length (answers_text (run_of list s given)) ≡ answers = ap (λ (x : Report). x.output) fits.2 in
            let same-state : length (saved_text (last_state s (run_of list s given))) ≡ state = ap (λ (x : Report). x.state) fits.2 in
            record {
              list = list;
              start = s;
              given = given;
              runs = said;
              answered = sym same-answers;
              left = sym same-state;
              answers_fit = omega (arith, fits.0, same-answers);
              state_fits = omega (arith, fits.1, same-state);
            })
            (fitted-says list s given said (written_report answers state) h)

        written : RunWritten rules saved text answers_room state_room answers state → run_report (saved_outcome rules saved text) answers_room state_room ≡ written_report answers state
        written w =
            let answers_fit : length (answers_text (run_of w.list w.start w.given)) ≤ answers_room = omega (arith, w.answers_fit, w.answered) in
            let state_fits : length (saved_text (last_state w.start (run_of w.list w.start w.given))) ≤ state_room = omega (arith, w.state_fits, w.left) in
            ran-report w.runs ∙ rw (le-leb _ answers_room answers_fit, le-leb _ state_room state_fits, w.answered, w.left)

  -- ---- "with 131,072 bytes of room never 18"

  -- what the steps start from is good under the rules that were read
  pub start-good : {list : RuleList} {s : State} {given : List Step} (r : RunsSaved rules saved text list s given) → Good (rule_text.list_of r.rights r.read) s
  start-good {list} {s} {given} r =
      let then = r.texts.all_rules in
      read-accepted (rule_text.list_of r.rights r.read) saved s ((state-held r.rights r.read then.good saved s).1 (r.texts.all_lines, r.texts.all_hold))

  ran-short : (list : RuleList) (s : State) (given : List Step) → RunsSaved rules saved text list s given → length (answers_text (run_of list s given)) ≤ 131072
  ran-short list s given r =
      let lines : Sized 1 text (steps given) = subst (Sized 1 text) r.all_steps (sized text) in
      omega (arith, answers-short list s given (start-good r).accepted, lines, r.short)

  -- the answers to steps over a saved state have at most 131,072 bytes
  pub answers-most : length (answers_of (saved_outcome rules saved text)) ≤ 131072
  unfolding answers_of
  answers-most = go (saved_outcome rules saved text) says
    where
      go : (o : SavedOutcome) → Says o → length (answers_of o) ≤ 131072
      go (refused_at refused_text number place) said = omega arith
      go (ran_from list s given) said = ran-short list s given said

  -- so that a space of that size is never refused
  pub answers-room : (answers_room state_room : ℕ) → 131072 ≤ answers_room → (number place : ℕ) → RunRefused rules saved text answers_room state_room Text.OutputSpace number place → ⊥
  answers-room answers_room state_room h number place (short_answers list s given r long) = omega (arith, ran-short list s given r)
