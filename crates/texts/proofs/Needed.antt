-- THEOREMS on 18: its place is the length that the space needs, and with just that room the space is not refused.
-- Assumes nothing.
use mathlib.Core.Path.{◌≡◌, refl, sym, ap, ◌∙◌}
use mathlib.Core.Bool.{Bool, true, false, cond}
use mathlib.Core.List.{List}
use Prim.Native.Nat.{ℕ, ◌≤◌, ◌<◌}
use native.Mathlib.Omega.{arith}
use lib.ListN.{length}
use lib.Dec.{eqb, leb}
use borrow.Author.Tests.{le-leb, leb-false, eqb-true}
use Rattle.rules.specs.declared.lists.RuleList.{RuleList}
use Rattle.steps.specs.declared.steps.Step.{Step}
use Rattle.enforcement.specs.Gate.{run_of}
use Rattle.enforcement.specs.Runs.{last_state}
use Rattle.enforcement.specs.declared.states.State.{State}
use Rattle.rule_text.specs.Reading as rule_text
use Rattle.rule_text.specs.Writing.{text_of}
use Rattle.rule_text.specs.Reading.{LoadedRules}
use Rattle.rule_text.proofs.Loaded.{loaded-list}
use Rattle.rule_text.proofs.Back.{write-back}
use Rattle.state_text.specs.Reading.{Loading, loaded, refused, read_state}
use Rattle.state_text.specs.Saving.{saved_text}
use Rattle.state_text.proofs.RoundTrips as state
use Rattle.state_text.proofs.Rows.{unequal}
use Rattle.step_text.specs.Answers.{answers_text}
use Rattle.texts.specs.SavedRuns.{refused_in, state_under, rules_first, load_texts, rules_in, refused_report, written_report, output_report, list_report, rules_copy_report, saved_report, copy_report, SavedOutcome, saved_outcome, answers_of, state_of, run_report}
use Rattle.texts.specs.Causes.{RunsSaved, RunRefused, short_answers, short_state}
use Rattle.texts.specs.declared.saved_runs.Text.{Text}
use Rattle.texts.specs.SavedRuns.{Report}
use Rattle.texts.proofs.SavedCauses.{saved-refused, saved-written, saved-runs}

-- ---- a text into a space

-- what is reported of a text and its space: what is written where it fits, and else 18 of the space with the text's length
module _ (space : Text) (written : Report) (some : written.number ≡ 0) (text : List ℕ) where
  abbrev reported : ℕ → Report
  reported room = cond (leb (length text) room) written (refused_report space 18 (length text))

  needed : (room place : ℕ) → reported room ≡ refused_report space 18 place → (place ≡ length text) × (room < place) × (reported place ≡ written)
  needed room place e = go (leb (length text) room) refl e
    where
      go : (b : Bool) → leb (length text) room ≡ b → cond b written (refused_report space 18 (length text)) ≡ refused_report space 18 place
          → (place ≡ length text) × (room < place) × (reported place ≡ written)
      go true q h = absurd (omega (arith, some, ap (λ (r : Report). r.number) h))
      go false q h =
          let same : length text ≡ place = ap (λ (r : Report). r.place) h in
          (sym same, omega (arith, same, leb-false (length text) room q), rw (le-leb (length text) place (omega (arith, same))))

-- the output of the program's function
pub output-needed : (text : List ℕ) (room place : ℕ) → output_report text room ≡ refused_report Text.OutputSpace 18 place
    → (place ≡ length text) × (room < place) × (output_report text place ≡ written_report (length text) 0)
unfolding output_report
output-needed text room place e = needed Text.OutputSpace (written_report (length text) 0) refl text room place e

-- a saved state
pub saved-needed : (text : List ℕ) (room place : ℕ) → saved_report text room ≡ refused_report Text.StateSpace 18 place
    → (place ≡ length text) × (room < place) × (saved_report text place ≡ written_report 0 (length text))
unfolding saved_report
saved-needed text room place e = needed Text.StateSpace (written_report 0 (length text)) refl text room place e

-- a copy of a rule list: as many bytes as the list itself
module _ (rules : List ℕ) where
  abbrev read : LoadedRules
  read = rule_text.loaded_of (rule_text.read_lines rules)

  pub rules-needed : (room place : ℕ) → rules_copy_report (rule_text.loaded_of (rule_text.read_lines rules)) room ≡ refused_report Text.OutputSpace 18 place
      → (place ≡ length rules) × (room < place) × (rules_copy_report (rule_text.loaded_of (rule_text.read_lines rules)) place ≡ written_report (length rules) 0)
  unfolding list_report
  rules-needed room place e = go (eqb read.number 0) refl e
    where
      go : (b : Bool) → eqb read.number 0 ≡ b
          → cond b (output_report (text_of read.list) room) (refused_report Text.Rules read.number read.line) ≡ refused_report Text.OutputSpace 18 place
          → (place ≡ length rules) × (room < place) × (cond b (output_report (text_of read.list) place) (refused_report Text.Rules read.number read.line) ≡ written_report (length rules) 0)
      go true q h =
          let whole : text_of (rules_in rules) ≡ rules = write-back rules (rules_in rules) (loaded-list (rule_text.read_lines rules) (eqb-true read.number 0 q)) in
          let same = output-needed (text_of read.list) room place h in
          (same.0 ∙ ap length whole, same.1, same.2 ∙ ap (λ (t : List ℕ). written_report (length t) 0) whole)
      go false q h = let other : Text.Rules ≡ Text.OutputSpace = ap (λ (r : Report). r.text) h in unequal cc

-- a copy of a saved state: as many bytes as the saved text itself
module _ (rules saved : List ℕ) where
  pub copy-needed : (room place : ℕ) → copy_report (load_texts rules saved) room ≡ refused_report Text.StateSpace 18 place
      → (place ≡ length saved) × (room < place) × (copy_report (load_texts rules saved) place ≡ written_report 0 (length saved))
  unfolding copy_report load_texts rules_first state_under
  copy-needed room place e = go (eqb (read rules).number 0) (read_state (rules_in rules) saved) refl e
    where
      go : (b : Bool) (l : Loading) → read_state (rules_in rules) saved ≡ l
          → copy_report (cond b (state_under (rules_in rules) l) (refused_in Text.Rules (read rules).number (read rules).line)) room ≡ refused_report Text.StateSpace 18 place
          → (place ≡ length saved) × (room < place)
          × (copy_report (cond b (state_under (rules_in rules) l) (refused_in Text.Rules (read rules).number (read rules).line)) place ≡ written_report 0 (length saved))
      go true (loaded s) p h =
          let whole : saved_text s ≡ saved = state.write-back (rules_in rules) saved s p in
          let same = saved-needed (saved_text s) room place h in
          (same.0 ∙ ap length whole, same.1, same.2 ∙ ap (λ (t : List ℕ). written_report 0 (length t)) whole)
      go true (refused number line) p h = let other : Text.State ≡ Text.StateSpace = ap (λ (r : Report). r.text) h in unequal cc
      go false l p h = let other : Text.Rules ≡ Text.StateSpace = ap (λ (r : Report). r.text) h in unequal cc

-- ---- steps over a saved state

module _ (rules saved text : List ℕ) where
  answered : {list : RuleList} {s : State} {given : List Step} → RunsSaved rules saved text list s given → length (answers_of (saved_outcome rules saved text)) ≡ length (answers_text (run_of list s given))
  unfolding answers_of
  answered {list} {s} {given} runs = ap (λ (o : SavedOutcome). length (answers_of o)) ((saved-runs rules saved text list s given).1 runs)

  left : {list : RuleList} {s : State} {given : List Step} → RunsSaved rules saved text list s given → length (state_of (saved_outcome rules saved text)) ≡ length (saved_text (last_state s (run_of list s given)))
  unfolding state_of
  left {list} {s} {given} runs = ap (λ (o : SavedOutcome). length (state_of o)) ((saved-runs rules saved text list s given).1 runs)

  -- the answers: no space of that size is too short for them
  pub answers-needed : (answers_room state_room place : ℕ) → run_report (saved_outcome rules saved text) answers_room state_room ≡ refused_report Text.OutputSpace 18 place
      → (place ≡ length (answers_of (saved_outcome rules saved text))) × (answers_room < place)
      × ((room number n : ℕ) → run_report (saved_outcome rules saved text) place room ≡ refused_report Text.OutputSpace number n → ⊥)
  answers-needed answers_room state_room place e = go place ((saved-refused rules saved text answers_room state_room Text.OutputSpace 18 place).0 e)
    where
      long-enough : (n room number m : ℕ) → length (answers_of (saved_outcome rules saved text)) ≤ n → RunRefused rules saved text n room Text.OutputSpace number m → ⊥
      long-enough n room number m h (short_answers list s given runs long) = omega (arith, h, long, answered runs)

      go : (n : ℕ) → RunRefused rules saved text answers_room state_room Text.OutputSpace 18 n
          → (n ≡ length (answers_of (saved_outcome rules saved text))) × (answers_room < n)
          × ((room number m : ℕ) → run_report (saved_outcome rules saved text) n room ≡ refused_report Text.OutputSpace number m → ⊥)
      go n (short_answers list s given runs long) = (
        sym (answered runs),
        long,
        λ room number m h. long-enough n room number m (omega (arith, answered runs)) ((saved-refused rules saved text n room Text.OutputSpace number m).0 h),
      )

  -- the state: with the same space for the answers nothing is refused
  pub state-needed : (answers_room state_room place : ℕ) → run_report (saved_outcome rules saved text) answers_room state_room ≡ refused_report Text.StateSpace 18 place
      → (place ≡ length (state_of (saved_outcome rules saved text))) × (state_room < place)
      × (run_report (saved_outcome rules saved text) answers_room place ≡ written_report (length (answers_of (saved_outcome rules saved text))) place)
  state-needed answers_room state_room place e = go place ((saved-refused rules saved text answers_room state_room Text.StateSpace 18 place).0 e)
    where
      go : (n : ℕ) → RunRefused rules saved text answers_room state_room Text.StateSpace 18 n
          → (n ≡ length (state_of (saved_outcome rules saved text))) × (state_room < n)
          × (run_report (saved_outcome rules saved text) answers_room n ≡ written_report (length (answers_of (saved_outcome rules saved text))) n)
      go n (short_state list s given runs fits long) = (
        sym (left runs),
        long,
        (saved-written rules saved text answers_room n (length (answers_of (saved_outcome rules saved text))) n).1
            (record {
              list = list;
              start = s;
              given = given;
              runs = runs;
              answered = answered runs;
              left = refl;
              answers_fit = omega (arith, fits, answered runs);
              state_fits = omega arith;
            }),
      )
