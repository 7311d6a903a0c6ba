-- A state handed over: steps run at one end, the state written, and more steps run at the other end from what was written, are one run
-- over all of them. And a copy of a saved state or of a rule list is the same bytes.
-- Assumes nothing.
use mathlib.Core.Path.{◌≡◌, refl, sym, ap, ◌∙◌, subst}
use mathlib.Core.Bool.{Bool, true, false, cond}
use mathlib.Core.List.{List, [], ◌∷◌, ◌++◌, append_assoc}
use Prim.Native.Nat.{ℕ, ◌≤◌}
use native.Mathlib.Omega.{arith}
use lib.ListN.{length, length-append}
use lib.Dec.{eqb, ltb}
use borrow.Author.Tests.{ltb-false}
use Rattle.rules.specs.Acceptance.{list_accepted}
use Rattle.rules.specs.declared.lists.RuleList.{RuleList}
use Rattle.enforcement.specs.Gate.{step_of, run_of}
use Rattle.enforcement.specs.Runs.{last_state}
use Rattle.enforcement.specs.Reached.{Reached, read, stepped}
use Rattle.enforcement.specs.declared.states.State.{State}
use Rattle.steps.specs.declared.steps.Step.{Step}
use Rattle.enforcement.specs.declared.states.Next.{Next}
use Rattle.enforcement.proofs.Callers.{run-append}
use Rattle.enforcement.proofs.Reaching.{Good, reached-good}
use Rattle.rule_text.specs.Reading as rule_text
use Rattle.rule_text.specs.Writing.{text_of}
use Rattle.rule_text.proofs.Loaded.{loaded-list}
use Rattle.rule_text.proofs.Back as rule_back
use Rattle.state_text.specs.Reading.{Loading, loaded, refused, read_state}
use Rattle.state_text.specs.Saving.{saved_text}
use Rattle.state_text.proofs.RoundTrips.{write-back, read-accepted, good-back}
use Rattle.state_text.proofs.Rows.{unequal}
use Rattle.step_text.specs.Lines.{StepsRead, steps, bad, read_steps}
use Rattle.step_text.specs.Answers.{answer_text, answers_text}
use Rattle.step_text.proofs.Causes.{steps-joined}
use Rattle.texts.specs.SavedRuns.{Texts, holding, refused_in, state_under, rules_first, load_texts, rules_in, state_in, SavedOutcome, ran_from, refused_at, steps_under, steps_after, saved_outcome, answers_of, state_of}
use Rattle.texts.specs.declared.saved_runs.Text.TheVariants as Text
use Rattle.texts.proofs.SavedRunning.{texts-held}

-- ---- what was held

record Held (rules saved : List ℕ) (list : RuleList) (s : State) : Type 0 where
  rules_read : eqb (rule_text.loaded_of (rule_text.read_lines rules)).number 0 ≡ true
  same_list : rules_in rules ≡ list
  state_read : read_state (rules_in rules) saved ≡ loaded s

module _ (rules saved : List ℕ) where
  held : (list : RuleList) (s : State) → load_texts rules saved ≡ holding list s → Held rules saved list s
  unfolding load_texts rules_first state_under
  held list s h = by-rules (eqb (rule_text.loaded_of (rule_text.read_lines rules)).number 0) refl (read_state (rules_in rules) saved) refl h
    where
      by-rules : (b : Bool) → eqb (rule_text.loaded_of (rule_text.read_lines rules)).number 0 ≡ b → (l : Loading) → read_state (rules_in rules) saved ≡ l
          → cond b (state_under (rules_in rules) l) (refused_in Text.Rules (rule_text.loaded_of (rule_text.read_lines rules)).number (rule_text.loaded_of (rule_text.read_lines rules)).line) ≡ holding list s
          → Held rules saved list s
      by-rules true e (loaded x) q h = record { rules_read = e; same_list = cc; state_read = q ∙ ap loaded cc }
      by-rules true e (refused number place) q h = unequal cc
      by-rules false e l q h = unequal cc

  holds-again : (list : RuleList) (s : State) → Held rules saved list s → load_texts rules saved ≡ holding list s
  unfolding load_texts rules_first state_under
  holds-again list s h = rw (h.rules_read, h.state_read) (ap (λ (l : RuleList). holding l s) h.same_list)

-- "accepted .. saved texts come back byte for byte": what a copy holds is what was handed in
pub copied-same : (rules saved : List ℕ) (list : RuleList) (s : State) → load_texts rules saved ≡ holding list s → state_in (load_texts rules saved) ≡ saved
unfolding state_in
copied-same rules saved list s h = rw h (write-back (rules_in rules) saved s (held rules saved list s h).state_read)

-- and so of a rule list
pub copied-rules-same : (rules : List ℕ) → (rule_text.read_rules rules).number ≡ 0 → text_of (rules_in rules) ≡ rules
copied-rules-same rules h = rule_back.write-back rules (rules_in rules) (loaded-list (rule_text.read_lines rules) h)

-- ---- what ran

record RanMeans (rules saved text : List ℕ) (list : RuleList) (s : State) (given : List Step) : Type 0 where
  short : length text ≤ 65536
  texts : load_texts rules saved ≡ holding list s
  steps_read : read_steps 1 text ≡ steps given

ran-means : (rules saved text : List ℕ) (list : RuleList) (s : State) (given : List Step) → saved_outcome rules saved text ≡ ran_from list s given → RanMeans rules saved text list s given
unfolding saved_outcome steps_after steps_under
ran-means rules saved text list s given h = by_length (ltb 65536 (length text)) refl h
  where
    by-steps : (l : RuleList) (x : State) → load_texts rules saved ≡ holding l x → length text ≤ 65536 → (r : StepsRead) → read_steps 1 text ≡ r → steps_under l x r ≡ ran_from list s given
        → RanMeans rules saved text list s given
    by-steps l x t e (steps r) q h = record { short = e; texts = t ∙ same_texts; steps_read = q ∙ ap steps same_steps }
      where
        same_texts : holding l x ≡ holding list s
        same_texts = let p : l ≡ list = cc in let q : x ≡ s = cc in rw (p, q)

        same_steps : r ≡ given
        same_steps = cc
    by-steps l x t e (bad line) q h = unequal cc

    by-texts : length text ≤ 65536 → (t : Texts) → load_texts rules saved ≡ t → steps_after t text ≡ ran_from list s given → RanMeans rules saved text list s given
    by-texts e (holding l x) t h = by-steps l x t e (read_steps 1 text) refl h
    by-texts e (refused_in refused_text number place) t h = unequal cc

    by_length : (b : Bool) → ltb 65536 (length text) ≡ b → cond b (refused_at Text.Steps 19 0) (steps_after (load_texts rules saved) text) ≡ ran_from list s given → RanMeans rules saved text list s given
    by_length true e h = unequal cc
    by_length false e h = by-texts (ltb-false 65536 (length text) e) (load_texts rules saved) refl h

-- ---- two runs, one after the other

module _ (list : RuleList) where
  reached-last : (Read : State → Type 0) (s : State) (a : List Step) → Reached list Read s → Reached list Read (last_state s (run_of list s a))
  unfolding run_of last_state
  reached-last Read s [] h = h
  reached-last Read s (step ∷ a) h = reached-last Read (step_of list s step).state a (stepped step h)

  -- what the last step hands back is as good as the state at the start
  good-last : list_accepted list ≡ true → (s : State) (a : List Step) → Good list s → Good list (last_state s (run_of list s a))
  good-last listed s a good =
      reached-good list listed (λ (x : State). s ≡ x) (λ x e. subst (Good list) e good) (reached-last (λ (x : State). s ≡ x) s a (read refl))

answers-append : (x y : List Next) → answers_text (x ++ y) ≡ answers_text x ++ answers_text y
unfolding answers_text
answers-append [] y = refl
answers-append (next ∷ x) y = ap (λ (t : List ℕ). answer_text next.answer ++ t) (answers-append x y) ∙ sym (append_assoc (answer_text next.answer) (answers_text x) (answers_text y))

last-append : (s : State) (x y : List Next) → last_state s (x ++ y) ≡ last_state (last_state s x) y
unfolding last_state
last-append s [] y = refl
last-append s (next ∷ x) y = last-append next.state x y

module _ (rules saved first : List ℕ) (list : RuleList) (s : State) (a : List Step) (h : saved_outcome rules saved first ≡ ran_from list s a) where
  abbrev after : State
  after = last_state s (run_of list s a)

  ran_first : RanMeans rules saved first list s a
  ran_first = ran-means rules saved first list s a h

  -- what one end writes the other reads: the same rules, and the state after the last step
  pub state-handed-over : load_texts rules (state_of (saved_outcome rules saved first)) ≡ holding list after
  unfolding state_of
  state-handed-over =
      let there = held rules saved list s ran_first.texts in
      let listed : list_accepted list ≡ true = subst (λ (l : RuleList). list_accepted l ≡ true) there.same_list (rule_back.read-accepted rules) in
      let good : Good list s = subst (λ (l : RuleList). Good l s) there.same_list (read-accepted (rules_in rules) saved s there.state_read) in
      rw h
      (holds-again rules (saved_text after) list after
      (record {
        rules_read = there.rules_read;
        same_list = there.same_list;
        state_read = ap (λ (l : RuleList). read_state l (saved_text after)) there.same_list ∙ good-back list listed after (good-last list listed s a good);
      }))

  module _ (second : List ℕ) (b : List Step) (read_second : read_steps 1 second ≡ steps b) where
    goes_on : length second ≤ 65536 → saved_outcome rules (state_of (saved_outcome rules saved first)) second ≡ ran_from list after b
    goes_on short =
        texts-held rules (state_of (saved_outcome rules saved first)) second short state-handed-over ∙ ap (steps_under list after) read_second ∙ unfold steps_under in refl

    -- and the two runs are one: the gate's run over all the steps, however many
    pub handed-over : length second ≤ 65536
        → (answers_of (saved_outcome rules saved first) ++ answers_of (saved_outcome rules (state_of (saved_outcome rules saved first)) second) ≡ answers_text (run_of list s (a ++ b)))
        × (state_of (saved_outcome rules (state_of (saved_outcome rules saved first)) second) ≡ saved_text (last_state s (run_of list s (a ++ b))))
    unfolding answers_of state_of
    handed-over short =
        let two = goes_on short in (
          ap (λ (o : SavedOutcome). answers_of o ++ answers_of (saved_outcome rules (state_of (saved_outcome rules saved first)) second)) h
              ∙ ap (λ (o : SavedOutcome). answers_text (run_of list s a) ++ answers_of o) two
              ∙ sym (ap answers_text (run-append list s a b) ∙ answers-append (run_of list s a) (run_of list after b)),
          ap state_of two ∙ sym (ap (λ (run : List Next). saved_text (last_state s run)) (run-append list s a b) ∙ ap saved_text (last-append s (run_of list s a) (run_of list after b))),
        )

    -- which is, where it is short enough, the run over the one text and then the other
    pub handed-over-as-one : length (first ++ second) ≤ 65536
        → (answers_of (saved_outcome rules saved (first ++ second)) ≡ answers_of (saved_outcome rules saved first) ++ answers_of (saved_outcome rules (state_of (saved_outcome rules saved first)) second))
        × (state_of (saved_outcome rules saved (first ++ second)) ≡ state_of (saved_outcome rules (state_of (saved_outcome rules saved first)) second))
    unfolding answers_of state_of
    handed-over-as-one short =
        let whole : read_steps 1 (first ++ second) ≡ steps (a ++ b) = steps-joined 1 1 1 first second a b ran_first.steps_read read_second in
        let one : saved_outcome rules saved (first ++ second) ≡ ran_from list s (a ++ b) =
        texts-held rules saved (first ++ second) short ran_first.texts ∙ ap (steps_under list s) whole ∙ unfold steps_under in refl in
        let both = handed-over (omega (arith, length-append first second)) in
        (ap answers_of one ∙ sym both.0, ap state_of one ∙ sym both.1)
