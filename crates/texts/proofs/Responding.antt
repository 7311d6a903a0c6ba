-- The response, as the code puts it together; and how long it can be. Assumes nothing.
use mathlib.Core.Path.{◌≡◌, refl, sym, ap, ◌∙◌, subst}
use mathlib.Core.Bool.{Bool, true, false, cond}
use mathlib.Core.List.{List, []}
use mathlib.Core.Logic.{◌⊎◌, inl, inr}
use Prim.Native.Nat.{ℕ, zero, suc, ◌+◌, ◌-◌, ◌≤◌, ◌<◌}
use native.Mathlib.Omega.{arith}
use lib.ListN.{length, take, drop, length-append, length-drop}
use lib.Dec.{eqb, ltb}
use borrow.Author.Tests.{lt-ltb, le-ltb, eq-eqb, ne_eqb, eqb-true, ltb-false}
use Rattle.std.specs.Prelude.{Option, Some, None}
use Rattle.forms.specs.Numbers.{is_digit}
use Rattle.forms.specs.Kinds.{is_slot, kind_of, lookup}
use Rattle.forms.specs.Forms.{text_by, item_text, fill}
use Rattle.forms.specs.Tables.{found_form, lines_in, form_at, found, distinct}
use Rattle.forms.specs.declared.tables.Found.{Found}
use Rattle.forms.proofs.Finding.{found-hits, answered-some, answered-none}
use Rattle.forms.proofs.Turns.{rest}
use Rattle.rules.specs.declared.lists.RuleList.{RuleList}
use Rattle.enforcement.specs.States.{fresh}
use Rattle.enforcement.specs.declared.states.State.{State}
use Rattle.enforcement.proofs.Kept.{fresh-accepted}
use Rattle.rule_text.specs.Causes.{Cause}
use Rattle.std.specs.Prelude.{Option, Some, None}
use Rattle.std.specs.Option.{unwrap_or}
use Rattle.std.specs.Prelude.{is_some}
use Rattle.rule_text.specs.Refusals.{refusal_number, number_if}
use Rattle.rule_text.specs.declared.refusals.Refusal.{Refusal}
use Rattle.rule_text.specs.declared.refusals.Refusal.TheVariants.{NoForm}
use Rattle.rule_text.proofs.Loaded.{refusal-number}
use Rattle.rule_text.specs.Reading.{PrefixRead, LinesRead, read_lines, list_of, prefix_of}
use Rattle.rule_text.specs.Lines.{lines_text, next_line}
use Rattle.rule_text.proofs.RightLists.{lines-few}
use Rattle.rule_text.proofs.Lists.{reads_lines, cause-number}
use Rattle.state_text.proofs.Rows.{unequal}
use Rattle.step_text.specs.Lines.{StepsRead, steps, bad, read_steps, bad_line}
use Rattle.step_text.specs.Answers.{bad_text, answers_text}
use Rattle.step_text.specs.Running.{text_run}
use Rattle.step_text.proofs.Runs.{Runs, answers-run}
use Rattle.step_text.proofs.Sizes.{Sized, sized, answers-short, bad-short}
use Rattle.texts.specs.Response.{steps_form, starts_steps, bad_at, steps_outcome, number_without_steps, after_rules, outcome_of, outcome_text, response_of}

-- ---- the line `(steps)`

pub steps-distinct : distinct (lines_in steps_form) ≡ true
unfolding steps_form lines_in is_slot kind_of lookup is_digit
steps-distinct = refl

pub steps-one : length (lines_in steps_form) ≡ 1
unfolding steps_form lines_in
steps-one = refl

steps-long : (values : List ℕ) → length (fill (form_at steps_form 0) values) ≡ 8
unfolding steps_form form_at lines_in fill item_text text_by is_slot kind_of lookup
steps-long values = refl

-- where it stands there is room for it
pub starts-room : (text : List ℕ) → starts_steps text ≡ true → 8 ≤ length text
unfolding starts_steps
starts-room text h =
    let hits = found-hits steps_form text steps-distinct in
    let zero-form = eqb-true (found steps_form text).form 0 h in
    let less : (found steps_form text).form < length (lines_in steps_form) = omega (arith, steps-one) in
    let exact : (found steps_form text).length ≡ 8 =
    hits.exact less ∙ ap (λ (k : ℕ). length (fill (form_at steps_form k) (found steps_form text).values)) zero-form ∙ steps-long (found steps_form text).values in
    omega (arith, hits.short)

-- ---- the steps

module _ (list : RuleList) (line : ℕ) (text : List ℕ) (b : Option ℕ) (e : b ≡ bad_line (read_steps 1 text)) where
  pub steps-answered : (s : State) → s ≡ fresh → b ≡ None → outcome_text (steps_outcome list line (read_steps 1 text)) ≡ answers_text (text_run list s text)
  unfolding steps_outcome outcome_text
  steps-answered s f z =
      go (read_steps 1 text) (answers-run 1 list fresh text) (sym e ∙ z) ∙ ap (λ (x : State). answers_text (text_run list x text)) (sym f)
    where
      go : (r : StepsRead) → Runs list fresh (text_run list fresh text) r → bad_line r ≡ None → outcome_text (steps_outcome list line r) ≡ answers_text (text_run list fresh text)
      go (steps read) runs q = ap answers_text (sym runs)
      go (bad k) runs q = unequal cc

  pub steps-refused : (k : ℕ) → b ≡ Some k → outcome_text (steps_outcome list line (read_steps 1 text)) ≡ bad_text 10 (line + k)
  unfolding steps_outcome outcome_text
  steps-refused k n = go (read_steps 1 text) (sym e ∙ n)
    where
      go : (r : StepsRead) → bad_line r ≡ Some k → outcome_text (steps_outcome list line r) ≡ bad_text 10 (line + k)
      go (steps read) q = unequal cc
      go (bad j) q = let same : j ≡ k = cc in rw same

  pub bad-most : (k : ℕ) → b ≡ Some k → k ≤ length text
  bad-most k n = go (read_steps 1 text) (sized text) (sym e ∙ n)
    where
      go : (r : StepsRead) → Sized 1 text r → bad_line r ≡ Some k → k ≤ length text
      go (steps read) w q = unequal cc
      go (bad j) w q = let same : j ≡ k = cc in omega arith

-- ---- the rights and rules before them

-- at most six lines of rights, 128 of rules, and the line after them
pub line-most : (input : List ℕ) → next_line (read_lines input).rights (read_lines input).rules ≤ 135
line-most input =
    let good = (reads_lines input).good in
    omega (arith, lines-few (read_lines input).rights, good.kinds, good.few)

pub lines-within : (input : List ℕ) → (read_lines input).length ≤ length input
lines-within input =
    let r = reads_lines input in
    omega (arith, r.bytes, ap length r.reads, length-append (lines_text (read_lines input).rights (read_lines input).rules) r.rest)

module _ (input : List ℕ) (prefix : PrefixRead) (e : prefix ≡ prefix_of (read_lines input)) where
  pub prefix-list : prefix.list ≡ list_of (read_lines input).rights (read_lines input).rules
  unfolding prefix_of
  prefix-list = ap (λ (p : PrefixRead). p.list) e

  pub prefix-line : prefix.line ≡ next_line (read_lines input).rights (read_lines input).rules
  unfolding prefix_of
  prefix-line = ap (λ (p : PrefixRead). p.line) e

  pub prefix-number : prefix.number ≡ (read_lines input).number
  unfolding prefix_of
  prefix-number = ap (λ (p : PrefixRead). p.number) e

  pub prefix-length : prefix.length ≡ (read_lines input).length
  unfolding prefix_of
  prefix-length = ap (λ (p : PrefixRead). p.length) e

  pub prefix-within : prefix.length ≤ length input
  prefix-within = omega (arith, prefix-length, lines-within input)

  pub remaining : take (length input - prefix.length) (drop prefix.length input) ≡ drop (read_lines input).length input
  remaining = rest input prefix.length ∙ ap (λ (n : ℕ). drop n input) prefix-length

-- the line `(steps)` is found or not
pub line-answered : (text : List ℕ) {answer : Option Found} {b : Bool} → answer ≡ found_form (found steps_form text) → b ≡ is_some answer → b ≡ starts_steps text
unfolding starts_steps
line-answered text {answer = Some f} told e =
    let there = answered-some steps_form text steps-distinct told in
    let first : (found steps_form text).form ≡ 0 = omega (arith, there.1, steps-one, ap (λ (x : Found). x.form) there.0) in
    e ∙ sym (eq-eqb _ 0 first)
line-answered text {answer = None} told e =
    let past = answered-none steps_form text steps-distinct told in
    e ∙ sym (ne_eqb _ 0 (λ first. omega (arith, first, past, steps-one)))

-- the number of the line where `(steps)` is missing
pub told_without_steps : (refusal : Option Refusal) {number : ℕ} → number ≡ refusal_number (unwrap_or refusal NoForm) → number ≡ number_without_steps (number_if refusal)
unfolding number_without_steps
told_without_steps None e = e
told_without_steps (Some refusal) e = e ∙ sym (rw (ne_eqb (refusal_number refusal) 0 (refusal-number refusal)))

-- ---- the whole response

pub too_long : (input : List ℕ) → 65536 < length input → response_of input ≡ bad_text 19 0
unfolding outcome_of outcome_text
too_long input h = rw (lt-ltb 65536 (length input) h)

pub not-too-long : (input : List ℕ) → length input ≤ 65536 → outcome_of input ≡ after_rules (read_lines input) (drop (read_lines input).length input)
unfolding outcome_of
not-too-long input h = rw (le-ltb 65536 (length input) h)

pub without-steps : (lines : LinesRead) (text : List ℕ) → starts_steps text ≡ false → after_rules lines text ≡ bad_at (number_without_steps lines.number) (next_line lines.rights lines.rules)
unfolding after_rules
without-steps lines text h = rw h

pub with-steps : (lines : LinesRead) (text : List ℕ) → starts_steps text ≡ true
    → after_rules lines text ≡ steps_outcome (list_of lines.rights lines.rules) (next_line lines.rights lines.rules) (read_steps 1 (drop 8 text))
unfolding after_rules
with-steps lines text h = rw h

module _ (input : List ℕ) (h : length input ≤ 65536) (prefix : PrefixRead) (e : prefix ≡ prefix_of (read_lines input))
    (l : List ℕ) (p : l ≡ take (length input - prefix.length) (drop prefix.length input)) where
  left : l ≡ drop (read_lines input).length input
  left = p ∙ remaining input prefix e

  pub response-without : (number : ℕ) → number ≡ number_without_steps prefix.number → starts_steps l ≡ false → response_of input ≡ bad_text number prefix.line
  unfolding outcome_text
  response-without number n f =
      ap outcome_text (not-too-long input h ∙ without-steps (read_lines input) (drop (read_lines input).length input) (subst (λ (x : List ℕ). starts_steps x ≡ false) left f))
      ∙ rw (n, prefix-number input prefix e, prefix-line input prefix e)

  pub response-with : (m : List ℕ) → m ≡ take (length l - 8) (drop 8 l) → starts_steps l ≡ true → response_of input ≡ outcome_text (steps_outcome prefix.list prefix.line (read_steps 1 m))
  response-with m q t =
      ap outcome_text (not-too-long input h ∙ with-steps (read_lines input) (drop (read_lines input).length input) (subst (λ (x : List ℕ). starts_steps x ≡ true) left t))
      ∙ rw (q, rest l 8, left, prefix-list input prefix e, prefix-line input prefix e)

-- ---- "with 131,072 bytes of room never 18"

steps-short : (list : RuleList) (line : ℕ) (text : List ℕ) → line ≤ 135 → length text ≤ 65536 → length (outcome_text (steps_outcome list line (read_steps 1 text))) ≤ 131072
unfolding steps_outcome outcome_text
steps-short list line text l h = go (read_steps 1 text) (sized text)
  where
    go : (r : StepsRead) → Sized 1 text r → length (outcome_text (steps_outcome list line r)) ≤ 131072
    go (steps read) w = omega (arith, answers-short list fresh read fresh-accepted)
    go (bad k) w = omega (arith, bad-short 10 (line + k) (omega arith) (omega arith))

pub number_small : (input : List ℕ) → number_without_steps (read_lines input).number < 15
unfolding number_without_steps
number_small input = go (reads_lines input).stops
  where
    small : (n : ℕ) → n < 15 → cond (eqb n 0) 10 n < 15
    small zero h = omega arith
    small (suc n) h = rw (ne_eqb (suc n) 0 (λ q. omega arith)) h

    go : (((read_lines input).number ≡ 0) × ((reads_lines input).rest ≡ [])) ⊎ ((0 < length (reads_lines input).rest) × Cause (read_lines input).rights (suc (length (read_lines input).rules)) (reads_lines input).rest (read_lines input).number)
        → cond (eqb (read_lines input).number 0) 10 (read_lines input).number < 15
    go (inl h) = small (read_lines input).number (omega (arith, h.0))
    go (inr h) = small (read_lines input).number (omega (arith, (cause-number h.1).1))

pub response-short : (input : List ℕ) → length (response_of input) ≤ 131072
unfolding outcome_of
response-short input = go (ltb 65536 (length input)) refl (starts_steps (drop (read_lines input).length input)) refl
  where
    line-short : (number line : ℕ) → number < 100 → line < 1000000 → length (outcome_text (bad_at number line)) ≤ 131072
    line-short number line h k = unfold outcome_text in omega (arith, bad-short number line h k)

    go : (x : Bool) → ltb 65536 (length input) ≡ x → (y : Bool) → starts_steps (drop (read_lines input).length input) ≡ y
        → length (outcome_text (cond x (bad_at 19 0) (after_rules (read_lines input) (drop (read_lines input).length input)))) ≤ 131072
    go true p y q = line-short 19 0 (omega arith) (omega arith)
    go false p true q =
        let short = steps-short (list_of (read_lines input).rights (read_lines input).rules) (next_line (read_lines input).rights (read_lines input).rules) (drop 8 (drop (read_lines input).length input))
        (line-most input)
        (omega (arith, ltb-false 65536 (length input) p, length-drop 8 (drop (read_lines input).length input), length-drop (read_lines input).length input)) in
        rw (with-steps (read_lines input) (drop (read_lines input).length input) q) short
    go false p false q =
        rw (without-steps (read_lines input) (drop (read_lines input).length input) q)
        (line-short (number_without_steps (read_lines input).number) (next_line (read_lines input).rights (read_lines input).rules) (omega (arith, number_small input)) (omega (arith, line-most input)))
