-- What the program's response says of its input, and when the lent space is too short. Assumes nothing.
use mathlib.Core.Path.{◌≡◌, refl, sym, ap, ◌∙◌, subst}
use mathlib.Core.Bool.{Bool, true, false, cond, false≢true}
use mathlib.Core.List.{List, []}
use mathlib.Core.Logic.{◌↔◌}
use Prim.Native.Nat.{ℕ, ◌+◌, ◌≤◌, ◌<◌}
use native.Mathlib.Omega.{arith}
use lib.ListN.{length, drop}
use lib.Dec.{leb, ltb}
use borrow.Author.Tests.{lt-ltb, le-leb, lt-leb, leb-false, ltb-true}
use Rattle.forms.specs.Writing.{written_of}
use Rattle.std.specs.Prelude.{Result, Ok, Err}
use Rattle.rules.specs.Acceptance.{list_accepted}
use Rattle.rules.specs.declared.lists.RuleList.{RuleList}
use Rattle.steps.specs.declared.steps.Step.{Step}
use Rattle.rule_text.specs.Lines.{next_line}
use Rattle.rule_text.specs.Reading.{read_lines, list_of, prefix_of}
use Rattle.rule_text.proofs.Back.{prefix-accepted}
use Rattle.step_text.specs.Lines.{StepsRead, steps, bad, read_steps}
use Rattle.texts.specs.Response.{starts_steps, Outcome, bad_at, ran, steps_outcome, number_without_steps, after_rules, outcome_of, response_of}
use Rattle.texts.proofs.Responding.{number_small, response-short}

-- ---- 18

module _ (input lent : List ℕ) where
  pub refused-18 : (written_of (response_of input) lent ≡ Err 18) ↔ (length lent < length (response_of input))
  unfolding written_of
  refused-18 = (forth (leb (length (response_of input)) (length lent)) refl, λ h. rw (lt-leb (length (response_of input)) (length lent) h))
    where
      forth : (b : Bool) → leb (length (response_of input)) (length lent) ≡ b → cond {A = Result ℕ ℕ} b (Ok (length (response_of input))) (Err 18) ≡ Err 18 → length lent < length (response_of input)
      forth true e h = cc
      forth false e h = leb-false _ _ e

  -- "with 131,072 bytes of room never 18"
  pub never-18 : 131072 ≤ length lent → written_of (response_of input) lent ≡ Ok (length (response_of input))
  unfolding written_of
  never-18 h = rw (le-leb (length (response_of input)) (length lent) (omega (arith, response-short input)))

-- ---- 19, and what is never run

abbrev is_late : Outcome → Bool
is_late (bad_at number line) = ltb number 19
is_late (ran list read) = true

late-after : (input : List ℕ) → is_late (after_rules (read_lines input) (drop (read_lines input).length input)) ≡ true
unfolding after_rules
late-after input = go (starts_steps (drop (read_lines input).length input)) (read_steps 1 (drop 8 (drop (read_lines input).length input)))
  where
    go : (b : Bool) (r : StepsRead)
        → is_late (cond b (steps_outcome (list_of (read_lines input).rights (read_lines input).rules) (next_line (read_lines input).rights (read_lines input).rules) r) (bad_at (number_without_steps (read_lines input).number) (next_line (read_lines input).rights (read_lines input).rules))) ≡ true
    go false r = lt-ltb (number_without_steps (read_lines input).number) 19 (omega (arith, number_small input))
    go true (steps read) = unfold steps_outcome in refl
    go true (bad k) = unfold steps_outcome in refl

-- 19 is answered where the input is longer than 65,536 bytes, and only there
pub refused-19 : (input : List ℕ) (line : ℕ) → (outcome_of input ≡ bad_at 19 line) ↔ ((65536 < length input) × (line ≡ 0))
unfolding outcome_of
refused-19 input line = (forth (ltb 65536 (length input)) refl, λ h. rw (lt-ltb 65536 (length input) h.0, h.1))
  where
    line_of : Outcome → ℕ
    line_of (bad_at number k) = k
    line_of (ran list read) = 0

    late : is_late (bad_at 19 line) ≡ false
    late = refl

    forth : (b : Bool) → ltb 65536 (length input) ≡ b → cond b (bad_at 19 0) (after_rules (read_lines input) (drop (read_lines input).length input)) ≡ bad_at 19 line
        → (65536 < length input) × (line ≡ 0)
    forth true e h = (ltb-true _ _ e, sym (ap line_of h))
    forth false e h = absurd (false≢true (sym late ∙ sym (ap is_late h) ∙ late-after input))

-- the list that steps run under is one that 40 does not refuse
pub ran-accepted : (input : List ℕ) (list : RuleList) (read : List Step) → outcome_of input ≡ ran list read → list_accepted list ≡ true
unfolding outcome_of after_rules
ran-accepted input list read e =
    go (ltb 65536 (length input)) (starts_steps (drop (read_lines input).length input)) (read_steps 1 (drop 8 (drop (read_lines input).length input))) e
  where
    is_ran : Outcome → Bool
    is_ran (bad_at number line) = false
    is_ran (ran l r) = true

    list_run : Outcome → RuleList
    list_run (bad_at number line) = list_of [] []
    list_run (ran l r) = l

    accepted : list_accepted (list_of (read_lines input).rights (read_lines input).rules) ≡ true
    accepted = unfold prefix_of in prefix-accepted input

    go : (x y : Bool) (r : StepsRead)
        → cond x (bad_at 19 0) (cond y (steps_outcome (list_of (read_lines input).rights (read_lines input).rules) (next_line (read_lines input).rights (read_lines input).rules) r) (bad_at (number_without_steps (read_lines input).number) (next_line (read_lines input).rights (read_lines input).rules))) ≡ ran list read
        → list_accepted list ≡ true
    go true y r h = absurd (false≢true (ap is_ran h))
    go false false r h = absurd (false≢true (ap is_ran h))
    go false true (bad k) h = absurd (false≢true (ap is_ran (sym (bad-outcome k) ∙ h)))
      where
        bad-outcome : (k : ℕ) → steps_outcome (list_of (read_lines input).rights (read_lines input).rules) (next_line (read_lines input).rights (read_lines input).rules) (bad k) ≡ bad_at 10 (next_line (read_lines input).rights (read_lines input).rules + k)
        bad-outcome k = unfold steps_outcome in refl
    go false true (steps s) h = subst (λ (l : RuleList). list_accepted l ≡ true) (ap list_run (sym ran-outcome ∙ h)) accepted
      where
        ran-outcome : steps_outcome (list_of (read_lines input).rights (read_lines input).rules) (next_line (read_lines input).rights (read_lines input).rules) (steps s) ≡ ran (list_of (read_lines input).rights (read_lines input).rules) s
        ran-outcome = unfold steps_outcome in refl
