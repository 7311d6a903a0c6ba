-- The loops over the lines of a text of steps: what a turn keeps. Assumes nothing.
use mathlib.Core.Path.{◌≡◌, refl, sym, ap, ◌∙◌, subst}
use mathlib.Core.Bool.{Bool, true, false, cond}
use mathlib.Core.List.{List, [], ◌∷◌}
use Prim.Native.Nat.{ℕ, zero, suc, ◌+◌, ◌-◌, ◌≤◌, ◌<◌}
use native.Mathlib.Numerals.{add-one}
use native.Mathlib.Omega.{arith}
use lib.ListN.{length, take, drop, length-drop}
use lib.Dec.{eqb}
use borrow.Author.Tests.{eqb-false}
use Rattle.std.specs.Prelude.{Option, Some, None, Result, Ok, Err}
use Rattle.forms.specs.Numbers.{is_digit}
use Rattle.forms.specs.Kinds.{is_slot, kind_of, lookup}
use Rattle.forms.specs.Tables.{lines_in, starts_from, starts_of, found, distinct}
use Rattle.forms.specs.Writing.{last_place, Wrote}
use Rattle.forms.proofs.Finding.{Hits, found-hits}
use Rattle.forms.proofs.Puts.{like, nothing_written}
use Rattle.forms.proofs.Turns.{rest}
use Rattle.rules.specs.declared.lists.RuleList.{RuleList}
use Rattle.enforcement.specs.Runs.{last_state}
use Rattle.enforcement.specs.declared.states.State.{State}
use Rattle.step_text.specs.Lines.{form_lines, step_forms, form_count, step_from, line_after, read_step, by_number, StepsRead, steps, bad, line_length, after, read_from, read_steps, bad_line}
use Rattle.step_text.specs.Answers.{answers_text}
use Rattle.step_text.specs.Running.{line_run, run_from, text_run}
use Rattle.step_text.specs.declared.lines.StepLine.{StepLine}

-- ---- the table: antt computes the tests

pub lines-right : lines_in step_forms ≡ form_lines
unfolding step_forms form_lines lines_in
lines-right = refl

pub forms-distinct : distinct (lines_in step_forms) ≡ true
unfolding form_lines is_slot kind_of lookup is_digit
forms-distinct = ap distinct lines-right

pub forms-counted : length (lines_in step_forms) ≡ form_count
unfolding form_lines
forms-counted = ap length lines-right

-- the index that the code has is the table's
abbrev pub step_starts : List ℕ
step_starts = 0 ∷ 13 ∷ 28 ∷ 40 ∷ 51 ∷ 62 ∷ 77 ∷ 94 ∷ 109 ∷ 120 ∷ 130 ∷ 143 ∷ 152 ∷ 162 ∷ 177 ∷ 192 ∷ 207 ∷ 227 ∷ 249 ∷ 268 ∷ 286 ∷ 308 ∷ 330 ∷ []

pub index-right : step_starts ≡ starts_of step_forms
unfolding form_lines starts_of
index-right = ap (λ (l : List (List ℕ)). starts_from 0 l) (sym lines-right)

-- ---- a good line has a byte at least, and no more than the text

abbrev Within : List ℕ → Result StepLine ℕ → Type 0
Within text (Ok line) = (0 < line.length) × (line.length ≤ length text)
Within text (Err number) = Unit {0}

pub below : (a b : ℕ) → a ≤ b → (a ≡ b → ⊥) → a < b
below a b l n = omega (arith, n)

line-within : (text : List ℕ) → Within text (read_step text)
unfolding read_step line_after
line-within text = go (eqb (found step_forms text).form form_count) refl (found-hits step_forms text forms-distinct)
  where
    go : (b : Bool) → eqb (found step_forms text).form form_count ≡ b → Hits step_forms text (found step_forms text)
        → Within text (cond b (Err 10) (Ok (record { step = step_from (found step_forms text).form (found step_forms text).values; length = (found step_forms text).length })))
    go true e h = tt
    go false e h =
        let less : (found step_forms text).form < length (lines_in step_forms) =
        below (found step_forms text).form (length (lines_in step_forms)) h.most (λ q. eqb-false (found step_forms text).form form_count e (q ∙ forms-counted)) in
        (h.some less, h.short)

pub good-within : (text : List ℕ) (a : Result StepLine ℕ) (line : StepLine) → a ≡ read_step text → a ≡ Ok line → (0 < line.length) × (line.length ≤ length text)
good-within text a line e g = subst (Within text) (sym e ∙ g) (line-within text)

-- ---- looking for the first bad line

pub record Check (text remaining : List ℕ) (line : ℕ) : Type 0 where
  pub bound : ℕ
  pub enough : length remaining ≤ bound
  pub few : line + length remaining ≤ 1 + length text
  pub same : bad_line (read_steps 1 text) ≡ bad_line (read_from bound line remaining)

pub check-start : (text : List ℕ) → Check text text 1
unfolding read_steps
check-start text = record { bound = length text; enough = omega arith; few = omega arith; same = refl }

-- one line and what follows it
pub read_next : (bound n : ℕ) (text : List ℕ) → 0 < length text
    → read_from (suc bound) n text ≡ after n (read_step text) (read_from bound (suc n) (drop (line_length (read_step text)) text))
unfolding read_from
read_next bound n [] h = absurd (omega arith)
read_next bound n (c ∷ text) h = refl

onto-bad : (n : ℕ) (line : StepLine) (r : StepsRead) → bad_line (after n (Ok line) r) ≡ bad_line r
onto-bad n line (steps list) = refl
onto-bad n line (bad k) = refl

-- a bound that leaves room for a line is one more than another
pub one_less : (n bound : ℕ) → 0 < n → n ≤ bound → bound ≡ suc (bound - 1)
one_less n bound h l = omega arith

module _ {text remaining : List ℕ} {line : ℕ} (v : Check text remaining line) (h : 0 < length remaining) (a : Option StepLine) (e : by_number a ≡ read_step remaining) where
  here : bad_line (read_steps 1 text) ≡ bad_line (after line (by_number a) (read_from (v.bound - 1) (suc line) (drop (line_length (by_number a)) remaining)))
  here =
      v.same
      ∙ ap (λ (n : ℕ). bad_line (read_from n line remaining)) (one_less (length remaining) v.bound h v.enough)
      ∙ ap bad_line (read_next (v.bound - 1) line remaining h)
      ∙ ap (λ (x : Result StepLine ℕ). bad_line (after line x (read_from (v.bound - 1) (suc line) (drop (line_length x) remaining)))) (sym e)

  pub check-stop : a ≡ None → Some line ≡ bad_line (read_steps 1 text)
  check-stop g =
      sym (here ∙ ap (λ (x : Result StepLine ℕ). bad_line (after line x (read_from (v.bound - 1) (suc line) (drop (line_length x) remaining)))) (ap by_number g))

  module _ (good : StepLine) (g : a ≡ Some good) where
    pub check-fits : good.length ≤ length remaining
    check-fits = (good-within remaining (by_number a) good e (ap by_number g)).1

    pub check-less : length (take (length remaining - good.length) (drop good.length remaining)) < length remaining
    check-less = rw (rest remaining good.length) (omega (arith, length-drop good.length remaining, good-within remaining (by_number a) good e (ap by_number g)))

    pub check-turn : Check text (take (length remaining - good.length) (drop good.length remaining)) (line + 1)
    check-turn = record {
      bound = v.bound - 1;
      enough = omega (arith, check-less, v.enough);
      few = omega (arith, check-less, v.few);
      same =
          here
          ∙ ap (λ (x : Result StepLine ℕ). bad_line (after line x (read_from (v.bound - 1) (suc line) (drop (line_length x) remaining)))) (ap by_number g)
          ∙ onto-bad line good (read_from (v.bound - 1) (suc line) (drop good.length remaining))
          ∙ rw (rest remaining good.length, add-one);
    }

pub check-end : {text remaining : List ℕ} {line : ℕ} → Check text remaining line → length remaining ≤ 0 → None ≡ bad_line (read_steps 1 text)
check-end {text} {remaining} {line} v h = sym (v.same ∙ go v.bound remaining h)
  where
    go : (bound : ℕ) (l : List ℕ) → length l ≤ 0 → bad_line (read_from bound line l) ≡ None
    go zero l k = unfold read_from in refl
    go (suc bound) [] k = unfold read_from in refl
    go (suc bound) (c ∷ l) k = absurd (omega arith)

-- ---- writing the answers: to write what is left is to have written it all, and its last state is that of all

pub record Answering (list : RuleList) (s₀ : State) (text l₀ : List ℕ) (at : ℕ) (l : List ℕ) (state : State) (remaining : List ℕ) (place : ℕ) : Type 0 where
  pub bound : ℕ
  pub enough : length remaining ≤ bound
  pub room : length l₀ ≤ last_place
  pub within : place ≤ last_place
  pub same : length l ≡ length l₀
  pub left : (r : ℕ) (l' : List ℕ) → Wrote l place (answers_text (run_from bound list state remaining)) r l' → Wrote l₀ at (answers_text (text_run list s₀ text)) r l'
  pub last : last_state state (run_from bound list state remaining) ≡ last_state s₀ (text_run list s₀ text)

pub answers-start : (list : RuleList) (s : State) (text l : List ℕ) (at : ℕ) → length l ≤ last_place → at ≤ last_place → Answering list s text l at l s text at
answers-start list s text l at m h = record {
  bound = length text;
  enough = omega arith;
  room = m;
  within = h;
  same = refl;
  left = λ r l' w. w;
  last = refl;
}

pub answers_next : (bound : ℕ) (list : RuleList) (s : State) (text : List ℕ) → 0 < length text
    → run_from (suc bound) list s text ≡ line_run list s (read_step text) (λ next. run_from bound list next (drop (line_length (read_step text)) text))
unfolding run_from
answers_next bound list s [] h = absurd (omega arith)
answers_next bound list s (c ∷ text) h = refl

text-none : answers_text [] ≡ []
unfolding answers_text
text-none = refl

last_none : (s : State) → last_state s [] ≡ s
unfolding last_state
last_none s = refl

-- where nothing is left to run, all is written, and the state is the last one
ended : {list : RuleList} {s₀ : State} {text l₀ : List ℕ} {at : ℕ} {l : List ℕ} {state : State} {remaining : List ℕ} {place : ℕ}
    (v : Answering list s₀ text l₀ at l state remaining place) → run_from v.bound list state remaining ≡ []
    → Wrote l₀ at (answers_text (text_run list s₀ text)) place l × (state ≡ last_state s₀ (text_run list s₀ text))
ended {list} {s₀} {text} {l₀} {at} {l} {state} {remaining} {place} v e = (
  v.left place l (like (ap answers_text e ∙ text-none) (nothing_written l place v.within)),
  sym (last_none state) ∙ ap (last_state state) (sym e) ∙ v.last,
)

module _ {list : RuleList} {s₀ : State} {text l₀ : List ℕ} {at : ℕ} {l : List ℕ} {state : State} {remaining : List ℕ} {place : ℕ}
    (v : Answering list s₀ text l₀ at l state remaining place) (h : 0 < length remaining) (a : Result StepLine ℕ) (e : a ≡ read_step remaining) where
  line-next : run_from v.bound list state remaining ≡ line_run list state a (λ next. run_from (v.bound - 1) list next (drop (line_length a) remaining))
  line-next =
      ap (λ (n : ℕ). run_from n list state remaining) (one_less (length remaining) v.bound h v.enough)
      ∙ answers_next (v.bound - 1) list state remaining h
      ∙ ap (λ (x : Result StepLine ℕ). line_run list state x (λ next. run_from (v.bound - 1) list next (drop (line_length x) remaining))) (sym e)

  pub answers-stop : (number : ℕ) → a ≡ Err number → Wrote l₀ at (answers_text (text_run list s₀ text)) place l × (state ≡ last_state s₀ (text_run list s₀ text))
  answers-stop number g =
      ended v (line-next ∙ ap (λ (x : Result StepLine ℕ). line_run list state x (λ next. run_from (v.bound - 1) list next (drop (line_length x) remaining))) g)

pub answers-end : {list : RuleList} {s₀ : State} {text l₀ : List ℕ} {at : ℕ} {l : List ℕ} {state : State} {remaining : List ℕ} {place : ℕ}
    → Answering list s₀ text l₀ at l state remaining place → length remaining ≤ 0
    → Wrote l₀ at (answers_text (text_run list s₀ text)) place l × (state ≡ last_state s₀ (text_run list s₀ text))
answers-end {list} {s₀} {text} {l₀} {at} {l} {state} {remaining} {place} v h = ended v (go v.bound remaining h)
  where
    go : (bound : ℕ) (m : List ℕ) → length m ≤ 0 → run_from bound list state m ≡ []
    go zero m k = unfold run_from in refl
    go (suc bound) [] k = unfold run_from in refl
    go (suc bound) (c ∷ m) k = absurd (omega arith)
