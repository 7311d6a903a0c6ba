-- What is loaded of the lines that were read: all of them, or the first bad line and nothing.
-- Assumes nothing.
use mathlib.Core.Path.{◌≡◌, refl, sym, ap, ◌∙◌}
use mathlib.Core.Logic.{◌⊎◌, inl, inr, ⊎_elim}
use mathlib.Core.List.{[]}
use Prim.Native.Nat.{ℕ, zero, suc, ◌<◌}
use native.Mathlib.Omega.{arith}
use borrow.Author.Tests.{eq-eqb, ne_eqb}
use Rattle.rules.specs.declared.lists.RuleList.{RuleList}
use Rattle.rule_text.specs.Lines.{next_line}
use Rattle.std.specs.Prelude.{Some, None, Ok, Err}
use Rattle.rule_text.specs.Reading.{LoadedRules, PrefixRead, LinesRead, prefix_told, loaded_as, no_rights, list_of, prefix_of, loaded_of}
use Rattle.rule_text.specs.Refusals.{refusal_number, number_if}
use Rattle.rule_text.specs.declared.reading.Prefix.{Prefix}
use Rattle.rule_text.specs.declared.refusals.Refusal.{Refusal}
use Rattle.rule_text.specs.declared.refusals.Refusal.TheVariants.{NoForm, OutOfRange, NotNext, SameTwice, Unsound, NoPolicy}

pub loaded-whole : (lines : LinesRead) → lines.number ≡ 0 → loaded_of lines ≡ record { number = 0; line = 0; list = list_of lines.rights lines.rules }
unfolding loaded_of
loaded-whole lines none = rw (eq-eqb lines.number 0 none)

pub loaded-bad : (lines : LinesRead) → 0 < lines.number → loaded_of lines ≡ record { number = lines.number; line = next_line lines.rights lines.rules; list = list_of no_rights [] }
unfolding loaded_of
loaded-bad lines some = rw (ne_eqb lines.number 0 (λ e. omega arith))

pub zero-or-some : (n : ℕ) → (n ≡ 0) ⊎ (0 < n)
zero-or-some zero = inl refl
zero-or-some (suc n) = inr (omega arith)

pub loaded-zero : (lines : LinesRead) → (loaded_of lines).number ≡ 0 → lines.number ≡ 0
loaded-zero lines none =
    ⊎_elim (λ e. e) (λ some. absurd (omega (arith, some, ap (λ (l : LoadedRules). l.number) (loaded-bad lines some), none))) (zero-or-some lines.number)

-- and then the list is all that tells one from another
pub loaded-list : (lines : LinesRead) → (loaded_of lines).number ≡ 0 → loaded_of lines ≡ record { number = 0; line = 0; list = (loaded_of lines).list }
loaded-list lines none =
    let whole = loaded-whole lines (loaded-zero lines none) in
    whole ∙ ap (λ (l : RuleList). record { number = 0; line = 0; list = l }) (ap (λ (l : LoadedRules). l.list) (sym whole))

pub loaded-some : (lines : LinesRead) → 0 < (loaded_of lines).number → 0 < lines.number
loaded-some lines some =
    ⊎_elim (λ none. absurd (omega (arith, some, ap (λ (l : LoadedRules). l.number) (loaded-whole lines none)))) (λ e. e) (zero-or-some lines.number)

pub refusal-some : (refusal : Refusal) → 0 < refusal_number refusal
refusal-some NoForm = omega arith
refusal-some OutOfRange = omega arith
refusal-some NotNext = omega arith
refusal-some SameTwice = omega arith
refusal-some Unsound = omega arith
refusal-some NoPolicy = omega arith

pub refusal-number : (refusal : Refusal) → refusal_number refusal ≡ 0 → ⊥
refusal-number refusal none = omega (arith, none, refusal-some refusal)

-- ---- `read_rules`

module _ (lines : LinesRead) (prefix : PrefixRead) (read : prefix ≡ prefix_of lines) where
  pub load-bad : (prefix.number ≡ 0 → ⊥) → (list : RuleList) → list ≡ list_of no_rights [] → record { number = prefix.number; line = prefix.line; list = list } ≡ loaded_of lines
  unfolding prefix_of
  load-bad other list empty =
      let some : 0 < lines.number = ⊎_elim (λ none. absurd (other (ap (λ (p : PrefixRead). p.number) read ∙ none))) (λ h. h) (zero-or-some lines.number) in
      rw (read, empty) (sym (loaded-bad lines some))

  pub load-whole : prefix.number ≡ 0 → record { number = 0; line = 0; list = prefix.list } ≡ loaded_of lines
  unfolding prefix_of
  load-whole none = rw read (sym (loaded-whole lines (ap (λ (p : PrefixRead). p.number) (sym read) ∙ none)))

module _ (lines : LinesRead) (prefix : Prefix) (read : prefix_told prefix ≡ prefix_of lines) where
  pub load-refused : (refusal : Refusal) → prefix.refusal ≡ Some refusal → loaded_as (Err (record { refusal = refusal; line = prefix.line })) ≡ loaded_of lines
  load-refused refusal refused =
      let told : (prefix_told prefix).number ≡ refusal_number refusal = ap number_if refused in
      rw told at (load-bad lines (prefix_told prefix) read (λ none. omega (arith, told, none, refusal-some refusal)) (list_of no_rights []) refl)

  pub load-all : prefix.refusal ≡ None → loaded_as (Ok prefix.list) ≡ loaded_of lines
  load-all none = load-whole lines (prefix_told prefix) read (ap number_if none)
