-- The loop over numbered lines, in any language of rules: what was read and what reading the rest gives are together what reading the text
-- gives.
-- Assumes nothing.
use mathlib.Core.Path.{◌≡◌, refl, sym, ap, ◌∙◌, subst⁻¹}
use mathlib.Core.Bool.{Bool}
use mathlib.Core.List.{List, [], ◌∷◌, map}
use Prim.Native.Nat.{ℕ, suc, ◌+◌, ◌-◌, ◌≤◌, ◌<◌}
use native.Mathlib.Nat.{add-zero, add_assoc}
use native.Mathlib.Numerals.{add-one}
use native.Mathlib.Omega.{arith}
use lib.ListN.{length, take, drop, set, length-append, length-drop, length-set}
use lib.Seq.{sets}
use Rattle.rules.specs.declared.families.Rule.{Rule}
use Rattle.rules.specs.declared.lists.RuleList.{RuleList}
use Rattle.rule_text.specs.Lines.{right_lines}
use Rattle.rule_text.specs.Reading.{PrefixRead, RulesRead, stopped, length_in, number_in, line_then, read_from, slot}
use Rattle.rule_text.specs.declared.reading.Parsed.{Parsed}
use Rattle.std.specs.Prelude.{Result, Ok, Err}
use Rattle.std.specs.Result.{result_err}
use Rattle.forms.specs.Refusals.{numbered}
use Rattle.rule_text.specs.Refusals.{refusal_number, number_if}
use Rattle.rule_text.specs.declared.refusals.Refusal.{Refusal}
use Rattle.rule_text.proofs.NumberedLines.{LineStands, Language, step}
use Rattle.forms.proofs.Turns as turns

-- the number of a line's refusal, by the refusal
pub number_told : (answer : Result Parsed Refusal) → number_if (result_err answer) ≡ number_in (numbered refusal_number answer)
number_told (Ok entry) = refl
number_told (Err refusal) = refl

-- the lines after a list that was read
abbrev pub onto : RuleList → ℕ → RulesRead → PrefixRead
onto list bytes lines = record {
  list = record { slots = sets list.slots list.length (map slot lines.rules); length = list.length + length lines.rules; rights = list.rights };
  length = bytes + lines.length;
  number = lines.number;
  line = suc (right_lines list.rights + (list.length + length lines.rules));
}

-- `whole` is what the loop is to give
pub record Inv (read : ℕ → List ℕ → Result Parsed ℕ) (whole : PrefixRead) (text : List ℕ) (list : RuleList) (rest : List ℕ) (bytes line : ℕ) : Type 0 where
  pub counted : line ≡ suc (right_lines list.rights + list.length)
  pub few : right_lines list.rights ≤ 6
  pub last : list.length ≤ 128
  pub slots : length list.slots ≡ 128
  pub size : bytes + length rest ≡ length text
  pub same : whole ≡ onto list bytes (read_from read (129 - list.length) (suc list.length) rest)

-- the list and one rule more
abbrev pub with_rule : RuleList → Rule → RuleList
with_rule list rule = record { slots = set list.slots list.length (slot rule); length = list.length + 1; rights = list.rights }

one_more : (list : RuleList) (bytes : ℕ) (entry : Parsed) (lines : RulesRead)
    → onto list bytes (line_then (Ok entry) lines) ≡ onto (with_rule list entry.rule) (bytes + entry.length) lines
one_more list bytes entry lines =
    let e : list.length + suc (length lines.rules) ≡ suc list.length + length lines.rules = omega arith in
    rw (add-one, e, add_assoc)

nothing-more : (list : RuleList) (bytes number : ℕ)
    → onto list bytes (stopped number) ≡ record { list = list; length = bytes; number = number; line = suc (right_lines list.rights + list.length) }
nothing-more list bytes number = rw (add-zero, add-zero)

module _ {read : ℕ → List ℕ → Result Parsed ℕ} {write : ℕ → Rule → List ℕ} {passes : Rule → Bool} {Cause : ℕ → List ℕ → ℕ → Type 0} {Ready : ℕ → List ℕ → Type 0}
    (language : Language read write passes Cause Ready)
    {whole : PrefixRead} {text : List ℕ} {list : RuleList} {rest : List ℕ} {bytes line : ℕ} (inv : Inv read whole text list rest bytes line) (some : 0 < length rest)
    {answer : Result Parsed ℕ} (given : answer ≡ read (list.length + 1) rest) where
  here : read_from read (129 - list.length) (suc list.length) rest ≡ line_then answer (read_from read (128 - list.length) (suc (suc list.length)) (drop (length_in answer) rest))
  here =
      let bound : 129 - list.length ≡ suc (128 - list.length) = omega (arith, inv.last) in
      rw (bound, given, add-one) (step read (128 - list.length) (suc list.length) rest some)

  module _ {entry : Parsed} (good : answer ≡ Ok entry) where
    good-here : LineStands write passes (list.length + 1) rest entry
    good-here = language.good-stands (list.length + 1) rest entry (sym given ∙ good)

    pub fits : entry.length ≤ length rest
    fits =
        let size = ap length good-here.reads ∙ length-append (write (list.length + 1) entry.rule) good-here.rest in
        omega (arith, good-here.length)

    pub small : list.length < 128
    small = omega (arith, good-here.last)

    pub turn : Inv read whole text (with_rule list entry.rule) (take (length rest - entry.length) (drop entry.length rest)) (bytes + entry.length) (line + 1)
    turn =
        subst⁻¹ (λ (l : List ℕ). Inv read whole text (with_rule list entry.rule) l (bytes + entry.length) (line + 1)) (turns.rest rest entry.length)
        (record {
          counted = omega (arith, inv.counted);
          few = inv.few;
          last = omega (arith, small);
          slots = length-set list.slots list.length (slot entry.rule) ∙ inv.slots;
          size = omega (arith, inv.size, fits, length-drop entry.length rest);
          same =
              let bound : 129 - (list.length + 1) ≡ 128 - list.length = omega (arith, inv.last) in
              inv.same ∙ ap (onto list bytes) here
              ∙ rw (good, bound) (one_more list bytes entry (read_from read (128 - list.length) (suc (suc list.length)) (drop entry.length rest)) ∙ rw (add-one list.length));
        })

  pub stop : {number : ℕ} → answer ≡ Err number → {code : ℕ} → code ≡ number_in answer
      → record { list = list; length = bytes; number = code; line = line } ≡ whole
  stop {number} bad {code} told =
      (λ j. record { list = list; length = bytes; number = (told ∙ ap number_in bad) j; line = inv.counted j })
      ∙ sym (inv.same ∙ ap (onto list bytes) here ∙ rw bad (nothing-more list bytes number))

pub end : {read : ℕ → List ℕ → Result Parsed ℕ} {whole : PrefixRead} {text : List ℕ} {list : RuleList} (rest : List ℕ) {bytes line : ℕ} → Inv read whole text list rest bytes line → length rest ≤ 0
    → record { list = list; length = bytes; number = 0; line = line } ≡ whole
unfolding read_from
end {read} {whole} {text} {list} [] {bytes} {line} inv none =
    let bound : 129 - list.length ≡ suc (128 - list.length) = omega (arith, inv.last) in
    (λ j. record { list = list; length = bytes; number = 0; line = inv.counted j })
    ∙ sym (inv.same ∙ rw bound (nothing-more list bytes 0))
end (c ∷ rest) inv none = absurd (omega arith)
