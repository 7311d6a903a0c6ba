-- Lines numbered by ones, in any language of rules: what reading them gives, and what text gives it. A language has a reader of one line, the
-- text of a rule's line, a test of the rules that may stand in it, and a cause for each number that refuses a line.
-- Assumes nothing.
use mathlib.Core.Path.{◌≡◌, refl, sym, ap, ◌∙◌}
use mathlib.Core.Bool.{Bool, true}
use mathlib.Core.Logic.{◌⊎◌, inl, inr}
use mathlib.Core.List.{List, [], ◌∷◌, ◌++◌, append_assoc, append-nil}
use Prim.Native.Nat.{ℕ, zero, suc, ◌+◌, ◌-◌, ◌≤◌, ◌<◌}
use native.Mathlib.Nat.{add-zero, add_assoc}
use native.Mathlib.Omega.{arith}
use lib.ListN.{length, drop, length-append}
use lib.Seq.{drop-append_seam}
use Rattle.sets.proofs.Booleans.{both, both_true}
use Rattle.rules.specs.Acceptance.{every}
use Rattle.rules.specs.declared.families.Rule.{Rule}
use Rattle.rule_text.specs.Lines.{list_text}
use Rattle.rule_text.specs.Reading.{RulesRead, stopped, length_in, line_then, read_from}
use Rattle.rule_text.specs.declared.reading.Parsed.{Parsed}
use Rattle.std.specs.Prelude.{Result, Ok, Err}

-- ---- a language

-- the line of rule n is the front of the text, and the rule passes the test
pub record LineStands (write : ℕ → Rule → List ℕ) (passes : Rule → Bool) (n : ℕ) (text : List ℕ) (entry : Parsed) : Type 0 where
  pub first : 1 ≤ n
  pub last : n ≤ 128
  pub passed : passes entry.rule ≡ true
  pub rest : List ℕ
  pub reads : text ≡ write n entry.rule ++ rest
  pub length : entry.length ≡ length (write n entry.rule)

-- a line is good exactly where it stands there, and is refused exactly where it has the cause of the number; `Ready` is what has to be known
-- of a place for the latter, and is always known after the first line
pub record Language (read : ℕ → List ℕ → Result Parsed ℕ) (write : ℕ → Rule → List ℕ) (passes : Rule → Bool) (Cause : ℕ → List ℕ → ℕ → Type 0)
    (Ready : ℕ → List ℕ → Type 0) : Type 0 where
  pub later : (n : ℕ) (text : List ℕ) → 1 < n → Ready n text
  pub good-stands : (n : ℕ) (text : List ℕ) (entry : Parsed) → read n text ≡ Ok entry → LineStands write passes n text entry
  pub stands_good : (n : ℕ) (text : List ℕ) (entry : Parsed) → LineStands write passes n text entry → read n text ≡ Ok entry
  pub bad-cause : (n : ℕ) (text : List ℕ) (number : ℕ) → Ready n text → read n text ≡ Err number → Cause n text number
  pub cause-bad : (n : ℕ) (text : List ℕ) (number : ℕ) → Cause n text number → read n text ≡ Err number
  pub some : (n : ℕ) (rule : Rule) → 1 ≤ n → n ≤ 128 → passes rule ≡ true → 0 < length (write n rule)

-- ---- one line more

pub step : (read : ℕ → List ℕ → Result Parsed ℕ) (bound n : ℕ) (s : List ℕ) → 0 < length s
    → read_from read (suc bound) n s ≡ line_then (read n s) (read_from read bound (suc n) (drop (length_in (read n s)) s))
unfolding read_from
step read bound n [] some = absurd (omega arith)
step read bound n (c ∷ s) some = refl

nothing_left : (read : ℕ → List ℕ → Result Parsed ℕ) (bound n : ℕ) → read_from read bound n [] ≡ stopped 0
unfolding read_from
nothing_left read zero n = refl
nothing_left read (suc bound) n = refl

-- the text is the good lines of the rules, and ends, or goes on with a line that has the cause of the number
pub record RulesReads (write : ℕ → Rule → List ℕ) (passes : Rule → Bool) (Cause : ℕ → List ℕ → ℕ → Type 0) (n : ℕ) (text : List ℕ) (lines : RulesRead) : Type 0 where
  pub passed : every passes lines.rules ≡ true
  pub few : n + length lines.rules ≤ 129
  pub rest : List ℕ
  pub reads : text ≡ list_text write n lines.rules ++ rest
  pub bytes : lines.length ≡ length (list_text write n lines.rules)
  pub stops : ((lines.number ≡ 0) × (rest ≡ [])) ⊎ ((0 < length rest) × Cause (n + length lines.rules) rest lines.number)

-- the good lines of these rules come before others
abbrev pub preceded : (ℕ → Rule → List ℕ) → List Rule → ℕ → RulesRead → RulesRead
preceded write rules n lines = record { rules = rules ++ lines.rules; length = length (list_text write n rules) + lines.length; number = lines.number }

module _ {read : ℕ → List ℕ → Result Parsed ℕ} {write : ℕ → Rule → List ℕ} {passes : Rule → Bool} {Cause : ℕ → List ℕ → ℕ → Type 0} {Ready : ℕ → List ℕ → Type 0}
    (language : Language read write passes Cause Ready) where
  -- ---- good lines are read

  good-line : (n : ℕ) (rule : Rule) (rest : List ℕ) → 1 ≤ n → n ≤ 128 → passes rule ≡ true
      → read n (write n rule ++ rest) ≡ Ok (record { rule = rule; length = length (write n rule) })
  good-line n rule rest first last passed =
      language.stands_good n (write n rule ++ rest) (record { rule = rule; length = length (write n rule) })
      (record { first = first; last = last; passed = passed; rest = rest; reads = refl; length = refl })

  pub good-lines : (rules : List Rule) (bound n : ℕ) (rest : List ℕ) → 1 ≤ n → n + length rules ≤ 129 → every passes rules ≡ true
      → read_from read (length rules + bound) n (list_text write n rules ++ rest) ≡ preceded write rules n (read_from read bound (n + length rules) rest)
  unfolding list_text every
  good-lines [] bound n rest first few passed =
      let a : 0 + bound ≡ bound = omega arith in
      let b : 0 + (read_from read bound n rest).length ≡ (read_from read bound n rest).length = omega arith in
      rw (a, add-zero, b)
  good-lines (rule ∷ rules) bound n rest first few passed =
      let parts = both (passes rule) (every passes rules) passed in
      let last : n ≤ 128 = omega arith in
      let a : suc (length rules) + bound ≡ suc (length rules + bound) = omega arith in
      let b : n + suc (length rules) ≡ suc n + length rules = omega arith in
      let some : 0 < length (write n rule ++ (list_text write (suc n) rules ++ rest)) = rw length-append (omega (arith, language.some n rule first last parts.0)) in
      rw (append_assoc (write n rule) (list_text write (suc n) rules) rest, a, b)
      (step read (length rules + bound) n (write n rule ++ (list_text write (suc n) rules ++ rest)) some
      ∙ rw (good-line n rule (list_text write (suc n) rules ++ rest) first last parts.0, drop-append_seam, good-lines rules bound (suc n) rest (omega arith) (omega arith) parts.1, length-append, add_assoc))

  -- ---- what is read are good lines

  reads_end : (n : ℕ) → n ≤ 129 → RulesReads write passes Cause n [] (stopped 0)
  unfolding list_text every
  reads_end n most = record { passed = refl; few = omega arith; rest = []; reads = refl; bytes = refl; stops = inl (refl, refl) }

  reads-bad : (n : ℕ) (text : List ℕ) (number : ℕ) → n ≤ 129 → 0 < length text → Cause n text number → RulesReads write passes Cause n text (stopped number)
  unfolding list_text every
  reads-bad n text number most some cause =
      record { passed = refl; few = omega arith; rest = text; reads = refl; bytes = refl; stops = inr (some, rw add-zero cause) }

  reads-good : (n : ℕ) (text : List ℕ) (entry : Parsed) (lines : RulesRead) → LineStands write passes n text entry
      → RulesReads write passes Cause (suc n) (drop entry.length text) lines → RulesReads write passes Cause n text (line_then (Ok entry) lines)
  unfolding list_text every
  reads-good n text entry lines stands next =
      let left : drop entry.length text ≡ stands.rest = rw (stands.length, stands.reads) (drop-append_seam (write n entry.rule) stands.rest) in
      let a : n + suc (length lines.rules) ≡ suc n + length lines.rules = omega arith in
      record {
        passed = both_true (passes entry.rule) (every passes lines.rules) stands.passed next.passed;
        few = rw a next.few;
        rest = next.rest;
        reads = stands.reads ∙ ap (λ (l : List ℕ). write n entry.rule ++ l) (sym left ∙ next.reads) ∙ sym (append_assoc (write n entry.rule) (list_text write (suc n) lines.rules) next.rest);
        bytes = rw (length-append, stands.length, next.bytes);
        stops = rw a next.stops;
      }

  pub reads-from : (bound n : ℕ) (text : List ℕ) → 1 ≤ n → n ≤ 129 → 130 ≤ n + bound → Ready n text → RulesReads write passes Cause n text (read_from read bound n text)
  unfolding read_from
  reads-from zero n text first most enough ready = absurd (omega arith)
  reads-from (suc bound) n [] first most enough ready = reads_end n most
  reads-from (suc bound) n (c ∷ text) first most enough ready =
      go (read n (c ∷ text)) refl
      (λ last. reads-from bound (suc n) (drop (length_in (read n (c ∷ text))) (c ∷ text)) (omega arith) last (omega arith) (language.later (suc n) (drop (length_in (read n (c ∷ text))) (c ∷ text)) (omega arith)))
    where
      go : (line : Result Parsed ℕ) → read n (c ∷ text) ≡ line
          → (suc n ≤ 129 → RulesReads write passes Cause (suc n) (drop (length_in line) (c ∷ text)) (read_from read bound (suc n) (drop (length_in line) (c ∷ text))))
          → RulesReads write passes Cause n (c ∷ text) (line_then line (read_from read bound (suc n) (drop (length_in line) (c ∷ text))))
      go (Err number) e next = reads-bad n (c ∷ text) number most (omega arith) (language.bad-cause n (c ∷ text) number ready e)
      go (Ok entry) e next =
          let stands = language.good-stands n (c ∷ text) entry e in
          reads-good n (c ∷ text) entry (read_from read bound (suc n) (drop entry.length (c ∷ text))) stands (next (omega (arith, stands.last)))

  -- ---- and good lines, where the text ends or goes on with a line that has a cause, are read so

  module _ (rules : List Rule) (few : length rules ≤ 128) (passed : every passes rules ≡ true) where
    lines_then : (rest : List ℕ) (number : ℕ) → read_from read (129 - length rules) (1 + length rules) rest ≡ stopped number
        → read_from read 129 1 (list_text write 1 rules ++ rest) ≡ record { rules = rules; length = length (list_text write 1 rules); number = number }
    lines_then rest number stops =
        let bound : 129 ≡ length rules + (129 - length rules) = omega arith in
        ap (λ (b : ℕ). read_from read b 1 (list_text write 1 rules ++ rest)) bound
        ∙ good-lines rules (129 - length rules) 1 rest (omega arith) (omega arith) passed
        ∙ rw (stops, append-nil, add-zero)

    pub lines-whole : read_from read 129 1 (list_text write 1 rules) ≡ record { rules = rules; length = length (list_text write 1 rules); number = 0 }
    lines-whole = rw append-nil at (lines_then [] 0 (nothing_left read (129 - length rules) (1 + length rules)))

    pub lines-until : (rest : List ℕ) (number : ℕ) → 0 < length rest → Cause (suc (length rules)) rest number
        → read_from read 129 1 (list_text write 1 rules ++ rest) ≡ record { rules = rules; length = length (list_text write 1 rules); number = number }
    lines-until rest number some cause =
        let bound : 129 - length rules ≡ suc (128 - length rules) = omega arith in
        let line : 1 + length rules ≡ suc (length rules) = omega arith in
        lines_then rest number
        (rw (bound, line) (step read (128 - length rules) (suc (length rules)) rest some ∙ rw (language.cause-bad (suc (length rules)) rest number cause)))
