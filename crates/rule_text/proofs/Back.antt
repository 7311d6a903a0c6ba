-- THEOREMS on rule lists as texts: there and back, what is accepted, and the first bad line.
-- Assumes nothing.
use mathlib.Core.Path.{◌≡◌, refl, sym, ap, ◌∙◌}
use mathlib.Core.Bool.{true}
use mathlib.Core.Logic.{◌↔◌, ◌⊎◌, inl, inr, ⊎_elim}
use mathlib.Core.List.{List, [], ◌++◌, append-nil}
use Prim.Native.Nat.{ℕ, ◌≤◌, ◌<◌}
use native.Mathlib.Omega.{arith}
use lib.ListN.{length}
use Rattle.rules.specs.Acceptance.{rules_of, list_accepted}
use Rattle.rules.specs.declared.families.Rule.{Rule}
use Rattle.rules.specs.declared.rights.RightSlot.{RightSlot}
use Rattle.rules.specs.declared.lists.RuleList.{RuleList}
use Rattle.rule_text.specs.Lines.{lines_text, next_line}
use Rattle.rule_text.specs.Reading.{read_lines, no_rights, list_of, SameRules, prefix_of, loaded_of, read_rules}
use Rattle.rule_text.specs.Writing.{text_of}
use Rattle.rule_text.specs.Causes.{Cause, GoodLines, FirstBad}
use Rattle.rule_text.specs.Reading.{LoadedRules}
use Rattle.rule_text.proofs.Slots.{rules-of-list, list-rights, list-accepted, slots_length, accepted-most, accepted-good, none-good, same-rules}
use Rattle.rule_text.proofs.Loaded.{loaded-whole, loaded-bad, zero-or-some, loaded-zero, loaded-some}
use Rattle.rule_text.proofs.Lists.{cause-number, cause-some, reads_lines, reads_whole, reads-until}

-- ---- what is loaded

-- the list of some lines has their text
list-text : (rights : List RightSlot) (rules : List Rule) → GoodLines rights rules → text_of (list_of rights rules) ≡ lines_text rights rules
list-text rights rules good = rw (list-rights rights rules, rules-of-list rights rules good.few)

-- a text that is accepted is the text of its lines
whole-text : (text : List ℕ) → (read_lines text).number ≡ 0 → text ≡ lines_text (read_lines text).rights (read_lines text).rules
whole-text text none =
    let front = lines_text (read_lines text).rights (read_lines text).rules in
    ⊎_elim
    (λ stop. (reads_lines text).reads ∙ ap (λ (l : List ℕ). front ++ l) stop.1 ∙ append-nil front)
    (λ stop. absurd (omega (arith, cause-some stop.1, none)))
    (reads_lines text).stops

-- ---- there and back

-- a text that is accepted is the text of the list that was read, byte for byte
pub write-back : (text : List ℕ) (list : RuleList) → read_rules text ≡ record { number = 0; line = 0; list = list } → text_of list ≡ text
write-back text list e =
    let none = loaded-zero (read_lines text) (ap (λ (l : LoadedRules). l.number) e) in
    let same = ap (λ (l : LoadedRules). l.list) (sym e ∙ loaded-whole (read_lines text) none) in
    rw same (list-text (read_lines text).rights (read_lines text).rules (reads_lines text).good ∙ sym (whole-text text none))

-- an accepted list, written and read, is the list of its rights and rules
pub read_back : (list : RuleList) → length list.rights ≡ 6 → list_accepted list ≡ true
    → read_rules (text_of list) ≡ record { number = 0; line = 0; list = list_of list.rights (rules_of list) }
read_back list kinds accepted =
    rw (reads_whole list.rights (rules_of list) (accepted-good list kinds accepted))
    (loaded-whole (record { rights = list.rights; rules = rules_of list; length = length (text_of list); number = 0 }) refl)

-- its length, the rules below it, past it the filler, and the right of each kind
pub read-back-same : (list : RuleList) → length list.slots ≡ 128 → length list.rights ≡ 6 → list_accepted list ≡ true
    → SameRules list (read_rules (text_of list)).list
read-back-same list slots kinds accepted = rw (read_back list kinds accepted) (same-rules list slots (accepted-most list accepted))

-- ---- what is accepted

-- reading never gives a list that 40 refuses
pub read-accepted : (text : List ℕ) → list_accepted (read_rules text).list ≡ true
read-accepted text =
    ⊎_elim
    (λ none. rw (loaded-whole (read_lines text) none) (list-accepted (read_lines text).rights (read_lines text).rules (reads_lines text).good))
    (λ some. rw (loaded-bad (read_lines text) some) (list-accepted no_rights [] none-good))
    (zero-or-some (read_lines text).number)

pub prefix-accepted : (text : List ℕ) → list_accepted (prefix_of (read_lines text)).list ≡ true
unfolding prefix_of
prefix-accepted text = list-accepted (read_lines text).rights (read_lines text).rules (reads_lines text).good

-- a list as the code holds it, which 40 does not refuse
abbrev pub Accepted : RuleList → Type 0
Accepted list = (length list.slots ≡ 128) × (length list.rights ≡ 6) × (list_accepted list ≡ true)

-- a text is accepted exactly where it is the text of a list that 40 does not refuse
pub accepted-as-text : (text : List ℕ) → ((read_rules text).number ≡ 0) ↔ ((list : RuleList) × Accepted list × (text ≡ text_of list))
accepted-as-text text = (as-text, λ of-list. ap (λ (l : LoadedRules). l.number) (ap read_rules of-list.2 ∙ read_back of-list.0 of-list.1.1 of-list.1.2))
  where
    as-text : (read_rules text).number ≡ 0 → (list : RuleList) × Accepted list × (text ≡ text_of list)
    as-text none =
        let rights = (read_lines text).rights in
        let rules = (read_lines text).rules in
        let good = (reads_lines text).good in (
          list_of rights rules,
          (slots_length rights rules, ap length (list-rights rights rules) ∙ good.kinds, list-accepted rights rules good),
          whole-text text (loaded-zero (read_lines text) none) ∙ sym (list-text rights rules good),
        )

-- ---- which numbers are given

-- no number but 10 to 14 is ever given
pub read_number : (text : List ℕ) → ((read_rules text).number ≡ 0) ⊎ ((10 ≤ (read_rules text).number) × ((read_rules text).number ≤ 14))
read_number text =
    ⊎_elim
    (λ none. inl (ap (λ (l : LoadedRules). l.number) (loaded-whole (read_lines text) none)))
    (λ some. inr (rw (loaded-bad (read_lines text) some) (by-stop (reads_lines text).stops some)))
    (zero-or-some (read_lines text).number)
  where
    by-stop : {rest : List ℕ} {n : ℕ} → (((read_lines text).number ≡ 0) × (rest ≡ [])) ⊎ ((0 < length rest) × Cause (read_lines text).rights n rest (read_lines text).number)
        → 0 < (read_lines text).number
        → (10 ≤ (read_lines text).number) × ((read_lines text).number ≤ 14)
    by-stop (inl stop) some = absurd (omega (arith, stop.0, some))
    by-stop (inr stop) some = cause-number stop.1

-- ---- the first bad line

-- a number and a line are answered exactly where they are those of the first bad line
pub first_bad : (text : List ℕ) (number n : ℕ) → 0 < number → (((read_rules text).number ≡ number) × ((read_rules text).line ≡ n)) ↔ FirstBad text number n
first_bad text number n some = (is-first, answered)
  where
    is-first : ((read_rules text).number ≡ number) × ((read_rules text).line ≡ n) → FirstBad text number n
    is-first answer =
        let bad : 0 < (read_lines text).number = loaded-some (read_lines text) (omega (arith, answer.0)) in
        let same = loaded-bad (read_lines text) bad in
        let number_same : (read_lines text).number ≡ number = ap (λ (l : LoadedRules). l.number) (sym same) ∙ answer.0 in
        let line_same : n ≡ next_line (read_lines text).rights (read_lines text).rules = sym answer.1 ∙ ap (λ (l : LoadedRules). l.line) same in
        ⊎_elim
        (λ stop. absurd (omega (arith, bad, stop.0)))
        (λ stop. record {
          rights = (read_lines text).rights;
          rules = (read_lines text).rules;
          good = (reads_lines text).good;
          before = line_same;
          rest = (reads_lines text).rest;
          some = stop.0;
          reads = (reads_lines text).reads;
          cause = rw number_same at stop.1;
        })
        (reads_lines text).stops

    answered : FirstBad text number n → ((read_rules text).number ≡ number) × ((read_rules text).line ≡ n)
    answered bad =
        let lines = reads-until bad.rights bad.rules bad.good bad.rest number bad.some bad.cause in
        let same : read_rules text ≡ record { number = number; line = next_line bad.rights bad.rules; list = list_of no_rights [] } =
        ap read_rules bad.reads ∙ ap loaded_of lines
        ∙ loaded-bad (record { rights = bad.rights; rules = bad.rules; length = length (lines_text bad.rights bad.rules); number = number }) some in
        (ap (λ (l : LoadedRules). l.number) same, ap (λ (l : LoadedRules). l.line) same ∙ sym bad.before)
