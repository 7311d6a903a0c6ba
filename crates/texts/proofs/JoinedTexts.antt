-- Two rule lists joined, as texts: the line of the second text that a refusal is about.
-- Assumes nothing.
use mathlib.Core.Path.{◌≡◌, sym, ap, ◌∙◌}
use mathlib.Core.Bool.{Bool, true, false, cond}
use mathlib.Core.Logic.{⊎_elim}
use mathlib.Core.List.{List, [], ◌∷◌}
use Prim.Native.Nat.{ℕ, zero, suc, ◌+◌, ◌≤◌, ◌<◌}
use native.Mathlib.Numerals.{add-one}
use native.Mathlib.Omega.{arith}
use lib.ListN.{length, take}
use Rattle.std.proofs.lemmas.List.{take_all, length-take}
use lib.Dec.{eqb}
use borrow.Author.Tests.{eq-eqb, ne_eqb}
use Rattle.rules.specs.Acceptance.{right_at, list_accepted}
use Rattle.rules.specs.declared.families.Rule.{Rule}
use Rattle.rules.specs.declared.rights.RightSlot.{RightSlot}
use Rattle.rules.specs.declared.lists.RuleList.{RuleList}
use Rattle.rule_text.specs.Lines.{line_count, right_lines}
use Rattle.rule_text.specs.Reading.{read_lines, no_rights, list_of, read_rules}
use Rattle.rule_text.specs.Writing.{text_of}
use Rattle.rule_text.specs.Causes.{GoodLines}
use Rattle.rule_text.specs.Reading.{LoadedRules}
use Rattle.rule_text.proofs.Slots.{list-rights, list-accepted, slots_length, none-good}
use Rattle.rule_text.proofs.Loaded.{loaded-whole, loaded-bad, zero-or-some}
use Rattle.rule_text.proofs.Lists.{reads_lines}
use Rattle.rule_text.proofs.Back.{Accepted}
use Rattle.joining.specs.Joining.{Joined, join_of}
use Rattle.joining.proofs.JoinedLists.{join-accepted}
use Rattle.texts.specs.SavedRuns.{refused_report, lent_to, list_report}
use Rattle.texts.specs.JoinedTexts.{lines_before, line_in, with_line, joined_with, join_report}
use Rattle.texts.specs.declared.saved_runs.Text.TheVariants as Text
use Rattle.texts.specs.SavedRuns.{Report}
use Rattle.texts.proofs.SavedRunning.{refused-lent}
use Rattle.texts.proofs.ListWriting.{some}

-- ---- the lines of the rights

lines_more : (rights : List RightSlot) (i : ℕ) → i < length rights → lines_before rights (suc i) ≡ lines_before rights i + line_count (right_at rights i)
unfolding right_lines
lines_more [] i below = absurd (omega arith)
lines_more (slot ∷ rights) zero below = omega arith
lines_more (slot ∷ rights) (suc i) below = omega (arith, lines_more rights i (omega arith))

-- the loop of `lines_before`
pub record Counted (rights : List RightSlot) (kind lines i : ℕ) : Type 0 where
  pub last : i ≤ kind
  pub few : lines ≤ i
  pub same : lines ≡ lines_before rights i

pub counted-turn : {rights : List RightSlot} {kind lines i : ℕ} → Counted rights kind lines i → i < kind → i < length rights → {count : ℕ} → count ≡ line_count (right_at rights i) → count ≤ 1
    → Counted rights kind (lines + count) (i + 1)
counted-turn {rights} {kind} {lines} {i} counted more within {count} e one = record {
  last = omega arith;
  few = omega (arith, counted.few);
  same = (λ j. counted.same j + e j) ∙ sym (ap (lines_before rights) (add-one i) ∙ lines_more rights i within);
}

pub counted-end : (rights : List RightSlot) {kind lines i : ℕ} → Counted (take kind rights) (length (take kind rights)) lines i → length (take kind rights) ≤ i → kind ≤ 6
    → (lines ≡ lines_before rights kind) × (lines ≤ 6)
counted-end rights {kind} {lines} {i} counted done most =
    (counted.same ∙ ap right_lines (take_all i (take kind rights) done), omega (arith, counted.few, counted.last, length-take kind rights))

-- what `line_in` returns
module _ (rights : List RightSlot) (number place : ℕ) where
  pub line-58 : number ≡ 58 → {lines : ℕ} → lines ≡ lines_before rights place → lines + 1 ≡ line_in rights number place
  unfolding line_in
  line-58 h e = rw (eq-eqb number 58 h) (ap (λ (n : ℕ). n + 1) e)

  pub line-57 : (number ≡ 58 → ⊥) → number ≡ 57 → {lines : ℕ} → lines ≡ lines_before rights 6 → lines + place ≡ line_in rights number place
  unfolding line_in
  line-57 other h e = rw (ne_eqb number 58 other, eq-eqb number 57 h) (ap (λ (n : ℕ). n + place) e)

  pub line-none : (number ≡ 58 → ⊥) → (number ≡ 57 → ⊥) → 0 ≡ line_in rights number place
  unfolding line_in
  line-none other none = rw (ne_eqb number 58 other, ne_eqb number 57 none)

-- ---- what was read of the second text

module _ (first : RuleList) (given read : LoadedRules) (e : read ≡ given) where
  pub joined-unread : (read.number ≡ 0 → ⊥) → read ≡ joined_with first given
  unfolding joined_with
  joined-unread other =
      let kept : joined_with first read ≡ read = rw (ne_eqb read.number 0 other) in
      sym kept ∙ ap (joined_with first) e

  pub joined-read : read.number ≡ 0 → {joined : Joined} → joined ≡ join_of first read.list → {line : ℕ} → line ≡ line_in read.list.rights joined.number joined.place
      → record { number = joined.number; line = line; list = joined.list } ≡ joined_with first given
  unfolding joined_with
  joined-read none {joined} j told =
      let taken : joined_with first read ≡ with_line read.list.rights (join_of first read.list) = rw (eq-eqb read.number 0 none) in
      ap (λ (n : ℕ). record { number = joined.number; line = n; list = joined.list }) told ∙ ap (with_line read.list.rights) j ∙ sym taken ∙ ap (joined_with first) e

-- what was read of the first text is refused
pub first-unread : {given read : LoadedRules} → read ≡ given → (read.number ≡ 0 → ⊥) → {r : Report} → r ≡ refused_report Text.Rules read.number read.line → (second : LoadedRules) (text lent : List ℕ)
    → (r ≡ join_report given second (length lent)) × (lent ≡ lent_to r text lent)
unfolding join_report
first-unread {given} {read} e other {r} q second text lent = (
  q ∙ (let kept : join_report read second (length lent) ≡ refused_report Text.Rules read.number read.line = rw (ne_eqb read.number 0 other) in
      sym kept ∙ ap (λ (l : LoadedRules). join_report l second (length lent)) e),
  refused-lent r text lent (rw q (some other)),
)

-- it is not, and the rest is written or refused
pub first_read : {given read : LoadedRules} → read ≡ given → read.number ≡ 0 → (second : LoadedRules) {r : Report} (lent lent' : List ℕ)
    → (r ≡ list_report Text.SecondRules (joined_with read.list second) (length lent)) × (lent' ≡ lent_to r (text_of (joined_with read.list second).list) lent)
    → (r ≡ join_report given second (length lent)) × (lent' ≡ lent_to r (text_of (joined_with given.list second).list) lent)
unfolding join_report
first_read {given} {read} e none second {r} lent lent' h = (
  h.0 ∙ (let taken : join_report read second (length lent) ≡ list_report Text.SecondRules (joined_with read.list second) (length lent) = rw (eq-eqb read.number 0 none) in
      sym taken ∙ ap (λ (l : LoadedRules). join_report l second (length lent)) e),
  h.1 ∙ ap (λ (l : LoadedRules). lent_to r (text_of (joined_with l.list second).list) lent) e,
)

-- ---- what is joined is accepted

-- a list that was read is one that 40 does not refuse
pub read_whole : (text : List ℕ) → Accepted (read_rules text).list
read_whole text = ⊎_elim
    (λ none. rw (loaded-whole (read_lines text) none) (of-lines (read_lines text).rights (read_lines text).rules (reads_lines text).good))
    (λ more. rw (loaded-bad (read_lines text) more) (of-lines no_rights [] none-good))
    (zero-or-some (read_lines text).number)
  where
    of-lines : (rights : List RightSlot) (rules : List Rule) → GoodLines rights rules → Accepted (list_of rights rules)
    of-lines rights rules good = (slots_length rights rules, ap length (list-rights rights rules) ∙ good.kinds, list-accepted rights rules good)

pub joined-list-accepted : (first : RuleList) → length first.rights ≡ 6 → (second : List ℕ) → list_accepted (joined_with first (read_rules second)).list ≡ true
unfolding joined_with
joined-list-accepted first kinds second = go (eqb (read_rules second).number 0)
  where
    go : (b : Bool) → list_accepted (cond b (with_line (read_rules second).list.rights (join_of first (read_rules second).list)) (read_rules second)).list ≡ true
    go true = join-accepted first (read_rules second).list kinds (read_whole second).1
    go false = (read_whole second).2
