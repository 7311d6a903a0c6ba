-- THEOREMS on two rule lists joined, as texts: each refusal has its own cause, 18 says what is needed, how long the text can be, and which texts
-- come back byte for byte.
-- Assumes nothing.
use mathlib.Core.Path.{◌≡◌, refl, sym, ap, ◌∙◌, subst}
use mathlib.Core.Bool.{Bool, true, false, cond}
use mathlib.Core.Logic.{◌↔◌, ⊎_elim}
use mathlib.Core.List.{List, []}
use Prim.Native.Nat.{ℕ, suc, ◌+◌, ◌≤◌, ◌<◌}
use native.Mathlib.Omega.{arith}
use lib.ListN.{length, get_or-replicate}
use lib.Dec.{leb}
use borrow.Author.Tests.{eq-eqb, ne_eqb, le-leb}
use Rattle.sets.proofs.Booleans.{clash}
use Rattle.rules.specs.Acceptance.{unstated, every, rules_of}
use Rattle.rules.specs.declared.rights.RightSlot.{RightSlot}
use Rattle.rule_text.specs.Lines.{right_text, rights_text, list_text}
use Rattle.rule_text.specs.Reading.{read_lines, no_rights, list_of, read_rules}
use Rattle.rule_text.specs.Writing.{text_of}
use Rattle.rule_text.specs.Causes.{FirstBad}
use Rattle.rule_text.specs.Reading.{LoadedRules}
use Rattle.rule_text.proofs.Slots.{list-rights, rules-of-list, list-accepted, list-few, none-good}
use Rattle.rule_text.proofs.Loaded.{zero-or-some, loaded-list}
use Rattle.rule_text.proofs.Lists.{cause-number}
use Rattle.rule_text.proofs.Back as rule_text
use Rattle.joining.specs.Joining.{Joined, refused_join, join_of}
use Rattle.joining.specs.Claims.{NoDoubles, JoinRefused}
use Rattle.joining.specs.Claims as join
use Rattle.joining.proofs.JoinedLists.{join-refused, join-number, join-kinds, join-accepted, Empty, itself, after-empty, before-empty}
use Rattle.texts.specs.SavedRuns.{rules_in, refused_report, written_report, output_report, list_report}
use Rattle.texts.specs.JoinedTexts.{lines_before, line_in, with_line, joined_with, join_report, JoinBad, first_bad, second_bad, rights_differ, too_many}
use Rattle.texts.specs.declared.saved_runs.Text.{Text}
use Rattle.texts.specs.SavedRuns.{Report}
use Rattle.texts.proofs.JoinedTexts.{read_whole}
use Rattle.texts.proofs.Needed.{output-needed}
use Rattle.texts.proofs.RuleSizes.{rules-most}

not-zero : {n : ℕ} → 0 < n → n ≡ 0 → ⊥
not-zero h e = omega (arith, h, e)

module _ (first second : List ℕ) where
  abbrev joined : LoadedRules
  joined = joined_with (rules_in first) (read_rules second)

  abbrev reported : ℕ → Report
  reported room = join_report (read_rules first) (read_rules second) room

  -- ---- what is reported in each case

  report-first : (room : ℕ) → 0 < (read_rules first).number → reported room ≡ refused_report Text.Rules (read_rules first).number (read_rules first).line
  unfolding join_report
  report-first room some = rw (ne_eqb (read_rules first).number 0 (not-zero some))

  module _ (room : ℕ) (none : (read_rules first).number ≡ 0) where
    report-list : reported room ≡ list_report Text.SecondRules joined room
    unfolding join_report
    report-list = rw (eq-eqb (read_rules first).number 0 none)

    report-second : 0 < (read_rules second).number → reported room ≡ refused_report Text.SecondRules (read_rules second).number (read_rules second).line
    unfolding list_report joined_with
    report-second some = report-list ∙ rw (ne_eqb (read_rules second).number 0 (not-zero some), ne_eqb (read_rules second).number 0 (not-zero some))

    module _ (second_none : (read_rules second).number ≡ 0) where
      joined-both : joined ≡ with_line (rules_in second).rights (join_of (rules_in first) (rules_in second))
      unfolding joined_with
      joined-both = rw (eq-eqb (read_rules second).number 0 second_none)

      report-joined : (number place : ℕ) → 0 < number → join_of (rules_in first) (rules_in second) ≡ refused_join number place
          → reported room ≡ refused_report Text.SecondRules number (line_in (rules_in second).rights number place)
      unfolding list_report
      report-joined number place some e =
          report-list ∙ ap (λ (l : LoadedRules). list_report Text.SecondRules l room) (joined-both ∙ ap (with_line (rules_in second).rights) e) ∙ rw (ne_eqb number 0 (not-zero some))

      report-whole : (join_of (rules_in first) (rules_in second)).number ≡ 0 → reported room ≡ output_report (text_of joined.list) room
      unfolding list_report
      report-whole whole = report-list ∙ rw (eq-eqb joined.number 0 (ap (λ (l : LoadedRules). l.number) joined-both ∙ whole))

  -- ---- which case it is

  data Case (room : ℕ) : Type 0 where
    bad : (text : Text) (number place : ℕ) → 0 < number → (number ≡ 18 → ⊥) → JoinBad first second text number place → reported room ≡ refused_report text number place → Case room
    whole : reported room ≡ output_report (text_of joined.list) room → Case room

  line-number : (text : List ℕ) → 0 < (read_rules text).number → (read_rules text).number ≡ 18 → ⊥
  line-number text some e = ⊎_elim (λ none. omega (arith, some, none)) (λ between. omega (arith, between.1, e)) (rule_text.read_number text)

  module _ (room : ℕ) (none : (read_rules first).number ≡ 0) (second_none : (read_rules second).number ≡ 0) where
    case-refused : {number place : ℕ} → JoinRefused (rules_in first) (rules_in second) number place → join_of (rules_in first) (rules_in second) ≡ refused_join number place → Case room
    unfolding line_in
    case-refused (join.first_refused e) told = clash (read_whole first).2 e
    case-refused (join.second_refused e f) told = clash (read_whole second).2 f
    case-refused (join.rights_differ kind e f below differ earlier) told =
        bad Text.SecondRules 58 (lines_before (rules_in second).rights kind + 1) (omega arith) (λ h. omega arith)
        (rights_differ kind none second_none (join.rights_differ kind e f below differ earlier)) (report-joined room none second_none 58 kind (omega arith) told)
    case-refused (join.too_many n e f agree below before after) told =
        bad Text.SecondRules 57 (lines_before (rules_in second).rights 6 + suc n) (omega arith) (λ h. omega arith)
        (too_many (suc n) none second_none (join.too_many n e f agree below before after)) (report-joined room none second_none 57 (suc n) (omega arith) told)

    case-both : Case room
    case-both = ⊎_elim
        (λ joins. whole (report-whole room none second_none joins))
        (λ other. case-refused other.2 other.3)
        (join-number (rules_in first) (rules_in second))

  which : (room : ℕ) → Case room
  which room = ⊎_elim
      (λ none. ⊎_elim
      (λ second_none. case-both room none second_none)
      (λ some. bad Text.SecondRules (read_rules second).number (read_rules second).line some (line-number second some)
      (second_bad (read_rules second).number (read_rules second).line none ((rule_text.first_bad second (read_rules second).number (read_rules second).line some).0 (refl, refl)))
      (report-second room none some))
      (zero-or-some (read_rules second).number))
      (λ some. bad Text.Rules (read_rules first).number (read_rules first).line some (line-number first some)
      (first_bad (read_rules first).number (read_rules first).line ((rule_text.first_bad first (read_rules first).number (read_rules first).line some).0 (refl, refl)))
      (report-first room some))
      (zero-or-some (read_rules first).number)

  -- ---- own cause of each number

  bad-some : {text : List ℕ} {number line : ℕ} → FirstBad text number line → 0 < number
  bad-some found = omega (arith, (cause-number found.cause).0)

  bad-told : (room : ℕ) {text : Text} {number place : ℕ} → JoinBad first second text number place → reported room ≡ refused_report text number place
  unfolding line_in
  bad-told room (first_bad number line found) =
      let same = (rule_text.first_bad first number line (bad-some found)).1 found in
      report-first room (rw same.0 (bad-some found)) ∙ (λ j. refused_report Text.Rules (same.0 j) (same.1 j))
  bad-told room (second_bad number line none found) =
      let same = (rule_text.first_bad second number line (bad-some found)).1 found in
      report-second room none (rw same.0 (bad-some found)) ∙ (λ j. refused_report Text.SecondRules (same.0 j) (same.1 j))
  bad-told room (rights_differ kind none second_none cause) = report-joined room none second_none 58 kind (omega arith) ((join-refused (rules_in first) (rules_in second) 58 kind (omega arith)).1 cause)
  bad-told room (too_many n none second_none cause) = report-joined room none second_none 57 n (omega arith) ((join-refused (rules_in first) (rules_in second) 57 n (omega arith)).1 cause)

  -- no number of the output's own
  output-number : (room : ℕ) {text : Text} {number place : ℕ} → 0 < number → (number ≡ 18 → ⊥) → output_report (text_of joined.list) room ≡ refused_report text number place → ⊥
  unfolding output_report
  output-number room {text} {number} {place} some other e = go (leb (length (text_of joined.list)) room) e
    where
      go : (b : Bool) → cond b (written_report (length (text_of joined.list)) 0) (refused_report Text.OutputSpace 18 (length (text_of joined.list))) ≡ refused_report text number place → ⊥
      go true h = omega (arith, some, ap (λ (r : Report). r.number) h)
      go false h = other (sym (ap (λ (r : Report). r.number) h))

  -- THEOREM: every number but 18 is given, with its text and line, just where its cause is there
  pub join-bad : (room : ℕ) (text : Text) (number place : ℕ) → 0 < number → (number ≡ 18 → ⊥) → (reported room ≡ refused_report text number place) ↔ JoinBad first second text number place
  join-bad room text number place some other = (λ h. go (which room) h, bad-told room)
    where
      go : Case room → reported room ≡ refused_report text number place → JoinBad first second text number place
      go (bad t n p more not18 cause e) h =
          let same = sym e ∙ h in
          let same_text : t ≡ text = ap (λ (r : Report). r.text) same in
          let same_number : n ≡ number = ap (λ (r : Report). r.number) same in
          let same_place : p ≡ place = ap (λ (r : Report). r.place) same in
          rw (← same_text, ← same_number, ← same_place) cause
      go (whole e) h = absurd (output-number room some other (sym e ∙ h))

  -- THEOREM: 18 says how many bytes are needed, and with so many nothing is refused
  pub join-needed : (room place : ℕ) → reported room ≡ refused_report Text.OutputSpace 18 place
      → (place ≡ length (text_of joined.list)) × (room < place) × (output_report (text_of joined.list) place ≡ written_report (length (text_of joined.list)) 0)
  join-needed room place h = go (which room)
    where
      go : Case room → (place ≡ length (text_of joined.list)) × (room < place) × (output_report (text_of joined.list) place ≡ written_report (length (text_of joined.list)) 0)
      go (bad t n p more not18 cause e) = absurd (not18 (ap (λ (r : Report). r.number) (sym e ∙ h)))
      go (whole e) = output-needed (text_of joined.list) room place (sym e ∙ h)

  -- THEOREM: the joined text is never longer than any other rule list's
  pub joined-most : (read_rules second).number ≡ 0 → length (text_of joined.list) ≤ 9085
  unfolding joined_with
  joined-most none =
      rw (eq-eqb (read_rules second).number 0 none)
      (rules-most (join_of (rules_in first) (rules_in second)).list (join-kinds (rules_in first) (rules_in second))
      (join-accepted (rules_in first) (rules_in second) (read_whole first).1 (read_whole second).1))

-- ---- texts that come back byte for byte

-- where joining gives a list's own rights and rules, the joined text is its own
module _ (first second text : List ℕ) (none : (read_rules first).number ≡ 0) (second_none : (read_rules second).number ≡ 0) (text-none : (read_rules text).number ≡ 0)
    (same : join_of (rules_in first) (rules_in second) ≡ record { number = 0; place = 0; list = list_of (rules_in text).rights (rules_of (rules_in text)) }) where
  same_text : text_of (joined_with (rules_in first) (read_rules second)).list ≡ text
  same_text =
      ap (λ (l : LoadedRules). text_of l.list) (joined-both first second 0 none second_none)
      ∙ ap (λ (j : Joined). text_of j.list) same
      ∙ rw (list-rights (rules_in text).rights (rules_of (rules_in text)), rules-of-list (rules_in text).rights (rules_of (rules_in text)) (list-few (rules_in text) (read_whole text).2))
      (rule_text.write-back text (rules_in text) (loaded-list (read_lines text) text-none))

  same-report : (room : ℕ) → length text ≤ room → join_report (read_rules first) (read_rules second) room ≡ written_report (length text) 0
  unfolding output_report
  same-report room fits =
      report-whole first second room none second_none (ap (λ (j : Joined). j.number) same)
      ∙ ap (λ (t : List ℕ). output_report t room) same_text
      ∙ rw (le-leb (length text) room fits)

-- the empty text is the empty list
empty-list : read_rules [] ≡ record { number = 0; line = 0; list = list_of no_rights [] }
unfolding list_of no_rights rights_text right_text list_text every
empty-list = rule_text.read_back (list_of no_rights []) refl (list-accepted no_rights [] none-good)

empty-none : (read_rules []).number ≡ 0
empty-none = ap (λ (l : LoadedRules). l.number) empty-list

empty-rules : Empty (rules_in [])
unfolding list_of no_rights
empty-rules = subst (λ (l : LoadedRules). Empty l.list) (sym empty-list) (refl, λ kind below. ap (λ (slot : RightSlot). slot.right) (get_or-replicate 6 kind unstated unstated below))

module _ (text : List ℕ) (accepted : (read_rules text).number ≡ 0) (room : ℕ) (fits : length text ≤ room) where
  -- THEOREM: a text joined with itself is itself, byte for byte
  pub text-with-itself : (join_report (read_rules text) (read_rules text) room ≡ written_report (length text) 0) × (text_of (joined_with (rules_in text) (read_rules text)).list ≡ text)
  text-with-itself =
      let same = itself (rules_in text) (read_whole text) in
      (same-report text text text accepted accepted accepted same room fits, same_text text text text accepted accepted accepted same)

  -- THEOREM: joined with the empty text it is itself
  pub text-with-empty : (join_report (read_rules text) (read_rules []) room ≡ written_report (length text) 0) × (text_of (joined_with (rules_in text) (read_rules [])).list ≡ text)
  text-with-empty =
      let same = after-empty (rules_in text) (read_whole text) (rules_in []) (read_whole []).2 empty-rules in
      (same-report text [] text accepted empty-none accepted same room fits, same_text text [] text accepted empty-none accepted same)

  -- THEOREM: and the empty text with it, where it has no doubles
  pub empty-with-text : NoDoubles (rules_of (rules_in text)) → (join_report (read_rules []) (read_rules text) room ≡ written_report (length text) 0) × (text_of (joined_with (rules_in []) (read_rules text)).list ≡ text)
  empty-with-text single =
      let same = before-empty (rules_in text) (read_whole text) (rules_in []) (read_whole []).2 empty-rules single in
      (same-report [] text text empty-none accepted accepted same room fits, same_text [] text text empty-none accepted accepted same)
