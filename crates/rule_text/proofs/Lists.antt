-- A whole text: what reading its lines gives, and what text gives it.
-- Assumes nothing.
use mathlib.Core.Path.{◌≡◌, refl, sym, ap, ◌∙◌}
use mathlib.Core.Bool.{true, ◌&&◌}
use mathlib.Core.Logic.{◌⊎◌}
use mathlib.Core.List.{List, [], ◌∷◌, ◌++◌, append_assoc, append-nil}
use Prim.Native.Nat.{ℕ, suc, ◌+◌, ◌≤◌, ◌<◌}
use native.Mathlib.Omega.{arith}
use lib.ListN.{length, drop, length-append}
use lib.Seq.{drop-append_seam}
use Rattle.sets.proofs.Booleans.{both, both_true}
use Rattle.rules.specs.Acceptance.{rule_in_range, rule_distinct, rule_sound, rule_accepted, every}
use Rattle.rules.specs.declared.families.Rule.{Rule}
use Rattle.rules.specs.declared.rights.Right.TheVariants.{Unstated, Permission}
use Rattle.rules.specs.declared.rights.RightSlot.{RightSlot}
use Rattle.rule_text.specs.Lines.{rule_text, list_text, right_text, rights_text, right_lines, lines_text}
use Rattle.rule_text.specs.Reading.{read_line, RulesRead, LinesRead, read_from, read_rights, rights_then, read_lines}
use Rattle.rule_text.specs.Causes.{RuleStands, RightStands, Misplaced, second_of_kind, out_of_order, after_rule, Cause, no_form, out_of_range, not_next, misplaced, same_twice, unsound, GoodLine, RightsEnd, GoodLines}
use Rattle.rule_text.specs.declared.reading.Parsed.{Parsed}
use Rattle.std.specs.Prelude.{Ok}
use Rattle.rule_text.specs.declared.rights.RightsRead.{RightsRead}
use Rattle.rule_text.proofs.NumberedLines.{LineStands, Language, RulesReads, reads-from, lines-whole, lines-until}
use Rattle.rule_text.proofs.Causes.{line_refused, line-good, cause-ends, has-cause}
use Rattle.rule_text.proofs.Inverse.{text-some}
use Rattle.rule_text.proofs.RightLines.{right-some, no-rule}
use Rattle.rule_text.proofs.RightLists.{NoneFrom, RightsReads, reads-rights, rights-end, rights-back}

-- a line is refused with 10 to 14 alone
pub cause-number : {rights : List RightSlot} {n : ℕ} {text : List ℕ} {number : ℕ} → Cause rights n text number → (10 ≤ number) × (number ≤ 14)
cause-number (no_form none) = (omega arith, omega arith)
cause-number (out_of_range k values st outside outside-right) = (omega arith, omega arith)
cause-number (not_next m rule st other) = (omega arith, omega arith)
cause-number (misplaced kind permission st why) = (omega arith, omega arith)
cause-number (same_twice rule st same) = (omega arith, omega arith)
cause-number (unsound rule st distinct bad) = (omega arith, omega arith)

-- no refusal is 0
pub cause-some : {rights : List RightSlot} {n : ℕ} {text : List ℕ} {number : ℕ} → Cause rights n text number → 0 < number
cause-some cause = omega (arith, (cause-number cause).0)

-- a good line's rule is accepted
pub good-accepted : {n : ℕ} {text : List ℕ} {entry : Parsed} → GoodLine n text entry → rule_accepted entry.rule ≡ true
good-accepted {n} {text} {entry} good =
    both_true (rule_in_range entry.rule) (rule_distinct entry.rule && rule_sound entry.rule) good.stands.fits_range
    (both_true (rule_distinct entry.rule) (rule_sound entry.rule) good.distinct good.sound)

-- ---- the gate's own lines, as a language

good-stands : (n : ℕ) (text : List ℕ) (entry : Parsed) → read_line n text ≡ Ok entry → LineStands rule_text rule_accepted n text entry
good-stands n text entry e =
    let good = (line-good n text entry).0 e in
    record {
      first = good.stands.first;
      last = good.stands.last;
      passed = good-accepted good;
      rest = good.stands.rest;
      reads = good.stands.reads;
      length = good.length;
    }

stands_good : (n : ℕ) (text : List ℕ) (entry : Parsed) → LineStands rule_text rule_accepted n text entry → read_line n text ≡ Ok entry
stands_good n text entry line =
    let rule = entry.rule in
    let parts = both (rule_in_range rule) (rule_distinct rule && rule_sound rule) line.passed in
    let others = both (rule_distinct rule) (rule_sound rule) parts.1 in
    (line-good n text entry).1
    (record {
      stands = record { first = line.first; last = line.last; fits_range = parts.0; rest = line.rest; reads = line.reads };
      distinct = others.0;
      sound = others.1;
      length = line.length;
    })

pub own-language : (rights : List RightSlot) → Language read_line rule_text rule_accepted (Cause rights) (RightsEnd rights)
own-language rights = record {
  later = λ n text more kind permission st. after_rule more;
  good-stands = good-stands;
  stands_good = stands_good;
  bad-cause = λ n text number ended. (line_refused rights n text ended number).0;
  cause-bad = λ n text number. has-cause rights n text;
  some = λ n rule first last accepted. text-some n rule first last (both (rule_in_range rule) (rule_distinct rule && rule_sound rule) accepted).0;
}

-- ---- what is read are good lines

-- the text is the good lines of the rights and the rules, and ends, or goes on with a line that has the cause of the number
pub record Reads (text : List ℕ) (lines : LinesRead) : Type 0 where
  pub good : GoodLines lines.rights lines.rules
  pub rest : List ℕ
  pub reads : text ≡ lines_text lines.rights lines.rules ++ rest
  pub bytes : lines.length ≡ length (lines_text lines.rights lines.rules)
  pub stops : ((lines.number ≡ 0) × (rest ≡ [])) ⊎ ((0 < length rest) × Cause lines.rights (suc (length lines.rules)) rest lines.number)

reads_both : {text : List ℕ} {before : RightsRead} {lines : RulesRead} (first : RightsReads 6 0 text before)
    → RulesReads rule_text rule_accepted (Cause before.rights) 1 first.rest lines
    → Reads text (rights_then before lines)
reads_both {text} {before} {lines} first next =
    let a : 1 + length lines.rules ≡ suc (length lines.rules) = omega arith in
    record {
      good = record { kinds = first.count; fits_range = λ kind h. first.fits_range kind; few = omega (arith, next.few); accepted = next.passed };
      rest = next.rest;
      reads =
          first.reads ∙ ap (λ (l : List ℕ). rights_text 0 before.rights ++ l) next.reads
          ∙ sym (append_assoc (rights_text 0 before.rights) (list_text rule_text 1 lines.rules) next.rest);
      bytes = rw (length-append, first.bytes, next.bytes);
      stops = rw a at next.stops;
    }

-- what is left after the rights
rest-after : {text : List ℕ} {before : RightsRead} (first : RightsReads 6 0 text before) → drop before.length text ≡ first.rest
rest-after {text} {before} first =
    rw first.bytes (ap (drop (length (rights_text 0 before.rights))) first.reads ∙ drop-append_seam (rights_text 0 before.rights) first.rest)

-- the lines of a text, as read
pub reads_lines : (text : List ℕ) → Reads text (read_lines text)
unfolding read_lines
reads_lines text =
    let first = reads-rights 6 0 text (omega arith) in
    rw (rest-after first) (reads_both first (reads-from (own-language (read_rights text).rights) 129 1 first.rest (omega arith) (omega arith) (omega arith) (rights-end first)))

-- what is left after the good lines
pub reads-rest : (text : List ℕ) → drop (read_lines text).length text ≡ (reads_lines text).rest
reads-rest text =
    let lines = reads_lines text in
    let front = lines_text (read_lines text).rights (read_lines text).rules in
    rw lines.bytes (ap (drop (length front)) lines.reads ∙ drop-append_seam front lines.rest)

-- ---- and good lines, where the text ends or goes on with a line that has a cause, are read so

nothing-stands : {kind permission : ℕ} → RightStands [] kind permission → ⊥
nothing-stands {kind} {permission} st =
    omega (arith, right-some kind permission st.known st.fits_range, ap length st.reads, length-append (right_text kind (Permission permission)) st.rest)

differ : {X : Type 0} → ◌≡◌ {A = ℕ} 0 1 → X
differ e = absurd (omega arith)

-- a kind that has no right, nor has a later one, is not misplaced before the first rule
free-kind : (rights : List RightSlot) (kind : ℕ) → NoneFrom kind rights → Misplaced rights 1 kind → ⊥
free-kind rights kind none (second_of_kind earlier e) = let clashing : Permission earlier ≡ Unstated = sym e ∙ none kind (omega arith) in differ cc
free-kind rights kind none (out_of_order later earlier h e) = let clashing : Permission earlier ≡ Unstated = sym e ∙ none later (omega arith) in differ cc
free-kind rights kind none (after_rule h) = omega arith

module _ (rights : List RightSlot) (rules : List Rule) (good : GoodLines rights rules) where
  -- before the rules, no line of a kind that is free stands there
  no-free : (rest : List ℕ) → RightsEnd rights (suc (length rules)) rest → (kind : ℕ) → NoneFrom kind rights → (permission : ℕ)
      → RightStands (list_text rule_text 1 rules ++ rest) kind permission → ⊥
  no-free rest ended kind none permission = by-rules rules good.few good.accepted (λ e. rw e at ended)
    where
      by-rules : (rules : List Rule) → length rules ≤ 128 → every rule_accepted rules ≡ true → (length rules ≡ 0 → RightsEnd rights 1 rest)
          → RightStands (list_text rule_text 1 rules ++ rest) kind permission → ⊥
      by-rules [] few accepted last st = free-kind rights kind none (last refl kind permission (unfold list_text in st))
      by-rules (rule ∷ more) few accepted last st = no-rule st there
        where
          there : RuleStands (list_text rule_text 1 (rule ∷ more) ++ rest) 1 rule
          there = unfold list_text every in record {
            first = omega arith;
            last = omega arith;
            fits_range = (both (rule_in_range rule) (rule_distinct rule && rule_sound rule) (both (rule_accepted rule) (every rule_accepted more) accepted).0).0;
            rest = list_text rule_text 2 more ++ rest;
            reads = append_assoc (rule_text 1 rule) (list_text rule_text 2 more) rest;
          }

  rights-first : (rest : List ℕ) → RightsEnd rights (suc (length rules)) rest
      → read_rights (rights_text 0 rights ++ (list_text rule_text 1 rules ++ rest)) ≡ record { rights = rights; length = length (rights_text 0 rights); lines = right_lines rights }
  rights-first rest ended =
      rw good.kinds at
      (rights-back rights 0 (list_text rule_text 1 rules ++ rest) (omega (arith, good.kinds)) (λ i h. good.fits_range i (omega (arith, good.kinds)))
      (λ i h none permission st. let here : 0 + i ≡ i = omega arith in no-free rest ended i none permission (rw here at st)))

  reads_then : (rest : List ℕ) (number : ℕ) → RightsEnd rights (suc (length rules)) rest
      → read_from read_line 129 1 (list_text rule_text 1 rules ++ rest) ≡ record { rules = rules; length = length (list_text rule_text 1 rules); number = number }
      → read_lines (lines_text rights rules ++ rest) ≡ record { rights = rights; rules = rules; length = length (lines_text rights rules); number = number }
  unfolding read_lines
  reads_then rest number ended rules-read =
      rw (append_assoc (rights_text 0 rights) (list_text rule_text 1 rules) rest, rights-first rest ended, drop-append_seam, rules-read, length-append)

  pub reads_whole : read_lines (lines_text rights rules) ≡ record { rights = rights; rules = rules; length = length (lines_text rights rules); number = 0 }
  reads_whole =
      rw append-nil at
      (reads_then [] 0 (λ kind permission st. absurd (nothing-stands st)) (rw append-nil (lines-whole (own-language rights) rules good.few good.accepted)))

  pub reads-until : (rest : List ℕ) (number : ℕ) → 0 < length rest → Cause rights (suc (length rules)) rest number
      → read_lines (lines_text rights rules ++ rest) ≡ record { rights = rights; rules = rules; length = length (lines_text rights rules); number = number }
  reads-until rest number some cause =
      reads_then rest number (cause-ends rights (suc (length rules)) rest cause)
      (lines-until (own-language rights) rules good.few good.accepted rest number some cause)
