-- THEOREMS on what `read_rules` and `write_rules` give one after the other: an accepted text comes back byte for byte, and a list that was
-- written is read as the same list.
-- Assumes nothing.
use mathlib.Core.Path.{◌≡◌, sym, ap, ◌∙◌, subst}
use mathlib.Core.List.{List}
use Prim.Native.Nat.{ℕ, ◌≤◌, ◌<◌}
use lib.ListN.{length, take}
use Rattle.forms.specs.Writing.{TextWritten}
use Rattle.std.specs.Prelude.{Ok, Err}
use Rattle.rules.specs.declared.lists.RuleList.{RuleList}
use Rattle.rule_text.specs.Reading.{SameRules, read_lines, read_rules}
use Rattle.rule_text.specs.Writing.{text_of, written_rules, lent_after_rules}
use Rattle.rule_text.specs.Reading.{LoadedRules}
use Rattle.rule_text.proofs.Loaded.{loaded-list}
use Rattle.rule_text.proofs.Back.{write-back, read_back, read-back-same, read-accepted}
use Rattle.rule_text.proofs.Room.{written, written-length, refused-18, refused-leaves}

-- ---- read, then written

module _ (text lent : List ℕ) (whole : (read_rules text).number ≡ 0) where
  same_text : text_of (read_rules text).list ≡ text
  same_text = write-back text (read_rules text).list (loaded-list (read_lines text) whole)

  -- into a space at least as long as the text: the text's length is answered, its bytes come first, and the bytes past it stay
  pub text-back : length text ≤ length lent → TextWritten text lent (written_rules (read_rules text).list lent) (lent_after_rules (read_rules text).list lent)
  text-back fits =
      subst (λ (x : List ℕ). TextWritten x lent (written_rules (read_rules text).list lent) (lent_after_rules (read_rules text).list lent)) same_text
      (written (read_rules text).list lent (read-accepted text) (rw same_text fits))

  -- into a shorter one: 18, and every byte stays
  pub text-short : length lent < length text → (written_rules (read_rules text).list lent ≡ Err 18) × (lent_after_rules (read_rules text).list lent ≡ lent)
  text-short short =
      let refused = (refused-18 (read_rules text).list lent).1 (read-accepted text, rw same_text short) in
      (refused, refused-leaves (read_rules text).list lent 18 refused)

-- ---- written, then read

-- the bytes that were written are accepted, and read as the same list
pub list_back : (list : RuleList) → length list.slots ≡ 128 → length list.rights ≡ 6 → (lent : List ℕ) (n : ℕ) → written_rules list lent ≡ Ok n
    → ((read_rules (take n (lent_after_rules list lent))).number ≡ 0) × SameRules list (read_rules (take n (lent_after_rules list lent))).list
list_back list slots kinds lent n answer =
    let fits = (written-length list lent n).0 answer in
    let front : take n (lent_after_rules list lent) ≡ text_of list = rw fits.2 (written list lent fits.0 fits.1).front in (
      ap (λ (t : List ℕ). (read_rules t).number) front ∙ ap (λ (l : LoadedRules). l.number) (read_back list kinds fits.0),
      subst (λ (t : List ℕ). SameRules list (read_rules t).list) (sym front) (read-back-same list slots kinds fits.0),
    )
