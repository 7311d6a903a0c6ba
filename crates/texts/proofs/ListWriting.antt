-- A rule list that was read, in either language, and is written in either. Assumes nothing.
use mathlib.Core.Path.{◌≡◌, sym, ap, ◌∙◌, subst}
use mathlib.Core.Bool.{true}
use mathlib.Core.Logic.{◌⊎◌, ⊎_elim}
use mathlib.Core.List.{List, ◌++◌}
use Prim.Native.Nat.{ℕ, ◌<◌}
use native.Mathlib.Omega.{arith}
use lib.ListN.{length, drop}
use lib.Dec.{eqb}
use borrow.Author.Tests.{le-leb, lt-leb, eq-eqb, ne_eqb}
use Rattle.sets.proofs.Booleans.{clash}
use Rattle.rules.specs.Acceptance.{list_accepted}
use Rattle.rule_text.specs.Writing.{text_of, rules_length, written_rules, lent_after_rules}
use Rattle.rule_text.specs.Reading.{LoadedRules, loaded_as}
use Rattle.rule_text.proofs.Loaded.{zero-or-some}
use Rattle.rule_text.proofs.Room.{refused-40, refused-18, refused-number, refused-leaves, written-length}
use Rattle.std.specs.Prelude.{Ok, Err}
use Rattle.forms.proofs.Room.{lent_written}
use Rattle.policy_text.specs.Writing.{policies_text, written_policies, lent_after_policies}
use Rattle.policy_text.specs.Writing as policies
use Rattle.policy_text.proofs.Missing.{expressible-means, lacks-means}
use Rattle.policy_text.proofs.Room as room
use Rattle.texts.proofs.SavedRunning.{refused-lent, written-lent}
use Rattle.texts.specs.SavedRuns.{refused_report, written_report, lent_to, output_report, list_report}
use Rattle.texts.specs.Policies.{refused_text, policies_from_report}
use Rattle.texts.specs.declared.saved_runs.Text.{Text}
use Rattle.texts.specs.SavedRuns.{Report}

pub some : {n : ℕ} → (n ≡ 0 → ⊥) → 0 < n
some {n} other = ⊎_elim (λ z. absurd (other z)) (λ more. more) (zero-or-some n)

-- a list that is known not to be refused
pub list-fits : (source : Text) (read : LoadedRules) → read.number ≡ 0 → (lent lent' : List ℕ) (r : Report)
    → (r ≡ list_report source (loaded_as (Ok read.list)) (length lent)) × (lent' ≡ lent_to r (text_of read.list) lent)
    → (r ≡ list_report source read (length lent)) × (lent' ≡ lent_to r (text_of read.list) lent)
unfolding list_report
list-fits source read none lent lent' r h = (h.0 ∙ sym (rw (eq-eqb read.number 0 none)), h.1)

-- ---- written as our text

-- what was read of a source, and a lent space
module _ (source : Text) (read : LoadedRules) (lent : List ℕ) where
  abbrev ListWritten : Report → List ℕ → Type 0
  ListWritten r lent' = (r ≡ list_report source read (length lent)) × (lent' ≡ lent_to r (text_of read.list) lent)

  pub list-refused : (read.number ≡ 0 → ⊥) → {r : Report} → r ≡ refused_report source read.number read.line → ListWritten r lent
  unfolding list_report
  list-refused n {r} q = (q ∙ rw (ne_eqb read.number 0 n), refused-lent r (text_of read.list) lent (rw q (some n)))

  module _ (accepted : list_accepted read.list ≡ true) (z : read.number ≡ 0) {lent' : List ℕ} (left : lent' ≡ lent_after_rules read.list lent) where
    as-output : list_report source read (length lent) ≡ output_report (text_of read.list) (length lent)
    unfolding list_report
    as-output = rw (eq-eqb read.number 0 z)

    -- there is no room, and the text needs so many bytes
    pub list-short : (number : ℕ) → Err number ≡ written_rules read.list lent → {needed : ℕ} → needed ≡ rules_length read.list → {r : Report}
        → r ≡ refused_report Text.OutputSpace 18 needed → ListWritten r lent'
    unfolding output_report rules_length
    list-short number f {needed} measured {r} q =
        let short : length lent < length (text_of read.list) =
        ⊎_elim (λ forty. clash accepted ((refused-40 read.list lent).0 (sym f ∙ ap Err forty)))
        (λ eighteen. ((refused-18 read.list lent).0 (sym f ∙ ap Err eighteen)).1)
        (refused-number read.list lent number (sym f)) in
        let kept : lent' ≡ lent = left ∙ refused-leaves read.list lent number (sym f) in
        let size : needed ≡ length (text_of read.list) = measured ∙ rw accepted in (
          q ∙ ap (λ (n : ℕ). refused_report Text.OutputSpace 18 n) size ∙ sym (as-output ∙ rw (lt-leb (length (text_of read.list)) (length lent) short)),
          kept ∙ refused-lent r (text_of read.list) lent (rw q (omega arith)),
        )

    lent-rules : (n : ℕ) → written_rules read.list lent ≡ Ok n → lent_after_rules read.list lent ≡ text_of read.list ++ drop n lent
    unfolding written_rules lent_after_rules
    lent-rules n h = lent_written (text_of read.list) lent (list_accepted read.list) n h

    pub list_written : (n : ℕ) → Ok n ≡ written_rules read.list lent → {r : Report} → r ≡ written_report n 0 → ListWritten r lent'
    unfolding output_report
    list_written n f {r} q =
        let fits = (written-length read.list lent n).0 (sym f) in (
          q ∙ ap (λ (m : ℕ). written_report m 0) fits.2 ∙ sym (as-output ∙ rw (le-leb (length (text_of read.list)) (length lent) fits.1)),
          written-lent r (text_of read.list) lent lent' (rw q) (left ∙ lent-rules n (sym f) ∙ ap (λ (m : ℕ). text_of read.list ++ drop m lent) fits.2),
        )

-- what was read is what is meant
pub list-given : (source : Text) {read given : LoadedRules} (lent lent' : List ℕ) (r : Report) → read ≡ given → ListWritten source read lent r lent' → ListWritten source given lent r lent'
list-given source lent lent' r e h = subst (λ (l : LoadedRules). ListWritten source l lent r lent') e h

-- ---- written as policies

module _ {given read : LoadedRules} (e : read ≡ given) (lent : List ℕ) where
  same_number : read.number ≡ given.number
  same_number = ap (λ (l : LoadedRules). l.number) e

  abbrev PoliciesGiven : Report → List ℕ → Type 0
  PoliciesGiven r lent' = (r ≡ policies_from_report given (length lent)) × (lent' ≡ lent_to r (policies_text given.list) lent)

  pub unread : (read.number ≡ 0 → ⊥) → {r : Report} → r ≡ refused_report Text.Rules read.number read.line → PoliciesGiven r lent
  unfolding policies_from_report
  unread n {r} q = (q ∙ rw (← e, ne_eqb read.number 0 n), refused-lent r (policies_text given.list) lent (rw q (some n)))

  module _ (accepted : list_accepted given.list ≡ true) (z : read.number ≡ 0) {lent' : List ℕ} (left : lent' ≡ lent_after_policies read.list lent) where
    zero-given : eqb given.number 0 ≡ true
    zero-given = eq-eqb given.number 0 (sym same_number ∙ z)

    answered : {w : policies.PoliciesWritten} → w ≡ written_policies read.list lent → written_policies given.list lent ≡ w
    answered f = sym (f ∙ ap (λ (l : LoadedRules). written_policies l.list lent) e)

    same_left : lent' ≡ lent_after_policies given.list lent
    same_left = left ∙ ap (λ (l : LoadedRules). lent_after_policies l.list lent) e

    pub policies-refused : (number place : ℕ) → policies.Refused number place ≡ written_policies read.list lent → {text : Text} → text ≡ refused_text number → {r : Report}
        → r ≡ refused_report text number place
        → PoliciesGiven r lent'
    unfolding policies_from_report output_report
    policies-refused number place f {text} told {r} q = (
      q ∙ ap (λ (about : Text). refused_report about number place) told ∙ ⊎_elim forty (λ other. ⊎_elim lacking short other) (room.refused-number given.list lent number place (answered f)),
      same_left ∙ room.refused-leaves given.list lent number place (answered f)
          ∙ refused-lent r (policies_text given.list) lent (rw q (above (room.refused-number given.list lent number place (answered f)))),
    )
      where
        above : (number ≡ 40) ⊎ ((number ≡ 56) ⊎ (number ≡ 18)) → 0 < number
        above given-number = ⊎_elim (λ h. omega arith) (λ other. ⊎_elim (λ h. omega arith) (λ h. omega arith) other) given-number

        forty : number ≡ 40 → refused_report (refused_text number) number place ≡ policies_from_report given (length lent)
        forty h = clash accepted ((room.refused-40 given.list lent place).0 (answered f ∙ ap (λ (n : ℕ). policies.Refused n place) h)).0

        lacking : number ≡ 56 → refused_report (refused_text number) number place ≡ policies_from_report given (length lent)
        lacking h =
            let cause = (room.refused-56 given.list lent place).0 (answered f ∙ ap (λ (n : ℕ). policies.Refused n place) h) in
            rw (zero-given, (lacks-means given.list place).1 cause.1, h)

        short : number ≡ 18 → refused_report (refused_text number) number place ≡ policies_from_report given (length lent)
        short h =
            let cause = (room.refused-18 given.list lent place).0 (answered f ∙ ap (λ (n : ℕ). policies.Refused n place) h) in
            rw (zero-given, (expressible-means given.list).1 cause.1, lt-leb (length (policies_text given.list)) (length lent) cause.2, h, cause.3)

    pub policies-written : (n : ℕ) → policies.Length n ≡ written_policies read.list lent → {r : Report} → r ≡ written_report n 0 → PoliciesGiven r lent'
    unfolding policies_from_report output_report
    policies-written n f {r} q =
        let fits = (room.written-length given.list lent n).0 (answered f) in (
          q ∙ rw (zero-given, (expressible-means given.list).1 fits.1, le-leb (length (policies_text given.list)) (length lent) fits.2, fits.3),
          written-lent r (policies_text given.list) lent lent' (rw q)
              (same_left ∙ room.written-leaves given.list lent n (answered f) ∙ ap (λ (m : ℕ). policies_text given.list ++ drop m lent) fits.3),
        )
