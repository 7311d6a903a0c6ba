-- There and back: a text that is read is its state's text, byte for byte; a reached state, written and read, is itself; and what is read
-- is neither refused by 40 nor breaks a rule.
-- Assumes nothing.
use mathlib.Core.Path.{◌≡◌, refl, sym, ap, ◌∙◌, subst}
use mathlib.Core.Bool.{Bool, true, false, cond}
use mathlib.Core.List.{List, [], ◌∷◌}
use Prim.Native.Nat.{ℕ, ◌<◌}
use native.Mathlib.Omega.{arith}
use lib.ListN.{length}
use Rattle.rules.specs.Acceptance.{list_accepted}
use Rattle.rules.specs.declared.lists.RuleList.{RuleList}
use Rattle.steps.specs.declared.steps.Step.{Step}
use Rattle.enforcement.specs.States.{fresh}
use Rattle.enforcement.specs.Gate.{run_of}
use Rattle.enforcement.specs.Runs.{last_state}
use Rattle.enforcement.specs.Reached.{Reached}
use Rattle.enforcement.specs.Safety.{AllRights, HoldsNoRight, OwnSteps, Unchanged}
use Rattle.enforcement.specs.declared.states.State.{State}
use Rattle.enforcement.proofs.Reaching.{Good, reached-good}
use Rattle.enforcement.proofs.Safety.{safety}
use Rattle.forms.specs.Numbers.{digits_of, digits_within}
use Rattle.forms.specs.Kinds.{kind_of, lookup, is_slot}
use Rattle.forms.specs.Forms.{text_by, item_text, fill}
use Rattle.forms.specs.Tables.{bytes, lines_in, form_at}
use Rattle.state_text.specs.Entries.{saved_forms, form_of, values_of, line_text}
use Rattle.state_text.specs.Saving.{lines_of, lines_text, saved_text}
use Rattle.state_text.specs.Reading.{loaded, refused, under_rules, read_lines, read_state}
use Rattle.state_text.specs.Causes.{state_after, GoodText, ReadUnder}
use Rattle.state_text.specs.declared.entries.Entry.{Entry}
use Rattle.state_text.specs.declared.entries.Entry.TheVariants.{Now}
use Rattle.state_text.proofs.Keeping.{Kept}
use Rattle.state_text.proofs.Rows.{unequal}
use Rattle.state_text.proofs.GoodLines.{GoodLines, good_left, lines-good, some-lines, fresh_lines}
use Rattle.state_text.proofs.JoinedLines.{text-one}
use Rattle.state_text.proofs.Earlier.{good-means}
use Rattle.state_text.proofs.OwnCauses.{read-good}

-- what good lines leave is kept, and has those lines
text-left : (text : List ℕ) (s : State) → GoodText text s → Kept s × (saved_text s ≡ text)
unfolding saved_text
text-left text s good = go good.lines good.some good.whole ((good-means good.lines).1 good.good) good.same
  where
    go : (es : List Entry) → 0 < length es → text ≡ lines_text es → GoodLines 0 fresh es → state_after fresh es ≡ s → Kept s × (lines_text (lines_of s) ≡ text)
    go [] some whole lines same = absurd (omega arith)
    go (e ∷ es) some whole lines same =
        let left = good_left e es lines in
        (subst Kept same left.kept, ap (λ (x : State). lines_text (lines_of x)) (sym same) ∙ ap lines_text left.lines ∙ sym whole)

module _ (list : RuleList) where
  -- under rules that 40 refuses nothing is read
  list_read : (text : List ℕ) (s : State) → read_state list text ≡ loaded s → list_accepted list ≡ true
  unfolding read_state
  list_read text s h = go (list_accepted list) h
    where
      go : (b : Bool) → cond b (under_rules list (read_lines text)) (refused 40 0) ≡ loaded s → b ≡ true
      go true h = refl
      go false h = unequal cc

  -- an accepted text, written again, is the same bytes
  pub write-back : (text : List ℕ) (s : State) → read_state list text ≡ loaded s → saved_text s ≡ text
  write-back text s h = (text-left text s ((read-good list text (list_read text s h) s).0 h).0).1

  -- reading never gives a state that 40 refuses, nor one that breaks a rule of the list
  pub read-accepted : (text : List ℕ) (s : State) → read_state list text ≡ loaded s → Good list s
  read-accepted text s h =
      let good = (read-good list text (list_read text s h) s).0 h in
      let kept = (text-left text s good.0).0 in
      record { accepted = kept.accepted; held = kept.held; lending = kept.lending; obeyed = good.1 }

  -- a state that 40 does not refuse, whose active roles are held, whose loans run as they were lent and that obeys the rules, written and
  -- read, is itself
  pub good-back : list_accepted list ≡ true → (s : State) → Good list s → read_state list (saved_text s) ≡ loaded s
  unfolding saved_text
  good-back listed s good =
      let kept : Kept s = record { accepted = good.accepted; held = good.held; lending = good.lending } in
      let lines = lines-good s kept in
      (read-good list (saved_text s) listed s).1
      (record { lines = lines_of s; some = some-lines s; whole = refl; good = (good-means (lines_of s)).0 lines.0; same = lines.1 }, good.obeyed)

  -- every reached state, written and read under the rules in force, is itself
  pub read_back : list_accepted list ≡ true → {s : State} → Reached list (ReadUnder list) s → read_state list (saved_text s) ≡ loaded s
  read_back listed {s} reached = good-back listed s (reached-good list listed (ReadUnder list) (λ s read. read-accepted read.0 s read.1) reached)

  -- "rule keeper: a saved state comes back as it went out": from any reached state what is written is read, and what is read is the same
  -- state, and its text the same bytes
  pub rule-keeper : list_accepted list ≡ true → {s : State} → Reached list (ReadUnder list) s → (t : State) × (read_state list (saved_text s) ≡ loaded t) × (t ≡ s) × (saved_text t ≡ saved_text s)
  rule-keeper listed {s} reached = (s, read_back listed reached, refl, refl)

-- 2026-05: "from a state reached by the gate": from fresh, or from a saved text that was read under the rules in force
pub saved-safety : (list : RuleList) → list_accepted list ≡ true → {s : State} → Reached list (ReadUnder list) s →
    (u : ℕ) → AllRights list → HoldsNoRight list s u → (steps : List Step) → OwnSteps u list s steps → Unchanged s (last_state s (run_of list s steps))
saved-safety list listed = safety list listed (ReadUnder list) (λ s read. read-accepted list read.0 s read.1)

-- "Fresh is `(now 0)`."
pub fresh-text : saved_text fresh ≡ bytes "(now 0)\n"
unfolding saved_text line_text form_of values_of form_at lines_in saved_forms fill item_text text_by digits_of digits_within is_slot kind_of lookup
fresh-text = ap lines_text fresh_lines ∙ text-one (Now 0)
