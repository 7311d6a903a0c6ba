-- THEOREMS on rule lists from one language to the other: each refusal for its own cause, what 18 needs, and both journeys there and back.
-- Assumes nothing.
use Rattle.std.specs.Prelude.{Option, Some, None}
use mathlib.Core.Path.{◌≡◌, refl, ap, ◌∙◌}
use mathlib.Core.Bool.{Bool, true, false, cond}
use mathlib.Core.Logic.{◌↔◌, ⊎_elim}
use mathlib.Core.List.{List}
use Prim.Native.Nat.{ℕ, ◌≤◌, ◌<◌}
use native.Mathlib.Omega.{arith}
use lib.ListN.{length}
use lib.Dec.{eqb, leb}
use borrow.Author.Tests.{le-leb, eq-eqb, ne_eqb, eqb-true}
use Rattle.rule_text.specs.Reading.{read_rules}
use Rattle.rule_text.specs.Writing.{text_of}
use Rattle.rule_text.specs.Reading.{LoadedRules}
use Rattle.rule_text.proofs.Back as own
use Rattle.state_text.proofs.Rows.{unequal}
use Rattle.policy_text.specs.Reading.{read_policies}
use Rattle.policy_text.specs.Writing.{without_policy, policies_text}
use Rattle.policy_text.specs.Causes.{FirstBad, HasNoLine, Expressible}
use Rattle.policy_text.proofs.Missing.{expressible-means, lacks-means}
use Rattle.policy_text.proofs.Back.{first_bad}
use Rattle.policy_text.proofs.Journeys.{policies-survive, rules-survive}
use Rattle.texts.specs.SavedRuns.{refused_report, written_report, output_report, list_report}
use Rattle.texts.specs.Policies.{rules_from_report, unless_lacking, policies_from_report}
use Rattle.texts.specs.declared.saved_runs.Text.{Text}
use Rattle.texts.specs.SavedRuns.{Report}
use Rattle.texts.proofs.Needed.{output-needed}

-- ---- our text from policies

module _ (policies : List ℕ) where
  abbrev read : LoadedRules
  read = read_policies policies

  -- the policies are refused with a number and a line exactly where that is the first bad line and its cause
  pub rules-from-refused : (room number line : ℕ) → 0 < number → (rules_from_report read room ≡ refused_report Text.Policies number line) ↔ FirstBad policies number line
  unfolding list_report output_report
  rules-from-refused room number line some =
      ((λ e. (first_bad policies number line some).0 (by_number (eqb read.number 0) e)), λ bad. refused ((first_bad policies number line some).1 bad))
    where
      by_number : (b : Bool) → cond b (output_report (text_of read.list) room) (refused_report Text.Policies read.number read.line) ≡ refused_report Text.Policies number line
          → (read.number ≡ number) × (read.line ≡ line)
      by_number true e = by-room (leb (length (text_of read.list)) room) e
        where
          by-room : {A : Type 0} (b : Bool) → cond b (written_report (length (text_of read.list)) 0) (refused_report Text.OutputSpace 18 (length (text_of read.list))) ≡ refused_report Text.Policies number line → A
          by-room true e = let other : Text.None ≡ Text.Policies = ap (λ (r : Report). r.text) e in unequal cc
          by-room false e = let other : Text.OutputSpace ≡ Text.Policies = ap (λ (r : Report). r.text) e in unequal cc
      by_number false e = (ap (λ (r : Report). r.number) e, ap (λ (r : Report). r.place) e)

      refused : (read.number ≡ number) × (read.line ≡ line) → rules_from_report read room ≡ refused_report Text.Policies number line
      refused answer = rw (ne_eqb read.number 0 (λ z. omega (arith, answer.0)), answer.0, answer.1)

  -- a space that is too short is told the length that it needs, and with just that room it is not refused
  pub rules-from-needed : (room place : ℕ) → rules_from_report read room ≡ refused_report Text.OutputSpace 18 place
      → (place ≡ length (text_of read.list)) × (room < place) × (rules_from_report read place ≡ written_report (length (text_of read.list)) 0)
  unfolding list_report
  rules-from-needed room place e = go (eqb read.number 0) e
    where
      go : (b : Bool) → cond b (output_report (text_of read.list) room) (refused_report Text.Policies read.number read.line) ≡ refused_report Text.OutputSpace 18 place
          → (place ≡ length (text_of read.list)) × (room < place)
          × (cond b (output_report (text_of read.list) place) (refused_report Text.Policies read.number read.line) ≡ written_report (length (text_of read.list)) 0)
      go true e = output-needed (text_of read.list) room place e
      go false e = let other : Text.Policies ≡ Text.OutputSpace = ap (λ (r : Report). r.text) e in unequal cc

-- ---- policies from our text

module _ (rules : List ℕ) where
  abbrev own_read : LoadedRules
  own_read = read_rules rules

  -- 56 with a rule, exactly where our text is accepted and has a right line (rule 0), or the rule is the lowest that is none of the five kinds
  pub policies-from-56 : (room n : ℕ) → (policies_from_report own_read room ≡ refused_report Text.Rules 56 n) ↔ ((own_read.number ≡ 0) × HasNoLine own_read.list n)
  unfolding policies_from_report output_report
  policies-from-56 room n =
      (by_number (eqb own_read.number 0) refl, λ cause. rw (eq-eqb own_read.number 0 cause.0, (lacks-means own_read.list n).1 cause.1))
    where
      by-policy : (w : Option ℕ) → without_policy own_read.list ≡ w → unless_lacking w (policies_text own_read.list) room ≡ refused_report Text.Rules 56 n → HasNoLine own_read.list n
      by-policy (Some m) e h = let same : m ≡ n = ap (λ (r : Report). r.place) h in (lacks-means own_read.list n).0 (e ∙ ap Some same)
      by-policy None e h = by-room (leb (length (policies_text own_read.list)) room) h
        where
          by-room : {A : Type 0} (b : Bool) → cond b (written_report (length (policies_text own_read.list)) 0) (refused_report Text.OutputSpace 18 (length (policies_text own_read.list))) ≡ refused_report Text.Rules 56 n → A
          by-room true e = let other : Text.None ≡ Text.Rules = ap (λ (r : Report). r.text) e in unequal cc
          by-room false e = let other : Text.OutputSpace ≡ Text.Rules = ap (λ (r : Report). r.text) e in unequal cc

      by_number : (b : Bool) → eqb own_read.number 0 ≡ b
          → cond b (unless_lacking (without_policy own_read.list) (policies_text own_read.list) room) (refused_report Text.Rules own_read.number own_read.line) ≡ refused_report Text.Rules 56 n
          → (own_read.number ≡ 0) × HasNoLine own_read.list n
      by_number true z h = (eqb-true own_read.number 0 z, by-policy (without_policy own_read.list) refl h)
      by_number false z h =
          let number : own_read.number ≡ 56 = ap (λ (r : Report). r.number) h in
          absurd (⊎_elim (λ none. omega (arith, number)) (λ given. omega (arith, number, given.1)) (own.read_number rules))

  pub policies-from-needed : (room place : ℕ) → policies_from_report own_read room ≡ refused_report Text.OutputSpace 18 place
      → (place ≡ length (policies_text own_read.list)) × (room < place) × (policies_from_report own_read place ≡ written_report (length (policies_text own_read.list)) 0)
  unfolding policies_from_report
  policies-from-needed room place e = go (eqb own_read.number 0) (without_policy own_read.list) e
    where
      go : (b : Bool) (w : Option ℕ)
          → cond b (unless_lacking w (policies_text own_read.list) room) (refused_report Text.Rules own_read.number own_read.line) ≡ refused_report Text.OutputSpace 18 place
          → (place ≡ length (policies_text own_read.list)) × (room < place)
          × (cond b (unless_lacking w (policies_text own_read.list) place) (refused_report Text.Rules own_read.number own_read.line) ≡ written_report (length (policies_text own_read.list)) 0)
      go true None e = output-needed (policies_text own_read.list) room place e
      go true (Some n) e = let other : Text.Rules ≡ Text.OutputSpace = ap (λ (r : Report). r.text) e in unequal cc
      go false w e = let other : Text.Rules ≡ Text.OutputSpace = ap (λ (r : Report). r.text) e in unequal cc

-- ---- "A list of these five kinds survives either journey."

-- our text made of accepted policies is turned back into the same policies, byte for byte, in any space that has room for them
pub policies-come-back : (policies : List ℕ) (room : ℕ) → (read_policies policies).number ≡ 0 → length policies ≤ room
    → (policies_from_report (read_rules (text_of (read_policies policies).list)) room ≡ written_report (length policies) 0)
    × (policies_text (read_rules (text_of (read_policies policies).list)).list ≡ policies)
unfolding policies_from_report output_report
policies-come-back policies room none fits =
    let list = (read_rules (text_of (read_policies policies).list)).list in
    let back = policies-survive policies none in
    (rw (eq-eqb (read_rules (text_of (read_policies policies).list)).number 0 back.0, (expressible-means list).1 back.1, back.2, le-leb (length policies) room fits), back.2)

-- and policies made of an accepted text of ours, which 56 does not refuse, into the same text
pub rules-come-back : (rules : List ℕ) (room : ℕ) → (read_rules rules).number ≡ 0 → Expressible (read_rules rules).list → length rules ≤ room
    → (rules_from_report (read_policies (policies_text (read_rules rules).list)) room ≡ written_report (length rules) 0)
    × (text_of (read_policies (policies_text (read_rules rules).list)).list ≡ rules)
unfolding list_report output_report
rules-come-back rules room none good fits =
    let back = rules-survive rules none good in
    (rw (eq-eqb (read_policies (policies_text (read_rules rules).list)).number 0 back.0, back.1, le-leb (length rules) room fits), back.1)
