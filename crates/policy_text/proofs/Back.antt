-- THEOREMS on policies as texts: there and back, what is accepted, and the first bad line.
-- Assumes nothing.
use mathlib.Core.Path.{◌≡◌, refl, sym, ap, ◌∙◌, subst}
use mathlib.Core.Bool.{true}
use mathlib.Core.Logic.{◌↔◌, ◌⊎◌, inl, inr, ⊎_elim}
use mathlib.Core.List.{List, [], ◌++◌, append-nil}
use Prim.Native.Nat.{ℕ, suc, ◌<◌}
use native.Mathlib.Omega.{arith}
use lib.ListN.{length, get_or, get_or-replicate}
use Rattle.rules.specs.Acceptance.{unstated, right_at, rules_of, list_accepted}
use Rattle.rules.specs.declared.families.Rule.{Rule}
use Rattle.rules.specs.declared.rights.Right.TheVariants.{Unstated}
use Rattle.rules.specs.declared.rights.RightSlot.{RightSlot}
use Rattle.rules.specs.declared.lists.RuleList.{RuleList}
use Rattle.rule_text.specs.Lines.{filler, list_text, right_lines, next_line}
use Rattle.rule_text.specs.Reading.{no_rights, list_of, SameRules, loaded_of}
use Rattle.rule_text.specs.Reading.{LoadedRules}
use Rattle.rule_text.proofs.Slots.{rules-of-list, list-rights, list-accepted, slots_length, list-few, accepted-most, accepted-rules, none-good, same-rules}
use Rattle.rule_text.proofs.Loaded.{loaded-whole, loaded-bad, zero-or-some, loaded-zero, loaded-some}
use Rattle.policy_text.specs.Lines.{policy_text}
use Rattle.policy_text.specs.Reading.{policies_read, read_policies}
use Rattle.policy_text.specs.Writing.{policies_text}
use Rattle.policy_text.specs.Causes.{OfFiveKinds, Cause, GoodPolicies, FirstBad, Expressible}
use Rattle.policy_text.proofs.Lists.{good-lines, GivenNumber, cause-number, cause-some, reads_lines, lines_of, reads_whole, reads-until}

-- ---- what is loaded

no_lines : right_lines no_rights ≡ 0
unfolding no_rights right_lines
no_lines = refl

-- no line of the language states a right
rights-none : (text : List ℕ) → (policies_read text).rights ≡ no_rights
unfolding policies_read
rights-none text = refl

-- the list of good policies
module _ (rules : List Rule) (good : GoodPolicies rules) where
  pub list-of-rules : rules_of (list_of no_rights rules) ≡ rules
  list-of-rules = rules-of-list no_rights rules good.few

  pub list-is-accepted : list_accepted (list_of no_rights rules) ≡ true
  list-is-accepted = list-accepted no_rights rules (good-lines good)

  pub list-expressible : Expressible (list_of no_rights rules)
  list-expressible = record {
    no_right = λ kind low. rw (list-rights no_rights rules) (none-at kind low);
    kinds = λ i low. subst (λ (l : List Rule). OfFiveKinds (get_or l i filler)) (sym list-of-rules) (good.kinds i (rw list-of-rules at low));
  }
    where
      none-at : (kind : ℕ) → kind < 6 → right_at no_rights kind ≡ Unstated
      none-at kind low = unfold no_rights in ap (λ (slot : RightSlot). slot.right) (get_or-replicate 6 kind unstated unstated low)

-- the rules of an accepted list of the five kinds are good policies
pub accepted-policies : (list : RuleList) → list_accepted list ≡ true → Expressible list → GoodPolicies (rules_of list)
accepted-policies list accepted good = record { few = list-few list accepted; accepted = accepted-rules list accepted; kinds = good.kinds }

-- a text that is accepted is the text of its policies
whole-text : (text : List ℕ) → (policies_read text).number ≡ 0 → text ≡ list_text policy_text 1 (policies_read text).rules
whole-text text none =
    let front = list_text policy_text 1 (policies_read text).rules in
    ⊎_elim
    (λ stop. (reads_lines text).reads ∙ ap (λ (l : List ℕ). front ++ l) stop.1 ∙ append-nil front)
    (λ stop. absurd (omega (arith, cause-some stop.1, none)))
    (reads_lines text).stops

-- and is read as the list of their rules
pub whole-list : (text : List ℕ) → (read_policies text).number ≡ 0
    → (read_policies text ≡ record { number = 0; line = 0; list = list_of no_rights (policies_read text).rules }) × (text ≡ list_text policy_text 1 (policies_read text).rules)
whole-list text none =
    let zero = loaded-zero (policies_read text) none in
    (loaded-whole (policies_read text) zero ∙ rw (rights-none text), whole-text text zero)

-- ---- there and back

-- a text that is accepted is the text of the list that was read, byte for byte
pub write-back : (text : List ℕ) → (read_policies text).number ≡ 0 → policies_text (read_policies text).list ≡ text
write-back text none =
    let whole = whole-list text none in
    rw (whole.0, list-of-rules (policies_read text).rules (reads_lines text).good) (sym whole.1)

-- an accepted list of the five kinds and no right line, written and read, is the list of its rules
pub read_back : (list : RuleList) → list_accepted list ≡ true → Expressible list → read_policies (policies_text list) ≡ record { number = 0; line = 0; list = list_of no_rights (rules_of list) }
read_back list accepted good =
    rw (reads_whole (rules_of list) (accepted-policies list accepted good)) (loaded-whole (lines_of (rules_of list) 0) refl)

-- its length, the rules below it, past it the filler, and the right of each kind
pub read-back-same : (list : RuleList) → length list.slots ≡ 128 → list_accepted list ≡ true → Expressible list → SameRules list (read_policies (policies_text list)).list
read-back-same list slots accepted good =
    let same = same-rules list slots (accepted-most list accepted) in
    rw (read_back list accepted good)
    (record {
      same_length = unfold list_of in (unfold list_of in same.same_length);
      below = λ i low. unfold list_of in (unfold list_of in same.below i low);
      past = λ i after low. unfold list_of in (unfold list_of in same.past i after low);
      same_rights = λ kind low. (list-expressible (rules_of list) (accepted-policies list accepted good)).no_right kind low ∙ sym (good.no_right kind low);
    })

-- ---- what is accepted

-- reading never gives a list that 40 refuses
pub read-accepted : (text : List ℕ) → list_accepted (read_policies text).list ≡ true
read-accepted text =
    ⊎_elim
    (λ none. rw (loaded-whole (policies_read text) none, rights-none text) (list-is-accepted (policies_read text).rules (reads_lines text).good))
    (λ some. rw (loaded-bad (policies_read text) some) (list-accepted no_rights [] none-good))
    (zero-or-some (policies_read text).number)

-- and one that it accepts can be written again
pub read-expressible : (text : List ℕ) → (read_policies text).number ≡ 0 → Expressible (read_policies text).list
read-expressible text none = rw (whole-list text none).0 (list-expressible (policies_read text).rules (reads_lines text).good)

-- a list as the code holds it, which 40 does not refuse, of the five kinds and without a right line
abbrev pub AcceptedPolicies : RuleList → Type 0
AcceptedPolicies list = (length list.slots ≡ 128) × (length list.rights ≡ 6) × (list_accepted list ≡ true) × Expressible list

-- a text is accepted exactly where it is the text of such a list
pub accepted-as-text : (text : List ℕ) → ((read_policies text).number ≡ 0) ↔ ((list : RuleList) × AcceptedPolicies list × (text ≡ policies_text list))
accepted-as-text text =
    (as-text, λ of-list. ap (λ (l : LoadedRules). l.number) (ap read_policies of-list.2 ∙ read_back of-list.0 of-list.1.2 of-list.1.3))
  where
    as-text : (read_policies text).number ≡ 0 → (list : RuleList) × AcceptedPolicies list × (text ≡ policies_text list)
    as-text none =
        let rules = (policies_read text).rules in
        let good = (reads_lines text).good in (
          list_of no_rights rules,
          (slots_length no_rights rules, ap length (list-rights no_rights rules) ∙ none-good.kinds, list-is-accepted rules good, list-expressible rules good),
          (whole-list text none).1 ∙ sym (ap (list_text policy_text 1) (list-of-rules rules good)),
        )

-- ---- which numbers are given

-- no number but 55, 11, 12 and 13 is ever given
pub read_number : (text : List ℕ) → ((read_policies text).number ≡ 0) ⊎ GivenNumber (read_policies text).number
read_number text =
    ⊎_elim
    (λ none. inl (ap (λ (l : LoadedRules). l.number) (loaded-whole (policies_read text) none)))
    (λ some. inr (rw (loaded-bad (policies_read text) some) (by-stop (reads_lines text).stops some)))
    (zero-or-some (policies_read text).number)
  where
    by-stop : {rest : List ℕ} {n : ℕ} → (((policies_read text).number ≡ 0) × (rest ≡ [])) ⊎ ((0 < length rest) × Cause n rest (policies_read text).number) → 0 < (policies_read text).number
        → GivenNumber (policies_read text).number
    by-stop (inl stop) some = absurd (omega (arith, stop.0, some))
    by-stop (inr stop) some = cause-number stop.1

-- ---- the first bad line

-- a number and a line are answered exactly where they are those of the first bad line
pub first_bad : (text : List ℕ) (number n : ℕ) → 0 < number → (((read_policies text).number ≡ number) × ((read_policies text).line ≡ n)) ↔ FirstBad text number n
first_bad text number n some = (is-first, answered)
  where
    next-line : (rules : List Rule) → next_line no_rights rules ≡ suc (length rules)
    next-line rules = omega (arith, no_lines)

    is-first : ((read_policies text).number ≡ number) × ((read_policies text).line ≡ n) → FirstBad text number n
    is-first answer =
        let bad : 0 < (policies_read text).number = loaded-some (policies_read text) (omega (arith, answer.0)) in
        let same = loaded-bad (policies_read text) bad in
        let number_same : (policies_read text).number ≡ number = ap (λ (l : LoadedRules). l.number) (sym same) ∙ answer.0 in
        let line_same : n ≡ suc (length (policies_read text).rules) =
        sym answer.1 ∙ ap (λ (l : LoadedRules). l.line) same ∙ ap (λ (rights : List RightSlot). next_line rights (policies_read text).rules) (rights-none text) ∙ next-line (policies_read text).rules in
        ⊎_elim
        (λ stop. absurd (omega (arith, bad, stop.0)))
        (λ stop. record {
          rules = (policies_read text).rules;
          good = (reads_lines text).good;
          before = line_same;
          rest = (reads_lines text).rest;
          some = stop.0;
          reads = (reads_lines text).reads;
          cause = rw number_same at stop.1;
        })
        (reads_lines text).stops

    answered : FirstBad text number n → ((read_policies text).number ≡ number) × ((read_policies text).line ≡ n)
    answered bad =
        let lines = reads-until bad.rules bad.good bad.rest number bad.some bad.cause in
        let same : read_policies text ≡ record { number = number; line = next_line no_rights bad.rules; list = list_of no_rights [] } =
        ap read_policies bad.reads ∙ ap loaded_of lines ∙ loaded-bad (lines_of bad.rules number) some in
        (ap (λ (l : LoadedRules). l.number) same, ap (λ (l : LoadedRules). l.line) same ∙ next-line bad.rules ∙ sym bad.before)
