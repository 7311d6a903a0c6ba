-- THEOREMS on the two journeys: "A list of these five kinds survives either journey." From our text to policies and back the bytes are the same,
-- and so from policies to our text and back; and a list that was written is read as the same list.
-- Assumes nothing.
use mathlib.Core.Path.{◌≡◌, refl, sym, ap, ◌∙◌, subst}
use mathlib.Core.Bool.{true}
use mathlib.Core.List.{List, [], ◌∷◌, ◌++◌}
use Prim.Native.Nat.{ℕ, suc, ◌≤◌, ◌<◌}
use native.Mathlib.Omega.{arith}
use lib.ListN.{length, take, drop}
use lib.Seq.{take-append_seam}
use Rattle.rules.specs.Acceptance.{right_at, rules_of, list_accepted}
use Rattle.rules.specs.declared.families.Rule.{Rule}
use Rattle.rules.specs.declared.rights.Right.TheVariants.{Unstated}
use Rattle.rules.specs.declared.rights.RightSlot.{RightSlot}
use Rattle.rules.specs.declared.lists.RuleList.{RuleList}
use Rattle.rule_text.specs.Lines.{right_text, rights_text}
use Rattle.rule_text.specs.Reading.{read_lines, no_rights, list_of, SameRules, read_rules}
use Rattle.rule_text.specs.Writing.{text_of}
use Rattle.rule_text.specs.Reading.{LoadedRules}
use Rattle.rule_text.proofs.Slots.{list-rights, none-good}
use Rattle.rule_text.proofs.Lists.{reads_lines as own-lines}
use Rattle.rule_text.proofs.Loaded.{loaded-whole, loaded-zero, loaded-list}
use Rattle.rule_text.proofs.Back as own
use Rattle.policy_text.specs.Reading.{policies_read, read_policies}
use Rattle.policy_text.specs.Writing.{Length, Refused, policies_text, written_policies, lent_after_policies}
use Rattle.policy_text.specs.Causes.{GoodPolicies, Expressible}
use Rattle.policy_text.proofs.Lists.{reads_lines}
use Rattle.policy_text.proofs.Back.{list-of-rules, list-is-accepted, list-expressible, accepted-policies, whole-list, write-back, read_back, read-back-same, read-accepted, read-expressible}
use Rattle.policy_text.proofs.Room.{written-length, written-leaves, refused-18, refused-leaves}

-- ---- read, then written

module _ (text lent : List ℕ) (whole : (read_policies text).number ≡ 0) where
  -- into a space at least as long as the text: its length is answered, and the space holds its bytes and then what was there
  pub text-back : length text ≤ length lent → (written_policies (read_policies text).list lent ≡ Length (length text)) × (lent_after_policies (read_policies text).list lent ≡ text ++ drop (length text) lent)
  text-back fits =
      let list = (read_policies text).list in
      let same = write-back text whole in
      let answer : written_policies list lent ≡ Length (length text) =
      (written-length list lent (length text)).1 (read-accepted text, read-expressible text whole, rw same fits, ap length (sym same)) in
      (answer, rw same at (written-leaves list lent (length text) answer))

  -- into a shorter one: 18 with the text's length, and every byte stays
  pub text-short : length lent < length text → (written_policies (read_policies text).list lent ≡ Refused 18 (length text)) × (lent_after_policies (read_policies text).list lent ≡ lent)
  text-short short =
      let list = (read_policies text).list in
      let same = write-back text whole in
      let answer : written_policies list lent ≡ Refused 18 (length text) =
      (refused-18 list lent (length text)).1 (read-accepted text, read-expressible text whole, rw same short, ap length (sym same)) in
      (answer, refused-leaves list lent 18 (length text) answer)

-- ---- written, then read

-- the bytes that were written are accepted, and read as the same list
pub list_back : (list : RuleList) → length list.slots ≡ 128 → (lent : List ℕ) (n : ℕ) → written_policies list lent ≡ Length n
    → ((read_policies (take n (lent_after_policies list lent))).number ≡ 0) × SameRules list (read_policies (take n (lent_after_policies list lent))).list
list_back list slots lent n answer =
    let fits = (written-length list lent n).0 answer in
    let front : take n (lent_after_policies list lent) ≡ policies_text list =
    ap (take n) (written-leaves list lent n answer) ∙ rw fits.3 (take-append_seam (policies_text list) (drop (length (policies_text list)) lent)) in (
      ap (λ (t : List ℕ). (read_policies t).number) front ∙ ap (λ (l : LoadedRules). l.number) (read_back list fits.0 fits.1),
      subst (λ (t : List ℕ). SameRules list (read_policies t).list) (sym front) (read-back-same list slots fits.0 fits.1),
    )

-- ---- from one language to the other and back

-- good policies, as a list, are read from our text as they are
pub own_back : (rules : List Rule) → GoodPolicies rules → read_rules (text_of (list_of no_rights rules)) ≡ record { number = 0; line = 0; list = list_of no_rights rules }
own_back rules good =
    let list = list_of no_rights rules in
    let rights : list.rights ≡ no_rights = list-rights no_rights rules in
    own.read_back list (ap length rights ∙ none-good.kinds) (list-is-accepted rules good)
    ∙ ap (λ (r : List RightSlot). record { number = 0; line = 0; list = list_of r (rules_of list) }) rights
    ∙ ap (λ (l : List Rule). record { number = 0; line = 0; list = list_of no_rights l }) (list-of-rules rules good)

-- from policies to our text and back: our text is accepted, nothing in it lacks a policy, and the same policies come back, byte for byte
pub policies-survive : (policies : List ℕ) → (read_policies policies).number ≡ 0
    → ((read_rules (text_of (read_policies policies).list)).number ≡ 0) × Expressible (read_rules (text_of (read_policies policies).list)).list
    × (policies_text (read_rules (text_of (read_policies policies).list)).list ≡ policies)
policies-survive policies none =
    let rules = (policies_read policies).rules in
    let good = (reads_lines policies).good in
    let whole = whole-list policies none in
    let there : read_rules (text_of (read_policies policies).list) ≡ record { number = 0; line = 0; list = list_of no_rights rules } =
    ap (λ (l : LoadedRules). read_rules (text_of l.list)) whole.0 ∙ own_back rules good in
    (ap (λ (l : LoadedRules). l.number) there, rw there (list-expressible rules good), rw (there, list-of-rules rules good) (sym whole.1))

-- rights of which none is stated have no text
no-rights-text : (kind : ℕ) (rights : List RightSlot) → ((i : ℕ) → i < length rights → right_at rights i ≡ Unstated) → rights_text kind rights ≡ []
unfolding rights_text right_text
no-rights-text kind [] none = refl
no-rights-text kind (slot ∷ rights) none = rw (none 0 (omega arith)) (no-rights-text (suc kind) rights (λ i low. none (suc i) (omega arith)))

-- a list without a right line is, as text, the list of its rules
own-text : (list : RuleList) → length list.rights ≡ 6 → list_accepted list ≡ true → Expressible list → text_of (list_of no_rights (rules_of list)) ≡ text_of list
own-text list six accepted good =
    let policies = accepted-policies list accepted good in
    let rules = list-of-rules (rules_of list) policies in
    let none : rights_text 0 list.rights ≡ [] = no-rights-text 0 list.rights (λ i low. good.no_right i (omega arith)) in
    let of_none : rights_text 0 (list_of no_rights (rules_of list)).rights ≡ [] =
    no-rights-text 0 (list_of no_rights (rules_of list)).rights
    (λ i low. (list-expressible (rules_of list) policies).no_right i (omega (arith, ap length (list-rights no_rights (rules_of list)), none-good.kinds))) in
    rw (of_none, none, rules)

-- from our text to policies and back, where the list that was read is of the five kinds and has no right line: the policies are accepted, and the
-- same text comes back, byte for byte
pub rules-survive : (text : List ℕ) → (read_rules text).number ≡ 0 → Expressible (read_rules text).list
    → ((read_policies (policies_text (read_rules text).list)).number ≡ 0) × (text_of (read_policies (policies_text (read_rules text).list)).list ≡ text)
rules-survive text none good =
    let list = (read_rules text).list in
    let lines = read_lines text in
    let six : length list.rights ≡ 6 =
    rw (loaded-whole lines (loaded-zero lines none), list-rights lines.rights lines.rules) (own-lines text).good.kinds in
    let there = read_back list (own.read-accepted text) good in (
      ap (λ (l : LoadedRules). l.number) there,
      ap (λ (l : LoadedRules). text_of l.list) there ∙ own-text list six (own.read-accepted text) good ∙ own.write-back text list (loaded-list lines none),
    )
