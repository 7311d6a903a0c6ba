-- Writing a list: its rights and its rules one after the other, and how long its text can be.
-- Assumes nothing.
use mathlib.Core.Path.{◌≡◌, refl, ap}
use mathlib.Core.Bool.{true, ◌&&◌}
use mathlib.Core.List.{List, [], ◌∷◌, ◌++◌, map, append_assoc, append-nil}
use Prim.Native.Nat.{ℕ, suc, ◌+◌, ◌*◌, ◌≤◌, ◌<◌}
use native.Mathlib.Nat.{add-zero}
use native.Mathlib.Numerals.{add-one}
use native.Mathlib.Omega.{arith}
use lib.ListN.{length, take, get_or, length-append, length-map}
use lib.Seq.{take-suc, length-take-le}
use lib.Dec.{leb}
use borrow.Author.Tests.{leb-true}
use Rattle.sets.proofs.Booleans.{both}
use Rattle.forms.specs.Forms.{fill, all_in_range}
use Rattle.forms.specs.Tables.{lines_in, form_at}
use Rattle.forms.specs.Writing.{last_place}
use Rattle.rules.specs.Acceptance.{rule_in_range, rule_distinct, rule_sound, rule_of, rule_accepted, right_at, right_accepted, every, rules_of, list_accepted}
use Rattle.rules.specs.declared.families.Rule.{Rule}
use Rattle.rules.specs.declared.rights.Right.{Right}
use Rattle.rules.specs.declared.rights.Right.TheVariants.{Unstated, Permission}
use Rattle.rules.specs.declared.rights.RightSlot.{RightSlot}
use Rattle.rules.specs.declared.lists.Slot.{Slot}
use Rattle.rules.specs.declared.lists.RuleList.{RuleList}
use Rattle.rule_text.specs.Lines.{rule_forms, form_count, rule_form_count, line_of, rule_text, list_text, right_text, rights_text}
use Rattle.rule_text.specs.Writing.{text_of}
use Rattle.forms.proofs.Marks.{range-fits}
use Rattle.forms.proofs.Puts.{same_length, fill-length, then, like, nothing_written}
use Rattle.rule_text.proofs.Values.{every_form, form-at}
use Rattle.rule_text.proofs.Inverse.{form-of-rule, rule-line-in-range}
use Rattle.rule_text.proofs.RightLines.{right-in-range}
use Rattle.rule_text.proofs.Slots.{accepted-good}

-- for the check itself
pub ruleset no_line = (nothing_written)

-- ---- rule by rule

-- the first i rules
abbrev pub first_rules : ℕ → List Slot → List Rule
first_rules i slots = map rule_of (take i slots)

map_more : (slots : List Slot) (s : Slot) → map rule_of (slots ++ (s ∷ [])) ≡ map rule_of slots ++ (s.rule ∷ [])
map_more [] s = refl
map_more (t ∷ slots) s = ap (λ (l : List Rule). t.rule ∷ l) (map_more slots s)

-- in any language, by the text of a rule's line
module _ (line : ℕ → Rule → List ℕ) where
  text-more : (n : ℕ) (rules : List Rule) (rule : Rule) → list_text line n (rules ++ (rule ∷ [])) ≡ list_text line n rules ++ line (n + length rules) rule
  unfolding list_text
  text-more n [] rule = rw (add-zero, append-nil)
  text-more n (r ∷ rules) rule =
      let e : suc n + length rules ≡ n + suc (length rules) = omega arith in
      rw (text-more (suc n) rules rule, e, append_assoc)

  -- the text of one rule more
  pub next-text : (slots : List Slot) (i : ℕ) (s : Slot) → i < length slots
      → list_text line 1 (first_rules (i + 1) slots) ≡ list_text line 1 (first_rules i slots) ++ line (i + 1) (get_or slots i s).rule
  next-text slots i s h =
      let e : 1 + length (first_rules i slots) ≡ suc i = omega (arith, length-map (take i slots) rule_of, length-take-le i slots (omega arith)) in
      rw (add-one, take-suc slots i s h, map_more (take i slots) (get_or slots i s)) (rw e at (text-more 1 (first_rules i slots) (get_or slots i s).rule))

  -- where no line of an accepted rule has more than 600 bytes
  pub rules-short : ((n : ℕ) (rule : Rule) → 1 ≤ n → n ≤ 128 → rule_in_range rule ≡ true → length (line n rule) ≤ 600)
      → (n : ℕ) (rules : List Rule) → 1 ≤ n → n + length rules ≤ 129 → every rule_accepted rules ≡ true → length (list_text line n rules) ≤ 600 * length rules
  unfolding list_text every
  rules-short short n [] first few accepted = omega arith
  rules-short short n (rule ∷ rules) first few accepted =
      let parts = both (rule_accepted rule) (every rule_accepted rules) accepted in
      let fits_range = (both (rule_in_range rule) (rule_distinct rule && rule_sound rule) parts.0).0 in
      rw length-append (omega (arith, short n rule first (omega arith) fits_range, rules-short short (suc n) rules (omega arith) (omega arith) parts.1))

-- ---- right by right

rights-more : (kind : ℕ) (slots : List RightSlot) (slot : RightSlot) → rights_text kind (slots ++ (slot ∷ [])) ≡ rights_text kind slots ++ right_text (kind + length slots) slot.right
unfolding rights_text
rights-more kind [] slot = rw (add-zero, append-nil)
rights-more kind (s ∷ slots) slot =
    let e : suc kind + length slots ≡ kind + suc (length slots) = omega arith in
    rw (rights-more (suc kind) slots slot, e, append_assoc)

-- the text of one right more
pub next-right : (slots : List RightSlot) (kind : ℕ) (s : RightSlot) → kind < length slots
    → rights_text 0 (take (kind + 1) slots) ≡ rights_text 0 (take kind slots) ++ right_text kind (get_or slots kind s).right
next-right slots kind s h =
    let e : 0 + length (take kind slots) ≡ kind = omega (arith, length-take-le kind slots (omega arith)) in
    rw (add-one, take-suc slots kind s h) (rw e at (rights-more 0 (take kind slots) (get_or slots kind s)))

-- ---- the length of a text

forms-short : every_form (λ t. leb (length t) 45) (lines_in rule_forms) ≡ true
unfolding every_form lines_in rule_forms
forms-short = refl

-- a form with values that fit
line-short : (k : ℕ) (values : List ℕ) → k < form_count → all_in_range (form_at rule_forms k) values ≡ true → length (fill (form_at rule_forms k) values) ≤ 600
line-short k values h fits_range =
    let form = leb-true (length (form_at rule_forms k)) 45 (form-at (λ t. leb (length t) 45) forms-short k h) in
    omega (arith, fill-length (form_at rule_forms k) values (range-fits (form_at rule_forms k) values fits_range))

rule-short : (n : ℕ) (rule : Rule) → 1 ≤ n → n ≤ 128 → rule_in_range rule ≡ true → length (rule_text n rule) ≤ 600
unfolding rule_text
rule-short n rule first last fits_range =
    line-short (line_of n rule).form (line_of n rule).values (omega (arith, form-of-rule n rule)) (rule-line-in-range n rule first last fits_range)

right-short : (kind : ℕ) (right : Right) → kind < 6 → right_accepted right ≡ true → length (right_text kind right) ≤ 600
unfolding right_text
right-short kind Unstated h fits_range = omega arith
right-short kind (Permission p) h fits_range =
    line-short (rule_form_count + kind) (p ∷ 0 ∷ 0 ∷ 0 ∷ 0 ∷ 0 ∷ []) (omega arith) (right-in-range kind p h fits_range)

rights-short : (kind : ℕ) (rights : List RightSlot) → kind + length rights ≤ 6 → ((i : ℕ) → i < length rights → right_accepted (right_at rights i) ≡ true)
    → length (rights_text kind rights) ≤ 600 * length rights
unfolding rights_text
rights-short kind [] few accepted = omega arith
rights-short kind (slot ∷ rights) few accepted =
    rw length-append
    (omega (arith, right-short kind slot.right (omega arith) (accepted 0 (omega arith)), rights-short (suc kind) rights (omega arith) (λ i h. accepted (suc i) (omega arith))))

pub text-short : (list : RuleList) → length list.rights ≡ 6 → list_accepted list ≡ true → length (text_of list) ≤ last_place
text-short list kinds accepted =
    let good = accepted-good list kinds accepted in
    let few = good.few in
    let rights = rights-short 0 list.rights (omega arith) (λ i h. good.fits_range i (omega arith)) in
    rw length-append (omega (arith, rights, rules-short rule_text rule-short 1 (rules_of list) (omega arith) (omega arith) good.accepted))
