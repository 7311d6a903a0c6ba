-- A rule list has at most 9,085 bytes, and one list has as many. Assumes nothing.
use mathlib.Core.Path.{◌≡◌, refl, ap, ◌∙◌, subst}
use mathlib.Core.Bool.{Bool, true, false, cond, ◌&&◌}
use mathlib.Core.List.{List, [], ◌∷◌, ◌++◌}
use Prim.Native.Nat.{ℕ, zero, suc, ◌+◌, ◌-◌, ◌*◌, ◌/◌, ◌≤◌, ◌<◌}
use native.Mathlib.Nat.{mul-suc}
use native.Mathlib.Omega.{arith}
use lib.ListN.{length, drop, get_or, replicate, length-append, length-replicate, get_or-replicate}
use lib.Dec.{ltb, leb}
use borrow.Author.Tests.{ltb-true, ltb-false, leb-true, lt-leb}
use Rattle.sets.proofs.Booleans.{both}
use Rattle.forms.specs.Numbers.{digits_of, digits_within, signed_of, signed_code}
use Rattle.forms.specs.Kinds.{kind_of, lookup, is_slot, syntax_of, amount_of, in_range_by, in_range}
use Rattle.forms.specs.Forms.{text_by, item_text, head, tail, left, fill, all_in_range}
use Rattle.forms.specs.Tables.{bytes, lines_in, form_at}
use Rattle.forms.specs.declared.kinds.Syntax.{Syntax}
use Rattle.forms.specs.declared.kinds.Syntax.TheVariants as syntax
use Rattle.forms.proofs.Digits.{digits-small, digits_step}
use Rattle.forms.proofs.FixedDigits.{fixed-length}
use Rattle.places.specs.Places.{shape_in_range, shape_sound}
use Rattle.rules.specs.Acceptance.{rule_in_range, rule_distinct, rule_sound, rule_accepted, unstated, right_at, right_accepted, every, rules_of, list_accepted}
use Rattle.rules.specs.declared.families.Rule.{Rule}
use Rattle.rules.specs.declared.rights.Right.{Right}
use Rattle.rules.specs.declared.rights.Right.TheVariants.{Unstated, Permission}
use Rattle.rules.specs.declared.rights.RightSlot.{RightSlot}
use Rattle.rules.specs.declared.lists.RuleList.{RuleList}
use Rattle.rule_text.specs.Lines.{rule_forms, rule_form_count, line_of, rule_text, list_text, right_text, rights_text, lines_text}
use Rattle.rule_text.specs.Causes.{GoodLines}
use Rattle.rule_text.specs.Reading as rule_text
use Rattle.rule_text.specs.Writing.{text_of}
use Rattle.rule_text.proofs.Values.{each_at, every_form, form-at}
use Rattle.rule_text.proofs.Inverse.{form-of-rule, number-of-rule, rule-line-in-range}
use Rattle.rule_text.proofs.RightLines.{right-in-range}
use Rattle.rule_text.proofs.Slots.{rules-of-list, list-rights, list-accepted, accepted-good}
use Rattle.rule_text.proofs.Loaded.{loaded-zero, loaded-whole, loaded-list}
use Rattle.rule_text.proofs.Lists.{reads_lines}
use Rattle.rule_text.proofs.Back.{write-back, read_back, read-accepted}
use Rattle.texts.specs.Sizes.{longest_rule, longest_rules, longest_rights}
use Rattle.texts.specs.SavedRuns.{refused_report, output_report, list_report, rules_copy_report}
use Rattle.texts.specs.declared.saved_runs.Text.TheVariants as Text

-- ---- a larger number has no fewer digits

digits-some : (v : ℕ) → 1 ≤ length (digits_of v)
digits-some v = go (ltb v 10) refl
  where
    go : (b : Bool) → ltb v 10 ≡ b → 1 ≤ length (digits_of v)
    go true e = rw (digits-small v (ltb-true v 10 e)) (omega arith)
    go false e = rw (digits_step v (ltb-false v 10 e), length-append) (omega arith)

digits_more : (bound v w : ℕ) → w ≤ bound → v ≤ w → length (digits_of v) ≤ length (digits_of w)
digits_more zero v w b h =
    let e : v ≡ w = omega arith in
    rw e (omega arith)
digits_more (suc bound) v w b h = go (ltb v 10) refl (digits_more bound (v / 10) (w / 10))
  where
    go : (small : Bool) → ltb v 10 ≡ small → (w / 10 ≤ bound → v / 10 ≤ w / 10 → length (digits_of (v / 10)) ≤ length (digits_of (w / 10))) → length (digits_of v) ≤ length (digits_of w)
    go true e tenth = rw (digits-small v (ltb-true v 10 e)) (omega (arith, digits-some w))
    go false e tenth =
        let ten : 10 ≤ v = ltb-false v 10 e in
        let less = tenth (omega arith) (omega arith) in
        rw (digits_step v ten, digits_step w (omega arith), length-append, length-append) (omega (arith, less))

-- ---- how long a form's line can be

-- the most bytes of what stands for a mark
unfoldable pub widest_by : Syntax → ℕ → ℕ
widest_by syntax.Literal high = 1
widest_by syntax.Number high = length (digits_of high)
widest_by syntax.Positive high = length (digits_of high)
widest_by syntax.Signed high = suc (length (digits_of high))
widest_by syntax.Date high = 8
widest_by syntax.TimeOfDay high = 4

by-syntax : (x : Syntax) (low high c v : ℕ) → in_range_by x low high v ≡ true → length (text_by x c v) ≤ widest_by x high
unfolding text_by in_range_by widest_by signed_of amount_of
by-syntax syntax.Literal low high c v h = omega arith
by-syntax syntax.Number low high c v h = digits_more high v high (omega arith) (leb-true v high (both (leb low v) (leb v high) h).1)
by-syntax syntax.Positive low high c v h = digits_more high v high (omega arith) (leb-true v high (both (leb low v) (leb v high) h).1)
by-syntax syntax.Signed low high c v h = go (ltb 10000000000 v) h
  where
    go : (b : Bool) → leb (cond b (v - 10000000000) v) high ≡ true → length (cond b (45 ∷ digits_of (v - 10000000000)) (digits_of v)) ≤ suc (length (digits_of high))
    go true e = omega (arith, digits_more high (v - 10000000000) high (omega arith) (leb-true (v - 10000000000) high e))
    go false e = omega (arith, digits_more high v high (omega arith) (leb-true v high e))
by-syntax syntax.Date low high c v h = omega (arith, fixed-length 8 v)
by-syntax syntax.TimeOfDay low high c v h = omega (arith, fixed-length 4 v)

unfoldable pub widest : List ℕ → ℕ
widest [] = 0
widest (c ∷ form) = widest_by (syntax_of c) (kind_of c).high + widest form

item-most : (c v : ℕ) → in_range c v ≡ true → length (item_text c v) ≤ widest_by (syntax_of c) (kind_of c).high
unfolding item_text in_range
item-most c v h = by-syntax (syntax_of c) (kind_of c).low (kind_of c).high c v h

pub fill-most : (form values : List ℕ) → all_in_range form values ≡ true → length (fill form values) ≤ widest form
unfolding fill all_in_range widest
fill-most [] values h = omega arith
fill-most (c ∷ form) values h =
    let p = both (in_range c (head values)) (all_in_range form (left (is_slot c) values)) h in
    rw length-append (omega (arith, item-most c (head values) p.0, fill-most form (left (is_slot c) values) p.1))

-- ---- a rule's line

-- each form begins with the rule's own number
begins : (k : ℕ) → k < 19 → form_at rule_forms k ≡ bytes "(rule #" ++ drop 7 (form_at rule_forms k)
unfolding form_at lines_in rule_forms
begins k h =
    each_at (λ k. form_at rule_forms k ≡ bytes "(rule #" ++ drop 7 (form_at rule_forms k))
    (refl, (refl, (refl, (refl, (refl, (refl, (refl, (refl, (refl, (refl, (refl, (refl, (refl, (refl, (refl, (refl, (refl, (refl, (refl, tt)))))))))))))))))))
    k h

opened : (rest values : List ℕ) → length (fill (bytes "(rule #" ++ rest) values) ≡ 6 + (length (digits_of (head values)) + length (fill rest (tail values)))
unfolding fill item_text text_by is_slot kind_of lookup
opened rest values = omega (arith, length-append (digits_of (head values)) (fill rest (tail values)))

rest-in-range : (rest values : List ℕ) → all_in_range (bytes "(rule #" ++ rest) values ≡ true → all_in_range rest (tail values) ≡ true
unfolding all_in_range in_range in_range_by is_slot kind_of lookup
rest-in-range rest values h = (both (leb 1 (head values) && leb (head values) 128) (all_in_range rest (tail values)) h).1

-- after the number no form takes more than 62 bytes
forms-short : every_form (λ form. leb (widest (drop 7 form)) 62) (lines_in rule_forms) ≡ true
unfolding every_form widest widest_by kind_of lookup lines_in rule_forms digits_of digits_within
forms-short = refl

pub head_first : (values : List ℕ) → head values ≡ get_or values 0 0
head_first [] = refl
head_first (v ∷ values) = refl

line-most : (n : ℕ) (rule : Rule) → 1 ≤ n → n ≤ 128 → rule_in_range rule ≡ true → length (rule_text n rule) ≤ 68 + length (digits_of n)
unfolding rule_text
line-most n rule first last h =
    let k = (line_of n rule).form in
    let values = (line_of n rule).values in
    let rest = drop 7 (form_at rule_forms k) in
    let same = begins k (form-of-rule n rule) in
    let ranged = rest-in-range rest values (subst (λ (form : List ℕ). all_in_range form values ≡ true) same (rule-line-in-range n rule first last h)) in
    let whole : length (fill (form_at rule_forms k) values) ≡ 6 + (length (digits_of (head values)) + length (fill rest (tail values))) = ap (λ (form : List ℕ). length (fill form values)) same ∙ opened rest values in
    let number : length (digits_of (head values)) ≡ length (digits_of n) = ap (λ (m : ℕ). length (digits_of m)) (head_first values ∙ number-of-rule n rule) in
    let most = leb-true (widest rest) 62 (form-at (λ form. leb (widest (drop 7 form)) 62) forms-short k (omega (arith, form-of-rule n rule))) in
    omega (arith, whole, number, fill-most rest (tail values) ranged, most)

accepted-line : (n : ℕ) (rule : Rule) → 1 ≤ n → n ≤ 128 → rule_accepted rule ≡ true → length (rule_text n rule) ≤ 68 + length (digits_of n)
accepted-line n rule first last accepted = line-most n rule first last (both (rule_in_range rule) (rule_distinct rule && rule_sound rule) accepted).0

-- ---- all lines

-- the digits of so many numbers, from m on
unfoldable pub digit_sum : ℕ → ℕ → ℕ
digit_sum zero m = 0
digit_sum (suc n) m = length (digits_of m) + digit_sum n (suc m)

pub sum-grows : (n more m : ℕ) → digit_sum n m ≤ digit_sum (n + more) m
unfolding digit_sum
sum-grows zero more m = omega arith
sum-grows (suc n) more m =
    let e : suc n + more ≡ suc (n + more) = omega arith in
    rw e (omega (arith, sum-grows n more (suc m)))

pub sum-all : digit_sum 128 1 ≡ 276
unfolding digit_sum digits_of digits_within
sum-all = refl

-- where the line of each rule that passes has at most so many bytes beside its number, in any language of rules
pub list-most : (line : ℕ → Rule → List ℕ) (passes : Rule → Bool) (width : ℕ)
    → ((n : ℕ) (rule : Rule) → 1 ≤ n → n ≤ 128 → passes rule ≡ true → length (line n rule) ≤ width + length (digits_of n))
    → (rules : List Rule) (m : ℕ) → 1 ≤ m → m + length rules ≤ 129 → every passes rules ≡ true → length (list_text line m rules) ≤ width * length rules + digit_sum (length rules) m
unfolding list_text every digit_sum
list-most line passes width most [] m first last h = omega arith
list-most line passes width most (rule ∷ rules) m first last h =
    let p = both (passes rule) (every passes rules) h in
    rw (length-append, mul-suc width (length rules))
    (omega (arith, most m rule first (omega arith) p.0, list-most line passes width most rules (suc m) (omega arith) (omega arith) p.1))

-- and where that of one rule has as many, the lines of that rule alone
pub longest-lines : (line : ℕ → Rule → List ℕ) (rule : Rule) (width : ℕ) → ((n : ℕ) → length (line n rule) ≡ width + length (digits_of n))
    → (n m : ℕ) → length (list_text line m (replicate n rule)) ≡ width * n + digit_sum n m
unfolding list_text digit_sum
longest-lines line rule width exact zero m = omega arith
longest-lines line rule width exact (suc n) m = rw (length-append, mul-suc width n) (omega (arith, exact m, longest-lines line rule width exact n (suc m)))

-- ---- the lines of rights

-- the most bytes of the lines of so many kinds, from one on
unfoldable width_sum : ℕ → ℕ → ℕ
width_sum zero kind = 0
width_sum (suc n) kind = widest (form_at rule_forms (rule_form_count + kind)) + width_sum n (suc kind)

widths-all : width_sum 6 0 ≡ 105
unfolding width_sum widest widest_by kind_of lookup form_at lines_in rule_forms digits_of digits_within
widths-all = refl

right-most : (kind : ℕ) (right : Right) → kind < 6 → right_accepted right ≡ true → length (right_text kind right) ≤ widest (form_at rule_forms (rule_form_count + kind))
unfolding right_text
right-most kind Unstated h accepted = omega arith
right-most kind (Permission p) h accepted = fill-most (form_at rule_forms (rule_form_count + kind)) (p ∷ 0 ∷ 0 ∷ 0 ∷ 0 ∷ 0 ∷ []) (right-in-range kind p h accepted)

rights-most : (kind : ℕ) (rights : List RightSlot) → kind + length rights ≤ 6 → ((i : ℕ) → i < length rights → right_accepted (right_at rights i) ≡ true)
    → length (rights_text kind rights) ≤ width_sum (length rights) kind
unfolding rights_text width_sum
rights-most kind [] few accepted = omega arith
rights-most kind (slot ∷ rights) few accepted =
    rw length-append
    (omega (arith, right-most kind slot.right (omega arith) (accepted 0 (omega arith)), rights-most (suc kind) rights (omega arith) (λ i h. accepted (suc i) (omega arith))))

-- ---- all of a list

lines-most : (rights : List RightSlot) (rules : List Rule) → GoodLines rights rules → length (lines_text rights rules) ≤ 9085
lines-most rights rules good =
    let few = good.few in
    let kinds = good.kinds in
    let all : length rules + (128 - length rules) ≡ 128 = omega arith in
    let digits : digit_sum (length rules) 1 ≤ digit_sum 128 1 = rw all at (sum-grows (length rules) (128 - length rules) 1) in
    let first : length (rights_text 0 rights) ≤ width_sum 6 0 = rw kinds at (rights-most 0 rights (omega arith) (λ i h. good.fits_range i (omega arith))) in
    rw length-append (omega (arith, first, widths-all, list-most rule_text rule_accepted 68 accepted-line rules 1 (omega arith) (omega arith) good.accepted, digits, sum-all))

-- no list that 40 does not refuse has a longer text
pub rules-most : (list : RuleList) → length list.rights ≡ 6 → list_accepted list ≡ true → length (text_of list) ≤ 9085
rules-most list kinds accepted = lines-most list.rights (rules_of list) (accepted-good list kinds accepted)

-- and so no text that is accepted is longer
pub accepted-most : (rules : List ℕ) → (rule_text.read_rules rules).number ≡ 0 → length rules ≤ 9085
accepted-most rules h =
    let list = (rule_text.read_rules rules).list in
    let whole : text_of list ≡ rules = write-back rules list (loaded-list (rule_text.read_lines rules) h) in
    let lines = rule_text.read_lines rules in
    let six : length list.rights ≡ 6 =
    rw (loaded-whole lines (loaded-zero lines h), list-rights lines.rights lines.rules) (reads_lines rules).good.kinds in
    subst (λ (text : List ℕ). length text ≤ 9085) whole (rules-most list six (read-accepted rules))

-- ---- and least

longest-rest : length (fill (drop 7 (form_at rule_forms 16)) (31 ∷ 10001000000 ∷ 10001000000 ∷ 10001000000 ∷ 10001000000 ∷ [])) ≡ 62
unfolding fill item_text text_by is_slot kind_of lookup form_at lines_in rule_forms signed_of digits_of digits_within
longest-rest = refl

longest-line : (n : ℕ) → length (rule_text n longest_rule) ≡ 68 + length (digits_of n)
unfolding rule_text line_of signed_code
longest-line n =
    ap (λ (form : List ℕ). length (fill form (n ∷ 31 ∷ 10001000000 ∷ 10001000000 ∷ 10001000000 ∷ 10001000000 ∷ []))) (begins 16 (omega arith))
    ∙ opened (drop 7 (form_at rule_forms 16)) (n ∷ 31 ∷ 10001000000 ∷ 10001000000 ∷ 10001000000 ∷ 10001000000 ∷ [])
    ∙ omega (arith, longest-rest)

longest-rules : length (list_text rule_text 1 longest_rules) ≡ 8980
unfolding longest_rules
longest-rules = omega (arith, longest-lines rule_text longest_rule 68 longest-line 128 1, sum-all)

longest-rights : length (rights_text 0 longest_rights) ≡ 105
unfolding longest_rights rights_text right_text fill item_text text_by is_slot kind_of lookup form_at lines_in rule_forms digits_of digits_within
longest-rights = refl

-- one list has as many bytes
pub longest-text : length (lines_text longest_rights longest_rules) ≡ 9085
longest-text = rw length-append (omega (arith, longest-rights, longest-rules))

longest-accepted : (n : ℕ) → every rule_accepted (replicate n longest_rule) ≡ true
unfolding every rule_in_range rule_distinct rule_sound shape_in_range shape_sound
longest-accepted zero = refl
longest-accepted (suc n) = longest-accepted n

longest-good : GoodLines longest_rights longest_rules
unfolding longest_rights longest_rules
longest-good = record {
  kinds = refl;
  fits_range = λ kind h. ap (λ (slot : RightSlot). right_accepted slot.right) (get_or-replicate 6 kind (record { right = Permission 31 }) unstated h);
  few = omega (arith, length-replicate 128 longest_rule);
  accepted = longest-accepted 128;
}

-- it is accepted, and a space that is shorter by a byte is too short for its copy
pub rules-least : (room : ℕ) → room < 9085 → rules_copy_report (rule_text.read_rules (lines_text longest_rights longest_rules)) room ≡ refused_report Text.OutputSpace 18 9085
unfolding list_report output_report
rules-least room h =
    let list = rule_text.list_of longest_rights longest_rules in
    let rights : list.rights ≡ longest_rights = list-rights longest_rights longest_rules in
    let rules : rules_of list ≡ longest_rules = rules-of-list longest_rights longest_rules longest-good.few in
    let read : rule_text.read_rules (lines_text longest_rights longest_rules) ≡ record { number = 0; line = 0; list = list } =
    rw (rights, rules) at (read_back list (ap length rights ∙ longest-good.kinds) (list-accepted longest_rights longest_rules longest-good)) in
    rw (read, rights, rules, longest-text, lt-leb 9085 room h)
