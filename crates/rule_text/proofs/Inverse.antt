-- A rule's line and a line's rule undo each other, where 11 passes.
-- Assumes nothing.
use mathlib.Core.Path.{◌≡◌, refl, ap}
use mathlib.Core.Bool.{Bool, true}
use mathlib.Core.List.{List, [], ◌∷◌, ◌++◌}
use Prim.Native.Nat.{ℕ, ◌≤◌, ◌<◌}
use native.Mathlib.Omega.{arith}
use lib.ListN.{length, take, get_or}
use lib.Dec.{ltb}
use lib.IntN.{ℤ, pos, negsuc}
use borrow.Author.Tests.{ltb-true}
use Rattle.forms.specs.Numbers.{is_digit, signed_code, coordinate_of}
use Rattle.forms.specs.Kinds.{kind_of, lookup, is_slot}
use Rattle.forms.specs.Forms.{fill, all_in_range}
use Rattle.forms.specs.Tables.{lines_in, form_at, found, distinct, starts_of}
use Rattle.calendar.specs.declared.terms.Term.TheVariants.{Dates, Week, Months, Nth, Every}
use Rattle.places.specs.declared.Shape.TheVariants.{Circle, Box}
use Rattle.places.specs.declared.Side.TheVariants.{Inside, Outside}
use Rattle.rules.specs.Acceptance.{rule_in_range}
use Rattle.rules.specs.declared.families.Rule.{Rule}
use Rattle.rules.specs.declared.families.Rule.TheVariants.{Prerequisite, MaxUsers, MaxRoles, MaxPermissions, MaxActive, StaticSeparation, DynamicSeparation, Dependency, TimeContext, LocationContext, HistorySeparation, BindingOfDuty}
use Rattle.rule_text.specs.Lines.{rule_forms, rule_form_count, line_of, rule_text, rule_of_form}
use Rattle.rule_text.specs.declared.lines.Line.{Line}
use Rattle.rule_text.proofs.LineTables.{is_rule_form, HoldsAll, OwnLine, LineTable}
use Rattle.rule_text.proofs.LineTables as tables
use Rattle.rule_text.proofs.Marks.{marks_in, values_for, padded}
use Rattle.rule_text.proofs.Values.{held_for, holdable, every_form, table-length, rule-form-at, marks_at, line-held}
use Rattle.rule_text.proofs.Ranges.{IsShort, IsShortRule, line-in-range, made_short, coordinate-short}

-- ---- the table, as computed tests

-- the forms can be told from their texts
pub table-distinct : distinct (lines_in rule_forms) ≡ true
unfolding rule_forms lines_in is_slot is_digit kind_of lookup
table-distinct = refl

-- the index that the code has is the table's
abbrev pub rule_starts : List ℕ
rule_starts = 0 ∷ 22 ∷ 47 ∷ 70 ∷ 101 ∷ 125 ∷ 146 ∷ 174 ∷ 195 ∷ 227 ∷ 262 ∷ 295 ∷ 325 ∷ 357 ∷ 397 ∷ 436 ∷ 477 ∷ 517 ∷ 542 ∷ 567 ∷ 584 ∷ 603 ∷ 619 ∷ 634 ∷ 649 ∷ 666 ∷ []

pub index-right : rule_starts ≡ starts_of rule_forms
unfolding rule_forms starts_of lines_in
index-right = refl

-- each form of a rule has its number first
table-of-rules : every_form is_rule_form (take rule_form_count (lines_in rule_forms)) ≡ true
unfolding every_form is_rule_form holdable marks_in lines_in rule_forms is_slot kind_of lookup
table-of-rules = refl

-- ---- a rule's line and back

code-injective : (x y : ℤ) → IsShort x → IsShort y → signed_code x ≡ signed_code y → x ≡ y
unfolding signed_code
code-injective (pos m) (pos n) p q e = ap pos e
code-injective (pos m) (negsuc n) p q e = absurd (omega arith)
code-injective (negsuc m) (pos n) p q e = absurd (omega arith)
code-injective (negsuc m) (negsuc n) p q e = ap negsuc (omega arith)

place_same : (x : ℤ) → IsShort x → signed_code (coordinate_of (signed_code x)) ≡ signed_code x → coordinate_of (signed_code x) ≡ x
place_same x short e = code-injective (coordinate_of (signed_code x)) x (coordinate-short (signed_code x)) short e

rule-held : (n : ℕ) (rule : Rule) → IsShortRule rule → HoldsAll rule_forms (line_of n rule) → rule_of_form (line_of n rule).form (line_of n rule).values ≡ rule
unfolding line_of rule_of_form held_for values_for marks_in form_at lines_in rule_forms is_slot kind_of lookup
rule-held n (Prerequisite r q) short e = rw (e 1, e 2)
rule-held n (MaxUsers r limit) short e = rw (e 1, e 2)
rule-held n (MaxRoles limit) short e = rw (e 1)
rule-held n (MaxPermissions r limit) short e = rw (e 1, e 2)
rule-held n (MaxActive limit) short e = rw (e 1)
rule-held n (StaticSeparation r q) short e = rw (e 1, e 2)
rule-held n (DynamicSeparation r q) short e = rw (e 1, e 2)
rule-held n (Dependency r q) short e = rw (e 1, e 2)
rule-held n (TimeContext r (Dates A B)) short e = rw (e 1, e 2, e 3)
rule-held n (TimeContext r (Week a b h k)) short e = rw (e 1, e 2, e 3, e 4, e 5)
rule-held n (TimeContext r (Months a b)) short e = rw (e 1, e 2, e 3)
rule-held n (TimeContext r (Nth k d)) short e = rw (e 1, e 2, e 3)
rule-held n (TimeContext r (Every days A)) short e = rw (e 1, e 2, e 3)
rule-held n (LocationContext r (Inside (Circle x y q))) short e = rw (e 1, place_same x short.0 (e 2), place_same y short.1 (e 3), e 4)
rule-held n (LocationContext r (Inside (Box a b c d))) short e =
    rw (e 1, place_same a short.0.0 (e 2), place_same b short.0.1 (e 3), place_same c short.1.0 (e 4), place_same d short.1.1 (e 5))
rule-held n (LocationContext r (Outside (Circle x y q))) short e = rw (e 1, place_same x short.0 (e 2), place_same y short.1 (e 3), e 4)
rule-held n (LocationContext r (Outside (Box a b c d))) short e =
    rw (e 1, place_same a short.0.0 (e 2), place_same b short.0.1 (e 3), place_same c short.1.0 (e 4), place_same d short.1.1 (e 5))
rule-held n (HistorySeparation p q) short e = rw (e 1, e 2)
rule-held n (BindingOfDuty p q) short e = rw (e 1, e 2)

-- a line's form is one of a rule, it has no value that the form has not, and its first is the number
abbrev IsOwn : ℕ → Line → Type 0
IsOwn n l = (ltb l.form rule_form_count ≡ true) × (padded (values_for (marks_at l.form) l.values) ≡ l.values) × (get_or l.values 0 0 ≡ n)

is-own : (n : ℕ) (rule : Rule) → IsOwn n (line_of n rule)
unfolding line_of values_for marks_in form_at lines_in rule_forms is_slot kind_of lookup
is-own n (Prerequisite r q) = (refl, refl, refl)
is-own n (MaxUsers r limit) = (refl, refl, refl)
is-own n (MaxRoles limit) = (refl, refl, refl)
is-own n (MaxPermissions r limit) = (refl, refl, refl)
is-own n (MaxActive limit) = (refl, refl, refl)
is-own n (StaticSeparation r q) = (refl, refl, refl)
is-own n (DynamicSeparation r q) = (refl, refl, refl)
is-own n (Dependency r q) = (refl, refl, refl)
is-own n (TimeContext r (Dates A B)) = (refl, refl, refl)
is-own n (TimeContext r (Week a b h k)) = (refl, refl, refl)
is-own n (TimeContext r (Months a b)) = (refl, refl, refl)
is-own n (TimeContext r (Nth k d)) = (refl, refl, refl)
is-own n (TimeContext r (Every days A)) = (refl, refl, refl)
is-own n (LocationContext r (Inside (Circle x y q))) = (refl, refl, refl)
is-own n (LocationContext r (Inside (Box a b c d))) = (refl, refl, refl)
is-own n (LocationContext r (Outside (Circle x y q))) = (refl, refl, refl)
is-own n (LocationContext r (Outside (Box a b c d))) = (refl, refl, refl)
is-own n (HistorySeparation p q) = (refl, refl, refl)
is-own n (BindingOfDuty p q) = (refl, refl, refl)

own_line : (n : ℕ) (rule : Rule) → OwnLine rule_forms rule_form_count n (line_of n rule)
own_line n rule = record { form = ltb-true (line_of n rule).form rule_form_count (is-own n rule).0; values = (is-own n rule).1; number = (is-own n rule).2 }

-- every rule has a line
abbrev pub any_rule : Rule → Bool
any_rule rule = true

own-table : LineTable rule_forms rule_form_count line_of rule_of_form any_rule
own-table = record {
  told = table-distinct;
  within = rw table-length (omega arith);
  numbered = rule-form-at is_rule_form table-of-rules;
  held = line-held;
  made_has = λ k values h. refl;
  made_short = made_short;
  ranged = λ n rule stated short. line-in-range n rule short;
  own = λ n rule stated. own_line n rule;
  back = λ n rule stated. rule-held n rule;
}

-- ---- what follows of any table, of this one

module _ (k : ℕ) (values : List ℕ) (h : k < rule_form_count) (six : length values ≡ 6) (fits_range : all_in_range (form_at rule_forms k) values ≡ true) where
  pub number-bounds : (1 ≤ get_or values 0 0) × (get_or values 0 0 ≤ 128)
  number-bounds = tables.number-bounds own-table k values h six fits_range

  pub text_same : rule_text (get_or values 0 0) (rule_of_form k values) ≡ fill (form_at rule_forms k) values
  unfolding rule_text
  text_same = tables.text_same own-table k values h six fits_range

  pub made-in-range : rule_in_range (rule_of_form k values) ≡ true
  made-in-range = tables.made-in-range own-table k values h six fits_range

pub form-of-rule : (n : ℕ) (rule : Rule) → (line_of n rule).form < rule_form_count
form-of-rule n rule = (own_line n rule).form

pub number-of-rule : (n : ℕ) (rule : Rule) → get_or (line_of n rule).values 0 0 ≡ n
number-of-rule n rule = (own_line n rule).number

module _ (n : ℕ) (rule : Rule) (first : 1 ≤ n) (last : n ≤ 128) (fits_range : rule_in_range rule ≡ true) where
  pub rule-line-in-range : all_in_range (form_at rule_forms (line_of n rule).form) (line_of n rule).values ≡ true
  rule-line-in-range = tables.rule-line-in-range own-table n rule refl first last fits_range

  pub rule-same : rule_of_form (line_of n rule).form (line_of n rule).values ≡ rule
  rule-same = tables.rule-same own-table n rule refl first last fits_range

  -- its text is found again, whatever follows
  pub found-rule : (s : List ℕ)
      → found rule_forms (rule_text n rule ++ s) ≡ record { form = (line_of n rule).form; values = (line_of n rule).values; length = length (rule_text n rule) }
  unfolding rule_text
  found-rule s = tables.found-rule own-table n rule refl first last fits_range s

  pub text-some : 0 < length (rule_text n rule)
  unfolding rule_text
  text-some = tables.text-some own-table n rule refl first last fits_range
