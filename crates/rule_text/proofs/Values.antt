-- A value in its range is what a rule's field holds of it, and a line's rule has that line again.
-- Assumes nothing.
use mathlib.Core.Path.{◌≡◌, refl, subst}
use mathlib.Core.Bool.{Bool, true, ◌&&◌}
use mathlib.Core.List.{List, [], ◌∷◌}
use Prim.Native.Nat.{ℕ, zero, suc, ◌+◌, ◌%◌, ◌≤◌, ◌<◌}
use native.Mathlib.Nat.{mod-eq_of_lt}
use native.Mathlib.Omega.{arith}
use lib.ListN.{length, take, get_or, get_or-eq_default}
use lib.Seq.{get_or-take}
use lib.Dec.{leb}
use borrow.Author.Tests.{leb-true, le-leb}
use Rattle.sets.proofs.Booleans.{both}
use Rattle.forms.specs.Numbers.{signed_code, coordinate_of}
use Rattle.forms.specs.Kinds.{kind_of, lookup, syntax_of, is_slot, amount_of, in_range_by, in_range}
use Rattle.forms.specs.Forms.{head, tail}
use Rattle.forms.specs.Tables.{lines_in, form_at}
use Rattle.forms.specs.declared.kinds.Syntax.{Syntax}
use Rattle.forms.specs.declared.kinds.Syntax.TheVariants.{Literal, Number, Positive, Signed, Date, TimeOfDay}
use Rattle.forms.proofs.Coordinates.{code-back}
use Rattle.rule_text.proofs.Marks.{marks_in, values_for, ranges_hold, padded}
use Rattle.rule_text.specs.Lines.{rule_forms, form_count, rule_form_count, line, line_of, narrow, rules_with, filler, rule_of_form}

-- ---- a value

pub narrow-same : (value high : ℕ) → value ≤ high → high ≤ 4294967295 → narrow value ≡ value
narrow-same value high fits_range narrow_high = mod-eq_of_lt (omega arith)

-- the largest amount that the field of a rule holds, by the syntax of its mark
abbrev pub holds_to : Syntax → ℕ
holds_to Literal = 0
holds_to Number = 4294967295
holds_to Positive = 4294967295
holds_to Signed = 1000000
holds_to Date = 4294967295
holds_to TimeOfDay = 4294967295

-- what the field holds of a value
abbrev pub held_by : Syntax → ℕ → ℕ
held_by Literal value = value
held_by Number value = narrow value
held_by Positive value = narrow value
held_by Signed value = signed_code (coordinate_of value)
held_by Date value = narrow value
held_by TimeOfDay value = narrow value

held_same : (syntax : Syntax) (low high value : ℕ) → high ≤ holds_to syntax → in_range_by syntax low high value ≡ true → held_by syntax value ≡ value
unfolding in_range_by
held_same Literal low high value small h = refl
held_same Number low high value small h = narrow-same value high (leb-true value high (both (leb low value) (leb value high) h).1) small
held_same Positive low high value small h = narrow-same value high (leb-true value high (both (leb low value) (leb value high) h).1) small
held_same Signed low high value small h = code-back value (le-leb (amount_of value) 1000000 (omega (arith, leb-true (amount_of value) high h)))
held_same Date low high value small h = narrow-same value high (leb-true value high (both (leb low value) (leb value high) h).1) small
held_same TimeOfDay low high value small h =
    narrow-same value high (leb-true value high (both (leb low value) (leb value high) (both (leb low value && leb value high) (leb (value % 100) 59) h).0).1) small

-- ---- the values of a form

-- what the fields of a rule hold of the values under the marks
unfoldable pub held_for : List ℕ → List ℕ → List ℕ
held_for [] values = []
held_for (mark ∷ marks) values = held_by (syntax_of mark) (head values) ∷ held_for marks (tail values)

-- the range of each mark lies within what its field holds
unfoldable pub holdable : List ℕ → Bool
holdable [] = true
holdable (mark ∷ marks) = leb (kind_of mark).high (holds_to (syntax_of mark)) && holdable marks

pub all_held : (marks values : List ℕ) → holdable marks ≡ true → ranges_hold marks values ≡ true → held_for marks values ≡ values_for marks values
unfolding held_for holdable values_for ranges_hold in_range
all_held [] values h r = refl
all_held (mark ∷ marks) values h r =
    let held = both (leb (kind_of mark).high (holds_to (syntax_of mark))) (holdable marks) h in
    let ranged = both (in_range_by (syntax_of mark) (kind_of mark).low (kind_of mark).high (head values)) (ranges_hold marks (tail values)) r in
    rw (
      held_same (syntax_of mark) (kind_of mark).low (kind_of mark).high (head values) (leb-true _ _ held.0) ranged.0,
      all_held marks (tail values) held.1 ranged.1,
    )

-- ---- the table

-- a statement at each of the n numbers from i on
abbrev pub Each : ℕ → ℕ → (ℕ → Type 0) → Type 0
Each zero i P = Unit {0}
Each (suc n) i P = P i × Each n (suc i) P

each_from : (n i k : ℕ) (P : ℕ → Type 0) → Each n i P → k < n → P (i + k)
each_from zero i k P e h = absurd (omega arith)
each_from (suc n) i zero P e h = let z : i + 0 ≡ i = omega arith in rw z e.0
each_from (suc n) i (suc k) P e h = let z : suc i + k ≡ i + suc k = omega arith in rw z at (each_from n (suc i) k P e.1 (omega arith))

pub each_below : (n : ℕ) (P : ℕ → Type 0) → Each n 0 P → (k : ℕ) → k < n → P k
each_below n P e k h = let z : 0 + k ≡ k = omega arith in rw z at (each_from n 0 k P e h)

-- at each form of a rule
pub each_at : (P : ℕ → Type 0) → Each rule_form_count 0 P → (k : ℕ) → k < rule_form_count → P k
each_at P e k h = each_below rule_form_count P e k h

-- at each kind of right
pub each-kind : (P : ℕ → Type 0) → Each 6 0 P → (kind : ℕ) → kind < 6 → P kind
each-kind P e kind h = each_below 6 P e kind h

-- a test that passes at each form of a table
unfoldable pub every_form : (List ℕ → Bool) → List (List ℕ) → Bool
every_form test [] = true
every_form test (form ∷ forms) = test form && every_form test forms

form_in : (test : List ℕ → Bool) (forms : List (List ℕ)) → every_form test forms ≡ true → (k : ℕ) → k < length forms → test (get_or forms k []) ≡ true
unfolding every_form
form_in test [] e k h = absurd (omega arith)
form_in test (form ∷ forms) e zero h = (both (test form) (every_form test forms) e).0
form_in test (form ∷ forms) e (suc k) h = form_in test forms (both (test form) (every_form test forms) e).1 k (omega arith)

pub table-length : length (lines_in rule_forms) ≡ form_count
unfolding rule_forms lines_in
table-length = refl

pub form-at : (test : List ℕ → Bool) → every_form test (lines_in rule_forms) ≡ true → (k : ℕ) → k < form_count → test (form_at rule_forms k) ≡ true
unfolding form_at
form-at test e k h = form_in test (lines_in rule_forms) e k (rw table-length h)

rule-forms : length (take rule_form_count (lines_in rule_forms)) ≡ rule_form_count
unfolding rule_forms lines_in
rule-forms = refl

pub rule-form-at : (test : List ℕ → Bool) → every_form test (take rule_form_count (lines_in rule_forms)) ≡ true → (k : ℕ) → k < rule_form_count
    → test (form_at rule_forms k) ≡ true
unfolding form_at
rule-form-at test e k h =
    subst (λ (form : List ℕ). test form ≡ true) (get_or-take rule_form_count (lines_in rule_forms) k [] h)
    (form_in test (take rule_form_count (lines_in rule_forms)) e k (rw rule-forms h))

-- the marks of form k
abbrev pub marks_at : ℕ → List ℕ
marks_at k = marks_in (form_at rule_forms k)

-- the rule of a line has the line's form, and what its fields hold of the values
pub line-held : (k a b c d e f : ℕ) → k < rule_form_count
    → line_of (narrow a) (rule_of_form k (a ∷ b ∷ c ∷ d ∷ e ∷ f ∷ [])) ≡ line k (padded (held_for (marks_at k) (a ∷ b ∷ c ∷ d ∷ e ∷ f ∷ [])))
unfolding line_of rule_of_form held_for marks_in form_at lines_in rule_forms is_slot kind_of lookup
line-held k a b c d e f h =
    each_at (λ k. line_of (narrow a) (rule_of_form k (a ∷ b ∷ c ∷ d ∷ e ∷ f ∷ [])) ≡ line k (padded (held_for (marks_at k) (a ∷ b ∷ c ∷ d ∷ e ∷ f ∷ []))))
    (refl, (refl, (refl, (refl, (refl, (refl, (refl, (refl, (refl, (refl, (refl, (refl, (refl, (refl, (refl, (refl, (refl, (refl, (refl, tt)))))))))))))))))))
    k h

-- past the forms of rules it is the filler
pub past-forms : (k : ℕ) (values : List ℕ) → rule_form_count ≤ k → rule_of_form k values ≡ filler
unfolding rule_of_form
past-forms k values past = get_or-eq_default (rules_with (λ i. narrow (get_or values i 0)) (λ i. coordinate_of (get_or values i 0))) filler past
