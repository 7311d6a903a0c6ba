-- THEOREMS: a rule's line reads in document 01's words, with its own number and its own numbers, each where the document puts it; and so does
-- a right's in those of 2026-05.
-- Assumes nothing.
use mathlib.Core.Path.{◌≡◌, refl}
use mathlib.Core.Bool.{true}
use mathlib.Core.List.{append_assoc}
use Prim.Native.Nat.{ℕ, ◌<◌}
use Rattle.forms.specs.Kinds.{kind_of, lookup, is_slot}
use Rattle.forms.specs.Forms.{text_by, item_text, fill}
use Rattle.forms.specs.Tables.{lines_in, form_at}
use Rattle.forms.proofs.Coordinates.{signed-text}
use Rattle.calendar.specs.declared.terms.Term.TheVariants.{Dates, Week, Months, Nth, Every}
use Rattle.places.specs.declared.Shape.TheVariants.{Circle, Box}
use Rattle.places.specs.declared.Side.TheVariants.{Inside, Outside}
use Rattle.rules.specs.Acceptance.{rule_in_range}
use Rattle.rules.specs.declared.families.Rule.{Rule}
use Rattle.rules.specs.declared.families.Rule.TheVariants.{Prerequisite, MaxUsers, MaxRoles, MaxPermissions, MaxActive, StaticSeparation, DynamicSeparation, Dependency, TimeContext, LocationContext, HistorySeparation, BindingOfDuty}
use Rattle.rules.specs.declared.rights.Right.TheVariants.{Permission}
use Rattle.rule_text.specs.Lines.{rule_forms, line_of, rule_text, right_text}
use Rattle.rule_text.specs.Words.{rule_words, right_words}
use Rattle.rule_text.proofs.Values.{each-kind}
use Rattle.rule_text.proofs.Ranges.{in-range-short}

pub rule-reads : (n : ℕ) (rule : Rule) → rule_in_range rule ≡ true → rule_text n rule ≡ rule_words n rule
unfolding rule_text line_of fill item_text text_by is_slot kind_of lookup form_at lines_in rule_forms
rule-reads n (Prerequisite r q) h = simp append_assoc
rule-reads n (MaxUsers r limit) h = simp append_assoc
rule-reads n (MaxRoles limit) h = simp append_assoc
rule-reads n (MaxPermissions r limit) h = simp append_assoc
rule-reads n (MaxActive limit) h = simp append_assoc
rule-reads n (StaticSeparation r q) h = simp append_assoc
rule-reads n (DynamicSeparation r q) h = simp append_assoc
rule-reads n (Dependency r q) h = simp append_assoc
rule-reads n (TimeContext r (Dates A B)) h = simp append_assoc
rule-reads n (TimeContext r (Week a b h k)) h' = simp append_assoc
rule-reads n (TimeContext r (Months a b)) h = simp append_assoc
rule-reads n (TimeContext r (Nth k d)) h = simp append_assoc
rule-reads n (TimeContext r (Every days A)) h = simp append_assoc
rule-reads n (LocationContext r (Inside (Circle x y q))) h =
    let short = in-range-short (LocationContext r (Inside (Circle x y q))) h in
    simp (signed-text x short.0, signed-text y short.1, append_assoc)
rule-reads n (LocationContext r (Inside (Box a b c d))) h =
    let short = in-range-short (LocationContext r (Inside (Box a b c d))) h in
    simp (signed-text a short.0.0, signed-text b short.0.1, signed-text c short.1.0, signed-text d short.1.1, append_assoc)
rule-reads n (LocationContext r (Outside (Circle x y q))) h =
    let short = in-range-short (LocationContext r (Outside (Circle x y q))) h in
    simp (signed-text x short.0, signed-text y short.1, append_assoc)
rule-reads n (LocationContext r (Outside (Box a b c d))) h =
    let short = in-range-short (LocationContext r (Outside (Box a b c d))) h in
    simp (signed-text a short.0.0, signed-text b short.0.1, signed-text c short.1.0, signed-text d short.1.1, append_assoc)
rule-reads n (HistorySeparation p q) h = simp append_assoc
rule-reads n (BindingOfDuty p q) h = simp append_assoc

pub right-reads : (kind permission : ℕ) → kind < 6 → right_text kind (Permission permission) ≡ right_words kind permission
unfolding right_text fill item_text text_by is_slot kind_of lookup form_at lines_in rule_forms
right-reads kind permission h =
    each-kind (λ kind. right_text kind (Permission permission) ≡ right_words kind permission) (refl, (refl, (refl, (refl, (refl, (refl, tt)))))) kind h
