-- The ranges of a line's values are those of its rule: what 11 looks for in a text is what 40 looks for in a rule handed in.
-- Assumes nothing.
use mathlib.Core.Path.{◌≡◌, refl, sym, ◌∙◌}
use mathlib.Core.Bool.{Bool, true, false, ◌&&◌}
use mathlib.Core.List.{List}
use Prim.Native.Nat.{ℕ, suc, ◌+◌, ◌-◌, ◌/◌, ◌≤◌, ◌<◌}
use native.Mathlib.Omega.{arith}
use lib.ListN.{get_or}
use lib.Dec.{leb, leb-zero, leb-suc-suc}
use lib.IntN.{ℤ, pos, negsuc, nat_abs}
use borrow.Author.Tests.{leb-true, le-leb, lt-ltb, le-ltb}
use Rattle.sets.proofs.Booleans.{both, both_true, left-true, right-true, same_test}
use Rattle.forms.specs.Numbers.{signed_code, coordinate_of}
use Rattle.forms.specs.Kinds.{kind_of, lookup, is_slot, amount_of, in_range_by, in_range}
use Rattle.forms.specs.Forms.{all_in_range}
use Rattle.forms.specs.Tables.{lines_in, form_at}
use Rattle.calendar.specs.Terms.{term_in_range, is_year, between, is_time_of_day}
use Rattle.calendar.specs.declared.terms.Term.TheVariants.{Dates, Week, Months, Nth, Every}
use Rattle.places.specs.Places.{on_grid, shape_in_range, shape_of}
use Rattle.places.specs.declared.Shape.{Shape}
use Rattle.places.specs.declared.Shape.TheVariants.{Circle, Box}
use Rattle.places.specs.declared.Side.TheVariants.{Inside, Outside}
use Rattle.rules.specs.Acceptance.{is_role, is_permission, rule_in_range}
use Rattle.rules.specs.declared.families.Rule.{Rule}
use Rattle.rules.specs.declared.families.Rule.TheVariants.{Prerequisite, MaxUsers, MaxRoles, MaxPermissions, MaxActive, StaticSeparation, DynamicSeparation, Dependency, TimeContext, LocationContext, HistorySeparation, BindingOfDuty}
use Rattle.rule_text.specs.Lines.{rule_forms, rule_form_count, line_of, rule_of_form}
use Rattle.forms.proofs.Coordinates.{coordinate-grid}
use Rattle.rule_text.proofs.Marks.{marks_in, ranges_hold, ranges-by-marks}
use Rattle.rule_text.proofs.Values.{marks_at, each_at}

-- ---- each kind

-- a coordinate of at most ten digits; every i32 is one
abbrev pub IsShort : ℤ → Type 0
IsShort z = nat_abs z ≤ 9999999999

pub number-range : (n : ℕ) → in_range 35 n ≡ leb 1 n && leb n 128
unfolding in_range in_range_by kind_of lookup
number-range n = refl

pub role-range : (r : ℕ) → in_range 36 r ≡ is_role r
unfolding in_range in_range_by kind_of lookup
role-range r = rw (leb-zero r) (sym (leb-suc-suc r 31))

pub permission-range : (p : ℕ) → in_range 37 p ≡ is_permission p
unfolding in_range in_range_by kind_of lookup
permission-range p = rw (leb-zero p) (sym (leb-suc-suc p 31))

pub user-limit-range : (limit : ℕ) → in_range 62 limit ≡ leb limit 64
unfolding in_range in_range_by kind_of lookup
user-limit-range limit = rw (leb-zero limit)

pub limit-range : (limit : ℕ) → in_range 60 limit ≡ leb limit 32
unfolding in_range in_range_by kind_of lookup
limit-range limit = rw (leb-zero limit)

weekday-range : (d : ℕ) → in_range 33 d ≡ between 1 7 d
unfolding in_range in_range_by kind_of lookup
weekday-range d = refl

month-range : (m : ℕ) → in_range 44 m ≡ between 1 12 m
unfolding in_range in_range_by kind_of lookup
month-range m = refl

ordinal-range : (k : ℕ) → in_range 39 k ≡ between 1 5 k
unfolding in_range in_range_by kind_of lookup
ordinal-range k = refl

interval-range : (days : ℕ) → in_range 47 days ≡ between 1 1000 days
unfolding in_range in_range_by kind_of lookup
interval-range days = refl

radius-range : (q : ℕ) → in_range 94 q ≡ between 1 100000 q
unfolding in_range in_range_by kind_of lookup
radius-range q = refl

start-range : (h : ℕ) → in_range 91 h ≡ is_time_of_day 0 2359 h
unfolding in_range in_range_by kind_of lookup
start-range h = refl

end-range : (k : ℕ) → in_range 93 k ≡ is_time_of_day 1 2400 k
unfolding in_range in_range_by kind_of lookup
end-range k = refl

date-range : (A : ℕ) → in_range 46 A ≡ is_year (A / 10000)
unfolding in_range in_range_by kind_of lookup
date-range A = same_test (between 20000000 20999999 A) (between 2000 2099 (A / 10000)) to from
  where
    to : between 20000000 20999999 A ≡ true → between 2000 2099 (A / 10000) ≡ true
    to h =
        let a = leb-true 20000000 A (left-true (leb 20000000 A) (leb A 20999999) h) in
        let b = leb-true A 20999999 (right-true (leb 20000000 A) (leb A 20999999) h) in
        both_true (leb 2000 (A / 10000)) (leb (A / 10000) 2099) (le-leb 2000 (A / 10000) (omega arith)) (le-leb (A / 10000) 2099 (omega arith))

    from : between 2000 2099 (A / 10000) ≡ true → between 20000000 20999999 A ≡ true
    from h =
        let a = leb-true 2000 (A / 10000) (left-true (leb 2000 (A / 10000)) (leb (A / 10000) 2099) h) in
        let b = leb-true (A / 10000) 2099 (right-true (leb 2000 (A / 10000)) (leb (A / 10000) 2099) h) in
        both_true (leb 20000000 A) (leb A 20999999) (le-leb 20000000 A (omega arith)) (le-leb A 20999999 (omega arith))

coordinate-range : (z : ℤ) → IsShort z → in_range 43 (signed_code z) ≡ on_grid z
unfolding in_range in_range_by kind_of lookup amount_of signed_code
coordinate-range (pos n) short = rw (le-ltb 10000000000 n (omega arith))
coordinate-range (negsuc n) short =
    let e : 10000000001 + n - 10000000000 ≡ suc n = omega arith in
    rw (lt-ltb 10000000000 (10000000001 + n) (omega arith), e)

-- ---- a line

abbrev pub IsShortShape : Shape → Type 0
IsShortShape (Circle x y q) = IsShort x × IsShort y
IsShortShape (Box a b c d) = (IsShort a × IsShort b) × (IsShort c × IsShort d)

-- each coordinate of the rule has at most ten digits
abbrev pub IsShortRule : Rule → Type 0
IsShortRule (Prerequisite r q) = Unit {0}
IsShortRule (MaxUsers r limit) = Unit {0}
IsShortRule (MaxRoles limit) = Unit {0}
IsShortRule (MaxPermissions r limit) = Unit {0}
IsShortRule (MaxActive limit) = Unit {0}
IsShortRule (StaticSeparation r q) = Unit {0}
IsShortRule (DynamicSeparation r q) = Unit {0}
IsShortRule (Dependency r q) = Unit {0}
IsShortRule (TimeContext r term) = Unit {0}
IsShortRule (LocationContext r side) = IsShortShape (shape_of side)
IsShortRule (HistorySeparation p q) = Unit {0}
IsShortRule (BindingOfDuty p q) = Unit {0}

pub and-true : (a : Bool) → a && true ≡ a
and-true true = refl
and-true false = refl

and_assoc : (a b c : Bool) → (a && b) && c ≡ a && (b && c)
and_assoc true b c = refl
and_assoc false b c = refl

by-marks : (n : ℕ) (rule : Rule) → IsShortRule rule → ranges_hold (marks_at (line_of n rule).form) (line_of n rule).values ≡ (leb 1 n && leb n 128) && rule_in_range rule
unfolding line_of rule_in_range term_in_range shape_in_range ranges_hold marks_in form_at lines_in rule_forms is_slot kind_of lookup
by-marks n (Prerequisite r q) short = simp (number-range, role-range, and-true)
by-marks n (MaxUsers r limit) short = simp (number-range, role-range, user-limit-range, and-true)
by-marks n (MaxRoles limit) short = simp (number-range, limit-range, and-true)
by-marks n (MaxPermissions r limit) short = simp (number-range, role-range, limit-range, and-true)
by-marks n (MaxActive limit) short = simp (number-range, limit-range, and-true)
by-marks n (StaticSeparation r q) short = simp (number-range, role-range, and-true)
by-marks n (DynamicSeparation r q) short = simp (number-range, role-range, and-true)
by-marks n (Dependency r q) short = simp (number-range, role-range, and-true)
by-marks n (TimeContext r (Dates A B)) short = simp (number-range, role-range, date-range, and-true)
by-marks n (TimeContext r (Week a b h k)) short = simp (number-range, role-range, weekday-range, start-range, end-range, and-true, and_assoc)
by-marks n (TimeContext r (Months a b)) short = simp (number-range, role-range, month-range, and-true)
by-marks n (TimeContext r (Nth k d)) short = simp (number-range, role-range, ordinal-range, weekday-range, and-true)
by-marks n (TimeContext r (Every days A)) short = simp (number-range, role-range, interval-range, date-range, and-true)
by-marks n (LocationContext r (Inside (Circle x y q))) short =
    simp (number-range, role-range, coordinate-range x short.0, coordinate-range y short.1, radius-range, and-true, and_assoc)
by-marks n (LocationContext r (Inside (Box a b c d))) short =
    simp (number-range, role-range, coordinate-range a short.0.0, coordinate-range b short.0.1, coordinate-range c short.1.0, coordinate-range d short.1.1, and-true, and_assoc)
by-marks n (LocationContext r (Outside (Circle x y q))) short =
    simp (number-range, role-range, coordinate-range x short.0, coordinate-range y short.1, radius-range, and-true, and_assoc)
by-marks n (LocationContext r (Outside (Box a b c d))) short =
    simp (number-range, role-range, coordinate-range a short.0.0, coordinate-range b short.0.1, coordinate-range c short.1.0, coordinate-range d short.1.1, and-true, and_assoc)
by-marks n (HistorySeparation p q) short = simp (number-range, permission-range, and-true)
by-marks n (BindingOfDuty p q) short = simp (number-range, permission-range, and-true)

-- 11 passes a rule's line where its number is 1 to 128 and the rule is in range
pub line-in-range : (n : ℕ) (rule : Rule) → IsShortRule rule
    → all_in_range (form_at rule_forms (line_of n rule).form) (line_of n rule).values ≡ (leb 1 n && leb n 128) && rule_in_range rule
line-in-range n rule short = ranges-by-marks (form_at rule_forms (line_of n rule).form) (line_of n rule).values ∙ by-marks n rule short

-- ---- which rules have short coordinates

on-grid-short : (z : ℤ) → on_grid z ≡ true → IsShort z
on-grid-short z h = omega (arith, leb-true (nat_abs z) 1000000 h)

shape-short : (shape : Shape) → shape_in_range shape ≡ true → IsShortShape shape
unfolding shape_in_range
shape-short (Circle x y q) h =
    let places = both (on_grid x) (on_grid y) (left-true (on_grid x && on_grid y) (leb 1 q && leb q 100000) h) in
    (on-grid-short x places.0, on-grid-short y places.1)
shape-short (Box a b c d) h =
    let parts = both (on_grid a && on_grid b) (on_grid c && on_grid d) h in
    let first = both (on_grid a) (on_grid b) parts.0 in
    let last = both (on_grid c) (on_grid d) parts.1 in
    ((on-grid-short a first.0, on-grid-short b first.1), (on-grid-short c last.0, on-grid-short d last.1))

-- one in range does
pub in-range-short : (rule : Rule) → rule_in_range rule ≡ true → IsShortRule rule
unfolding rule_in_range
in-range-short (Prerequisite r q) h = tt
in-range-short (MaxUsers r limit) h = tt
in-range-short (MaxRoles limit) h = tt
in-range-short (MaxPermissions r limit) h = tt
in-range-short (MaxActive limit) h = tt
in-range-short (StaticSeparation r q) h = tt
in-range-short (DynamicSeparation r q) h = tt
in-range-short (Dependency r q) h = tt
in-range-short (TimeContext r term) h = tt
in-range-short (LocationContext r side) h = shape-short (shape_of side) (right-true (is_role r) (shape_in_range (shape_of side)) h)
in-range-short (HistorySeparation p q) h = tt
in-range-short (BindingOfDuty p q) h = tt

pub coordinate-short : (value : ℕ) → IsShort (coordinate_of value)
coordinate-short value = on-grid-short (coordinate_of value) (coordinate-grid value)

-- and so does one made of values
pub made_short : (k : ℕ) (values : List ℕ) → k < rule_form_count → IsShortRule (rule_of_form k values)
unfolding rule_of_form
made_short k values h =
    let short : (i : ℕ) → IsShort (coordinate_of (get_or values i 0)) = λ i. coordinate-short (get_or values i 0) in
    let circle : IsShort (coordinate_of (get_or values 2 0)) × IsShort (coordinate_of (get_or values 3 0)) = (short 2, short 3) in
    let box : IsShortShape (Box (coordinate_of (get_or values 2 0)) (coordinate_of (get_or values 3 0)) (coordinate_of (get_or values 4 0)) (coordinate_of (get_or values 5 0))) =
    ((short 2, short 3), (short 4, short 5)) in
    each_at (λ k. IsShortRule (rule_of_form k values))
    (tt, (tt, (tt, (tt, (tt, (tt, (tt, (tt, (tt, (tt, (tt, (tt, (tt, (circle, (box, (circle, (box, (tt, (tt, tt)))))))))))))))))))
    k h
