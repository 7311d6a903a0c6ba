-- The rules of the joined list: what any test says of them, where each of them is from, and where there are too many.
-- Assumes nothing.
use mathlib.Core.Path.{◌≡◌, refl, sym, ap, ◌∙◌}
use mathlib.Core.Bool.{Bool, true, false, not, ◌&&◌}
use mathlib.Core.Logic.{◌⊎◌, inl, inr, ⊎_elim}
use mathlib.Core.List.{List, [], ◌∷◌, ◌++◌, map, append-nil, append_assoc}
use Prim.Native.Nat.{ℕ, zero, suc, ◌+◌, ◌≤◌, ◌<◌}
use native.Mathlib.Omega.{arith}
use lib.ListN.{length, take, drop, length-append, take-append-drop, get_or-append}
use lib.Seq.{get_or_at}
use lib.Dec.{ltb}
use borrow.Author.Tests.{lt-ltb, le-ltb, ltb-true, ltb-false, not-true, not-false}
use Rattle.sets.proofs.Booleans.{both_true, left-true, right-true, same_test, not_so, clash}
use Rattle.std.specs.List.{list_all}
use Rattle.rules.specs.Acceptance.{rule_of, rule_accepted, every}
use Rattle.rules.specs.declared.lists.Slot.{Slot}
use Rattle.rules.specs.declared.families.Rule.{Rule}
use Rattle.rules.proofs.RuleLists.{every-append, passes-at, passes-all, fails-at}
use Rattle.rule_text.specs.Lines.{filler}
use Rattle.joining.specs.Joining.{equal_rules, equals_none, with_new, joined_rules, too_many_at}
use Rattle.joining.specs.Claims.{rule_at, NoDoubles, InOrder, none, left_out, taken, Joins}
use Rattle.joining.proofs.EqualRules.{equal-self, equal-same}

-- ---- every rule of a list

every_one : (p : Rule → Bool) (rule : Rule) → every p (rule ∷ []) ≡ p rule
unfolding every
every_one p rule = go (p rule)
  where
    go : (b : Bool) → (b && true) ≡ b
    go true = refl
    go false = refl

-- of the rules in some slots
pub every-slots : (p : Rule → Bool) (slots : List Slot) → list_all (λ (slot : Slot). p slot.rule) slots ≡ every p (map rule_of slots)
unfolding every
every-slots p [] = refl
every-slots p (slot ∷ slots) = ap (λ (b : Bool). p slot.rule && b) (every-slots p slots)

-- ---- one rule of the second

abbrev differs : Rule → Rule → Bool
differs rule other = not (equal_rules other rule)

module _ (joined : List Rule) (rule : Rule) where
  pub new-taken : equals_none rule joined ≡ true → with_new joined rule ≡ joined ++ rule ∷ []
  unfolding with_new
  new-taken e = rw e

  pub equal-left : equals_none rule joined ≡ false → with_new joined rule ≡ joined
  unfolding with_new
  equal-left e = rw e

  -- which of the two it is
  new-or-equal : (equals_none rule joined ≡ true) ⊎ (equals_none rule joined ≡ false)
  new-or-equal = go (equals_none rule joined) refl
    where
      go : (b : Bool) → equals_none rule joined ≡ b → (equals_none rule joined ≡ true) ⊎ (equals_none rule joined ≡ false)
      go true e = inl e
      go false e = inr e

  -- a rule that is not new equals one that is there
  equal-there : equals_none rule joined ≡ false → (i : ℕ) × (i < length joined) × (equal_rules (rule_at joined i) rule ≡ true)
  unfolding equals_none
  equal-there e = let fails = fails-at (differs rule) filler joined e in (fails.0, fails.1, not-false (equal_rules (rule_at joined fails.0) rule) fails.2)

  -- and a new one none
  new-differs : equals_none rule joined ≡ true → (i : ℕ) → i < length joined → equal_rules (rule_at joined i) rule ≡ false
  unfolding equals_none
  new-differs e i below = not-true (equal_rules (rule_at joined i) rule) (passes-at (differs rule) filler joined e i below)

  differs-new : ((i : ℕ) → i < length joined → not (equal_rules (rule_at joined i) rule) ≡ true) → equals_none rule joined ≡ true
  unfolding equals_none
  differs-new h = passes-all (differs rule) filler joined h

  pub new-length : (length joined ≤ length (with_new joined rule)) × (length (with_new joined rule) ≤ suc (length joined))
  new-length =
      ⊎_elim
      (λ e. let more = ap length (new-taken e) ∙ length-append joined (rule ∷ []) in (omega (arith, more), omega (arith, more)))
      (λ e. let same = ap length (equal-left e) in (omega (arith, same), omega (arith, same)))
      new-or-equal

  -- it equals one of those after it
  there-after : (i : ℕ) × (i < length (with_new joined rule)) × (equal_rules (rule_at (with_new joined rule) i) rule ≡ true)
  there-after =
      ⊎_elim
      (λ e.
      let more = ap length (new-taken e) ∙ length-append joined (rule ∷ []) in (
        length joined,
        omega (arith, more),
        ap (λ (rules : List Rule). equal_rules (rule_at rules (length joined)) rule) (new-taken e) ∙ ap (λ (other : Rule). equal_rules other rule) (get_or_at joined rule [] _ (length joined) refl) ∙ equal-self rule,
      ))
      (λ e. let found = equal-there e in
      (found.0, omega (arith, found.1, ap length (equal-left e)), ap (λ (rules : List Rule). equal_rules (rule_at rules found.0) rule) (equal-left e) ∙ found.2))
      new-or-equal

  module _ (accepted : every rule_accepted joined ≡ true) (rule-accepted : rule_accepted rule ≡ true) where
    -- a test that passes at the joined ones and at it passes at all after it, and the other way
    every-new : (p : Rule → Bool) → every p (with_new joined rule) ≡ (every p joined && p rule)
    every-new p = ⊎_elim new equal new-or-equal
      where
        new : equals_none rule joined ≡ true → every p (with_new joined rule) ≡ (every p joined && p rule)
        new e = ap (every p) (new-taken e) ∙ every-append p joined (rule ∷ []) ∙ ap (λ (b : Bool). every p joined && b) (every_one p rule)

        equal : equals_none rule joined ≡ false → every p (with_new joined rule) ≡ (every p joined && p rule)
        equal e =
            let found = equal-there e in
            let same : rule_at joined found.0 ≡ rule =
            equal-same (rule_at joined found.0) rule (passes-at rule_accepted filler joined accepted found.0 found.1) rule-accepted found.2 in
            ap (every p) (equal-left e)
            ∙ same_test (every p joined) (every p joined && p rule)
            (λ h. both_true (every p joined) (p rule) h (ap p (sym same) ∙ passes-at p filler joined h found.0 found.1))
            (λ h. left-true (every p joined) (p rule) h)

    new-accepted : every rule_accepted (with_new joined rule) ≡ true
    new-accepted = every-new rule_accepted ∙ both_true (every rule_accepted joined) (rule_accepted rule) accepted rule-accepted

-- ---- all rules of the second

-- from place m on each rule equals none before it
abbrev Once : ℕ → List Rule → Type 0
Once m joined = (i j : ℕ) → i < j → m ≤ j → j < length joined → equal_rules (rule_at joined i) (rule_at joined j) ≡ false

once-new : (m : ℕ) (joined : List Rule) (rule : Rule) → Once m joined → Once m (with_new joined rule)
once-new m joined rule once = ⊎_elim new equal (new-or-equal joined rule)
  where
    new : equals_none rule joined ≡ true → Once m (with_new joined rule)
    new e i j before from below =
        ap (λ (l : List Rule). equal_rules (rule_at l i) (rule_at l j)) (new-taken joined rule e)
        ∙ ap (λ (other : Rule). equal_rules other (rule_at (joined ++ rule ∷ []) j)) (get_or-append joined (rule ∷ []) _ i (omega (arith, sized)))
        ∙ ⊎_elim earlier last (split j (length joined) (omega (arith, sized)))
      where
        sized : length (with_new joined rule) ≡ length joined + 1
        sized = ap length (new-taken joined rule e) ∙ length-append joined (rule ∷ [])

        split : (a b : ℕ) → a < b + 1 → (a < b) ⊎ (a ≡ b)
        split a zero h = inr (omega arith)
        split zero (suc b) h = inl (omega arith)
        split (suc a) (suc b) h = ⊎_elim (λ less. inl (omega (arith, less))) (λ same. inr (ap suc same)) (split a b (omega arith))

        earlier : j < length joined → equal_rules (rule_at joined i) (rule_at (joined ++ rule ∷ []) j) ≡ false
        earlier less = ap (equal_rules (rule_at joined i)) (get_or-append joined (rule ∷ []) _ j less) ∙ once i j before from less

        last : j ≡ length joined → equal_rules (rule_at joined i) (rule_at (joined ++ rule ∷ []) j) ≡ false
        last same = ap (equal_rules (rule_at joined i)) (get_or_at joined rule [] _ j (sym same)) ∙ new-differs joined rule e i (omega (arith, same, before))

    equal : equals_none rule joined ≡ false → Once m (with_new joined rule)
    equal e = rw (equal-left joined rule e) once

once-joined : (m : ℕ) (joined rules : List Rule) → Once m joined → Once m (joined_rules joined rules)
unfolding joined_rules
once-joined m joined [] once = once
once-joined m joined (rule ∷ rules) once = once-joined m (with_new joined rule) rules (once-new m joined rule once)

-- THEOREM: a test passes at every joined rule just where it passes at every rule of the first and at every rule of the second
pub every-joined : (p : Rule → Bool) (joined rules : List Rule) → every rule_accepted joined ≡ true → every rule_accepted rules ≡ true → every p (joined_rules joined rules) ≡ (every p joined && every p rules)
unfolding joined_rules every
every-joined p joined [] accepted rules-accepted = go (every p joined)
  where
    go : (b : Bool) → b ≡ (b && true)
    go true = refl
    go false = refl
every-joined p joined (rule ∷ rules) accepted rules-accepted =
    let rule-accepted = left-true (rule_accepted rule) (every rule_accepted rules) rules-accepted in
    let rest-accepted = right-true (rule_accepted rule) (every rule_accepted rules) rules-accepted in
    every-joined p (with_new joined rule) rules (new-accepted joined rule accepted rule-accepted) rest-accepted
    ∙ ap (λ (b : Bool). b && every p rules) (every-new joined rule accepted rule-accepted p)
    ∙ go (every p joined) (p rule) (every p rules)
  where
    go : (a b c : Bool) → ((a && b) && c) ≡ (a && (b && c))
    go true b c = refl
    go false b c = refl

pub joined-accepted : (joined rules : List Rule) → every rule_accepted joined ≡ true → every rule_accepted rules ≡ true → every rule_accepted (joined_rules joined rules) ≡ true
joined-accepted joined rules accepted rules-accepted =
    every-joined rule_accepted joined rules accepted rules-accepted ∙ both_true (every rule_accepted joined) (every rule_accepted rules) accepted rules-accepted

-- those of the front of the second, then those of the rest
joined-append : (joined rules others : List Rule) → joined_rules joined (rules ++ others) ≡ joined_rules (joined_rules joined rules) others
unfolding joined_rules
joined-append joined [] others = refl
joined-append joined (rule ∷ rules) others = joined-append (with_new joined rule) rules others

pub joined_length : (joined rules : List Rule) → length joined ≤ length (joined_rules joined rules)
unfolding joined_rules
joined_length joined [] = omega arith
joined_length joined (rule ∷ rules) = omega (arith, (new-length joined rule).0, joined_length (with_new joined rule) rules)

-- ---- where each rule is from

record From (joined rules : List Rule) : Type 0 where
  past : List Rule
  front : joined_rules joined rules ≡ joined ++ past
  ordered : InOrder past rules

from-new : (joined rules : List Rule) (rule : Rule) → equals_none rule joined ≡ true → From (joined ++ rule ∷ []) rules → From joined (rule ∷ rules)
unfolding joined_rules
from-new joined rules rule e rest = record {
  past = rule ∷ rest.past;
  front = ap (λ (l : List Rule). joined_rules l rules) (new-taken joined rule e) ∙ rest.front ∙ append_assoc joined (rule ∷ []) rest.past;
  ordered = taken rest.ordered;
}

from-equal : (joined rules : List Rule) (rule : Rule) → equals_none rule joined ≡ false → From joined rules → From joined (rule ∷ rules)
unfolding joined_rules
from-equal joined rules rule e rest = record {
  past = rest.past;
  front = ap (λ (l : List Rule). joined_rules l rules) (equal-left joined rule e) ∙ rest.front;
  ordered = left_out rest.ordered;
}

from-both : (joined rules : List Rule) → From joined rules
unfolding joined_rules
from-both joined [] = record { past = []; front = sym (append-nil joined); ordered = none }
from-both joined (rule ∷ rules) =
    ⊎_elim (λ e. from-new joined rules rule e (from-both (joined ++ rule ∷ []) rules)) (λ e. from-equal joined rules rule e (from-both joined rules)) (new-or-equal joined rule)

-- what is there keeps its place
keeps-place : (joined rules : List Rule) (i : ℕ) → i < length joined → rule_at (joined_rules joined rules) i ≡ rule_at joined i
keeps-place joined rules i below =
    let from = from-both joined rules in
    ap (λ (l : List Rule). rule_at l i) from.front ∙ get_or-append joined from.past _ i below

all_there : (joined rules : List Rule) (j : ℕ) → j < length rules → (i : ℕ) × (i < length (joined_rules joined rules)) × (equal_rules (rule_at (joined_rules joined rules) i) (rule_at rules j) ≡ true)
unfolding joined_rules
all_there joined [] j below = absurd (omega arith)
all_there joined (rule ∷ rules) zero below =
    let found = there-after joined rule in (
      found.0,
      omega (arith, found.1, joined_length (with_new joined rule) rules),
      ap (λ (other : Rule). equal_rules other rule) (keeps-place (with_new joined rule) rules found.0 found.1) ∙ found.2,
    )
all_there joined (rule ∷ rules) (suc j) below = all_there (with_new joined rule) rules j (omega arith)

-- THEOREM: the joined list is the first, then in turn each rule of the second that equals none already there
pub joins : (first second : List Rule) → Joins first second (joined_rules first second)
joins first second =
    let from = from-both first second in
    record {
      past = from.past;
      front = from.front;
      ordered = from.ordered;
      once = once-joined (length first) first second (λ i j before past below. absurd (omega arith));
      all_there = all_there first second;
    }

-- ---- lists of which nothing is new, and of which all is

-- where each rule of the second equals one of the first, the first stays
pub nothing-new : (joined rules : List Rule) → ((j : ℕ) → j < length rules → (i : ℕ) × (i < length joined) × (equal_rules (rule_at joined i) (rule_at rules j) ≡ true)) → joined_rules joined rules ≡ joined
unfolding joined_rules
nothing-new joined [] there = refl
nothing-new joined (rule ∷ rules) there =
    let found = there 0 (omega arith) in
    let equal : equals_none rule joined ≡ false = not_so (equals_none rule joined) (λ e. clash found.2 (new-differs joined rule e found.0 found.1)) in
    ap (λ (l : List Rule). joined_rules l rules) (equal-left joined rule equal) ∙ nothing-new joined rules (λ j below. there (suc j) (omega arith))

-- THEOREM: a list joined with itself is itself
pub joined-itself : (rules : List Rule) → joined_rules rules rules ≡ rules
joined-itself rules = nothing-new rules rules (λ j below. (j, below, equal-self (rule_at rules j)))

all_new : (joined rules : List Rule) → NoDoubles (joined ++ rules) → joined_rules joined rules ≡ joined ++ rules
unfolding joined_rules
all_new joined [] single = sym (append-nil joined)
all_new joined (rule ∷ rules) single =
    ap (λ (l : List Rule). joined_rules l rules) (new-taken joined rule new)
    ∙ all_new (joined ++ rule ∷ []) rules (rw (append_assoc joined (rule ∷ []) rules) single)
    ∙ append_assoc joined (rule ∷ []) rules
  where
    sized : length (joined ++ rule ∷ rules) ≡ length joined + suc (length rules)
    sized = length-append joined (rule ∷ rules)

    differ : (i : ℕ) → i < length joined → not (equal_rules (rule_at joined i) rule) ≡ true
    differ i below =
        ap not
        (ap (λ (other : Rule). equal_rules other rule) (sym (get_or-append joined (rule ∷ rules) _ i below))
        ∙ ap (equal_rules (rule_at (joined ++ rule ∷ rules) i)) (sym (get_or_at joined rule rules _ (length joined) refl))
        ∙ single i (length joined) below (omega (arith, sized)))

    new : equals_none rule joined ≡ true
    new = differs-new joined rule differ

-- THEOREM: the empty list joined with one that has no doubles is that one; the other way round this needs nothing
pub joined-empty : (rules : List Rule) → NoDoubles rules → joined_rules [] rules ≡ rules
joined-empty rules single = all_new [] rules single

-- ---- too many

-- the rule n of the second with which they are more than 128, where they were not before it
pub record TooMany (joined rules : List Rule) (n : ℕ) : Type 0 where
  pub below : n < length rules
  pub before : length (joined_rules joined (take n rules)) ≤ 128
  pub after : 128 < length (joined_rules joined (take (suc n) rules))

-- then they are more than 128 in the end
pub too-many-whole : (joined rules : List Rule) (n : ℕ) → TooMany joined rules n → 128 < length (joined_rules joined rules)
too-many-whole joined rules n many =
    let whole : joined_rules joined rules ≡ joined_rules (joined_rules joined (take (suc n) rules)) (drop (suc n) rules) =
    ap (joined_rules joined) (sym (take-append-drop (suc n) rules)) ∙ joined-append joined (take (suc n) rules) (drop (suc n) rules) in
    omega (arith, many.after, ap length whole, joined_length (joined_rules joined (take (suc n) rules)) (drop (suc n) rules))

-- and its number is told
pub too-many-told : (joined rules : List Rule) (k n : ℕ) → TooMany joined rules n → too_many_at k joined rules ≡ k + n
unfolding joined_rules too_many_at
too-many-told joined [] k n many = absurd (omega (arith, many.below))
too-many-told joined (rule ∷ rules) k zero many = rw (lt-ltb 128 (length (with_new joined rule)) many.after) (omega arith)
too-many-told joined (rule ∷ rules) k (suc n) many =
    let room : length (with_new joined rule) ≤ 128 = omega (arith, many.before, joined_length (with_new joined rule) (take n rules)) in
    let rest : TooMany (with_new joined rule) rules n = record { below = omega (arith, many.below); before = many.before; after = many.after } in
    rw (le-ltb 128 (length (with_new joined rule)) room) (too-many-told (with_new joined rule) rules (suc k) n rest ∙ omega arith)

-- where they are more than 128 in the end there is such a rule
pub too-many-there : (joined rules : List Rule) → length joined ≤ 128 → 128 < length (joined_rules joined rules) → (n : ℕ) × TooMany joined rules n
unfolding joined_rules
too-many-there joined [] few many = absurd (omega arith)
too-many-there joined (rule ∷ rules) few many = go (λ room. too-many-there (with_new joined rule) rules room many) (ltb 128 (length (with_new joined rule))) refl
  where
    go : (length (with_new joined rule) ≤ 128 → (n : ℕ) × TooMany (with_new joined rule) rules n) → (b : Bool) → ltb 128 (length (with_new joined rule)) ≡ b → (n : ℕ) × TooMany joined (rule ∷ rules) n
    go later true e = (0, record { below = omega arith; before = few; after = ltb-true 128 (length (with_new joined rule)) e })
    go later false e =
        let rest = later (ltb-false 128 (length (with_new joined rule)) e) in
        (suc rest.0, record { below = omega (arith, rest.1.below); before = rest.1.before; after = rest.1.after })
