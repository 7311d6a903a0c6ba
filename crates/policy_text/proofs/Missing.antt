-- What of a list has no policy: a right line, or the lowest rule that has none.
-- Assumes nothing.
use mathlib.Core.Path.{◌≡◌, refl, sym, ap, ◌∙◌, subst}
use mathlib.Core.Bool.{Bool, true, false, cond, not, ◌||◌}
use mathlib.Core.Logic.{◌↔◌}
use mathlib.Core.List.{List, [], ◌∷◌}
use Prim.Native.Nat.{ℕ, zero, suc, ◌+◌, ◌≤◌, ◌<◌}
use native.Mathlib.Numerals.{add-one}
use native.Mathlib.Omega.{arith}
use lib.Dec.{ltb}
use lib.ListN.{length, take, get_or}
use lib.Seq.{take_all}
use Rattle.std.specs.Prelude.{Option, Some, None, map}
use Rattle.std.specs.List.{list_any, position_from}
use Rattle.std.proofs.lemmas.List.Folds.{list_any_more}
use Rattle.rules.specs.Acceptance.{unstated, right_at, every, rule_of, rules_of}
use Rattle.rules.specs.declared.rights.Right.{Right}
use Rattle.rules.specs.declared.rights.Right.TheVariants.{Unstated, Permission}
use Rattle.rules.specs.declared.rights.RightSlot.{RightSlot}
use Rattle.rules.specs.declared.lists.RuleList.{RuleList}
use Rattle.rules.specs.declared.lists.Slot.{Slot}
use Rattle.rules.specs.declared.families.Rule.{Rule}
use Rattle.rules.specs.Lowest.{lowest}
use Rattle.sets.specs.Sets.{any}
use Rattle.rules.proofs.RuleLists.{passes-at, passes-all, lowest-none, lowest-means}
use Rattle.sets.proofs.Booleans.{clash}
use Rattle.sets.proofs.Bounded.{any_of, of-any}
use Rattle.rule_text.specs.Lines.{filler, line_count}
use Rattle.policy_text.specs.Lines.{has_policy}
use Rattle.policy_text.specs.Writing.{without_from, has_right_line, without_policy}
use Rattle.policy_text.specs.Causes.{NoRight, HasNoLine, right_line, lowest_rule, Expressible}
use Rattle.policy_text.proofs.Table.{has-kind, kind-has}

-- ---- a right that some kind has

-- the test of a walk over the rights
pub any-first : {A : Type 0} (p : A → Bool) (xs : List A) (d : A) (k : ℕ) → k ≤ length xs → list_any p (take k xs) ≡ any k (λ i. p (get_or xs i d))
unfolding any
any-first p xs d zero h = refl
any-first p xs d (suc k) h =
    ap (λ (n : ℕ). list_any p (take n xs)) (sym (add-one k)) ∙ list_any_more p xs k d (omega arith) ∙ ap (λ (b : Bool). b || p (get_or xs k d)) (any-first p xs d k (omega arith))

pub some-line : (rights : List RightSlot) → length rights ≡ 6 → list_any (λ (slot : RightSlot). ltb 0 (line_count slot.right)) rights ≡ has_right_line rights
unfolding has_right_line
some-line rights sized =
    ap (list_any (λ (slot : RightSlot). ltb 0 (line_count slot.right))) (sym (take_all 6 rights (omega arith)))
    ∙ any-first (λ (slot : RightSlot). ltb 0 (line_count slot.right)) rights unstated 6 (omega arith)

-- ---- the lowest rule without a policy

-- it is the lowest that fails the test
pub without-lowest : (n : ℕ) (rules : List Rule) → without_from n rules ≡ lowest has_policy n rules
unfolding without_from lowest
without-lowest n [] = refl
without-lowest n (rule ∷ rules) = ap (λ (rest : Option ℕ). cond (has_policy rule) rest (Some n)) (without-lowest (suc n) rules)

without-none : (rules : List Rule) → (without_from 1 rules ≡ None) ↔ (every has_policy rules ≡ true)
without-none rules = rw (without-lowest 1 rules) (lowest-none has_policy 1 rules)

-- what is counted from 0 is from_one from 1
abbrev pub from_one : Option ℕ → Option ℕ
from_one None = None
from_one (Some i) = Some (i + 1)

-- the first slot whose rule has none
pub position-lowest : (n : ℕ) (slots : List Slot)
    → from_one (position_from (λ (slot : Slot). not (has_policy slot.rule)) n slots) ≡ without_from (n + 1) (map rule_of slots)
unfolding without_from
position-lowest n [] = refl
position-lowest n (slot ∷ slots) = go (has_policy slot.rule) (position-lowest (n + 1) slots)
  where
    go : (b : Bool) → from_one (position_from (λ (slot : Slot). not (has_policy slot.rule)) (n + 1) slots) ≡ without_from (n + 1 + 1) (map rule_of slots)
        → from_one (cond (not b) (Some n) (position_from (λ (slot : Slot). not (has_policy slot.rule)) (n + 1) slots))
        ≡ cond b (without_from (suc (n + 1)) (map rule_of slots)) (Some (n + 1))
    go true h = rw (← add-one (n + 1)) h
    go false h = refl

-- ---- right lines, and a list

right-line-means : (right : Right) → (ltb 0 (line_count right) ≡ true) ↔ ((permission : ℕ) × (right ≡ Permission permission))
right-line-means right = (to right, λ there. rw there.1)
  where
    to : (right : Right) → ltb 0 (line_count right) ≡ true → (permission : ℕ) × (right ≡ Permission permission)
    to Unstated h = clash h refl
    to (Permission p) h = (p, refl)

no-line-unstated : (right : Right) → ltb 0 (line_count right) ≡ false → right ≡ Unstated
no-line-unstated Unstated h = refl
no-line-unstated (Permission p) h = clash refl h

module _ (list : RuleList) where
  abbrev has_line : ℕ → Bool
  has_line kind = ltb 0 (line_count (right_at list.rights kind))

  -- no kind has a right line, exactly where none has a right
  no_right : has_right_line list.rights ≡ false → NoRight list
  unfolding has_right_line
  no_right h kind low = no-line-unstated (right_at list.rights kind) (by-line (has_line kind) refl)
    where
      by-line : (b : Bool) → has_line kind ≡ b → b ≡ false
      by-line true e = clash (any_of 6 kind has_line low e) h
      by-line false e = refl

  none-stated : NoRight list → has_right_line list.rights ≡ false
  unfolding has_right_line
  none-stated none = by-line (any 6 has_line) refl
    where
      by-line : (b : Bool) → any 6 has_line ≡ b → b ≡ false
      by-line true e =
          let there = of-any 6 has_line e in
          clash there.2 (ap (λ (right : Right). ltb 0 (line_count right)) (none there.0 there.1))
      by-line false e = refl

  -- some kind has one, exactly where the test says so
  stated-kind : has_right_line list.rights ≡ true → (kind : ℕ) × (kind < 6) × (has_line kind ≡ true)
  unfolding has_right_line
  stated-kind h = of-any 6 has_line h

  kind-stated : (kind : ℕ) → kind < 6 → has_line kind ≡ true → has_right_line list.rights ≡ true
  unfolding has_right_line
  kind-stated kind low h = any_of 6 kind has_line low h

  kinds-have : Expressible list → every has_policy (rules_of list) ≡ true
  kinds-have good = passes-all has_policy filler (rules_of list) (λ i low. kind-has (good.kinds i low))

  -- nothing lacks a policy, exactly where the list is of the five kinds and has no right line
  pub expressible-means : (without_policy list ≡ None) ↔ Expressible list
  unfolding without_policy
  expressible-means =
      (by_right (has_right_line list.rights) refl, λ good. rw (none-stated good.no_right) ((without-none (rules_of list)).1 (kinds-have good)))
    where
      by_right : (b : Bool) → has_right_line list.rights ≡ b → cond b (Some 0) (without_from 1 (rules_of list)) ≡ None → Expressible list
      by_right true e h = cc
      by_right false e h =
          let have = (without-none (rules_of list)).0 h in
          record { no_right = no_right e; kinds = λ i low. has-kind (get_or (rules_of list) i filler) (passes-at has_policy filler (rules_of list) have i low) }

  -- a rule is named, exactly where it is the lowest that has none, or 0 where there is a right line
  pub lacks-means : (n : ℕ) → (without_policy list ≡ Some n) ↔ HasNoLine list n
  unfolding without_policy
  lacks-means n = (by_right (has_right_line list.rights) refl, from)
    where
      by_right : (b : Bool) → has_right_line list.rights ≡ b → cond b (Some 0) (without_from 1 (rules_of list)) ≡ Some n → HasNoLine list n
      by_right true e h =
          let there = stated-kind e in
          let stated = (right-line-means (right_at list.rights there.0)).0 there.2 in
          let same : ◌≡◌ {A = ℕ} 0 n = cc in
          subst (HasNoLine list) same (right_line there.0 stated.0 there.1 stated.1)
      by_right false e h =
          let there = (lowest-means has_policy filler 1 (rules_of list) n).0 (sym (without-lowest 1 (rules_of list)) ∙ h) in
          let same : suc there.0 ≡ n = omega (arith, there.1) in
          subst (HasNoLine list) same
          (lowest_rule there.0 (no_right e) there.2.within (λ kind. clash (kind-has kind) there.2.fails)
          (λ j low. has-kind (get_or (rules_of list) j filler) (there.2.earlier j low)))

      from : {m : ℕ} → HasNoLine list m → cond (has_right_line list.rights) (Some 0) (without_from 1 (rules_of list)) ≡ Some m
      from (right_line kind permission low e) =
          rw (kind-stated kind low ((right-line-means (right_at list.rights kind)).1 (permission, e)))
      from (lowest_rule i none low other earlier) =
          rw (none-stated none, without-lowest 1 (rules_of list))
          ((lowest-means has_policy filler 1 (rules_of list) (suc i)).1
          (i, omega arith, record { within = low; fails = not-has (has_policy (get_or (rules_of list) i filler)) refl; earlier = λ j h. kind-has (earlier j h) }))
        where
          not-has : (b : Bool) → has_policy (get_or (rules_of list) i filler) ≡ b → b ≡ false
          not-has true e = absurd (other (has-kind (get_or (rules_of list) i filler) e))
          not-has false e = refl
