-- THEOREMS on writing a rule list as policies: 40, 56 and 18 each for its own cause alone, in this order, no other number, and what the lent
-- space then holds.
-- Assumes nothing.
use mathlib.Core.Path.{◌≡◌, refl, sym, ap, ◌∙◌}
use mathlib.Core.Bool.{Bool, true, false, cond}
use mathlib.Core.Logic.{◌↔◌, ◌⊎◌, inl, inr}
use mathlib.Core.List.{List, ◌++◌}
use Prim.Native.Nat.{ℕ, ◌≤◌, ◌<◌}
use native.Mathlib.Omega.{arith}
use lib.ListN.{length, drop}
use lib.Dec.{leb}
use borrow.Author.Tests.{leb-true, leb-false, le-leb, lt-leb}
use Rattle.std.specs.Prelude.{Option, Some, None}
use Rattle.forms.specs.Writing.{lent_after}
use Rattle.rules.specs.Acceptance.{list_accepted}
use Rattle.rules.specs.declared.lists.RuleList.{RuleList}
use Rattle.policy_text.specs.Writing.{without_policy, policies_text, PoliciesWritten, Length, Refused, unless_without, written_policies, lent_after_policies}
use Rattle.policy_text.specs.Causes.{HasNoLine, Expressible}
use Rattle.policy_text.proofs.Missing.{expressible-means, lacks-means}

-- what is answered, as one of four
data Answered (list : RuleList) (lent : List ℕ) : PoliciesWritten → Type 0 where
  forty : list_accepted list ≡ false → Answered list lent (Refused 40 0)
  without : (n : ℕ) → list_accepted list ≡ true → without_policy list ≡ Some n → Answered list lent (Refused 56 n)
  short : list_accepted list ≡ true → without_policy list ≡ None → length lent < length (policies_text list) → Answered list lent (Refused 18 (length (policies_text list)))
  fits : list_accepted list ≡ true → without_policy list ≡ None → length (policies_text list) ≤ length lent → Answered list lent (Length (length (policies_text list)))

answered : (list : RuleList) (lent : List ℕ) → Answered list lent (written_policies list lent)
unfolding written_policies
answered list lent = by-list (list_accepted list) refl (without_policy list) refl (leb (length (policies_text list)) (length lent)) refl
  where
    by-list : (a : Bool) → list_accepted list ≡ a → (w : Option ℕ) → without_policy list ≡ w → (f : Bool) → leb (length (policies_text list)) (length lent) ≡ f
        → Answered list lent (cond a (unless_without w (cond f (Length (length (policies_text list))) (Refused 18 (length (policies_text list))))) (Refused 40 0))
    by-list false a w e f g = forty a
    by-list true a (Some n) e f g = without n a e
    by-list true a None e true g = fits a e (leb-true _ _ g)
    by-list true a None e false g = short a e (leb-false _ _ g)

unequal : {A : Type 0} → ◌≡◌ {A = ℕ} 0 1 → A
unequal e = absurd (omega arith)

module _ (list : RuleList) (lent : List ℕ) where
  -- 40 exactly where the list is not accepted
  pub refused-40 : (n : ℕ) → (written_policies list lent ≡ Refused 40 n) ↔ ((list_accepted list ≡ false) × (n ≡ 0))
  unfolding written_policies
  refused-40 n = (to (answered list lent), λ cause. rw (cause.0, cause.1))
    where
      to : {answer : PoliciesWritten} → Answered list lent answer → answer ≡ Refused 40 n → (list_accepted list ≡ false) × (n ≡ 0)
      to (forty a) e = let z : ◌≡◌ {A = ℕ} 0 n = cc in (a, sym z)
      to (without m a w) e = absurd (let z : ◌≡◌ {A = ℕ} 56 40 = cc in omega arith)
      to (short a w h) e = absurd (let z : ◌≡◌ {A = ℕ} 18 40 = cc in omega arith)
      to (fits a w h) e = unequal cc

  -- 56 exactly where an accepted list has a right line, or a rule that is none of the five kinds: with the lowest
  pub refused-56 : (n : ℕ) → (written_policies list lent ≡ Refused 56 n) ↔ ((list_accepted list ≡ true) × HasNoLine list n)
  unfolding written_policies
  refused-56 n = (to (answered list lent), λ cause. rw (cause.0, (lacks-means list n).1 cause.1))
    where
      to : {answer : PoliciesWritten} → Answered list lent answer → answer ≡ Refused 56 n → (list_accepted list ≡ true) × HasNoLine list n
      to (forty a) e = absurd (let z : ◌≡◌ {A = ℕ} 40 56 = cc in omega arith)
      to (without m a w) e = let same : m ≡ n = cc in (a, (lacks-means list n).0 (w ∙ ap Some same))
      to (short a w h) e = absurd (let z : ◌≡◌ {A = ℕ} 18 56 = cc in omega arith)
      to (fits a w h) e = unequal cc

  -- 18 exactly where the text of an accepted list of the five kinds is longer than the lent space: with the bytes that it needs
  pub refused-18 : (n : ℕ)
      → (written_policies list lent ≡ Refused 18 n)
      ↔ ((list_accepted list ≡ true) × Expressible list × (length lent < length (policies_text list)) × (n ≡ length (policies_text list)))
  unfolding written_policies
  refused-18 n =
      (to (answered list lent), λ cause. rw (cause.0, (expressible-means list).1 cause.1, lt-leb (length (policies_text list)) (length lent) cause.2, cause.3))
    where
      to : {answer : PoliciesWritten} → Answered list lent answer → answer ≡ Refused 18 n
          → (list_accepted list ≡ true) × Expressible list × (length lent < length (policies_text list)) × (n ≡ length (policies_text list))
      to (forty a) e = absurd (let z : ◌≡◌ {A = ℕ} 40 18 = cc in omega arith)
      to (without m a w) e = absurd (let z : ◌≡◌ {A = ℕ} 56 18 = cc in omega arith)
      to (short a w h) e = let same : length (policies_text list) ≡ n = cc in (a, (expressible-means list).0 w, h, sym same)
      to (fits a w h) e = unequal cc

  -- "the length is returned" exactly where an accepted list of the five kinds fits
  pub written-length : (n : ℕ)
      → (written_policies list lent ≡ Length n)
      ↔ ((list_accepted list ≡ true) × Expressible list × (length (policies_text list) ≤ length lent) × (n ≡ length (policies_text list)))
  unfolding written_policies
  written-length n =
      (to (answered list lent), λ cause. rw (cause.0, (expressible-means list).1 cause.1, le-leb (length (policies_text list)) (length lent) cause.2, cause.3))
    where
      to : {answer : PoliciesWritten} → Answered list lent answer → answer ≡ Length n
          → (list_accepted list ≡ true) × Expressible list × (length (policies_text list) ≤ length lent) × (n ≡ length (policies_text list))
      to (forty a) e = unequal cc
      to (without m a w) e = unequal cc
      to (short a w h) e = unequal cc
      to (fits a w h) e = let same : length (policies_text list) ≡ n = cc in (a, (expressible-means list).0 w, h, sym same)

  -- no other number is ever given
  pub refused-number : (number n : ℕ) → written_policies list lent ≡ Refused number n → (number ≡ 40) ⊎ ((number ≡ 56) ⊎ (number ≡ 18))
  refused-number number n = to (answered list lent)
    where
      to : {answer : PoliciesWritten} → Answered list lent answer → answer ≡ Refused number n → (number ≡ 40) ⊎ ((number ≡ 56) ⊎ (number ≡ 18))
      to (forty a) e = inl cc
      to (without m a w) e = inr (inl cc)
      to (short a w h) e = inr (inr cc)
      to (fits a w h) e = unequal cc

  -- a refusal leaves every byte
  pub refused-leaves : (number n : ℕ) → written_policies list lent ≡ Refused number n → lent_after_policies list lent ≡ lent
  unfolding lent_after_policies lent_after
  refused-leaves number n = to (answered list lent)
    where
      to : {answer : PoliciesWritten} → Answered list lent answer → answer ≡ Refused number n → lent_after_policies list lent ≡ lent
      to (forty a) e = rw a
      to (without m a w) e = rw (a, w)
      to (short a w h) e = rw (a, w, lt-leb (length (policies_text list)) (length lent) h)
      to (fits a w h) e = unequal cc

  -- "bytes past it stay": the text comes first, and then what was there
  pub written-leaves : (n : ℕ) → written_policies list lent ≡ Length n → lent_after_policies list lent ≡ policies_text list ++ drop n lent
  unfolding lent_after_policies lent_after
  written-leaves n = to (answered list lent)
    where
      to : {answer : PoliciesWritten} → Answered list lent answer → answer ≡ Length n → lent_after_policies list lent ≡ policies_text list ++ drop n lent
      to (forty a) e = unequal cc
      to (without m a w) e = unequal cc
      to (short a w h) e = unequal cc
      to (fits a w h) e = let same : n ≡ length (policies_text list) = sym cc in rw (a, w, le-leb (length (policies_text list)) (length lent) h, same)
