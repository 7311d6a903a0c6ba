-- What the first breach says of every number below the bound, and the turns of a loop that looks for it.
-- Assumes nothing.
use mathlib.Core.Path.{◌≡◌, refl, sym, ap, ◌∙◌}
use mathlib.Core.Bool.{Bool, true, false, cond, ◌&&◌, true≢false, false≢true}
use mathlib.Core.Logic.{◌↔◌, ⊎_elim}
use Prim.Native.Nat.{ℕ, zero, suc, ◌+◌, ◌≤◌, ◌<◌}
use native.Mathlib.Nat.{le_of_suc-le-suc, not-suc-le-zero, eq-or-lt_of_le, le_refl, le_trans, le-suc}
use native.Mathlib.Numerals.{add-one}
use lib.Dec.{leb}
use borrow.Author.Tests.{le-leb, leb-true}
use Rattle.sets.specs.Sets.{all}
use Rattle.sets.proofs.Bounded.{all-means}
use Rattle.rules.specs.Breach.{or_broken, first_broken, over_limit, is_kept}
use Rattle.std.specs.Prelude.{Option, Some, None}

-- ---- the turns of a loop

pub first_more : (k : ℕ) (p : ℕ → Bool) → first_broken k p ≡ None → p k ≡ true → first_broken (k + 1) p ≡ None
unfolding first_broken
first_more k p h e =
    ap (λ (x : ℕ). first_broken x p) (add-one k)
    ∙ ap (λ (t : Option ℕ). or_broken t (p k) k) h
    ∙ ap (λ (b : Bool). or_broken None b k) e

pub first_found : (k x : ℕ) (p : ℕ → Bool) → x < k → first_broken x p ≡ None → p x ≡ false → first_broken k p ≡ Some x
unfolding first_broken
first_found zero x p l h e = absurd (not-suc-le-zero l)
first_found (suc k) x p l h e =
    ⊎_elim
    (λ q. rw (← q, h, e))
    (λ m. ap (λ (t : Option ℕ). or_broken t (p k) k) (first_found k x p m h e)) (eq-or-lt_of_le (le_of_suc-le-suc l))

pub none_yet : (p : ℕ → Bool) → first_broken 0 p ≡ None
unfolding first_broken
none_yet p = refl

-- first_found, as a function that returns its breach asks it
pub broken_here : (k x : ℕ) (p : ℕ → Bool) → x < k → first_broken x p ≡ None → p x ≡ false → Some x ≡ first_broken k p
broken_here k x p l h e = sym (first_found k x p l h e)

pub ruleset turns = (none_yet, first_more, broken_here)

pub first-same : (k : ℕ) (p q : ℕ → Bool) → ((i : ℕ) → i < k → p i ≡ q i) → first_broken k p ≡ first_broken k q
unfolding first_broken
first-same zero p q e = refl
first-same (suc k) p q e =
    ap (λ (t : Option ℕ). or_broken t (p k) k) (first-same k p q (λ i l. e i (le_trans l (le-suc k))))
    ∙ ap (λ (b : Bool). or_broken (first_broken k q) b k) (e k (le_refl (suc k)))

pub first-none : (k : ℕ) (p : ℕ → Bool) → ((i : ℕ) → i < k → p i ≡ true) → first_broken k p ≡ None
unfolding first_broken
first-none zero p h = refl
first-none (suc k) p h =
    ap (λ (t : Option ℕ). or_broken t (p k) k) (first-none k p (λ i l. h i (le_trans l (le-suc k))))
    ∙ ap (λ (b : Bool). or_broken None b k) (h k (le_refl (suc k)))

-- ---- what the answer says

pub kept-all : (k : ℕ) (p : ℕ → Bool) → is_kept (first_broken k p) ≡ all k p
unfolding first_broken all
kept-all zero p = refl
kept-all (suc k) p = step (first_broken k p) (p k) ∙ ap (λ (b : Bool). b && p k) (kept-all k p)
  where
    step : (t : Option ℕ) (b : Bool) → is_kept (or_broken t b k) ≡ (is_kept t && b)
    step None true = refl
    step None false = refl
    step (Some x) b = refl

-- kept: no number below k fails
pub kept-means : (k : ℕ) (p : ℕ → Bool) → (is_kept (first_broken k p) ≡ true) ↔ ((i : ℕ) → i < k → p i ≡ true)
kept-means k p = (λ h. (all-means k p).0 (sym (kept-all k p) ∙ h), λ h. kept-all k p ∙ (all-means k p).1 h)

of-kept : (t : Option ℕ) → t ≡ None → is_kept t ≡ true
of-kept t e = ap is_kept e

is-broken : (t : Option ℕ) (x : ℕ) → t ≡ Some x → is_kept t ≡ true → ⊥
is-broken t x e h = true≢false (sym h ∙ ap is_kept e)

-- what was broken first: it fails, and no number before it does
record Found (k : ℕ) (p : ℕ → Bool) (x : ℕ) : Type 0 where
  below : x < k
  fails : p x ≡ false
  before : (i : ℕ) → i < x → p i ≡ true

found_in : (k : ℕ) (p : ℕ → Bool) (x : ℕ) (t : Option ℕ) (b : Bool) → first_broken k p ≡ t → p k ≡ b → (first_broken k p ≡ Some x → Found k p x) → or_broken t b k ≡ Some x → Found (suc k) p x
found_in k p x None true et eb ih e = absurd (is-broken None x e refl)
found_in k p x None false et eb ih e =
    let same : k ≡ x = cc in
    rw (← same) (record { below = le_refl (suc k); fails = eb; before = (kept-means k p).0 (of-kept (first_broken k p) et) })
found_in k p x (Some y) b et eb ih e =
    let f = ih (et ∙ e) in
    record { below = le_trans f.below (le-suc k); fails = f.fails; before = f.before }

found : (k : ℕ) (p : ℕ → Bool) (x : ℕ) → first_broken k p ≡ Some x → Found k p x
unfolding first_broken
found zero p x e = absurd (is-broken None x e refl)
found (suc k) p x e = found_in k p x (first_broken k p) (p k) refl refl (found k p x) e

-- broken at x: x is below k and fails, and no number met before it does
pub broken-means : (k : ℕ) (p : ℕ → Bool) (x : ℕ) → (first_broken k p ≡ Some x) ↔ ((x < k) × (p x ≡ false) × ((i : ℕ) → i < x → p i ≡ true))
broken-means k p x = (
  λ e. let f = found k p x e in (f.below, f.fails, f.before),
  λ h. first_found k x p h.0 (first-none x p h.2) h.1,
)

-- ---- a limit

pub limit-means : (count limit : ℕ) → (is_kept (over_limit count limit) ≡ true) ↔ (count ≤ limit)
limit-means count limit = (to (leb count limit) refl, λ l. ap (λ (b : Bool). is_kept (cond b None (Some count))) (le-leb count limit l))
  where
    to : (b : Bool) → leb count limit ≡ b → is_kept (cond b None (Some count)) ≡ true → count ≤ limit
    to true e h = leb-true count limit e
    to false e h = absurd (false≢true h)
