-- The rights of two lists: where they can be joined each right of either is kept, and the first kind of which they cannot is told.
-- Assumes nothing.
use mathlib.Core.Path.{◌≡◌, refl, sym, ap, ◌∙◌, subst}
use mathlib.Core.Bool.{Bool, true, false}
use mathlib.Core.Logic.{◌↔◌}
use mathlib.Core.List.{List}
use Prim.Native.Nat.{ℕ, zero, suc, ◌<◌, zero-le}
use native.Mathlib.Omega.{arith}
use lib.ListN.{length, get_or}
use lib.Seq.{ext_get_or}
use lib.Dec.{eqb}
use borrow.Author.Tests.{eqb-true, eq-eqb, ne_eqb}
use Rattle.sets.proofs.Booleans.{clash}
use Rattle.rules.specs.Acceptance.{unstated, right_at, right_accepted}
use Rattle.rules.specs.Breach.{is_kept}
use Rattle.rules.specs.declared.rights.Right.{Right}
use Rattle.rules.specs.declared.rights.Right.TheVariants.{Unstated, Permission}
use Rattle.rules.specs.declared.rights.RightSlot.{RightSlot}
use Rattle.std.specs.Prelude.{Option, Some, None}
use Rattle.std.specs.Option.{MatchOption}
use Rattle.std.specs.List.{AllWithin, HoldsAt, zip}
use Rattle.std.proofs.lemmas.Slice.Zip.{length-zip, get_or-zip}
use Rattle.rules.proofs.Breach.{first-none, kept-means, broken-means}
use Rattle.joining.specs.Joining.{joined_right, joined_slot, joined_rights, rights_agree, rights_tested}
use Rattle.joining.specs.Claims.{KeepsRights, Differ}

-- ---- two rights of one kind

agree-or-differ : (first second : Right) → rights_agree first second ≡ false → Differ first second
agree-or-differ Unstated second e = clash refl e
agree-or-differ (Permission p) Unstated e = clash refl e
agree-or-differ (Permission p) (Permission q) e = (p, q, refl, refl, λ same. clash (eq-eqb p q same) e)

differ-disagree : (first second : Right) → Differ first second → rights_agree first second ≡ false
differ-disagree first second (p, q, e, f, other) = rw (e, f) (ne_eqb p q other)

-- a joined right is in its range where both are
pub right-accepted : (first second : Right) → right_accepted first ≡ true → right_accepted second ≡ true → right_accepted (joined_right first second) ≡ true
right-accepted Unstated second h k = k
right-accepted (Permission p) second h k = h

-- ---- the first kind of which they differ

module _ (first second : List RightSlot) where
  abbrev DifferAt : ℕ → Type 0
  DifferAt kind = Differ (right_at first kind) (right_at second kind)

  abbrev agree_at : ℕ → Bool
  agree_at kind = rights_agree (right_at first kind) (right_at second kind)

  agrees : (kind : ℕ) → agree_at kind ≡ true → DifferAt kind → ⊥
  agrees kind e differ = clash e (differ-disagree (right_at first kind) (right_at second kind) differ)

  agreed : (kind : ℕ) → (DifferAt kind → ⊥) → agree_at kind ≡ true
  agreed kind none = go (agree_at kind) refl
    where
      go : (b : Bool) → agree_at kind ≡ b → agree_at kind ≡ true
      go true e = e
      go false e = absurd (none (agree-or-differ (right_at first kind) (right_at second kind) e))

  pub kept-agree : rights_tested first second ≡ None → (kind : ℕ) → kind < 6 → agree_at kind ≡ true
  kept-agree e kind below = (kept-means 6 agree_at).0 (ap is_kept e) kind below

  pub none_differ : (rights_tested first second ≡ None) ↔ ((kind : ℕ) → kind < 6 → DifferAt kind → ⊥)
  none_differ = (
    λ e kind below. agrees kind (kept-agree e kind below),
    λ none. first-none 6 agree_at (λ kind below. agreed kind (none kind below)),
  )

  pub first-differs : (kind : ℕ)
      → (rights_tested first second ≡ Some kind) ↔ ((kind < 6) × DifferAt kind × ((earlier : ℕ) → earlier < kind → DifferAt earlier → ⊥))
  first-differs kind = (
    λ e.
        let found = (broken-means 6 agree_at kind).0 e in
        (found.0, agree-or-differ (right_at first kind) (right_at second kind) found.1, λ earlier before. agrees earlier (found.2 earlier before)),
    λ differ.
        (broken-means 6 agree_at kind).1
        (differ.0, differ-disagree (right_at first kind) (right_at second kind) differ.1, λ earlier before. agreed earlier (differ.2 earlier before)),
  )

-- the rights of a kind, one of each list, agree or differ
abbrev pub Agree : RightSlot × RightSlot → Type 0
Agree pair = rights_agree pair.0.right pair.1.right ≡ true

abbrev pub Apart : RightSlot × RightSlot → Type 0
Apart pair = rights_agree pair.0.right pair.1.right ≡ false

-- the place of the first pair that differs is the kind
pub first_apart : (first second : List RightSlot) (found : Option ℕ) → length first ≡ 6 → length second ≡ 6
    → MatchOption found (AllWithin Agree (zip first second) 0 (length (zip first second)))
    (λ kind. (kind < length (zip first second)) × HoldsAt Apart (zip first second) kind × AllWithin Agree (zip first second) 0 kind)
    → found ≡ rights_tested first second
first_apart first second found k l = go found
  where
    long : length (zip first second) ≡ 6
    long = omega (arith, length-zip first second)

    pair : (kind : ℕ) → kind < 6 → get_or (zip first second) kind (unstated, unstated) ≡ (get_or first kind unstated, get_or second kind unstated)
    pair kind below = get_or-zip first second kind (unstated, unstated) (omega arith) (omega arith)

    go : (found : Option ℕ) → MatchOption found (AllWithin Agree (zip first second) 0 (length (zip first second)))
        (λ kind. (kind < length (zip first second)) × HoldsAt Apart (zip first second) kind × AllWithin Agree (zip first second) 0 kind)
        → found ≡ rights_tested first second
    go None all = sym (first-none 6 (agree_at first second) (λ kind below. subst Agree (pair kind below) (all kind (unstated, unstated) zero-le (omega (arith, long)))))
    go (Some kind) (below, here, before) =
        let low : kind < 6 = omega (arith, long) in
        sym ((broken-means 6 (agree_at first second) kind).1
        (low, subst Apart (pair kind low) (here (unstated, unstated)), λ earlier h. subst Agree (pair earlier (omega (arith, h, low))) (before earlier (unstated, unstated) zero-le h)))

-- ---- the joined rights

pub joined_at : (first second : List RightSlot) (kind : ℕ) → kind < 6 → get_or (joined_rights first second) kind unstated ≡ joined_slot first second kind
unfolding joined_rights
joined_at first second zero below = refl
joined_at first second (suc zero) below = refl
joined_at first second (suc (suc zero)) below = refl
joined_at first second (suc (suc (suc zero))) below = refl
joined_at first second (suc (suc (suc (suc zero)))) below = refl
joined_at first second (suc (suc (suc (suc (suc zero))))) below = refl
joined_at first second (suc (suc (suc (suc (suc (suc kind)))))) below = absurd (omega arith)

pub joined-kinds : (first second : List RightSlot) → length (joined_rights first second) ≡ 6
unfolding joined_rights
joined-kinds first second = refl

pub right-joined : (first second : List RightSlot) (kind : ℕ) → kind < 6 → right_at (joined_rights first second) kind ≡ joined_right (right_at first kind) (right_at second kind)
right-joined first second kind below = ap (λ (slot : RightSlot). slot.right) (joined_at first second kind below)

-- THEOREM: right lines of either list are kept, equal ones once
pub keeps-rights : (first second : List RightSlot) → rights_tested first second ≡ None → KeepsRights first second (joined_rights first second)
keeps-rights first second kept = record {
  of_first = λ kind p below e. right-joined first second kind below ∙ ap (λ (right : Right). joined_right right (right_at second kind)) e;
  of_second = λ kind p below e. right-joined first second kind below ∙ from_second (right_at first kind) (right_at second kind) p e (kept-agree first second kept kind below);
  no_other = λ kind below e f. right-joined first second kind below ∙ ap (λ (right : Right). joined_right right (right_at second kind)) e ∙ f;
}
  where
    from_second : (right other : Right) (p : ℕ) → other ≡ Permission p → rights_agree right other ≡ true → joined_right right other ≡ Permission p
    from_second Unstated other p e agree = e
    from_second (Permission q) other p e agree =
        let same : eqb q p ≡ true = ap (rights_agree (Permission q)) (sym e) ∙ agree in ap Permission (eqb-true q p same)

-- what has the joined right of each kind
pub six_rights : (first second rights : List RightSlot) → length rights ≡ 6
    → get_or rights 0 unstated ≡ joined_slot first second 0
    → get_or rights 1 unstated ≡ joined_slot first second 1
    → get_or rights 2 unstated ≡ joined_slot first second 2
    → get_or rights 3 unstated ≡ joined_slot first second 3
    → get_or rights 4 unstated ≡ joined_slot first second 4
    → get_or rights 5 unstated ≡ joined_slot first second 5
    → rights ≡ joined_rights first second
six_rights first second rights sized a b c d e f = ext_get_or unstated rights (joined_rights first second) (sized ∙ sym (joined-kinds first second)) (λ kind below. at kind (omega (arith, sized)) ∙ sym (joined_at first second kind (omega (arith, sized))))
  where
    at : (kind : ℕ) → kind < 6 → get_or rights kind unstated ≡ joined_slot first second kind
    at zero below = a
    at (suc zero) below = b
    at (suc (suc zero)) below = c
    at (suc (suc (suc zero))) below = d
    at (suc (suc (suc (suc zero)))) below = e
    at (suc (suc (suc (suc (suc zero))))) below = f
    at (suc (suc (suc (suc (suc (suc kind)))))) below = absurd (omega arith)
