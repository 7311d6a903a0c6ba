-- What a role's word says of the permissions that it carries.
-- Assumes nothing.
use Prim.Native.Nat.{ℕ, ◌+◌, ◌<◌}
use mathlib.Core.Path.{◌≡◌, refl, sym, ap, ◌∙◌}
use mathlib.Core.Bool.{Bool, true, false, cond, ◌&&◌}
use mathlib.Core.List.{List}
use lib.ListN.{get_or}
use borrow.Author.Tests.{lt-ltb}
use Rattle.std.proofs.lemmas.Grind.{common_steps}
use Rattle.sets.specs.Sets.{member, any}
use Rattle.sets.proofs.Booleans.{both_true}
use Rattle.sets.proofs.Bounded.{any_of, any_next}
use Rattle.rules.specs.Families.{word_at, has_role, permissions_of}
use Rattle.rights.specs.Rights.{is_carried}

pub carries-word : (granted : List ℕ) (r p : ℕ) → r < 32 → has_role granted r p ≡ member (permissions_of granted r) p
unfolding permissions_of
carries-word granted r p l = ap (λ (b : Bool). member (cond b (word_at granted r) 0) p) (sym (lt-ltb r 32 l))

-- ---- the turns of a loop over the roles

-- role r is one of the set and carries the permission
abbrev pub carried_by : List ℕ → ℕ → ℕ → ℕ → Bool
carried_by granted roles p r = member roles r && member (permissions_of granted r) p

pub carried-start : (granted : List ℕ) (roles p : ℕ) → any 0 (carried_by granted roles p) ≡ false
unfolding any
carried-start granted roles p = refl

pub carried-other : (granted : List ℕ) (roles p r : ℕ) → any r (carried_by granted roles p) ≡ false → member roles r ≡ false → any (r + 1) (carried_by granted roles p) ≡ false
carried-other granted roles p r none other = any_next r (carried_by granted roles p) none (rw other refl)

pub carried-not : (granted : List ℕ) (roles p r : ℕ) → r < 32 → any r (carried_by granted roles p) ≡ false → member (get_or granted r 0) p ≡ false → any (r + 1) (carried_by granted roles p) ≡ false
carried-not granted roles p r low none lacks =
    any_next r (carried_by granted roles p) none (neither (member roles r) (member (permissions_of granted r) p) (sym (carries-word granted r p low) ∙ lacks))
  where
    neither : (a b : Bool) → b ≡ false → (a && b) ≡ false
    neither true b e = e
    neither false b e = refl

pub carried-here : (granted : List ℕ) (roles p r : ℕ) → r < 32 → member roles r ≡ true → member (get_or granted r 0) p ≡ true → is_carried granted roles p ≡ true
unfolding is_carried
carried-here granted roles p r low one carries =
    any_of 32 r (carried_by granted roles p) low (both_true (member roles r) (member (permissions_of granted r) p) one (sym (carries-word granted r p low) ∙ carries))

pub carried-end : (granted : List ℕ) (roles p r : ℕ) → r ≡ 32 → any r (carried_by granted roles p) ≡ false → is_carried granted roles p ≡ false
unfolding is_carried
carried-end granted roles p r e none = rw e at none

pub ruleset carried_turns = (carried-start, carried-other, carried-not, carried-here, carried-end, common_steps)
