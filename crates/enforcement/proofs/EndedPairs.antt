-- Of the pairs that are still active none has ended.
-- Assumes nothing.
use mathlib.Core.Path.{◌≡◌, refl, ap₂, ◌∙◌}
use mathlib.Core.Bool.{and-not_self}
use mathlib.Core.List.{List, [], ◌∷◌}
use Prim.Native.Nat.{ℕ, ◌+◌}
use Rattle.sets.specs.Sets.{member, difference, count}
use Rattle.sets.proofs.Members.{member-difference}
use Rattle.sets.proofs.Counting.{count_none}
use Rattle.steps.specs.Pairs.{ended_pairs, pair_count}

pub nothing-lost : (roles : ℕ) → count 32 (member (difference roles roles)) ≡ 0
nothing-lost roles = count_none 32 (member (difference roles roles)) (λ r h. member-difference roles roles r ∙ and-not_self (member roles r))

pub none-ended : (l : List ℕ) → pair_count (ended_pairs l l) ≡ 0
unfolding ended_pairs pair_count
none-ended [] = refl
none-ended (roles ∷ rest) = ap₂ ◌+◌ (nothing-lost roles) (none-ended rest)
