-- Document 01, 'Rules': "The full test of one rule stops at the first breach it meets." What that answer says of every number
-- below the bound is proved in proofs/Breach.antt.
-- Assumes nothing.
use Rattle.std.specs.Prelude.{Bool, true, false, cond, ℕ, zero, suc, leb, Option, Some, None}

abbrev pub or_broken : Option ℕ → Bool → ℕ → Option ℕ
or_broken None passes k = cond passes None (Some k)
or_broken (Some x) passes k = Some x

-- the first number below k that fails the test
unfoldable pub first_broken : ℕ → (ℕ → Bool) → Option ℕ
first_broken zero p = None
first_broken (suc k) p = or_broken (first_broken k p) (p k) k

-- "A count equal to n keeps its limit."; a count above it is the breach
abbrev pub over_limit : ℕ → ℕ → Option ℕ
over_limit count limit = cond (leb count limit) None (Some count)

abbrev pub is_kept : Option ℕ → Bool
is_kept None = true
is_kept (Some x) = false
