-- Rounds that end pairs until nothing changes, and the rounds by a plan that the code takes.
-- Assumes nothing.
use Rattle.std.specs.Prelude.{ℕ, zero, suc, Bool, true, false, not, cond, ◌&&◌, List, [], ◌∷◌, eqb}
use Rattle.sets.specs.Sets.{member, subset, set_of, union_of}
use Rattle.rules.specs.Families.{word_at, has_role}
use Rattle.steps.specs.Pairs.{pair_count, sifted}

-- ---- rounds

unfoldable pub same_lists : List ℕ → List ℕ → Bool
same_lists [] [] = true
same_lists [] (b ∷ m) = false
same_lists (a ∷ l) [] = false
same_lists (a ∷ l) (b ∷ m) = eqb a b && same_lists l m

-- rounds until nothing changes, at most k
unfoldable pub settled : ℕ → (List ℕ → List ℕ) → List ℕ → List ℕ
settled zero f l = l
settled (suc k) f l = cond (same_lists l (f l)) l (settled k f (f l))

-- ---- by a plan: roles that are dead, roles ruled out in each session, and the roles that each role needs

-- the roles that are not dead and have all active that they need
unfoldable pub staying_roles : ℕ → List ℕ → ℕ → ℕ
staying_roles dead needs live = set_of 32 (λ r. not (member dead r) && subset (word_at needs r) live)

-- a plan lets role r stay in session i where the pairs of a list are active
unfoldable pub lets : ℕ → List ℕ → List ℕ → List ℕ → ℕ → ℕ → Bool
lets dead out needs l i r = not (has_role out i r) && (not (member dead r) && subset (word_at needs r) (union_of 32 (word_at l)))

unfoldable pub plan_round : ℕ → List ℕ → List ℕ → List ℕ → List ℕ
plan_round dead out needs l = sifted 0 (lets dead out needs l) l

unfoldable pub plan_settled : ℕ → List ℕ → List ℕ → List ℕ → List ℕ
plan_settled dead out needs l = settled (suc (pair_count l)) (plan_round dead out needs) l
