-- Lists of sets of roles, one for each session: their (session, role) pairs. Both gates share it.
-- Assumes nothing.
use Rattle.std.specs.Prelude.{ℕ, suc, ◌+◌, ◌*◌, ◌/◌, ◌%◌, ◌≤◌, ◌≡◌, Bool, true, ◌&&◌, List, [], ◌∷◌, length}
use Rattle.sets.specs.Sets.{member, difference, count, set_of}
use Rattle.rules.specs.Families.{has_role}

-- ---- "(session, role) pairs active before and not after"

-- of one session, the roles active before and not after
abbrev pub ended_roles : ℕ → ℕ → ℕ
ended_roles before after = difference before after

-- session by session
unfoldable pub ended_pairs : List ℕ → List ℕ → List ℕ
ended_pairs [] after = []
ended_pairs (roles ∷ before) [] = roles ∷ before
ended_pairs (roles ∷ before) (kept ∷ after) = ended_roles roles kept ∷ ended_pairs before after

-- their number
unfoldable pub pair_count : List ℕ → ℕ
pair_count [] = 0
pair_count (roles ∷ rest) = count 32 (member roles) + pair_count rest

-- how many (session, role) pairs of the first sessions pass a test: number k stands for session k / 32 and role k % 32
abbrev pub count_pairs : ℕ → (ℕ → ℕ → Bool) → ℕ
count_pairs sessions test = count (sessions * 32) (λ k. test (k / 32) (k % 32))

-- the pairs of a list that pass the test, its sessions counted from i on
unfoldable pub sifted : ℕ → (ℕ → ℕ → Bool) → List ℕ → List ℕ
sifted i test [] = []
sifted i test (roles ∷ rest) = set_of 32 (λ r. member roles r && test i r) ∷ sifted (suc i) test rest

-- the number of roles of one set that the other has not
pub record Fewer (before after n : ℕ) : Type 0 where
  pub number : n ≡ count 32 (member (ended_roles before after))
  pub small : n ≤ 32

-- ---- "a part is any choice of them"

-- l is a part of m
pub record Part (l m : List ℕ) : Type 0 where
  pub same_length : length l ≡ length m
  pub within : (i r : ℕ) → has_role l i r ≡ true → has_role m i r ≡ true
