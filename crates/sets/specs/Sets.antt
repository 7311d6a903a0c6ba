-- Sets of small numbers, held as the binary digits of one number. What each operation does to the members is proved in
-- proofs/Members.antt, for any numbers.
-- Assumes nothing.
use Rattle.std.specs.Prelude.{Bool, true, false, cond, ◌&&◌, ◌||◌, ℕ, zero, suc, ◌+◌, ◌/◌, ◌%◌, ◌^◌, eqb, ltb}
use Rattle.std.specs.Int.Bits.{bit_and, bit_or, bit_xor}

-- ---- one set

-- i is a member of the set n: digit i of n is 1
unfoldable pub member : ℕ → ℕ → Bool
member n i = eqb (n / 2 ^ i % 2) 1

abbrev pub union : ℕ → ℕ → ℕ
union a b = bit_or a b

abbrev pub intersection : ℕ → ℕ → ℕ
intersection a b = bit_and a b

-- the members of a that are not in b
abbrev pub difference : ℕ → ℕ → ℕ
difference a b = bit_xor (bit_or a b) b

-- the set of i alone
abbrev pub single : ℕ → ℕ
single i = 2 ^ i

abbrev pub insert : ℕ → ℕ → ℕ
insert n i = union n (single i)

-- the set n and i, where i is below the width; past it a word has no place for i, and the set stays as it is
unfoldable pub with : ℕ → ℕ → ℕ → ℕ
with width n i = cond (ltb i width) (insert n i) n

-- the set n but for i
unfoldable pub without : ℕ → ℕ → ℕ
without n i = difference n (single i)

-- each member of a is one of b
abbrev pub subset : ℕ → ℕ → Bool
subset a b = eqb (bit_and a b) a

abbrev pub is_empty : ℕ → Bool
is_empty n = eqb n 0

-- ---- the numbers below a bound

-- each number below k passes the test
unfoldable pub all : ℕ → (ℕ → Bool) → Bool
all zero p = true
all (suc k) p = all k p && p k

-- some number below k passes the test
unfoldable pub any : ℕ → (ℕ → Bool) → Bool
any zero p = false
any (suc k) p = any k p || p k

abbrev pub one_if : Bool → ℕ
one_if true = 1
one_if false = 0

-- how many numbers below k pass the test
unfoldable pub count : ℕ → (ℕ → Bool) → ℕ
count zero p = 0
count (suc k) p = count k p + one_if (p k)

-- the set of the numbers below k that pass the test
unfoldable pub set_of : ℕ → (ℕ → Bool) → ℕ
set_of zero p = 0
set_of (suc k) p = cond (p k) (insert (set_of k p) k) (set_of k p)

-- the union of the sets of the numbers below k
unfoldable pub union_of : ℕ → (ℕ → ℕ) → ℕ
union_of zero f = 0
union_of (suc k) f = union (union_of k f) (f k)
