-- THEOREMS on the order of a saved text's lines: "ascending: (now t), (assigned u r), (granted r p), then per session (open s u),
-- (place s x y) if known, (active s r); then (did o p u)", and the loans "after `granted`, ascending". Of two lines in range the one whose rank
-- is below comes first.
-- Assumes nothing.
use mathlib.Core.Path.{◌≡◌, refl, sym, ap}
use mathlib.Core.Bool.{Bool, true, false}
use mathlib.Core.Logic.{◌↔◌, ◌⊎◌, inl, inr, ⊎_elim}
use Prim.Native.Nat.{ℕ, ◌+◌, ◌*◌, ◌≤◌, ◌<◌}
use native.Mathlib.Nat.{suc-mul, mul-le-mul_right, eq-or-lt_of_le}
use native.Mathlib.Omega.{arith}
use lib.Dec.{ltb}
use borrow.Author.Tests.{ltb-true, ltb-false}
use lib.IntN.{ℤ}
use Rattle.state_text.specs.Entries.{rank}
use Rattle.state_text.specs.declared.entries.Entry.TheVariants.{Now, Assigned, Granted, Loan, Open, Place, Active, Did, PlaceWithError}

-- ---- one kind of line after the other

pub now-first : (t u r : ℕ) → rank (Now t) < rank (Assigned u r)
unfolding rank
now-first t u r = omega arith

pub assigned-then-granted : (u r s p : ℕ) → u < 64 → r < 32 → rank (Assigned u r) < rank (Granted s p)
unfolding rank
assigned-then-granted u r s p user role = omega arith

pub granted-then-loan : (r p u v q t : ℕ) → r < 32 → p < 32 → rank (Granted r p) < rank (Loan u v q t)
unfolding rank
granted-then-loan r p u v q t role permission = omega arith

pub loan-then-open : (u v r t i w : ℕ) → u < 64 → v < 64 → r < 32 → rank (Loan u v r t) < rank (Open i w)
unfolding rank
loan-then-open u v r t i w lender borrower role = omega arith

pub open-then-place : (i u : ℕ) (x y : ℤ) → rank (Open i u) < rank (Place i x y)
unfolding rank
open-then-place i u x y = omega arith

pub place-then-active : (i r : ℕ) (x y : ℤ) → rank (Place i x y) < rank (Active i r)
unfolding rank
place-then-active i r x y = omega arith

-- a place with its error stands where one without does
pub error-in-place : (i : ℕ) (x y x' y' : ℤ) (e : ℕ) → rank (PlaceWithError i x y e) ≡ rank (Place i x' y')
unfolding rank
error-in-place i x y x' y' e = refl

pub session-then-session : (i j r u : ℕ) → r < 32 → i < j → rank (Active i r) < rank (Open j u)
unfolding rank
session-then-session i j r u role later = omega arith

pub active-then-did : (i r o p u : ℕ) → i < 32 → r < 32 → rank (Active i r) < rank (Did o p u)
unfolding rank
active-then-did i r o p u session role = omega arith

-- ---- lines of one kind

-- rows of a width, ascending by row and then by column
rows : (width a b c d : ℕ) → b < width → d < width → (a * width + b < c * width + d) ↔ ((a < c) ⊎ ((a ≡ c) × (b < d)))
rows width a b c d first second = (to, from)
  where
    next_row : (x y : ℕ) → x < y → x * width + width ≤ y * width
    next_row x y later = rw suc-mul at (mul-le-mul_right width later)

    by_row : a * width + b < c * width + d → (before : Bool) → ltb c a ≡ before → (a < c) ⊎ ((a ≡ c) × (b < d))
    by_row below true e = absurd (omega (arith, next_row c a (ltb-true c a e)))
    by_row below false e = ⊎_elim (λ same. inr (same, omega (arith, ap (λ (x : ℕ). x * width) same))) inl (eq-or-lt_of_le (ltb-false c a e))

    to : a * width + b < c * width + d → (a < c) ⊎ ((a ≡ c) × (b < d))
    to below = by_row below (ltb c a) refl

    from : (a < c) ⊎ ((a ≡ c) × (b < d)) → a * width + b < c * width + d
    from (inl later) = omega (arith, next_row a c later)
    from (inr same) = omega (arith, ap (λ (x : ℕ). x * width) same.0, same.1)

-- a place that is the same is in no earlier row
not_earlier : (width a b c d : ℕ) → b < width → d < width → a * width + b ≡ c * width + d → c ≤ a
not_earlier width a b c d first second same = go (ltb a c) refl
  where
    go : (before : Bool) → ltb a c ≡ before → c ≤ a
    go true e = absurd (omega (arith, same, (rows width a b c d first second).1 (inl (ltb-true a c e))))
    go false e = ltb-false a c e

-- rows of rows, ascending by the first number, the second and the third
three-columns : (wide width a b c d e f : ℕ) → b < wide → e < wide → c < width → f < width
    → ((a * wide + b) * width + c < (d * wide + e) * width + f) ↔ ((a < d) ⊎ ((a ≡ d) × ((b < e) ⊎ ((b ≡ e) × (c < f)))))
three-columns wide width a b c d e f hb he hc hf = (to, from)
  where
    whole : ((a * wide + b) * width + c < (d * wide + e) * width + f) ↔ ((a * wide + b < d * wide + e) ⊎ ((a * wide + b ≡ d * wide + e) × (c < f)))
    whole = rows width (a * wide + b) c (d * wide + e) f hc hf

    same_row : a * wide + b ≡ d * wide + e → (a ≡ d) × (b ≡ e)
    same_row same =
        let row : a ≡ d = omega (arith, not_earlier wide a b d e hb he same, not_earlier wide d e a b he hb (sym same)) in
        (row, omega (arith, same, ap (λ (x : ℕ). x * wide) row))

    to : (a * wide + b) * width + c < (d * wide + e) * width + f → (a < d) ⊎ ((a ≡ d) × ((b < e) ⊎ ((b ≡ e) × (c < f))))
    to below =
        ⊎_elim
        (λ row. ⊎_elim inl (λ same. inr (same.0, inl same.1)) ((rows wide a b d e hb he).0 row))
        (λ same. let parts = same_row same.0 in inr (parts.0, inr (parts.1, same.1)))
        (whole.0 below)

    from : (a < d) ⊎ ((a ≡ d) × ((b < e) ⊎ ((b ≡ e) × (c < f)))) → (a * wide + b) * width + c < (d * wide + e) * width + f
    from (inl later) = whole.1 (inl ((rows wide a b d e hb he).1 (inl later)))
    from (inr same) =
        ⊎_elim
        (λ before. whole.1 (inl ((rows wide a b d e hb he).1 (inr (same.0, before)))))
        (λ last. whole.1 (inr (rw (same.0, last.0), last.1)))
        same.1

-- the same with as many lines before both
shifted : {A : Type 0} (n x y : ℕ) → (x < y) ↔ A → (n + x < n + y) ↔ A
shifted n x y means = ((λ below. means.0 (omega arith)), λ a. omega (arith, means.1 a))

pub assigned-ascending : (u r v s : ℕ) → r < 32 → s < 32 → (rank (Assigned u r) < rank (Assigned v s)) ↔ ((u < v) ⊎ ((u ≡ v) × (r < s)))
unfolding rank
assigned-ascending u r v s first second = shifted 1 (u * 32 + r) (v * 32 + s) (rows 32 u r v s first second)

pub granted-ascending : (r p s q : ℕ) → p < 32 → q < 32 → (rank (Granted r p) < rank (Granted s q)) ↔ ((r < s) ⊎ ((r ≡ s) × (p < q)))
unfolding rank
granted-ascending r p s q first second = shifted 1 (2048 + (r * 32 + p)) (2048 + (s * 32 + q)) (shifted 2048 (r * 32 + p) (s * 32 + q) (rows 32 r p s q first second))

-- a loan's key is u, v, r
pub loan-ascending : (u v r t w x q t' : ℕ) → v < 64 → x < 64 → r < 32 → q < 32
    → (rank (Loan u v r t) < rank (Loan w x q t')) ↔ ((u < w) ⊎ ((u ≡ w) × ((v < x) ⊎ ((v ≡ x) × (r < q)))))
unfolding rank
loan-ascending u v r t w x q t' hv hx hr hq =
    shifted 1 _ _ (shifted 2048 _ _ (shifted 1024 ((u * 64 + v) * 32 + r) ((w * 64 + x) * 32 + q) (three-columns 64 32 u v r w x q hv hx hr hq)))

pub active-ascending : (i r s : ℕ) → (rank (Active i r) < rank (Active i s)) ↔ (r < s)
unfolding rank
active-ascending i r s = ((λ below. omega arith), λ before. omega arith)

pub did-ascending : (o p u m q v : ℕ) → p < 32 → q < 32 → u < 64 → v < 64
    → (rank (Did o p u) < rank (Did m q v)) ↔ ((o < m) ⊎ ((o ≡ m) × ((p < q) ⊎ ((p ≡ q) × (u < v)))))
unfolding rank
did-ascending o p u m q v hp hq hu hv =
    shifted 1 _ _ (shifted 2048 _ _ (shifted 1024 _ _ (shifted 131072 _ _ (shifted 1088 ((o * 32 + p) * 64 + u) ((m * 32 + q) * 64 + v) (three-columns 32 64 o p u m q v hp hq hu hv)))))

-- ---- "twice": two lines of one fact have one rank

pub now-once : (t t' : ℕ) → rank (Now t) ≡ rank (Now t')
unfolding rank
now-once t t' = refl

-- a loan's end is not part of its key
pub loan-once : (u v r t t' : ℕ) → rank (Loan u v r t) ≡ rank (Loan u v r t')
unfolding rank
loan-once u v r t t' = refl

pub open-once : (i u v : ℕ) → rank (Open i u) ≡ rank (Open i v)
unfolding rank
open-once i u v = refl

pub place-once : (i : ℕ) (x y x' y' : ℤ) → rank (Place i x y) ≡ rank (Place i x' y')
unfolding rank
place-once i x y x' y' = refl
