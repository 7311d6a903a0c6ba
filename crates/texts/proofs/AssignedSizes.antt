-- How many bytes the lines of assigned roles have: with a role more, those of its line more, and at most 33,856 in all.
-- Assumes nothing.
use mathlib.Core.Path.{◌≡◌, refl, sym, ap, ◌∙◌}
use mathlib.Core.Bool.{Bool, false, ◌&&◌, ◌||◌, or-false, and-false}
use mathlib.Core.Logic.{◌≢◌}
use mathlib.Core.List.{List}
use Prim.Native.Nat.{ℕ, ◌+◌, ◌*◌, ◌≤◌, ◌<◌}
use native.Mathlib.Omega.{arith}
use lib.Dec.{eqb}
use borrow.Author.Tests.{eq-eqb, ne_eqb}
use Rattle.state_text.specs.Saving.{over, only}
use Rattle.state_text.specs.Parts.{width}
use Rattle.state_text.specs.declared.entries.Entry.{Entry}
use Rattle.state_text.specs.declared.entries.Entry.TheVariants.{Assigned}
use Rattle.state_text.proofs.Rows.{over-same}
use Rattle.state_text.proofs.JoinedLines.{text-none, text-one}
use Rattle.state_text.proofs.LineSizes.{assigned-size}
use Rattle.texts.proofs.LineSums.{bytes_of, widths-32, widths-64, Summing, at_most, to, over-sum, only-most, over-longer}

-- the lines of one user, where a test says which roles he is assigned
abbrev pub user_lines : (ℕ → Bool) → ℕ → List Entry
user_lines has u = over 32 (λ r. only (has r) (Assigned u r))

-- the lines of all users, where a test says who is assigned what
abbrev pub assigned_lines : (ℕ → ℕ → Bool) → List Entry
assigned_lines has = over 64 (λ u. user_lines (has u) u)

-- the test with role q of user v
abbrev pub with_role : (ℕ → ℕ → Bool) → ℕ → ℕ → ℕ → ℕ → Bool
with_role has v q u r = has u r || (eqb v u && eqb q r)

-- ---- one role more

module _ (has : ℕ → ℕ → Bool) (v q : ℕ) (user : v < 64) (role : q < 32) (new : has v q ≡ false) where
  -- other users, and his other roles, have the lines that they had
  other-user : (u r : ℕ) → u ≢ v → with_role has v q u r ≡ has u r
  other-user u r n = rw (ne_eqb v u (λ e. n (sym e))) (or-false (has u r))

  other-role : (r : ℕ) → r ≢ q → with_role has v q v r ≡ has v r
  other-role r n = rw (ne_eqb q r (λ e. n (sym e)), and-false (eqb v v)) (or-false (has v r))

  line_more : bytes_of (only (with_role has v q v q) (Assigned v q)) ≡ bytes_of (only (has v q) (Assigned v q)) + (13 + (width v + width q))
  line_more = rw (new, eq-eqb v v refl, eq-eqb q q refl, text-one (Assigned v q), text-none) (assigned-size v q (omega arith) (omega arith) ∙ omega arith)

  user-more : bytes_of (user_lines (with_role has v q v) v) ≡ bytes_of (user_lines (has v) v) + (13 + (width v + width q))
  user-more =
      over-longer 32 q (13 + (width v + width q)) (λ r. only (has v r) (Assigned v r)) (λ r. only (with_role has v q v r) (Assigned v r)) role
      (λ r n. ap (λ (b : Bool). only b (Assigned v r)) (other-role r n)) line_more

  pub assigned-more : bytes_of (assigned_lines (with_role has v q)) ≡ bytes_of (assigned_lines has) + (13 + (width v + width q))
  assigned-more =
      over-longer 64 v (13 + (width v + width q)) (λ u. user_lines (has u) u) (λ u. user_lines (with_role has v q u) u) user
      (λ u n. over-same 32 (λ r. only (with_role has v q u r) (Assigned u r)) (λ r. only (has u r) (Assigned u r)) (λ r l. ap (λ (b : Bool). only b (Assigned u r)) (other-user u r n)))
      user-more

-- ---- all of them

module _ (R : ℕ → ℕ → Type 0) (summing : Summing R) (has : ℕ → ℕ → Bool) where
  pub user-sum : (u : ℕ) → ((r : ℕ) → r < 32 → R (bytes_of (only (has u r) (Assigned u r))) (13 + (width u + width r))) → R (bytes_of (user_lines (has u) u)) (470 + 32 * width u)
  user-sum u lines =
      to R summing (omega (arith, widths-32))
      (over-sum R summing 32 (13 + width u) 1 (λ r. only (has u r) (Assigned u r)) (λ r l. to R summing (omega arith) (lines r l)))

  pub assigned-sum : ((u r : ℕ) → u < 64 → r < 32 → R (bytes_of (only (has u r) (Assigned u r))) (13 + (width u + width r))) → R (bytes_of (assigned_lines has)) 33856
  assigned-sum lines =
      to R summing (omega (arith, widths-64))
      (over-sum R summing 64 470 32 (λ u. user_lines (has u) u) (λ u l. user-sum u (λ r m. lines u r l m)))

pub assigned-most : (has : ℕ → ℕ → Bool) → bytes_of (assigned_lines has) ≤ 33856
assigned-most has =
    assigned-sum (λ a b. a ≤ b) at_most has
    (λ u r hu hr. only-most (has u r) (Assigned u r) (λ e. omega (arith, assigned-size u r (omega arith) (omega arith))))
