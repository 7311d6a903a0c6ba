-- How many bytes numbered parts of lines have together: at most or exactly, and where one part has more.
-- Assumes nothing.
use mathlib.Core.Path.{◌≡◌, refl, sym, ◌∙◌, subst}
use mathlib.Core.Bool.{Bool, true, false}
use mathlib.Core.List.{List, [], ◌∷◌, ◌++◌}
use Prim.Native.Nat.{ℕ, zero, suc, ◌+◌, ◌*◌, ◌≤◌, ◌<◌}
use native.Mathlib.Decide.{ℕ_discrete}
use native.Mathlib.Nat.{suc-mul, mul-add}
use native.Mathlib.Omega.{arith}
use lib.ListN.{length, length-append}
use Rattle.state_text.specs.Entries.{line_text}
use Rattle.state_text.specs.Saving.{over, only, lines_text}
use Rattle.state_text.specs.Parts.{width}
use Rattle.state_text.specs.declared.entries.Entry.{Entry}
use Rattle.state_text.proofs.Rows.{over_zero, over-suc, over-same, Except}
use Rattle.state_text.proofs.JoinedLines.{text-append, text-none, text-one}

-- the bytes of lines
abbrev pub bytes_of : List Entry → ℕ
bytes_of lines = length (lines_text lines)

pub bytes-append : (a b : List Entry) → bytes_of (a ++ b) ≡ bytes_of a + bytes_of b
bytes-append a b = rw (text-append a b) (length-append (lines_text a) (lines_text b))

pub bytes-cons : (e : Entry) (lines : List Entry) → bytes_of (e ∷ lines) ≡ length (line_text e) + bytes_of lines
bytes-cons e lines = bytes-append (e ∷ []) lines ∙ rw (text-one e)

pub over-bytes : (n : ℕ) (f : ℕ → List Entry) → bytes_of (over (suc n) f) ≡ bytes_of (over n f) + bytes_of (f n)
over-bytes n f = rw (over-suc n f) (bytes-append (over n f) (f n))

-- ---- the digits of the numbers below n

unfoldable pub widths : ℕ → ℕ
widths zero = 0
widths (suc n) = widths n + width n

pub widths-32 : widths 32 ≡ 54
unfolding widths width
widths-32 = refl

pub widths-64 : widths 64 ≡ 118
unfolding widths width
widths-64 = refl

-- ---- a relation that sums keep: at most, or exactly

pub record Summing (R : ℕ → ℕ → Type 0) : Type 0 where
  pub none : R 0 0
  pub add : (a b c d : ℕ) → R a b → R c d → R (a + c) (b + d)

pub at_most : Summing (λ a b. a ≤ b)
at_most = record { none = omega arith; add = λ a b c d h k. omega arith }

pub exactly : Summing (λ a b. a ≡ b)
exactly = record { none = refl; add = λ a b c d h k. rw (h, k) }

module _ (R : ℕ → ℕ → Type 0) (summing : Summing R) where
  pub to : {a b c : ℕ} → b ≡ c → R a b → R a c
  to {a} e h = subst (R a) e h

  pub over-sum : (n c m : ℕ) (f : ℕ → List Entry) → ((i : ℕ) → i < n → R (bytes_of (f i)) (c + m * width i)) → R (bytes_of (over n f)) (n * c + m * widths n)
  unfolding widths
  over-sum zero c m f h =
      let e : 0 ≡ 0 * c + m * 0 = omega arith in
      rw (over_zero f, text-none) (to e summing.none)
  over-sum (suc n) c m f h =
      let e : n * c + m * widths n + (c + m * width n) ≡ suc n * c + m * (widths n + width n) = omega (arith, suc-mul n c, mul-add m (widths n) (width n)) in
      rw (over-bytes n f) (to e (summing.add _ _ _ _ (over-sum n c m f (λ i l. h i (omega arith))) (h n (omega arith))))

  pub joined : (a b : List Entry) {m n : ℕ} → R (bytes_of a) m → R (bytes_of b) n → R (bytes_of (a ++ b)) (m + n)
  joined a b h k = rw (bytes-append a b) (summing.add _ _ _ _ h k)

-- a line or none
pub only-most : (b : Bool) (e : Entry) {n : ℕ} → (b ≡ true → length (line_text e) ≤ n) → bytes_of (only b e) ≤ n
only-most true e h = rw (text-one e) (h refl)
only-most false e h = rw text-none (omega arith)

-- ---- parts that agree but for one, which has so many bytes more

pub over-longer : (n k more : ℕ) (f g : ℕ → List Entry) → k < n → Except k g f → bytes_of (g k) ≡ bytes_of (f k) + more → bytes_of (over n g) ≡ bytes_of (over n f) + more
over-longer zero k more f g below same longer = absurd (omega arith)
over-longer (suc n) k more f g below same longer = go (ℕ_discrete k n) (λ h. over-longer n k more f g h same longer)
  where
    go : Dec (k ≡ n) → (k < n → bytes_of (over n g) ≡ bytes_of (over n f) + more) → bytes_of (over (suc n) g) ≡ bytes_of (over (suc n) f) + more
    go (yes e) later =
        let before : over n g ≡ over n f = over-same n g f (λ i l. same i (λ z. omega (arith, e, z, l))) in
        let last : bytes_of (g n) ≡ bytes_of (f n) + more = rw e at longer in
        rw (over-bytes n g, over-bytes n f, before, last) (omega arith)
    go (no other) later =
        let before : bytes_of (over n g) ≡ bytes_of (over n f) + more = later (omega (arith, below, other)) in
        let last : g n ≡ f n = same n (λ z. other (sym z)) in
        rw (over-bytes n g, over-bytes n f, before, last) (omega arith)
