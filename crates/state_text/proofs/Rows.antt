-- Numbered parts: two numberings joined, and rows of equal width.
-- Assumes nothing.
use mathlib.Core.Path.{◌≡◌, refl, sym, ◌∙◌}
use mathlib.Core.Bool.{Bool, true, false, cond}
use mathlib.Core.Logic.{◌≢◌, ◌⊎◌, inl, inr}
use mathlib.Core.List.{List, [], ◌++◌, append_assoc, append-nil}
use Prim.Native.Nat.{ℕ, zero, suc, ◌+◌, ◌-◌, ◌*◌, ◌/◌, ◌%◌, ◌≤◌, ◌<◌}
use native.Mathlib.Nat.{mul-add-div_right, mul-add-mod_self_right, div-eq_of_lt, mod-eq_of_lt, mod-lt, div-add-mod', div-lt_iff_lt-mul, add-zero, add-suc, suc-mul}
use native.Mathlib.Omega.{arith}
use lib.Dec.{ltb, eqb}
use borrow.Author.Tests.{ltb-true, ltb-false, lt-ltb, le-ltb, eqb-true, eqb-false}
use Rattle.state_text.specs.Saving.{over}

-- two lists of which one has an element and the other none
pub unequal : {X : Type 0} → ◌≡◌ {A = ℕ} 0 1 → X
unequal e = absurd (omega arith)

pub by-test : {X : Type 0} (b : Bool) → (b ≡ true → X) → (b ≡ false → X) → X
by-test true f g = f refl
by-test false f g = g refl

-- ---- parts

module _ {A : Type 0} where
  pub over_zero : (f : ℕ → List A) → over 0 f ≡ []
  unfolding over
  over_zero f = refl

  pub over-suc : (n : ℕ) (f : ℕ → List A) → over (suc n) f ≡ over n f ++ f n
  unfolding over
  over-suc n f = refl

  pub over-same : (n : ℕ) (f g : ℕ → List A) → ((i : ℕ) → i < n → f i ≡ g i) → over n f ≡ over n g
  over-same zero f g h = over_zero f ∙ sym (over_zero g)
  over-same (suc n) f g h = rw (over-suc n f, over-suc n g, over-same n f g (λ i l. h i (omega arith)), h n (omega arith))

  -- parts that are empty add nothing
  pub over-more : (m n : ℕ) (f : ℕ → List A) → ((i : ℕ) → n ≤ i → i < n + m → f i ≡ []) → over (n + m) f ≡ over n f
  over-more zero n f h = rw add-zero
  over-more (suc m) n f h = rw (add-suc, over-suc (n + m) f, h (n + m) (omega arith) (omega arith), append-nil) (over-more m n f (λ i a b. h i a (omega arith)))

  pub over_add : (m n : ℕ) (f : ℕ → List A) → over (n + m) f ≡ over n f ++ over m (λ i. f (n + i))
  over_add zero n f = rw (add-zero, over_zero (λ i. f (n + i)), append-nil)
  over_add (suc m) n f =
      rw (add-suc, over-suc (n + m) f, over_add m n f, over-suc m (λ i. f (n + i)), append_assoc)

  pub over-mul : (n w : ℕ) (f : ℕ → List A) → over (n * w) f ≡ over n (λ i. over w (λ j. f (i * w + j)))
  over-mul zero w f =
      let z : 0 * w ≡ 0 = omega arith in
      rw (z, over_zero f, over_zero (λ i. over w (λ j. f (i * w + j))))
  over-mul (suc n) w f =
      let z : suc n * w ≡ n * w + w = suc-mul n w in
      rw (z, over_add w (n * w) f, over-mul n w f, over-suc n (λ i. over w (λ j. f (i * w + j))))

  -- the parts k to k + m - 1
  unfoldable pub span : ℕ → ℕ → (ℕ → List A) → List A
  span k zero f = []
  span k (suc m) f = f k ++ span (suc k) m f

  pub over-span : (m k : ℕ) (f : ℕ → List A) → over k f ++ span k m f ≡ over (k + m) f
  unfolding span
  over-span zero k f = rw (append-nil, add-zero)
  over-span (suc m) k f =
      let e : k + suc m ≡ suc k + m = omega arith in
      rw (e, ← over-span m (suc k) f, over-suc k f, append_assoc)

-- two numberings that agree but for m
abbrev pub Except : {A : Type 0} → ℕ → (ℕ → List A) → (ℕ → List A) → Type 0
Except m f g = (i : ℕ) → i ≢ m → f i ≡ g i

-- ---- f at the numbers below a, then g

unfoldable pub join : {A : Type 0} → ℕ → (ℕ → List A) → (ℕ → List A) → ℕ → List A
join a f g k = cond (ltb k a) (f k) (g (k - a))

module _ {A : Type 0} (a : ℕ) where
  pub join-left : (f g : ℕ → List A) (k : ℕ) → k < a → join a f g k ≡ f k
  unfolding join
  join-left f g k h = rw (lt-ltb k a h)

  join-past : (f g : ℕ → List A) (k : ℕ) → a ≤ k → join a f g k ≡ g (k - a)
  unfolding join
  join-past f g k h = rw (le-ltb k a h)

  pub join-right : (f g : ℕ → List A) (k : ℕ) → join a f g (a + k) ≡ g k
  join-right f g k =
      let e : a + k - a ≡ k = omega arith in
      join-past f g (a + k) (omega arith) ∙ rw e

  pub except-left : {m : ℕ} {f f' : ℕ → List A} (g : ℕ → List A) → Except m f f' → Except m (join a f g) (join a f' g)
  except-left {m} {f} {f'} g h i n =
      by-test (ltb i a)
      (λ q. let l = ltb-true i a q in rw (join-left f g i l, join-left f' g i l) (h i n))
      (λ q. let l = ltb-false i a q in rw (join-past f g i l, join-past f' g i l))

  pub except-right : {m : ℕ} {g g' : ℕ → List A} (f : ℕ → List A) → Except m g g' → Except (a + m) (join a f g) (join a f g')
  except-right {m} {g} {g'} f h i n =
      by-test (ltb i a)
      (λ q. let l = ltb-true i a q in rw (join-left f g i l, join-left f g' i l))
      (λ q. let l = ltb-false i a q in rw (join-past f g i l, join-past f g' i l) (h (i - a) (λ e. n (omega arith))))

  pub over-join : (n : ℕ) (f g : ℕ → List A) → over (a + n) (join a f g) ≡ over a f ++ over n g
  over-join n f g =
      rw (over_add n a (join a f g), over-same a (join a f g) f (λ i l. join-left f g i l), over-same n (λ i. join a f g (a + i)) g (λ i l. join-right f g i))

pub below-or-past : (a k : ℕ) → (k < a) ⊎ ((i : ℕ) × (k ≡ a + i))
below-or-past a k = by-test (ltb k a) (λ q. inl (ltb-true k a q)) (λ q. inr (k - a, omega (arith, ltb-false k a q)))

-- ---- rows of width w: row i has the parts cell i 0, .., cell i (w - 1)

-- a number below n * w is in a row below n
pub row_of : (w n k : ℕ) → 0 < w → k < n * w → (i : ℕ) × (m : ℕ) × (i < n) × (m < w) × (k ≡ i * w + m)
row_of w n k p h = (k / w, k % w, (div-lt_iff_lt-mul p).1 h, mod-lt k p, sym (div-add-mod' k w))

module _ {A : Type 0} (w : ℕ) where
  unfoldable pub rows : (ℕ → ℕ → List A) → ℕ → List A
  rows cell k = cell (k / w) (k % w)

  pub rows_at : (cell : ℕ → ℕ → List A) (i m : ℕ) → m < w → rows cell (i * w + m) ≡ cell i m
  unfolding rows
  rows_at cell i m h =
      let e : (i * w + m) / w ≡ i = mul-add-div_right (omega arith) i m ∙ rw (div-eq_of_lt h, add-zero) in
      let g : (i * w + m) % w ≡ m = mul-add-mod_self_right i w m ∙ mod-eq_of_lt h in
      rw (e, g)

  -- rows that agree but for part m of row i
  pub rows-except : (cell cell' : ℕ → ℕ → List A) (i m : ℕ) → ((j k : ℕ) → j ≢ i → cell j k ≡ cell' j k) → Except m (cell i) (cell' i) → Except (i * w + m) (rows cell) (rows cell')
  unfolding rows
  rows-except cell cell' i m other same k n =
      by-test (eqb (k / w) i)
      (λ q. let e : k / w ≡ i = eqb-true (k / w) i q in rw e (same (k % w) (λ z. n (sym (div-add-mod' k w) ∙ rw (e, z)))))
      (λ q. other (k / w) (k % w) (eqb-false (k / w) i q))

  pub over-rows : (n : ℕ) (cell : ℕ → ℕ → List A) → over (n * w) (rows cell) ≡ over n (λ i. over w (cell i))
  over-rows n cell = over-mul n w (rows cell) ∙ over-same n _ _ (λ i q. over-same w _ _ (λ j b. rows_at cell i j b))

  pub rows_none : (cell : ℕ → ℕ → List A) → ((i m : ℕ) → cell i m ≡ []) → (k : ℕ) → rows cell k ≡ []
  unfolding rows
  rows_none cell h k = h (k / w) (k % w)
