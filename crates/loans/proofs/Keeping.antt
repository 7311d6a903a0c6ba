-- Loans of a list that pass a test: whether there is one, and those that do.
-- Assumes nothing.
use mathlib.Core.Path.{◌≡◌, refl, sym, ap, ◌∙◌}
use mathlib.Core.Bool.{Bool, true, false, cond, ◌&&◌, ◌||◌}
use mathlib.Core.List.Memᴰ
use mathlib.Core.List.{List, [], ◌∷◌, Memᴰ}
use mathlib.Core.Logic.{◌↔◌, ◌⊎◌, inl, inr, ⊎_elim}
use Prim.Native.Nat.{suc, ◌≤◌}
use native.Mathlib.Nat.{min-le_right}
use native.Mathlib.Omega.{arith}
use lib.ListN.{length, length-take}
use Rattle.std.specs.List.{list_any}
use Rattle.sets.proofs.Booleans.{clash, left_or, right_or, of_or, not_so, same_test}
use Rattle.loans.specs.Loans.{running, some_loan, kept_loans}
use Rattle.loans.specs.declared.Loan.{Loan}
use Rattle.loans.specs.declared.Loans.{Loans}

-- ---- how many they are

pub kept-length : (test : Loan → Bool) (l : List Loan) → length (kept_loans test l) ≤ length l
unfolding kept_loans
kept-length test [] = omega arith
kept-length test (loan ∷ l) = by-test (test loan) (kept-length test l)
  where
    by-test : (b : Bool) → length (kept_loans test l) ≤ length l → length (cond b (loan ∷ kept_loans test l) (kept_loans test l)) ≤ suc (length l)
    by-test true h = omega (arith, h)
    by-test false h = omega (arith, h)

pub running-length : (loans : Loans) → length (running loans) ≤ length loans.entries
running-length loans = rw (length-take loans.count loans.entries) (min-le_right loans.count (length loans.entries))

-- ---- whether there is one

-- one of the list passes the test
abbrev pub Some : (Loan → Bool) → List Loan → Type 0
Some test l = (loan : Loan) × Memᴰ loan l × (test loan ≡ true)

pub some_of : (test : Loan → Bool) (loan : Loan) (l : List Loan) → Memᴰ loan l → test loan ≡ true → some_loan test l ≡ true
unfolding some_loan
some_of test loan [] m e = absurd (Memᴰ.not-nil m)
some_of test loan (first ∷ l) m e = go (Memᴰ.cases_cons m) (some_of test loan l)
  where
    go : (loan ≡ first) ⊎ Memᴰ loan l → (Memᴰ loan l → test loan ≡ true → some_loan test l ≡ true) → (test first || some_loan test l) ≡ true
    go (inl same) later = left_or (test first) (some_loan test l) (ap test (sym same) ∙ e)
    go (inr m) later = right_or (test first) (some_loan test l) (later m e)

of_some : (test : Loan → Bool) (l : List Loan) → some_loan test l ≡ true → Some test l
unfolding some_loan
of_some test [] e = clash e refl
of_some test (loan ∷ l) e = go (of_or (test loan) (some_loan test l) e) (of_some test l)
  where
    go : (test loan ≡ true) ⊎ (some_loan test l ≡ true) → (some_loan test l ≡ true → Some test l) → Some test (loan ∷ l)
    go (inl e) later = (loan, Memᴰ.head refl, e)
    go (inr e) later = let found = later e in (found.0, Memᴰ.tail found.1, found.2)

pub some-means : (test : Loan → Bool) (l : List Loan) → (some_loan test l ≡ true) ↔ Some test l
some-means test l = (of_some test l, λ found. some_of test found.0 l found.1 found.2)

-- where there is none, each fails
pub none_of : (test : Loan → Bool) (loan : Loan) (l : List Loan) → some_loan test l ≡ false → Memᴰ loan l → test loan ≡ false
none_of test loan l none m = not_so (test loan) (λ e. clash (some_of test loan l m e) none)

-- two tests that come out alike at each loan of the list
pub some_same : (first second : Loan → Bool) (l : List Loan) → ((loan : Loan) → Memᴰ loan l → first loan ≡ second loan) → some_loan first l ≡ some_loan second l
some_same first second l alike =
    same_test (some_loan first l) (some_loan second l)
    (λ e. let found = of_some first l e in some_of second found.0 l found.1 (sym (alike found.0 found.1) ∙ found.2))
    (λ e. let found = of_some second l e in some_of first found.0 l found.1 (alike found.0 found.1 ∙ found.2))

-- the library's word for it
pub some-any : (test : Loan → Bool) (l : List Loan) → some_loan test l ≡ list_any test l
unfolding some_loan
some-any test [] = refl
some-any test (loan ∷ l) = ap (λ (b : Bool). test loan || b) (some-any test l)

-- ---- those that pass

of-kept : (test : Loan → Bool) (loan : Loan) (l : List Loan) → Memᴰ loan (kept_loans test l) → Memᴰ loan l × (test loan ≡ true)
unfolding kept_loans
of-kept test loan [] m = absurd (Memᴰ.not-nil m)
of-kept test loan (first ∷ l) m = go (test first) refl m (of-kept test loan l)
  where
    later : (Memᴰ loan l × (test loan ≡ true)) → Memᴰ loan (first ∷ l) × (test loan ≡ true)
    later h = (Memᴰ.tail h.0, h.1)

    go : (b : Bool) → test first ≡ b → Memᴰ loan (cond b (first ∷ kept_loans test l) (kept_loans test l)) →
        (Memᴰ loan (kept_loans test l) → Memᴰ loan l × (test loan ≡ true)) → Memᴰ loan (first ∷ l) × (test loan ≡ true)
    go true e m rest = ⊎_elim (λ same. (Memᴰ.head same, ap test same ∙ e)) (λ m. later (rest m)) (Memᴰ.cases_cons m)
    go false e m rest = later (rest m)

has_kept : (test : Loan → Bool) (loan : Loan) (l : List Loan) → Memᴰ loan l → test loan ≡ true → Memᴰ loan (kept_loans test l)
unfolding kept_loans
has_kept test loan [] m e = absurd (Memᴰ.not-nil m)
has_kept test loan (first ∷ l) m e = go (test first) refl (Memᴰ.cases_cons m) (has_kept test loan l)
  where
    go : (b : Bool) → test first ≡ b → (loan ≡ first) ⊎ Memᴰ loan l → (Memᴰ loan l → test loan ≡ true → Memᴰ loan (kept_loans test l)) →
        Memᴰ loan (cond b (first ∷ kept_loans test l) (kept_loans test l))
    go true eb (inl same) rest = Memᴰ.head same
    go true eb (inr m) rest = Memᴰ.tail (rest m e)
    go false eb (inl same) rest = clash (sym (ap test same) ∙ e) eb
    go false eb (inr m) rest = rest m e

pub kept-means : (test : Loan → Bool) (loan : Loan) (l : List Loan) → Memᴰ loan (kept_loans test l) ↔ (Memᴰ loan l × (test loan ≡ true))
kept-means test loan l = (of-kept test loan l, λ h. has_kept test loan l h.0 h.1)

pub some-kept : (test p : Loan → Bool) (l : List Loan) → some_loan p (kept_loans test l) ≡ some_loan (λ loan. test loan && p loan) l
unfolding kept_loans some_loan
some-kept test p [] = refl
some-kept test p (loan ∷ l) = go (test loan) (some-kept test p l)
  where
    go : (b : Bool) → some_loan p (kept_loans test l) ≡ some_loan (λ loan. test loan && p loan) l →
        some_loan p (cond b (loan ∷ kept_loans test l) (kept_loans test l)) ≡ ((b && p loan) || some_loan (λ loan. test loan && p loan) l)
    go true h = ap (λ (b : Bool). p loan || b) h
    go false h = h
