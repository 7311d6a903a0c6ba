-- THEOREMS on writing a text into a lent space: 40 and 18 each for its own cause, no other number, and what the space then holds.
-- Assumes nothing.
use mathlib.Core.Path.{◌≡◌, refl}
use mathlib.Core.Bool.{Bool, true, false, cond}
use mathlib.Core.Logic.{◌↔◌, ◌⊎◌, inl, inr}
use mathlib.Core.List.{List, ◌++◌}
use Prim.Native.Nat.{ℕ, ◌≤◌, ◌<◌}
use native.Mathlib.Omega.{arith}
use lib.Dec.{leb}
use lib.ListN.{length, drop}
use lib.Seq.{take-append_seam, drop-append_seam}
use borrow.Author.Tests.{leb-true, leb-false, le-leb, lt-leb}
use Rattle.forms.specs.Writing.{written_of, lent_after, written_if, lent_if, TextWritten}
use Rattle.std.specs.Prelude.{Result, Ok, Err}

unequal : {A : Type 0} → ◌≡◌ {A = ℕ} 0 1 → A
unequal e = absurd (omega arith)

module _ (text lent : List ℕ) where
  -- the answer by the two tests
  abbrev answer : Bool → Bool → Result ℕ ℕ
  answer is_accepted fits = cond is_accepted (cond fits (Ok (length text)) (Err 18)) (Err 40)

  abbrev fits : Bool
  fits = leb (length text) (length lent)

  -- 40 exactly where it is refused
  pub written-40 : (accepted : Bool) → (written_if accepted text lent ≡ Err 40) ↔ (accepted ≡ false)
  unfolding written_of
  written-40 accepted = (to accepted fits, λ e. rw e)
    where
      to : (a b : Bool) → answer a b ≡ Err 40 → a ≡ false
      to true true h = unequal cc
      to true false h = absurd (let z : ◌≡◌ {A = ℕ} 18 40 = cc in omega arith)
      to false b h = refl

  -- "lent space shorter than the text" is 18
  pub written-18 : (accepted : Bool) → (written_if accepted text lent ≡ Err 18) ↔ ((accepted ≡ true) × (length lent < length text))
  unfolding written_of
  written-18 accepted = (to accepted fits refl, λ w. rw (w.0, lt-leb (length text) (length lent) w.1))
    where
      to : (a b : Bool) → fits ≡ b → answer a b ≡ Err 18 → (a ≡ true) × (length lent < length text)
      to true true e h = unequal cc
      to true false e h = (refl, leb-false (length text) (length lent) e)
      to false b e h = absurd (let z : ◌≡◌ {A = ℕ} 40 18 = cc in omega arith)

  -- and no other number is ever given
  pub written-number : (accepted : Bool) (number : ℕ) → written_if accepted text lent ≡ Err number → (number ≡ 40) ⊎ (number ≡ 18)
  unfolding written_of
  written-number accepted number = go accepted fits
    where
      go : (a b : Bool) → answer a b ≡ Err number → (number ≡ 40) ⊎ (number ≡ 18)
      go true true h = unequal cc
      go true false h = inr cc
      go false b h = inl cc

  -- "A writer returns the text's length"
  pub written-length : (accepted : Bool) (n : ℕ) → (written_if accepted text lent ≡ Ok n) ↔ ((accepted ≡ true) × (length text ≤ length lent) × (n ≡ length text))
  unfolding written_of
  written-length accepted n = (to accepted fits refl, λ w. rw (w.0, le-leb (length text) (length lent) w.1, w.2))
    where
      to : (a b : Bool) → fits ≡ b → answer a b ≡ Ok n → (a ≡ true) × (length text ≤ length lent) × (n ≡ length text)
      to true true e h = (refl, leb-true (length text) (length lent) e, cc)
      to true false e h = unequal cc
      to false b e h = unequal cc

  -- "bytes past it stay"
  pub lent_written : (accepted : Bool) (n : ℕ) → written_if accepted text lent ≡ Ok n → lent_if accepted text lent ≡ text ++ drop n lent
  unfolding lent_after
  lent_written accepted n h = let w = (written-length accepted n).0 h in rw (w.0, le-leb (length text) (length lent) w.1, w.2)

  -- a refusal leaves every byte
  pub lent-refused : (accepted : Bool) (number : ℕ) → written_if accepted text lent ≡ Err number → lent_if accepted text lent ≡ lent
  unfolding written_of lent_after
  lent-refused accepted number = go accepted fits
    where
      go : (a b : Bool) → answer a b ≡ Err number → cond a (cond b (text ++ drop (length text) lent) lent) lent ≡ lent
      go true true h = unequal cc
      go true false h = refl
      go false b h = refl

  -- where there is room: the length is answered, the text comes first, and the bytes past it stay
  pub text-written : length text ≤ length lent → TextWritten text lent (written_if true text lent) (lent_if true text lent)
  text-written room =
      let answers : written_if true text lent ≡ Ok (length text) = (written-length true (length text)).1 (refl, room, refl) in
      let left = lent_written true (length text) answers in
      record {
        answers = answers;
        front = rw left (take-append_seam text (drop (length text) lent));
        past = rw left (drop-append_seam text (drop (length text) lent));
      }
