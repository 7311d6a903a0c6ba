-- An answer as one number, and taken apart again.
-- Assumes nothing.
use mathlib.Core.Path.{◌≡◌}
use Prim.Native.Nat.{ℕ, ◌/◌, ◌%◌}
use native.Mathlib.Nat.{mod-eq_of_lt}
use native.Mathlib.Omega.{arith}
use borrow.Author.Tests.{ne_eqb}
use Rattle.steps.specs.Answers.{packed_of, word_of, answer_of, Fits}
use Rattle.steps.specs.declared.answers.Answer.{Answer}
use Rattle.steps.specs.declared.answers.Answer.TheVariants.{Granted, Broken, Refused}

module _ (number rule selected ended : ℕ) where
  abbrev packed : ℕ
  packed = packed_of number rule selected ended

  number_of : packed % 64 ≡ number % 64
  number_of = omega arith

  rule-of : packed / 64 % 256 ≡ rule % 256
  rule-of = omega arith

  selected-of : packed / 16384 % 256 ≡ selected % 256
  selected-of = omega arith

  ended_of : packed / 4194304 % 4096 ≡ ended % 4096
  ended_of = omega arith

-- An answer put into one number and taken apart again is the same answer.
pub word_back : (answer : Answer) → Fits answer → answer_of (word_of answer) ≡ answer
unfolding answer_of
word_back (Granted selected ended) fits =
    rw (number_of 0 0 selected ended, selected-of 0 0 selected ended, ended_of 0 0 selected ended, mod-eq_of_lt fits.0, mod-eq_of_lt fits.1)
word_back (Broken rule selected) fits =
    rw (number_of 30 rule selected 0, rule-of 30 rule selected 0, selected-of 30 rule selected 0, mod-eq_of_lt fits.0, mod-eq_of_lt fits.1)
word_back (Refused number) fits =
    rw (number_of number 0 0 0, mod-eq_of_lt fits.1, ne_eqb number 0 (λ e. omega arith), ne_eqb number 30 fits.2)
