-- One answer as one number: its refusal's number, the rule, the number selected and the number ended. That a number taken apart gives
-- the answer back is `word_back` of proofs/AnswerWords.antt.
-- Assumes nothing.
use Rattle.std.specs.Prelude.{ℕ, ◌+◌, ◌*◌, ◌/◌, ◌%◌, ◌<◌, ◌≡◌, cond, eqb}
use Rattle.steps.specs.declared.answers.Answer.{Answer}
use Rattle.steps.specs.declared.answers.Answer.TheVariants.{Granted, Broken, Refused}

-- number below 64, rule and selected below 256, ended below 4096
abbrev pub packed_of : ℕ → ℕ → ℕ → ℕ → ℕ
packed_of number rule selected ended = number % 64 + rule % 256 * 64 + selected % 256 * 16384 + ended % 4096 * 4194304

-- 0 is a granted step
abbrev pub word_of : Answer → ℕ
word_of (Granted selected ended) = packed_of 0 0 selected ended
word_of (Broken rule selected) = packed_of 30 rule selected 0
word_of (Refused number) = packed_of number 0 0 0

unfoldable pub answer_of : ℕ → Answer
answer_of word =
    cond (eqb (word % 64) 0) (Granted (word / 16384 % 256) (word / 4194304 % 4096))
    (cond (eqb (word % 64) 30) (Broken (word / 64 % 256) (word / 16384 % 256)) (Refused (word % 64)))

-- the numbers of an answer fit their places in the word; 0 and 30 as refusals stand for the other answers
abbrev pub Fits : Answer → Type 0
Fits (Granted selected ended) = (selected < 256) × (ended < 4096)
Fits (Broken rule selected) = (rule < 256) × (selected < 256)
Fits (Refused number) = (0 < number) × (number < 64) × (number ≡ 30 → ⊥)
