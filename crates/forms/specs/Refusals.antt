-- Refusals by their numbers. Assumes nothing.
use Rattle.std.specs.Prelude.{ℕ, Result, Ok, Err}
use Rattle.forms.specs.declared.writing.WriteRefusal.{WriteRefusal}
use Rattle.forms.specs.declared.writing.WriteRefusal.TheVariants.{NotAccepted, NoRoom}

-- an answer with the number of its refusal in place of the refusal
abbrev pub numbered : {A E : Type 0} → (E → ℕ) → Result A E → Result A ℕ
numbered number_of (Ok x) = Ok x
numbered number_of (Err refusal) = Err (number_of refusal)

-- "lent space shorter than the text" is 18
abbrev pub write_number : WriteRefusal → ℕ
write_number NotAccepted = 40
write_number NoRoom = 18
