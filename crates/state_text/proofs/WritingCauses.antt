-- What writing a state answers has its own cause: 40 where the state is refused, else 18 where the lent space is shorter than the text,
-- else the text's length; no other number; and which bytes stay.
-- Assumes nothing.
use mathlib.Core.Path.{◌≡◌}
use mathlib.Core.Bool.{true, false}
use mathlib.Core.Logic.{◌↔◌, ◌⊎◌}
use mathlib.Core.List.{List, ◌++◌}
use Prim.Native.Nat.{ℕ, ◌≤◌, ◌<◌}
use lib.ListN.{length, drop}
use Rattle.forms.specs.Writing.{TextWritten}
use Rattle.std.specs.Prelude.{Ok, Err}
use Rattle.forms.proofs.Room as room
use Rattle.enforcement.specs.States.{state_accepted}
use Rattle.enforcement.specs.declared.states.State.{State}
use Rattle.state_text.specs.Saving.{saved_text, written_state, lent_state}

module _ (s : State) (lent : List ℕ) where
  -- a state that fits: its text's length, the text, and the bytes past it stay
  pub written : state_accepted s ≡ true → length (saved_text s) ≤ length lent → TextWritten (saved_text s) lent (written_state s lent) (lent_state s lent)
  unfolding written_state lent_state
  written accepted fits = rw accepted (room.text-written (saved_text s) lent fits)

  -- "handed-in state ..: field outside its range, closed session that keeps anything" is 40
  pub written-40 : (written_state s lent ≡ Err 40) ↔ (state_accepted s ≡ false)
  unfolding written_state
  written-40 = room.written-40 (saved_text s) lent (state_accepted s)

  -- "lent space shorter than the text" is 18
  pub written-18 : (written_state s lent ≡ Err 18) ↔ ((state_accepted s ≡ true) × (length lent < length (saved_text s)))
  unfolding written_state
  written-18 = room.written-18 (saved_text s) lent (state_accepted s)

  -- no other number is ever given
  pub written-number : (number : ℕ) → written_state s lent ≡ Err number → (number ≡ 40) ⊎ (number ≡ 18)
  unfolding written_state
  written-number number = room.written-number (saved_text s) lent (state_accepted s) number

  -- "A writer returns the text's length"
  pub written-length : (n : ℕ) → (written_state s lent ≡ Ok n) ↔ ((state_accepted s ≡ true) × (length (saved_text s) ≤ length lent) × (n ≡ length (saved_text s)))
  unfolding written_state
  written-length n = room.written-length (saved_text s) lent (state_accepted s) n

  -- "bytes past it stay"
  pub lent_written : (n : ℕ) → written_state s lent ≡ Ok n → lent_state s lent ≡ saved_text s ++ drop n lent
  unfolding written_state lent_state
  lent_written n = room.lent_written (saved_text s) lent (state_accepted s) n

  -- a refusal leaves every byte
  pub lent-refused : (number : ℕ) → written_state s lent ≡ Err number → lent_state s lent ≡ lent
  unfolding written_state lent_state
  lent-refused number = room.lent-refused (saved_text s) lent (state_accepted s) number
