-- A response that is measured has its length, and one that fits is written as it is. Assumes nothing.
use mathlib.Core.Path.{◌≡◌, sym, ◌∙◌}
use mathlib.Core.Bool.{Bool, true, false}
use mathlib.Core.List.{List}
use Prim.Native.Nat.{ℕ, ◌≤◌}
use native.Mathlib.Omega.{arith}
use lib.ListN.{length}
use lib.Dec.{leb}
use borrow.Author.Tests.{le-leb, leb-true}
use Rattle.forms.specs.Writing.{Wrote, written_of, lent_after}
use Rattle.std.specs.Prelude.{Ok, Err}
use Rattle.forms.proofs.Puts.{measure, at_front}
use Rattle.texts.specs.Response.{response_of}
use Rattle.texts.proofs.Responding.{response-short}

module _ (input : List ℕ) where
  pub measured : {l l' : List ℕ} {r : ℕ} → Wrote l 0 (response_of input) r l' → r ≡ length (response_of input)
  measured w = measure (omega (arith, response-short input)) w

  pub room-enough : (room : ℕ) → 131072 ≤ room → true ≡ leb (length (response_of input)) room
  room-enough room h = sym (le-leb (length (response_of input)) room (omega (arith, response-short input)))

  module _ (l : List ℕ) {b : Bool} (e : b ≡ leb (length (response_of input)) (length l)) where
    pub refused : b ≡ false → (Err 18 ≡ written_of (response_of input) l) × (l ≡ lent_after (response_of input) l)
    unfolding written_of lent_after
    refused f = (rw (← e, f), rw (← e, f))

    pub written : b ≡ true → {r : ℕ} {l' : List ℕ} → Wrote l 0 (response_of input) r l' → (Ok r ≡ written_of (response_of input) l) × (l' ≡ lent_after (response_of input) l)
    unfolding written_of lent_after
    written t {r} {l'} w =
        let room : length (response_of input) ≤ length l = leb-true _ _ (sym e ∙ t) in
        (rw (← e, t, measured w), rw (← e, t) (at_front room w))
