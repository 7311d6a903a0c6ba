-- THEOREMS on what `read_state` and `write_state` give one after the other: an accepted saved text comes back byte for byte, and a
-- reached state that was written is read as itself.
-- Assumes nothing.
use mathlib.Core.Path.{◌≡◌, ap, ◌∙◌, subst}
use mathlib.Core.Bool.{true}
use mathlib.Core.List.{List}
use Prim.Native.Nat.{ℕ, ◌≤◌, ◌<◌}
use lib.ListN.{length, take}
use Rattle.forms.specs.Writing.{TextWritten}
use Rattle.std.specs.Prelude.{Ok, Err}
use Rattle.rules.specs.Acceptance.{list_accepted}
use Rattle.rules.specs.declared.lists.RuleList.{RuleList}
use Rattle.enforcement.specs.States.{state_accepted}
use Rattle.enforcement.specs.Reached.{Reached}
use Rattle.enforcement.specs.declared.states.State.{State}
use Rattle.enforcement.proofs.Reaching.{reached-good}
use Rattle.state_text.specs.Saving.{saved_text, written_state, lent_state}
use Rattle.state_text.specs.Reading.{loaded, read_state}
use Rattle.state_text.specs.Causes.{ReadUnder}
use Rattle.state_text.proofs.RoundTrips.{write-back, read-accepted, read_back}
use Rattle.state_text.proofs.WritingCauses.{written, written-18, written-length, lent-refused}

module _ (list : RuleList) where
  -- ---- read, then written

  module _ (text lent : List ℕ) (s : State) (whole : read_state list text ≡ loaded s) where
    same_text : saved_text s ≡ text
    same_text = write-back list text s whole

    left-accepted : state_accepted s ≡ true
    left-accepted = (read-accepted list text s whole).accepted.unrefused

    -- into a space at least as long as the text: the text's length is answered, its bytes come first, and the bytes past it stay
    pub text-back : length text ≤ length lent → TextWritten text lent (written_state s lent) (lent_state s lent)
    text-back fits = subst (λ (x : List ℕ). TextWritten x lent (written_state s lent) (lent_state s lent)) same_text (written s lent left-accepted (rw same_text fits))

    -- into a shorter one: 18, and every byte stays
    pub text-short : length lent < length text → (written_state s lent ≡ Err 18) × (lent_state s lent ≡ lent)
    text-short short =
        let refused = (written-18 s lent).1 (left-accepted, rw same_text short) in
        (refused, lent-refused s lent 18 refused)

  -- ---- written, then read

  module _ (listed : list_accepted list ≡ true) {s : State} (reached : Reached list (ReadUnder list) s) (lent : List ℕ) where
    -- a reached state is refused by 18 alone
    pub state-written : length (saved_text s) ≤ length lent → TextWritten (saved_text s) lent (written_state s lent) (lent_state s lent)
    state-written = written s lent (reached-good list listed (ReadUnder list) (λ s read. read-accepted list read.0 s read.1) reached).accepted.unrefused

    -- the bytes that were written are read as the state
    pub state-back : (n : ℕ) → written_state s lent ≡ Ok n → read_state list (take n (lent_state s lent)) ≡ loaded s
    state-back n answer =
        let fits = (written-length s lent n).0 answer in
        let front : take n (lent_state s lent) ≡ saved_text s = rw fits.2 (written s lent fits.0 fits.1).front in
        ap (λ (text : List ℕ). read_state list text) front ∙ read_back list listed reached
