-- A text copied to the front of a lent list; and the answers that a small space kept. Assumes nothing.
use mathlib.Core.Path.{◌≡◌, sym, ap, ◌∙◌}
use mathlib.Core.List.{List, ◌++◌}
use Prim.Native.Nat.{ℕ, ◌≤◌}
use native.Mathlib.Nat.{zero-add}
use native.Mathlib.Omega.{arith}
use lib.ListN.{length, take, drop}
use lib.Seq.{sets-eq, take-append_seam}
use Rattle.forms.specs.Writing.{Wrote, last_place, capped}
use Rattle.forms.proofs.Puts.{capped_small, at_front, measure, same_length}

-- a text in front of what it leaves
pub copied_whole : (l t : List ℕ) → length t ≤ length l → length t ≤ last_place → Wrote l 0 t (length t) (t ++ drop (length t) l)
copied_whole l t room few = record {
  next = sym (ap capped (zero-add (length t)) ∙ capped_small (length t) few);
  text = sym (rw zero-add at (sets-eq t l 0 (rw zero-add room)));
}

-- what a space keeps of a text that it has room for
pub kept_whole : {l x l' : List ℕ} {r : ℕ} → length x ≤ last_place → Wrote l 0 x r l' → r ≤ length l' → take r l' ≡ x
kept_whole {l} {x} {l'} {r} few w h =
    let all = measure few w in
    let room : length x ≤ length l = omega (arith, all, same_length w) in
    rw (all, at_front room w) (take-append_seam x (drop (length x) l))
