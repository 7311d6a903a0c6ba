-- The texts of lines one after the other.
-- Assumes nothing.
use mathlib.Core.Path.{◌≡◌, refl, sym, ap, ◌∙◌}
use mathlib.Core.List.{List, [], ◌∷◌, ◌++◌, append_assoc, append-nil}
use Prim.Native.Nat.{ℕ}
use Rattle.state_text.specs.Entries.{line_text}
use Rattle.state_text.specs.Saving.{lines_text}
use Rattle.state_text.specs.declared.entries.Entry.{Entry}

pub text-append : (a b : List Entry) → lines_text (a ++ b) ≡ lines_text a ++ lines_text b
unfolding lines_text
text-append [] b = refl
text-append (e ∷ a) b = ap (λ (t : List ℕ). line_text e ++ t) (text-append a b) ∙ sym (append_assoc (line_text e) (lines_text a) (lines_text b))

pub text-none : lines_text [] ≡ []
unfolding lines_text
text-none = refl

pub text-one : (e : Entry) → lines_text (e ∷ []) ≡ line_text e
unfolding lines_text
text-one e = append-nil (line_text e)
