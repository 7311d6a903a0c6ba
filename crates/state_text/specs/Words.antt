-- Document 01, 'Texts': each line of a saved state in the document's words. That a line reads so is proved in proofs/Words.antt.
-- Assumes nothing.
use Rattle.std.specs.Prelude.{List, [], ◌∷◌, ℕ}
use Rattle.forms.specs.Numbers.{digits_of, integer_text}
use Rattle.forms.specs.Tables.{bytes, joined}
use Rattle.state_text.specs.declared.entries.Entry.{Entry}
use Rattle.state_text.specs.declared.entries.Entry.TheVariants.{Now, Assigned, Granted, Loan, Open, Place, Active, Did, PlaceWithError}

-- "`(now t)`, `(assigned u r)`, `(granted r p)`, then per session `(open s u)`, `(place s x y)` if known, `(active s r)`; then `(did o p u)`";
-- 2026-01: "`(loan u v r t)` after `granted`"
abbrev pub line_words : Entry → List ℕ
line_words (Now t) = joined (bytes "(now " ∷ digits_of t ∷ bytes ")\n" ∷ [])
line_words (Assigned u r) = joined (bytes "(assigned " ∷ digits_of u ∷ bytes " " ∷ digits_of r ∷ bytes ")\n" ∷ [])
line_words (Granted r p) = joined (bytes "(granted " ∷ digits_of r ∷ bytes " " ∷ digits_of p ∷ bytes ")\n" ∷ [])
line_words (Loan u v r t) = joined (bytes "(loan " ∷ digits_of u ∷ bytes " " ∷ digits_of v ∷ bytes " " ∷ digits_of r ∷ bytes " " ∷ digits_of t ∷ bytes ")\n" ∷ [])
line_words (Open i u) = joined (bytes "(open " ∷ digits_of i ∷ bytes " " ∷ digits_of u ∷ bytes ")\n" ∷ [])
line_words (Place i x y) = joined (bytes "(place " ∷ digits_of i ∷ bytes " " ∷ integer_text x ∷ bytes " " ∷ integer_text y ∷ bytes ")\n" ∷ [])
line_words (Active i r) = joined (bytes "(active " ∷ digits_of i ∷ bytes " " ∷ digits_of r ∷ bytes ")\n" ∷ [])
line_words (Did o p u) = joined (bytes "(did " ∷ digits_of o ∷ bytes " " ∷ digits_of p ∷ bytes " " ∷ digits_of u ∷ bytes ")\n" ∷ [])
-- 2026-04: "`place` .. a fourth number e"
line_words (PlaceWithError i x y e) = joined (bytes "(place " ∷ digits_of i ∷ bytes " " ∷ integer_text x ∷ bytes " " ∷ integer_text y ∷ bytes " " ∷ digits_of e ∷ bytes ")\n" ∷ [])
