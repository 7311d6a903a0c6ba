-- A value that is in the range of its mark fits, whatever the mark. Assumes nothing.
use mathlib.Core.Path.{◌≡◌, refl}
use mathlib.Core.Bool.{Bool, true, false, cond, ◌&&◌, ◌||◌, not}
use mathlib.Core.List.{List, [], ◌∷◌}
use Prim.Native.Nat.{ℕ, zero, suc, ◌-◌, ◌%◌, ◌≤◌, ◌<◌}
use native.Mathlib.Omega.{arith}
use lib.Dec.{ltb, leb, eqb}
use borrow.Author.Tests.{lt-ltb, le-ltb, le-leb, lt-leb, ne_eqb, ltb-true, leb-true, eqb-true, eqb-false}
use Rattle.sets.specs.Sets.{member}
use Rattle.sets.proofs.Booleans.{both, clash}
use Rattle.forms.specs.Kinds.{Row, kinds, literal, lookup, kind_of, syntax_of, is_slot_syntax, is_slot, amount_of, in_range, in_range_by}
use Rattle.forms.specs.Forms.{fits_by, text_by, item_text, read_by, read_item, head, left, all_in_range, values_fit}
use Rattle.forms.specs.declared.kinds.Syntax.{Syntax}
use Rattle.forms.specs.declared.kinds.Syntax.TheVariants as syntax
use Rattle.forms.specs.declared.kinds.Kind.{Kind}

-- what holds of each row holds of each byte's kind
pub every : (Kind → Bool) → List Row → Bool
every test [] = true
every test (r ∷ rows) = test r.kind && every test rows

pub of-every : (test : Kind → Bool) (rows : List Row) (c : ℕ) → every test rows ≡ true → test literal ≡ true → test (lookup rows c) ≡ true
unfolding lookup every
of-every test [] c h l = l
of-every test (r ∷ rows) c h l =
    let p = both (test r.kind) (every test rows) h in
    go (eqb c r.mark) p.0 (of-every test rows c p.1 l)
  where
    go : (b : Bool) → test r.kind ≡ true → test (lookup rows c) ≡ true → test (cond b r.kind (lookup rows c)) ≡ true
    go true x y = x
    go false x y = y

-- the ends of a range are within what a text can hold
abbrev ends_fit_by : Syntax → ℕ → ℕ → Bool
ends_fit_by syntax.Literal low high = true
ends_fit_by syntax.Number low high = ltb high 10000000000
ends_fit_by syntax.Positive low high = ltb 0 low && ltb high 10000000000
ends_fit_by syntax.Signed low high = ltb high 10000000000
ends_fit_by syntax.Date low high = ltb high 100000000
ends_fit_by syntax.TimeOfDay low high = ltb high 10000

abbrev ends_fit : Kind → Bool
ends_fit kind = ends_fit_by kind.syntax kind.low kind.high

ends-fit : every ends_fit kinds ≡ true
unfolding every
ends-fit = refl

up_to : (low high bound v : ℕ) → ltb high bound ≡ true → (leb low v && leb v high) ≡ true → ltb v bound ≡ true
up_to low high bound v e h =
    let p = both (leb low v) (leb v high) h in
    lt-ltb v bound (omega (arith, ltb-true high bound e, leb-true v high p.1))

positive-within : (low high v : ℕ) → (ltb 0 low && ltb high 10000000000) ≡ true → (leb low v && leb v high) ≡ true → (ltb 0 v && ltb v 10000000000) ≡ true
positive-within low high v e h =
    let ends = both (ltb 0 low) (ltb high 10000000000) e in
    let p = both (leb low v) (leb v high) h in
    rw (lt-ltb 0 v (omega (arith, ltb-true 0 low ends.0, leb-true low v p.0))) (up_to low high 10000000000 v ends.1 h)

signed-within : (high v : ℕ) → high < 10000000000 → amount_of v ≤ high → (ltb v 20000000000 && not (eqb v 10000000000)) ≡ true
unfolding amount_of
signed-within high v e h = go (ltb 10000000000 v) refl h
  where
    go : (b : Bool) → ltb 10000000000 v ≡ b → cond b (v - 10000000000) v ≤ high → (ltb v 20000000000 && not (eqb v 10000000000)) ≡ true
    go true q k =
        let l : 10000000000 < v = ltb-true _ _ q in
        rw (lt-ltb v 20000000000 (omega arith), ne_eqb v 10000000000 (λ z. omega arith))
    go false q k = rw (lt-ltb v 20000000000 (omega arith), ne_eqb v 10000000000 (λ z. omega arith))

by-range : (x : Syntax) (low high v : ℕ) → ends_fit_by x low high ≡ true → in_range_by x low high v ≡ true → fits_by x v ≡ true
unfolding in_range_by fits_by
by-range syntax.Literal low high v e h = refl
by-range syntax.Number low high v e h = up_to low high 10000000000 v e h
by-range syntax.Positive low high v e h = positive-within low high v e h
by-range syntax.Signed low high v e h = signed-within high v (ltb-true _ _ e) (leb-true _ _ h)
by-range syntax.Date low high v e h = up_to low high 100000000 v e h
by-range syntax.TimeOfDay low high v e h = up_to low high 10000 v e (both (leb low v && leb v high) (leb (v % 100) 59) h).0

pub mark-fits : (c v : ℕ) → in_range c v ≡ true → fits_by (syntax_of c) v ≡ true
unfolding in_range kind_of
mark-fits c v h = by-range (lookup kinds c).syntax (lookup kinds c).low (lookup kinds c).high v (of-every ends_fit kinds c ends-fit refl) h

pub range-fits : (t ws : List ℕ) → all_in_range t ws ≡ true → values_fit t ws ≡ true
unfolding all_in_range values_fit
range-fits [] ws h = refl
range-fits (c ∷ t) ws h =
    let p = both (in_range c (head ws)) (all_in_range t (left (is_slot c) ws)) h in
    rw (mark-fits c (head ws) p.0) (range-fits t (left (is_slot c) ws) p.1)

-- ---- which bytes are marks

-- what was tested of each number below n holds of it
abbrev tested_below : (ℕ → Bool) → ℕ → Bool
tested_below test zero = true
tested_below test (suc n) = test n && tested_below test n

tested : (test : ℕ → Bool) (n k : ℕ) → tested_below test n ≡ true → k < n → test k ≡ true
tested test zero k h l = absurd (omega arith)
tested test (suc n) k h l =
    let p = both (test n) (tested_below test n) h in
    go (eqb k n) refl p.0 (tested test n k p.1)
  where
    go : (b : Bool) → eqb k n ≡ b → test n ≡ true → (k < n → test k ≡ true) → test k ≡ true
    go true e here ih = rw (eqb-true k n e) here
    go false e here ih = ih (omega (arith, eqb-false k n e))

abbrev same : Bool → Bool → Bool
same true b = b
same false b = not b

same_true : (a b : Bool) → same a b ≡ true → a ≡ b
same_true true true h = refl
same_true true false h = clash h refl
same_true false true h = clash h refl
same_true false false h = refl

-- as the code tells them
abbrev is_mark : ℕ → Bool
is_mark c = cond (leb 97 c) (eqb c 126) (cond (ltb c 64) (member 14988222526188945408 c) (member 8187281409 (c - 64)))

every_byte : tested_below (λ c. same (is_mark c) (is_slot c)) 256 ≡ true
unfolding is_slot kind_of lookup member
every_byte = refl

module _ (c : ℕ) (byte : c < 256) where
  told : is_mark c ≡ is_slot c
  told = same_true (is_mark c) (is_slot c) (tested (λ c. same (is_mark c) (is_slot c)) 256 c every_byte byte)

  pub mark-high : 97 ≤ c → eqb c 126 ≡ is_slot c
  mark-high h = rw (le-leb 97 c h) at told

  pub mark-low : c < 64 → member 14988222526188945408 c ≡ is_slot c
  mark-low h = rw (lt-leb 97 c (omega arith), lt-ltb c 64 h) at told

  pub mark-between : 64 ≤ c → c < 97 → member 8187281409 (c - 64) ≡ is_slot c
  mark-between h l = rw (lt-leb 97 c l, le-ltb c 64 h) at told

-- a mark that is none of these stands for a plain number
abbrev is_number : Syntax → Bool
is_number syntax.Literal = false
is_number syntax.Number = true
is_number syntax.Positive = false
is_number syntax.Signed = false
is_number syntax.Date = false
is_number syntax.TimeOfDay = false

number-true : (x : Syntax) → is_number x ≡ true → syntax.Number ≡ x
number-true syntax.Literal h = clash h refl
number-true syntax.Number h = refl
number-true syntax.Positive h = clash h refl
number-true syntax.Signed h = clash h refl
number-true syntax.Date h = clash h refl
number-true syntax.TimeOfDay h = clash h refl

abbrev is_other : ℕ → Bool
is_other c = eqb c 43 || (eqb c 95 || (eqb c 46 || (eqb c 91 || (eqb c 93 || eqb c 96))))

every-number : tested_below (λ c. (not (is_slot c) || is_other c) || is_number (syntax_of c)) 256 ≡ true
unfolding is_slot kind_of lookup
every-number = refl

pub number-mark : (c : ℕ) → c < 256 → is_slot c ≡ true → (c ≡ 43 → ⊥) → (c ≡ 95 → ⊥) → (c ≡ 46 → ⊥) → (c ≡ 91 → ⊥) → (c ≡ 93 → ⊥) → (c ≡ 96 → ⊥) → syntax.Number ≡ syntax_of c
number-mark c byte slot plus underline point left right accent =
    number-true (syntax_of c)
    (rw (slot, ne_eqb c 43 plus, ne_eqb c 95 underline, ne_eqb c 46 point, ne_eqb c 91 left, ne_eqb c 93 right, ne_eqb c 96 accent)
    at (tested (λ c. (not (is_slot c) || is_other c) || is_number (syntax_of c)) 256 c every-number byte))

-- for the check itself, which then needs no name of the last arm
pub ruleset number_marks = (number-mark)

-- a byte that is no mark has no range
literal-range : (x : Syntax) (low high v : ℕ) → is_slot_syntax x ≡ false → in_range_by x low high v ≡ true
unfolding in_range_by
literal-range syntax.Literal low high v h = refl
literal-range syntax.Number low high v h = clash refl h
literal-range syntax.Positive low high v h = clash refl h
literal-range syntax.Signed low high v h = clash refl h
literal-range syntax.Date low high v h = clash refl h
literal-range syntax.TimeOfDay low high v h = clash refl h

pub unmarked-range : (c v : ℕ) → is_slot c ≡ false → in_range c v ≡ true
unfolding is_slot in_range
unmarked-range c v h = literal-range (syntax_of c) (kind_of c).low (kind_of c).high v h

-- ---- what a byte's kind decides

module _ (c : ℕ) (k : Kind) (x : Syntax) (e : k ≡ kind_of c) (q : k.syntax ≡ x) where
  pub kind-range : (v : ℕ) → in_range_by x k.low k.high v ≡ in_range c v
  unfolding in_range
  kind-range v = rw (← q, e)

module _ (c : ℕ) (k x : Syntax) (e : k ≡ syntax_of c) (q : k ≡ x) where
  pub syntax-text : (v : ℕ) → item_text c v ≡ text_by x c v
  unfolding item_text
  syntax-text v = rw (← q, e)

  pub syntax-read : (s : List ℕ) → read_by x c s ≡ read_item c s
  unfolding read_item
  syntax-read s = rw (← q, e)
