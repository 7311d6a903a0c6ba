-- Tests joined by `&&`, `||` and `not`, as statements.
-- Assumes nothing.
use mathlib.Core.Path.{◌≡◌, refl, sym, ◌∙◌}
use mathlib.Core.Bool.{Bool, true, false, not, ◌&&◌, ◌||◌, false≢true}
use mathlib.Core.Logic.{◌⊎◌, inl, inr}

-- no test comes out both ways
pub clash : {A : Type 0} {b : Bool} → b ≡ true → b ≡ false → A
clash passed failed = absurd (false≢true (sym failed ∙ passed))

pub both_true : (a b : Bool) → a ≡ true → b ≡ true → (a && b) ≡ true
both_true true b ha hb = hb
both_true false b ha hb = ha

pub left-true : (a b : Bool) → (a && b) ≡ true → a ≡ true
left-true true b h = refl
left-true false b h = h

pub right-true : (a b : Bool) → (a && b) ≡ true → b ≡ true
right-true true b h = h
right-true false b h = absurd (false≢true h)

pub both : (a b : Bool) → (a && b) ≡ true → (a ≡ true) × (b ≡ true)
both a b h = (left-true a b h, right-true a b h)

-- a conjunction fails in one of its parts
pub of-and-false : (a b : Bool) → (a && b) ≡ false → (a ≡ false) ⊎ (b ≡ false)
of-and-false true b h = inr h
of-and-false false b h = inl refl

pub left_or : (a b : Bool) → a ≡ true → (a || b) ≡ true
left_or true b h = refl
left_or false b h = absurd (false≢true h)

pub right_or : (a b : Bool) → b ≡ true → (a || b) ≡ true
right_or true b h = refl
right_or false b h = h

pub of_or : (a b : Bool) → (a || b) ≡ true → (a ≡ true) ⊎ (b ≡ true)
of_or true b h = inl refl
of_or false b h = inr h

pub neither : (a b : Bool) → (a || b) ≡ false → (a ≡ false) × (b ≡ false)
neither true b h = clash refl h
neither false b h = (refl, h)

pub or-both : (a b c d : Bool) → (a ≡ true → c ≡ true) → (b ≡ true → d ≡ true) → (a || b) ≡ true → (c || d) ≡ true
or-both true b c d f g e = left_or c d (f refl)
or-both false b c d f g e = right_or c d (g e)

-- `not a || b` says that a implies b
pub implies : (a b : Bool) → (not a || b) ≡ true → a ≡ true → b ≡ true
implies true b h e = h
implies false b h e = absurd (false≢true e)

pub of-implies : (a b : Bool) → (a ≡ true → b ≡ true) → (not a || b) ≡ true
of-implies true b h = h refl
of-implies false b h = refl

pub not-both : (a b : Bool) → not (a && b) ≡ true → a ≡ true → b ≡ true → ⊥
not-both true true h ha hb = false≢true h
not-both true false h ha hb = false≢true hb
not-both false b h ha hb = false≢true ha

pub of-not-both : (a b : Bool) → (a ≡ true → b ≡ true → ⊥) → not (a && b) ≡ true
of-not-both true true h = absurd (h refl refl)
of-not-both true false h = refl
of-not-both false b h = refl

-- and so does `not (a && not b)`
pub implied : (a b : Bool) → not (a && not b) ≡ true → a ≡ true → b ≡ true
implied true true h ha = refl
implied true false h ha = h
implied false b h ha = absurd (false≢true ha)

pub of-implied : (a b : Bool) → (a ≡ true → b ≡ true) → not (a && not b) ≡ true
of-implied true true h = refl
of-implied true false h = h refl
of-implied false b h = refl

pub not_so : (b : Bool) → (b ≡ true → ⊥) → b ≡ false
not_so true h = absurd (h refl)
not_so false h = refl

-- two tests that imply each other are one
pub same_test : (a b : Bool) → (a ≡ true → b ≡ true) → (b ≡ true → a ≡ true) → a ≡ b
same_test true true f g = refl
same_test true false f g = absurd (false≢true (f refl))
same_test false true f g = absurd (false≢true (g refl))
same_test false false f g = refl
