-- The numbers of the refusals tell them apart.
-- Assumes nothing.
use mathlib.Core.Path.{◌≡◌, refl, sym, ap, ◌∙◌}
use mathlib.Core.Bool.{cond}
use Prim.Native.Nat.{ℕ}
use lib.Dec.{eqb}
use Rattle.steps.specs.Refusals.{number_of}
use Rattle.steps.specs.declared.refusals.Refusal.{Refusal}
use Rattle.steps.specs.declared.refusals.Refusal.TheVariants.{Malformed, TimeBefore, SessionOpen, SessionNotOpen, Already, Missing, NotHeld, InUse, NotCarried, NotAccepted, LenderLacks, LoansFull, LoanEnded, ActorNotOpen, RightLacking}

-- the refusal that a number stands for
abbrev refusal_of : ℕ → Refusal
refusal_of n =
    cond (eqb n 20) Malformed
    (cond (eqb n 21) TimeBefore
    (cond (eqb n 22) SessionOpen
    (cond (eqb n 23) SessionNotOpen
    (cond (eqb n 24) Already
    (cond (eqb n 25) Missing
    (cond (eqb n 26) NotHeld
    (cond (eqb n 27) InUse
    (cond (eqb n 28) NotCarried
    (cond (eqb n 40) NotAccepted
    (cond (eqb n 50) LenderLacks
    (cond (eqb n 51) LoansFull
    (cond (eqb n 52) LoanEnded
    (cond (eqb n 53) ActorNotOpen RightLacking)))))))))))))

refusal-back : (refusal : Refusal) → refusal_of (number_of refusal) ≡ refusal
refusal-back Malformed = refl
refusal-back TimeBefore = refl
refusal-back SessionOpen = refl
refusal-back SessionNotOpen = refl
refusal-back Already = refl
refusal-back Missing = refl
refusal-back NotHeld = refl
refusal-back InUse = refl
refusal-back NotCarried = refl
refusal-back NotAccepted = refl
refusal-back LenderLacks = refl
refusal-back LoansFull = refl
refusal-back LoanEnded = refl
refusal-back ActorNotOpen = refl
refusal-back RightLacking = refl

pub same-refusal : (first second : Refusal) → number_of first ≡ number_of second → first ≡ second
same-refusal first second e = sym (refusal-back first) ∙ ap refusal_of e ∙ refusal-back second
