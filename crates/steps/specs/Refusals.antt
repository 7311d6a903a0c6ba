-- Document 01, 'Refused': the numbers of the refusals of a step, but for a broken rule (30). That no two have the same is `same-refusal` of
-- proofs/RefusalNumbers.antt.
-- Assumes nothing.
use Rattle.std.specs.Prelude.{ℕ}
use Rattle.steps.specs.declared.refusals.Refusal.{Refusal}
use Rattle.steps.specs.declared.refusals.Refusal.TheVariants.{Malformed, TimeBefore, SessionOpen, SessionNotOpen, Already, Missing, NotHeld, InUse, NotCarried, NotAccepted, LenderLacks, LoansFull, LoanEnded, ActorNotOpen, RightLacking}

abbrev pub number_of : Refusal → ℕ
-- "step's number, its kind's included, outside its range"
number_of Malformed = 20
-- "t before the present time"
number_of TimeBefore = 21
-- "session open"
number_of SessionOpen = 22
-- "session not open"
number_of SessionNotOpen = 23
-- "already assigned, granted, active in this session"
number_of Already = 24
-- "not assigned, granted, active in this session"
number_of Missing = 25
-- "role not assigned to the session's user"
number_of NotHeld = 26
-- "role active in a session of the user"
number_of InUse = 27
-- "no role active in the session carries the permission"
number_of NotCarried = 28
-- "handed-in state or rule"
number_of NotAccepted = 40
-- 2026-01: "50 u isn't assigned r, 51 32 loans run, 52 t not later than now"
number_of LenderLacks = 50
number_of LoansFull = 51
number_of LoanEnded = 52
-- 2026-05: "53 acting session not open (whenever `by` stands), 54 right lacking"
number_of ActorNotOpen = 53
number_of RightLacking = 54
