-- Document 01, 'State and steps': a step's numbers (20), and which steps are events.
-- Assumes nothing.
use Rattle.std.specs.Prelude.{ℕ, Bool, true, false, cond, ◌&&◌, eqb, ltb, leb, ℤ, pos}
use Rattle.places.specs.Places.{on_grid}
use Rattle.steps.specs.declared.acting.Acting.{Acting}
use Rattle.steps.specs.declared.acting.Acting.TheVariants.{Nobody, InSession}
use Rattle.steps.specs.declared.actions.Action.{Action}
use Rattle.steps.specs.declared.actions.Action.TheVariants.{Malformed, Assign, Withdraw, Grant, Take, Open, Activate, Deactivate, Access, Finish, Close, Move, Lost, Clock, Lend, Recall}
use Rattle.steps.specs.declared.steps.Step.{Step}

-- "Time t: .. 0 to 3,155,759,999"
abbrev pub is_time : ℕ → Bool
is_time t = leb t 3155759999

-- ---- "step's number, its kind's included, outside its range" is 20

abbrev pub ranged : Bool → Action → Action
ranged in_range action = cond in_range action Malformed

-- 2026-04: "`move` .. take a fourth number e, 1 to 1000; left out means 0"
abbrev pub move_of : ℕ → ℤ → ℤ → ℕ → Action
move_of i x y e = ranged (ltb i 32 && ((on_grid x && on_grid y) && leb e 1000)) (Move i (record { x = x; y = y; error = e }))

-- "Users u 0 to 63, roles r 0 to 31, permissions p 0 to 31, sessions s 0 to 31, objects o 0 to 31"; kinds 0 to 14 in the table's
-- order; numbers that a kind does not use are not looked at
unfoldable pub of_kind : Step → Action
of_kind step =
    cond (eqb step.kind 0) (ranged (ltb step.first 64 && ltb step.second 32) (Assign step.first step.second))
    (cond (eqb step.kind 1) (ranged (ltb step.first 64 && ltb step.second 32) (Withdraw step.first step.second))
    (cond (eqb step.kind 2) (ranged (ltb step.first 32 && ltb step.second 32) (Grant step.first step.second))
    (cond (eqb step.kind 3) (ranged (ltb step.first 32 && ltb step.second 32) (Take step.first step.second))
    (cond (eqb step.kind 4) (ranged (ltb step.first 32 && ltb step.second 64) (Open step.first step.second))
    (cond (eqb step.kind 5) (ranged (ltb step.first 32 && ltb step.second 32) (Activate step.first step.second))
    (cond (eqb step.kind 6) (ranged (ltb step.first 32 && ltb step.second 32) (Deactivate step.first step.second))
    (cond (eqb step.kind 7) (ranged (ltb step.first 32 && (ltb step.second 32 && ltb step.third 32)) (Access step.first step.second step.third))
    (cond (eqb step.kind 8) (ranged (ltb step.first 32) (Finish step.first))
    (cond (eqb step.kind 9) (ranged (ltb step.first 32) (Close step.first))
    (cond (eqb step.kind 10) (move_of step.first step.x step.y step.fourth)
    (cond (eqb step.kind 11) (ranged (ltb step.first 32) (Lost step.first))
    (cond (eqb step.kind 12) (ranged (is_time step.first) (Clock step.first))
    (cond (eqb step.kind 13) (ranged (ltb step.first 64 && (ltb step.second 64 && (ltb step.third 32 && is_time step.fourth))) (Lend step.first step.second step.third step.fourth))
    (cond (eqb step.kind 14) (ranged (ltb step.first 64 && (ltb step.second 64 && ltb step.third 32)) (Recall step.first step.second step.third)) Malformed))))))))))))))

-- 2026-05: "assign, withdraw, grant, take, lend and recall": the place of a kind among them, counted from 0; 6 of any other
abbrev pub right_kind : Action → ℕ
right_kind Malformed = 6
right_kind (Assign u r) = 0
right_kind (Withdraw u r) = 1
right_kind (Grant r p) = 2
right_kind (Take r p) = 3
right_kind (Open i u) = 6
right_kind (Activate i r) = 6
right_kind (Deactivate i r) = 6
right_kind (Access i p o) = 6
right_kind (Finish o) = 6
right_kind (Close i) = 6
right_kind (Move i point) = 6
right_kind (Lost i) = 6
right_kind (Clock t) = 6
right_kind (Lend u v r t) = 4
right_kind (Recall u v r) = 5

abbrev pub is_administrative : Action → Bool
is_administrative action = ltb (right_kind action) 6

-- 2026-05: "`by` before any other step .. is .. 20 handed in"; and so is a session past 31
abbrev pub acted_by : Acting → Action → Action
acted_by Nobody action = action
acted_by (InSession i) action = ranged (ltb i 32 && is_administrative action) action

unfoldable pub action_of : Step → Action
action_of step = acted_by step.by (of_kind step)

-- ---- a step by its kind's number, with nobody acting: one that has no coordinates, and a move

abbrev pub numbered : ℕ → ℕ → ℕ → ℕ → ℕ → Step
numbered kind first second third fourth =
    record { kind = kind; first = first; second = second; third = third; fourth = fourth; x = pos 0; y = pos 0; by = Nobody }

abbrev pub moved : ℕ → ℤ → ℤ → ℕ → Step
moved session x y e = record { kind = 10; first = session; second = 0; third = 0; fourth = e; x = x; y = y; by = Nobody }

-- the same step with another acting
abbrev pub with_by : Acting → Step → Step
with_by by step =
    record {
      kind = step.kind;
      first = step.first;
      second = step.second;
      third = step.third;
      fourth = step.fourth;
      x = step.x;
      y = step.y;
      by = by;
    }

-- "The last three rows (close, move and lost, clock) are events."
abbrev pub is_event : Action → Bool
is_event Malformed = false
is_event (Assign u r) = false
is_event (Withdraw u r) = false
is_event (Grant r p) = false
is_event (Take r p) = false
is_event (Open i u) = false
is_event (Activate i r) = false
is_event (Deactivate i r) = false
is_event (Access i p o) = false
is_event (Finish o) = false
is_event (Close i) = true
is_event (Move i point) = true
is_event (Lost i) = true
is_event (Clock t) = true
is_event (Lend u v r t) = false
-- 2026-01: "recall and clock are events"
is_event (Recall u v r) = true
