-- A step that is read has its numbers in range.
-- Assumes nothing.
use mathlib.Core.Path.{◌≡◌, refl}
use mathlib.Core.Bool.{Bool, true, false, cond, ◌&&◌}
use Prim.Native.Nat.{ℕ, ◌≤◌, ◌<◌}
use lib.Dec.{eqb, ltb, leb}
use borrow.Author.Tests.{ltb-true, leb-true}
use Rattle.sets.proofs.Booleans.{both}
use Rattle.places.specs.Places.{on_grid, point_in_range}
use Rattle.steps.specs.declared.acting.Acting.{Acting}
use Rattle.steps.specs.declared.acting.Acting.TheVariants.{Nobody, InSession}
use Rattle.steps.specs.declared.actions.Action.{Action}
use Rattle.steps.specs.Steps.{is_time, ranged, of_kind, is_administrative, acted_by, action_of}
use Rattle.steps.specs.declared.steps.Step.{Step}
pub use Rattle.enforcement.specs.Deciding.{Ranged}

module _ (step : Step) where
  -- a step of one kind is in range where the kind's test says so, one of another where what is read of it is
  of-kind : (kind : ℕ) (test : Bool) (action other : Action) → (test ≡ true → Ranged action) → Ranged other → Ranged (cond (eqb step.kind kind) (ranged test action) other)
  of-kind kind test action other numbers rest = go (eqb step.kind kind) test numbers
    where
      go : (b c : Bool) → (c ≡ true → Ranged action) → Ranged (cond b (ranged c action) other)
      go true true numbers = numbers refl
      go true false numbers = tt
      go false c numbers = rest

  first-and : (k : ℕ) (test : Bool) → (ltb step.first k && test) ≡ true → (step.first < k) × (test ≡ true)
  first-and k test h = let t = both (ltb step.first k) test h in (ltb-true step.first k t.0, t.1)

  first_two : (k l : ℕ) → (ltb step.first k && ltb step.second l) ≡ true → (step.first < k) × (step.second < l)
  first_two k l h = let t = first-and k (ltb step.second l) h in (t.0, ltb-true step.second l t.1)

  all_three : (k l m : ℕ) → (ltb step.first k && (ltb step.second l && ltb step.third m)) ≡ true → (step.first < k) × (step.second < l) × (step.third < m)
  all_three k l m h =
      let t = first-and k (ltb step.second l && ltb step.third m) h in
      let others = both (ltb step.second l) (ltb step.third m) t.1 in
      (t.0, ltb-true step.second l others.0, ltb-true step.third m others.1)

  all-four : (ltb step.first 64 && (ltb step.second 64 && (ltb step.third 32 && is_time step.fourth))) ≡ true → (step.first < 64) × (step.second < 64) × (step.third < 32) × (step.fourth ≤ 3155759999)
  all-four h =
      let t = first-and 64 (ltb step.second 64 && (ltb step.third 32 && is_time step.fourth)) h in
      let others = both (ltb step.second 64) (ltb step.third 32 && is_time step.fourth) t.1 in
      let last = both (ltb step.third 32) (is_time step.fourth) others.1 in
      (t.0, ltb-true step.second 64 others.0, ltb-true step.third 32 last.0, leb-true step.fourth 3155759999 last.1)

pub kind-ranged : (step : Step) → Ranged (of_kind step)
unfolding of_kind point_in_range
kind-ranged step =
    of-kind step 0 _ _ _ (first_two step 64 32)
    (of-kind step 1 _ _ _ (first_two step 64 32)
    (of-kind step 2 _ _ _ (first_two step 32 32)
    (of-kind step 3 _ _ _ (first_two step 32 32)
    (of-kind step 4 _ _ _ (first_two step 32 64)
    (of-kind step 5 _ _ _ (first_two step 32 32)
    (of-kind step 6 _ _ _ (first_two step 32 32)
    (of-kind step 7 _ _ _ (all_three step 32 32 32)
    (of-kind step 8 _ _ _ (ltb-true step.first 32)
    (of-kind step 9 _ _ _ (ltb-true step.first 32)
    (of-kind step 10 _ _ _ (first-and step 32 ((on_grid step.x && on_grid step.y) && leb step.fourth 1000))
    (of-kind step 11 _ _ _ (ltb-true step.first 32)
    (of-kind step 12 _ _ _ (leb-true step.first 3155759999)
    (of-kind step 13 _ _ _ (all-four step)
    (of-kind step 14 _ _ _ (all_three step 64 64 32) tt))))))))))))))

acted-ranged : (by : Acting) (action : Action) → Ranged action → Ranged (acted_by by action)
acted-ranged Nobody action numbers = numbers
acted-ranged (InSession i) action numbers = go (ltb i 32 && is_administrative action)
  where
    go : (b : Bool) → Ranged (ranged b action)
    go true = numbers
    go false = tt

pub action-ranged : (step : Step) → Ranged (action_of step)
unfolding action_of
action-ranged step = acted-ranged step.by (of_kind step) (kind-ranged step)
