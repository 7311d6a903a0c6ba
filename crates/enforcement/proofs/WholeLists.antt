-- A list of steps refused as a whole: "First 40, then 18, refuse the list as a whole, and neither gate then runs a step of it".
-- Assumes nothing.
use mathlib.Core.Path.{◌≡◌, refl, sym, ◌∙◌}
use mathlib.Core.Bool.{Bool, true, false, cond, ◌&&◌}
use mathlib.Core.Logic.{◌↔◌, ◌⊎◌, inl, inr, ⊎_elim}
use mathlib.Core.List.{List}
use Prim.Native.Nat.{ℕ, ◌≤◌, ◌<◌}
use native.Mathlib.Omega.{arith}
use lib.Dec.{eqb, ltb}
use lib.ListN.{length}
use borrow.Author.Tests.{lt-ltb, le-ltb, ltb-true, ltb-false, ne_eqb}
use Rattle.sets.proofs.Booleans.{both, of-and-false}
use Rattle.rules.specs.Acceptance.{list_accepted}
use Rattle.rules.specs.declared.lists.RuleList.{RuleList}
use Rattle.steps.specs.declared.steps.Step.{Step}
use Rattle.enforcement.specs.States.{state_accepted}
use Rattle.enforcement.specs.Runs.{refusal_of, ran_of, entries_written}
use Rattle.enforcement.specs.Causes.{Unaccepted}
use Rattle.enforcement.specs.declared.states.State.{State}
use Rattle.enforcement.proofs.Causes.{unaccepted}

-- the three numbers, by the two tests
refusal : Bool → Bool → ℕ
refusal accepted full = cond accepted (cond full 18 0) 40

is-40 : (accepted full : Bool) → refusal accepted full ≡ 40 → accepted ≡ false
unfolding refusal
is-40 true true h = absurd (omega arith)
is-40 true false h = absurd (omega arith)
is-40 false full h = refl

is-18 : (accepted full : Bool) → refusal accepted full ≡ 18 → (accepted ≡ true) × (full ≡ true)
unfolding refusal
is-18 true true h = (refl, refl)
is-18 true false h = absurd (omega arith)
is-18 false full h = absurd (omega arith)

is-0 : (accepted full : Bool) → refusal accepted full ≡ 0 → (accepted ≡ true) × (full ≡ false)
unfolding refusal
is-0 true true h = absurd (omega arith)
is-0 true false h = (refl, refl)
is-0 false full h = absurd (omega arith)

module _ (list : RuleList) (s : State) (steps : List Step) (room : ℕ) where
  number : (ran_of list s steps room).number ≡ refusal (list_accepted list && state_accepted s) (ltb room (length steps))
  unfolding ran_of refusal_of refusal
  number = refl

  -- 40 where 40 refuses the list or the state
  pub whole-40 : ((ran_of list s steps room).number ≡ 40) ↔ ((list_accepted list ≡ false) ⊎ Unaccepted s)
  unfolding refusal
  whole-40 = (
    λ h. ⊎_elim inl (λ e. inr ((unaccepted s).0 e)) (of-and-false (list_accepted list) (state_accepted s) (is-40 (list_accepted list && state_accepted s) (ltb room (length steps)) (sym number ∙ h))),
    ⊎_elim (λ e. number ∙ rw e) (λ cause. number ∙ by_state (list_accepted list) (state_accepted s) ((unaccepted s).1 cause)),
  )
    where
      by_state : (listed stated : Bool) → stated ≡ false → refusal (listed && stated) (ltb room (length steps)) ≡ 40
      by_state true stated e = rw e
      by_state false stated e = refl

  -- else 18 where the lent list is shorter than the steps
  pub whole-18 : ((ran_of list s steps room).number ≡ 18) ↔ ((list_accepted list ≡ true) × (state_accepted s ≡ true) × (room < length steps))
  unfolding refusal
  whole-18 = (
    λ h.
        let t = is-18 (list_accepted list && state_accepted s) (ltb room (length steps)) (sym number ∙ h) in
        let u = both (list_accepted list) (state_accepted s) t.0 in
        (u.0, u.1, ltb-true room (length steps) t.1),
    λ t. number ∙ rw (t.0, t.1, lt-ltb room (length steps) t.2),
  )

  -- else it runs
  pub whole-0 : ((ran_of list s steps room).number ≡ 0) ↔ ((list_accepted list ≡ true) × (state_accepted s ≡ true) × (length steps ≤ room))
  unfolding refusal
  whole-0 = (
    λ h.
        let t = is-0 (list_accepted list && state_accepted s) (ltb room (length steps)) (sym number ∙ h) in
        let u = both (list_accepted list) (state_accepted s) t.0 in
        (u.0, u.1, ltb-false room (length steps) t.1),
    λ t. number ∙ rw (t.0, t.1, le-ltb room (length steps) t.2),
  )

-- and then neither the state nor an entry changes
pub whole-leaves : (list : RuleList) (s : State) (steps : List Step) (entries : List ℕ) → ((ran_of list s steps (length entries)).number ≡ 0 → ⊥) →
    ((ran_of list s steps (length entries)).state ≡ s) × (entries_written list s steps entries ≡ entries)
unfolding ran_of entries_written
whole-leaves list s steps entries refused = let other : eqb (refusal_of list s (length steps) (length entries)) 0 ≡ false = ne_eqb _ 0 refused in (rw other, rw other)
