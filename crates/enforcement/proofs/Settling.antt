-- Rounds by a plan for the selected rules leave what the rounds of the gate leave.
-- Assumes nothing.
use mathlib.Core.Path.{◌≡◌, ◌∙◌}
use native.Mathlib.Decide.{dec_lt}
use native.Mathlib.Omega.{arith}
use Rattle.std.proofs.lemmas.List.{get_or_past}
use Rattle.sets.specs.Sets.{member, union_of}
use Rattle.sets.proofs.Bounded.{any_of}
use Rattle.sets.proofs.Built.{member-union-of}
use Rattle.sets.proofs.Width.{within-lt}
use mathlib.Core.Bool.{Bool, true}
use mathlib.Core.List.{List}
use Prim.Native.Nat.{ℕ, suc, ◌^◌, ◌<◌}
use lib.ListN.{length}
use Rattle.rules.specs.Families.{word_at, has_role}
use Rattle.rules.specs.declared.families.Rule.{Rule}
use Rattle.steps.specs.Pairs.{pair_count, Part}
use Rattle.selection.specs.Ending.{lets, plan_round, plan_settled}
use Rattle.selection.proofs.Parts.{has-below, part_same, part-of-part}
use Rattle.selection.proofs.Settling.{round-part, part_small, settled_same, sifted-same}
use Rattle.enforcement.specs.Rounds.{stays, round, remaining}
use Rattle.enforcement.specs.Deciding.{Planned}
use Rattle.enforcement.specs.declared.states.State.{State}
use Rattle.enforcement.specs.declared.plans.Plan.{Plan}

-- what is active somewhere is below the width, so each set is
pub live-small : (active : List ℕ) → length active ≡ 32 → union_of 32 (word_at active) < 2 ^ 32 → (j : ℕ) → word_at active j < 2 ^ 32
live-small active long live j = go (dec_lt j 32)
  where
    go : Dec (j < 32) → word_at active j < 2 ^ 32
    go (yes below) = within-lt 32 (word_at active j) (union_of 32 (word_at active)) live (λ r e. member-union-of 32 r (word_at active) ∙ any_of 32 j (λ i. member (word_at active i) r) below e)
    go (no past) = let none : word_at active j ≡ 0 = get_or_past active j 0 (omega (arith, long, past)) in rw none (omega arith)

module _ (selected : Rule → Bool) (rules : List Rule) (s : State) (plan : Plan) (long : length s.active ≡ 32) (small : (j : ℕ) → word_at s.active j < 2 ^ 32) (planned : Planned selected rules s plan) where
  plan-round : (l : List ℕ) → Part l s.active → plan_round plan.dead plan.out plan.needs l ≡ round selected rules s l
  unfolding plan_round round
  plan-round l part =
      sifted-same (lets plan.dead plan.out plan.needs l) (stays selected rules s l) l
      (λ i r below h.
      let active : has_role s.active i r ≡ true = part.within i r h in
      planned.means l (part_small part small) i r (rw (← long) (has-below s.active i r active)) below active)

  -- what is settled by a plan for the selected rules is what is left of the active pairs
  pub plan-settles : plan_settled plan.dead plan.out plan.needs s.active ≡ remaining selected rules s
  unfolding plan_settled remaining
  plan-settles =
      settled_same (plan_round plan.dead plan.out plan.needs) (round selected rules s) (λ l. Part l s.active)
      (λ l part. part-of-part (round-part plan.dead plan.out plan.needs l) part) plan-round (suc (pair_count s.active)) s.active (part_same s.active)
