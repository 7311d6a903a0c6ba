-- The judgement of a request by the rules that it selects.
-- Assumes nothing.
use Rattle.std.specs.Prelude.{ℕ, ◌+◌, Bool, true, false, not, cond, ◌||◌, List, Option, Some, None}
use Rattle.rules.specs.Families.{View, holds}
use Rattle.rules.specs.declared.families.Rule.{Rule}
use Rattle.steps.specs.declared.actions.Action.{Action}
use Rattle.steps.specs.declared.actions.Action.TheVariants.{Malformed, Assign, Withdraw, Grant, Take, Open, Activate, Deactivate, Access, Finish, Close, Move, Lost, Clock, Lend, Recall}
use Rattle.rules.specs.Lowest.{lowest}
use Rattle.selection.specs.Selection.{selected_number}
use Rattle.selection.specs.declared.judging.Judged.{Judged}

-- the lowest broken one of the selected rules, and how many are selected
unfoldable pub judged_of : (Rule → Bool) → View → List Rule → Judged
judged_of selected v rules =
    record {
      broken = lowest (λ rule. not (selected rule) || holds rule v) 1 rules;
      selected = selected_number selected rules;
    }

-- the lowest broken rule found so far, or the next one where it is broken
abbrev pub or_next : Option ℕ → Bool → ℕ → Option ℕ
or_next None holds number = cond holds None (Some number)
or_next (Some n) holds number = Some n

-- one selected rule more
unfoldable pub visited : Bool → Judged → ℕ → Judged
visited holds judged number = record { broken = or_next judged.broken holds number; selected = judged.selected + 1 }

-- 2026-01: "max-users, max-roles and apart read held, before reads assigned only": the steps that select rules that read held. That the
-- judgement of any other step is the same whatever is held is proved in proofs/HeldUnread.antt.
abbrev pub reads_held : Action → Bool
reads_held Malformed = false
reads_held (Assign u r) = true
reads_held (Withdraw u r) = false
reads_held (Grant r p) = false
reads_held (Take r p) = false
reads_held (Open i u) = false
reads_held (Activate i r) = false
reads_held (Deactivate i r) = false
reads_held (Access i p o) = false
reads_held (Finish o) = false
reads_held (Close i) = false
reads_held (Move i point) = false
reads_held (Lost i) = false
reads_held (Clock t) = false
reads_held (Lend u v r t) = true
reads_held (Recall u v r) = false
