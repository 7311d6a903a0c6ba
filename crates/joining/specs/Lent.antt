-- 2026-07: "order 40, 58, 57, then 18, nothing written on any. The number of rules is returned; entries past it stay."
-- Assumes nothing.
use Rattle.std.specs.Prelude.{ℕ, ◌≡◌, Result, Ok, Err, cond, List, [], ◌++◌, ltb, length, take, drop}
use Rattle.rules.specs.declared.lists.Slot.{Slot}
use Rattle.rules.specs.declared.lists.RuleList.{RuleList}
use Rattle.rule_text.specs.Reading.{no_rights, list_of}
use Rattle.rules.specs.declared.rights.RightSlot.{RightSlot}
use Rattle.joining.specs.Joining.{number_of, place_of, join_of}
use Rattle.joining.specs.declared.refusals.Refusal.{Refusal}
use Rattle.joining.specs.declared.lent.JoinedInto.{JoinedInto}

-- what is decided before a slot is written: how many are, and the list that they are taken from
pub record Admission : Type 0 where
  pub number : ℕ
  pub place : ℕ
  pub count : ℕ
  pub list : RuleList

-- "then 18": a list that is refused before has no rules, so that no room is too short for it; the place is the number of rules
unfoldable pub admission_of : RuleList → RuleList → ℕ → Admission
admission_of first second room =
    cond (ltb room (join_of first second).list.length)
    (record { number = 18; place = (join_of first second).list.length; count = 0; list = list_of no_rights [] })
    (record { number = (join_of first second).number; place = (join_of first second).place; count = (join_of first second).list.length; list = (join_of first second).list })

-- "The number of rules is returned": 0, 0, that number and the rights of the joined list; or the refusal's number and place, no slot and no right
pub record Told : Type 0 where
  pub number : ℕ
  pub place : ℕ
  pub count : ℕ
  pub rights : List RightSlot

abbrev pub joined_into_of : Admission → Told
joined_into_of admitted = record { number = admitted.number; place = admitted.place; count = admitted.count; rights = admitted.list.rights }

-- the lent slots after the first i of the joined rules are written
abbrev pub slots_at : Admission → List Slot → ℕ → List Slot
slots_at admitted slots i = take i admitted.list.slots ++ drop i slots

-- "entries past it stay"
abbrev pub slots_written : Admission → List Slot → List Slot
slots_written admitted slots = slots_at admitted slots admitted.count

-- what the code returns, by the number of each refusal
abbrev pub told : Result JoinedInto Refusal → Told
told (Ok joined) = record { number = 0; place = 0; count = joined.count; rights = joined.rights }
told (Err refusal) = record { number = number_of refusal; place = place_of refusal; count = 0; rights = no_rights }

abbrev pub JoinedAs : RuleList → RuleList → List Slot → Result JoinedInto Refusal → List Slot → Type 0
JoinedAs first second slots r written =
    (told r ≡ joined_into_of (admission_of first second (length slots))) × (written ≡ slots_written (admission_of first second (length slots)) slots)
