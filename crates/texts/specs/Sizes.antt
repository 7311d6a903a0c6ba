-- The state and the rule list with the longest texts, and the one with the longest policies: that no other has a longer one is proved in
-- proofs/StateSizes.antt, proofs/RuleSizes.antt and proofs/PolicySizes.antt. Assumes nothing.
use Rattle.std.specs.Prelude.{true, List, [], ◌∷◌, ℕ, replicate, set, negsuc}
use Rattle.places.specs.declared.Position.TheVariants.{Known}
use Rattle.places.specs.declared.Shape.TheVariants.{Box}
use Rattle.places.specs.declared.Side.TheVariants.{Outside}
use Rattle.rules.specs.declared.families.Rule.{Rule}
use Rattle.rules.specs.declared.families.Rule.TheVariants.{Dependency, LocationContext}
use Rattle.rules.specs.declared.rights.Right.TheVariants.{Permission}
use Rattle.rules.specs.declared.rights.RightSlot.{RightSlot}
use Rattle.rules.specs.declared.sessions.Session.{Session}
use Rattle.loans.specs.Loans.{loan_of, stored}
use Rattle.loans.specs.declared.Loan.{Loan}
use Rattle.enforcement.specs.declared.states.State.{State}
use Rattle.state_text.specs.Saving.{over}

-- open for user 63 at the corner of the grid that takes the most bytes, -1,000,000 and -1,000,000, known to 1000 metres
abbrev pub farthest : Session
farthest = record { is_open = true; user = 63; position = Known (record { x = negsuc 999999; y = negsuc 999999; error = 1000 }) }

-- 2026-01, "up to 32 loans": every role, lent by user 63 to user 62 until the last time
abbrev pub longest_loan : ℕ → Loan
longest_loan r = loan_of 63 62 r 3155759999

unfoldable pub longest_loans : List Loan
longest_loans = over 32 (λ r. longest_loan r ∷ [])

-- a second before the last time; every role assigned to each user but 62, who has them all on loan: the line of a loan is longer than the line
-- that it stands for; every permission carried, every role active in every session, everything done by everybody
unfoldable pub fullest : State
fullest =
    record {
      time = 3155759998;
      assigned = set (replicate 64 4294967295) 62 0;
      granted = replicate 32 4294967295;
      loans = stored longest_loans;
      sessions = replicate 32 farthest;
      active = replicate 32 4294967295;
      history = replicate 1024 18446744073709551615;
    }

-- outside of a box at the same corner
abbrev pub longest_rule : Rule
longest_rule = LocationContext 31 (Outside (Box (negsuc 999999) (negsuc 999999) (negsuc 999999) (negsuc 999999)))

unfoldable pub longest_rules : List Rule
longest_rules = replicate 128 longest_rule

-- 2026-06: of the five lines the longest, with roles of two digits
abbrev pub longest_policy : Rule
longest_policy = Dependency 31 30

unfoldable pub longest_policies : List Rule
longest_policies = replicate 128 longest_policy

-- 2026-05: every kind, with a permission of two digits
unfoldable pub longest_rights : List RightSlot
longest_rights = replicate 6 (record { right = Permission 31 })
