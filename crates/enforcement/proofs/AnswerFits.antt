-- Every answer of the gate fits the number that stands for it, so that the number taken apart gives the answer back.
-- Assumes nothing.
use mathlib.Core.Path.{◌≡◌, refl}
use mathlib.Core.Bool.{Bool, true, false, not, cond, ◌&&◌, ◌||◌}
use mathlib.Core.List.{List, [], ◌∷◌, map}
use Prim.Native.Nat.{ℕ, zero, suc, ◌+◌, ◌*◌, ◌≤◌, ◌<◌}
use native.Mathlib.Omega.{arith}
use lib.Dec.{ltb, leb}
use lib.ListN.{length, take}
use Rattle.sets.specs.Sets.{member, difference, any, one_if}
use Rattle.sets.proofs.Booleans.{both}
use Rattle.sets.proofs.Counting.{count-le}
use Rattle.rules.specs.Acceptance.{rule_of, rules_of, list_accepted}
use Rattle.rules.specs.Families.{is_active_for}
use Rattle.rules.specs.declared.families.Rule.{Rule}
use Rattle.rules.specs.declared.lists.RuleList.{RuleList}
use Rattle.rules.specs.declared.lists.Slot.{Slot}
use Rattle.std.specs.Prelude.{Option, Some, None}
use Rattle.rules.specs.Lowest.{lowest}
use Rattle.steps.specs.Pairs.{ended_pairs, pair_count}
use Rattle.selection.specs.Selection.{selects, selected_number}
use Rattle.steps.specs.declared.actions.Action.{Action}
use Rattle.steps.specs.declared.actions.Action.TheVariants.{Malformed, Assign, Withdraw, Grant, Take, Open, Activate, Deactivate, Access, Finish, Close, Move, Lost, Clock, Lend, Recall}
use Rattle.loans.specs.Loans.{is_named, some_loan}
use Rattle.rights.specs.Rights.{acts_closed}
use Rattle.enforcement.specs.States.{holds_role, assigned_role, lent_out_role, loans_of, carries, is_open, user_of, active_role, state_accepted}
use Rattle.steps.specs.Steps.{is_event, is_administrative, action_of}
use Rattle.enforcement.specs.Steps.{Checked, passes, refuses, refuse_if, check, right_lacking, check_by, check_step, target}
use Rattle.enforcement.specs.Gate.{tests_selected, request_next, passed_next, checked_next, decide_step, step_of}
use Rattle.enforcement.specs.Rounds.{remaining}
use Rattle.steps.specs.Answers.{word_of, answer_of, Fits}
use Rattle.enforcement.specs.declared.states.State.{State}
use Rattle.steps.specs.declared.steps.Step.{Step}
use Rattle.steps.proofs.AnswerWords.{word_back}
use Rattle.enforcement.proofs.Answering.{accepted-length}

-- ---- the numbers of the checks

abbrev Numbered : Checked → Type 0
Numbered passes = Unit {0}
Numbered (refuses number) = (0 < number) × (number < 64) × (number ≡ 30 → ⊥)

refuse-numbered : (b : Bool) (number : ℕ) (rest : Checked) → Numbered (refuses number) → Numbered rest → Numbered (refuse_if b number rest)
refuse-numbered true number rest here later = here
refuse-numbered false number rest here later = later

check-numbered : (s : State) (action : Action) → Numbered (check s action)
unfolding check
check-numbered s Malformed = (omega arith, omega arith, λ e. omega arith)
check-numbered s (Assign u r) = refuse-numbered (holds_role s u r) 24 passes (omega arith, omega arith, λ e. omega arith) tt
check-numbered s (Withdraw u r) = refuse-numbered (not (assigned_role s u r)) 25 (refuse_if (is_active_for s.sessions s.active u r || lent_out_role s u r) 27 passes) (omega arith, omega arith, λ e. omega arith) (refuse-numbered (is_active_for s.sessions s.active u r || lent_out_role s u r) 27 passes (omega arith, omega arith, λ e. omega arith) tt)
check-numbered s (Grant r p) = refuse-numbered (carries s r p) 24 passes (omega arith, omega arith, λ e. omega arith) tt
check-numbered s (Take r p) = refuse-numbered (not (carries s r p)) 25 passes (omega arith, omega arith, λ e. omega arith) tt
check-numbered s (Open i u) = refuse-numbered (is_open s i) 22 passes (omega arith, omega arith, λ e. omega arith) tt
check-numbered s (Activate i r) = refuse-numbered (not (is_open s i)) 23 (refuse_if (active_role s i r) 24 (refuse_if (not (holds_role s (user_of s i) r)) 26 passes)) (omega arith, omega arith, λ e. omega arith) (refuse-numbered (active_role s i r) 24 (refuse_if (not (holds_role s (user_of s i) r)) 26 passes) (omega arith, omega arith, λ e. omega arith) (refuse-numbered (not (holds_role s (user_of s i) r)) 26 passes (omega arith, omega arith, λ e. omega arith) tt))
check-numbered s (Deactivate i r) = refuse-numbered (not (is_open s i)) 23 (refuse_if (not (active_role s i r)) 25 passes) (omega arith, omega arith, λ e. omega arith) (refuse-numbered (not (active_role s i r)) 25 passes (omega arith, omega arith, λ e. omega arith) tt)
check-numbered s (Access i p o) = refuse-numbered (not (is_open s i)) 23 (refuse_if (not (any 32 (λ r. active_role s i r && carries s r p))) 28 passes) (omega arith, omega arith, λ e. omega arith) (refuse-numbered (not (any 32 (λ r. active_role s i r && carries s r p))) 28 passes (omega arith, omega arith, λ e. omega arith) tt)
check-numbered s (Finish o) = tt
check-numbered s (Close i) = refuse-numbered (not (is_open s i)) 23 passes (omega arith, omega arith, λ e. omega arith) tt
check-numbered s (Move i point) = refuse-numbered (not (is_open s i)) 23 passes (omega arith, omega arith, λ e. omega arith) tt
check-numbered s (Lost i) = refuse-numbered (not (is_open s i)) 23 passes (omega arith, omega arith, λ e. omega arith) tt
check-numbered s (Clock t) = refuse-numbered (ltb t s.time) 21 passes (omega arith, omega arith, λ e. omega arith) tt
check-numbered s (Lend u v r t) =
    refuse-numbered (not (assigned_role s u r)) 50 _ (omega arith, omega arith, λ e. omega arith)
    (refuse-numbered (holds_role s v r) 24 _ (omega arith, omega arith, λ e. omega arith)
    (refuse-numbered (leb t s.time) 52 _ (omega arith, omega arith, λ e. omega arith)
    (refuse-numbered (leb 32 s.loans.count) 51 passes (omega arith, omega arith, λ e. omega arith) tt)))
check-numbered s (Recall u v r) = refuse-numbered (not (some_loan (is_named u v r) (loans_of s))) 25 passes (omega arith, omega arith, λ e. omega arith) tt

step-numbered : (list : RuleList) (s : State) (step : Step) → Numbered (check_step list s step)
unfolding check_by
step-numbered list s step = go (is_administrative (action_of step)) (acts_closed s.sessions step.by) (right_lacking list.rights s step.by (action_of step))
  where
    go : (administrative closed lacking : Bool) → Numbered (cond administrative (refuse_if closed 53 (refuse_if lacking 54 (check s (action_of step)))) (check s (action_of step)))
    go true closed lacking =
        refuse-numbered closed 53 _ (omega arith, omega arith, λ e. omega arith)
        (refuse-numbered lacking 54 _ (omega arith, omega arith, λ e. omega arith) (check-numbered s (action_of step)))
    go false closed lacking = check-numbered s (action_of step)

-- ---- the numbers of rules and pairs

number_small : (selected : Rule → Bool) (rules : List Rule) → selected_number selected rules ≤ length rules
unfolding selected_number
number_small selected [] = omega arith
number_small selected (rule ∷ rules) = one_more (selected rule) (number_small selected rules)
  where
    one_more : {n m : ℕ} (b : Bool) → n ≤ m → one_if b + n ≤ suc m
    one_more true l = omega arith
    one_more false l = omega arith

-- the rule that a search finds is one of the list
abbrev Below : ℕ → Option ℕ → Type 0
Below n None = Unit {0}
Below n (Some rule) = rule < n

lowest-small : (test : Rule → Bool) (n k : ℕ) (rules : List Rule) → n + length rules ≤ k → Below k (lowest test n rules)
unfolding lowest
lowest-small test n k [] l = tt
lowest-small test n k (rule ∷ rules) l = here (test rule) (lowest-small test (suc n) k rules (omega arith))
  where
    here : (b : Bool) → Below k (lowest test (suc n) rules) → Below k (cond b (lowest test (suc n) rules) (Some n))
    here true later = later
    here false later = omega arith

ended-small : (before after : List ℕ) → pair_count (ended_pairs before after) ≤ 32 * length before
unfolding ended_pairs pair_count
ended-small [] after = omega arith
ended-small (roles ∷ before) [] = let small = count-le 32 (member roles) in let rest = all_small before in omega arith
  where
    all_small : (l : List ℕ) → pair_count l ≤ 32 * length l
    all_small [] = omega arith
    all_small (x ∷ l) = let small = count-le 32 (member x) in let rest = all_small l in omega arith
ended-small (roles ∷ before) (kept ∷ after) = let small = count-le 32 (member (difference roles kept)) in let rest = ended-small before after in omega arith

rules-below : (n : ℕ) (slots : List Slot) → length (map rule_of (take n slots)) ≤ n
rules-below zero slots = omega arith
rules-below (suc n) [] = omega arith
rules-below (suc n) (slot ∷ slots) = let rest = rules-below n slots in omega arith

rules-few : (list : RuleList) → list_accepted list ≡ true → length (rules_of list) ≤ 128
rules-few list h = let below = rules-below list.length list.slots in let few = accepted-length list h in omega arith

-- ---- an answer

module _ (rules : List Rule) (s : State) (few : length rules ≤ 128) (sessions : length s.active ≡ 32) where
  granted-fits : (selected : Rule → Bool) (after : List ℕ) → (selected_number selected rules < 256) × (pair_count (ended_pairs s.active after) < 4096)
  granted-fits selected after = let number = number_small selected rules in let ended = ended-small s.active after in (omega arith, omega arith)

  request-fits : (selected : Rule → Bool) (after : State) (found : Option ℕ) → Below 256 found → Fits (request_next (selected_number selected rules) s after found).answer
  unfolding request_next
  request-fits selected after None small = granted-fits selected after.active
  request-fits selected after (Some rule) small = let number = number_small selected rules in (small, omega arith)

  passed-fits : (action : Action) (event : Bool) → Fits (passed_next event rules s action).answer
  unfolding passed_next
  passed-fits action false =
      request-fits (selects action) (target s action) (lowest (tests_selected (selects action) (target s action)) 1 rules)
      (lowest-small (tests_selected (selects action) (target s action)) 1 256 rules (omega arith))
  passed-fits action true = granted-fits (selects action) (remaining (selects action) rules (target s action))

  checked-fits : (action : Action) (c : Checked) → Numbered c → Fits (checked_next c rules s action).answer
  unfolding checked_next
  checked-fits action passes numbered = passed-fits action (is_event action)
  checked-fits action (refuses number) numbered = numbered

-- "An answer's number taken apart gives the answer back": of every state with its 32 sessions
pub answer_back : (list : RuleList) (s : State) (step : Step) → length s.active ≡ 32 → answer_of (word_of (step_of list s step).answer) ≡ (step_of list s step).answer
unfolding step_of decide_step
answer_back list s step sessions = word_back (step_of list s step).answer (go (list_accepted list && state_accepted s) refl)
  where
    go : (b : Bool) → (list_accepted list && state_accepted s) ≡ b → Fits (step_of list s step).answer
    go true e = rw (e) (checked-fits (rules_of list) s (rules-few list (both (list_accepted list) (state_accepted s) e).0) sessions (action_of step) (check_step list s step) (step-numbered list s step))
    go false e = rw (e) (omega arith, omega arith, λ h. omega arith)
