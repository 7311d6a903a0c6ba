-- How many rules a step selects: the places of the list at which the table's cell names the rule.
-- Assumes nothing.
use mathlib.Core.Path.{◌≡◌, refl, sym, ap, ap₂, ◌∙◌}
use mathlib.Core.Bool.{Bool, true}
use mathlib.Core.Logic.{◌↔◌}
use mathlib.Core.List.{List, [], ◌∷◌}
use Prim.Native.Nat.{ℕ, ◌+◌, ◌<◌}
use native.Mathlib.Nat.{zero-add}
use native.Mathlib.Numerals.{one-add}
use lib.ListN.{length, get_or}
use Rattle.sets.specs.Sets.{one_if, count}
use Rattle.sets.proofs.Booleans.{same_test}
use Rattle.sets.proofs.Counting.{count_same}
use Rattle.rules.specs.declared.families.Rule.{Rule}
use Rattle.steps.specs.declared.actions.Action.{Action}
use Rattle.steps.proofs.PairCounts.{count-sum}
use Rattle.selection.specs.Selection.{selects, selected_number}
use Rattle.selection.specs.Table.{Selected}
use Rattle.selection.proofs.Table.{table}

-- the rules of a list that pass a test, by their places
number-count : (selected : Rule → Bool) (filler : Rule) (rules : List Rule) → selected_number selected rules ≡ count (length rules) (λ n. selected (get_or rules n filler))
unfolding selected_number count
number-count selected filler [] = refl
number-count selected filler (rule ∷ rules) =
    ap₂ ◌+◌ (sym (zero-add (one_if (selected rule))))
    (number-count selected filler rules ∙ count_same (length rules) (λ n. selected (get_or rules n filler)) (λ n. selected (get_or (rule ∷ rules) (1 + n) filler)) (λ n low. rw (one-add n)))
    ∙ sym (count-sum 1 (length rules) (λ n. selected (get_or (rule ∷ rules) n filler)))
    ∙ ap (λ (n : ℕ). count n (λ n. selected (get_or (rule ∷ rules) n filler))) (one-add (length rules))

-- "the number of rules selected": of the list's places, those whose rule the step's row names
pub number-means : (action : Action) (rules : List Rule) (filler : Rule) (is_selected : ℕ → Bool) → ((n : ℕ) → n < length rules → (is_selected n ≡ true) ↔ Selected action (get_or rules n filler))
    → selected_number (selects action) rules ≡ count (length rules) is_selected
number-means action rules filler is_selected named =
    number-count (selects action) filler rules
    ∙ count_same (length rules) (λ n. selects action (get_or rules n filler)) is_selected
    (λ n low.
    same_test (selects action (get_or rules n filler)) (is_selected n)
    (λ h. (named n low).1 ((table action (get_or rules n filler)).0 h)) (λ h. (table action (get_or rules n filler)).1 ((named n low).0 h)))
