-- 2026-06: "Read and write its lines `PL1: assign-role r4 prerequisite r2;` (before), `maxUsers = 3 only-for-role r4;`, `maxRoles-User = 5;`,
-- `maxActiveRoles = 2;` and `enable r4 if active r2 deactivation-dependency;` (needs), each with its `PL` number, counted as ours are." A line of
-- the source's language is a policy (001, section 4). The policy of a rule, and the rule of a policy.
-- Assumes nothing.
use Rattle.std.specs.Prelude.{Bool, List, [], ◌∷◌, ◌++◌, ℕ, get_or, replicate, ltb}
use Rattle.forms.specs.Forms.{fill}
use Rattle.forms.specs.Tables.{bytes, form_at}
use Rattle.rules.specs.declared.families.Rule.{Rule}
use Rattle.rules.specs.declared.families.Rule.TheVariants.{Prerequisite, MaxUsers, MaxRoles, MaxPermissions, MaxActive, StaticSeparation, DynamicSeparation, Dependency, TimeContext, LocationContext, HistorySeparation, BindingOfDuty}
use Rattle.rule_text.specs.Lines.{line, narrow, filler}
use Rattle.rule_text.specs.declared.lines.Line.{Line}

-- the five lines, in the order of the request; each mark stands for a number of its kind, as in the forms of our own text
unfoldable pub policy_forms : List ℕ
policy_forms =
    bytes "PL#: assign-role r$ prerequisite r$;\n"
    ++ bytes "PL#: maxUsers = > only-for-role r$;\n"
    ++ bytes "PL#: maxRoles-User = <;\n"
    ++ bytes "PL#: maxActiveRoles = <;\n"
    ++ bytes "PL#: enable r$ if active r$ deactivation-dependency;\n"

abbrev pub policy_count : ℕ
policy_count = 5

-- ---- a rule as a policy

-- past the last form: it has no text
abbrev pub no_policy : Line
no_policy = line policy_count (replicate 6 0)

-- the policy's form and its six values, the number first, 0 where the form has fewer
unfoldable pub policy_of : ℕ → Rule → Line
policy_of n (Prerequisite r q) = line 0 (n ∷ r ∷ q ∷ 0 ∷ 0 ∷ 0 ∷ [])
policy_of n (MaxUsers r limit) = line 1 (n ∷ limit ∷ r ∷ 0 ∷ 0 ∷ 0 ∷ [])
policy_of n (MaxRoles limit) = line 2 (n ∷ limit ∷ 0 ∷ 0 ∷ 0 ∷ 0 ∷ [])
policy_of n (MaxActive limit) = line 3 (n ∷ limit ∷ 0 ∷ 0 ∷ 0 ∷ 0 ∷ [])
policy_of n (Dependency r q) = line 4 (n ∷ r ∷ q ∷ 0 ∷ 0 ∷ 0 ∷ [])
policy_of n (MaxPermissions r limit) = no_policy
policy_of n (StaticSeparation r q) = no_policy
policy_of n (DynamicSeparation r q) = no_policy
policy_of n (TimeContext r term) = no_policy
policy_of n (LocationContext r side) = no_policy
policy_of n (HistorySeparation p q) = no_policy
policy_of n (BindingOfDuty p q) = no_policy

-- "rule that has no such line" is one of the others
unfoldable pub has_policy : Rule → Bool
has_policy rule = ltb (policy_of 0 rule).form policy_count

-- rule n as text
unfoldable pub policy_text : ℕ → Rule → List ℕ
policy_text n rule = fill (form_at policy_forms (policy_of n rule).form) (policy_of n rule).values

-- ---- a policy as a rule

-- the rule of each form, over its numbers
abbrev pub policies_with : (ℕ → ℕ) → List Rule
policies_with number =
    Prerequisite (number 1) (number 2)
    ∷ MaxUsers (number 2) (number 1)
    ∷ MaxRoles (number 1)
    ∷ MaxActive (number 1)
    ∷ Dependency (number 1) (number 2)
    ∷ []

unfoldable pub rule_of_policy : ℕ → List ℕ → Rule
rule_of_policy form values = get_or (policies_with (λ i. narrow (get_or values i 0))) form filler
