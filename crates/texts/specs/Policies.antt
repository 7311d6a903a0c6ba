-- 2026-06: a rule list from one language to the other. "Range and number refusals are 11, 12 and 13."; "55 .. with its line"; "56 on writing,
-- with the lowest rule"; "Writing refuses in the order 40, 56, 18." A list that was read is accepted, so that 40 does not occur.
-- Assumes nothing.
use Rattle.std.specs.Prelude.{ℕ, cond, List, eqb, Option, Some, None}
use Rattle.rule_text.specs.Reading.{LoadedRules}
use Rattle.policy_text.specs.Writing.{without_policy, policies_text}
use Rattle.texts.specs.SavedRuns.{refused_report, output_report, list_report}
use Rattle.texts.specs.declared.saved_runs.Text.{Text}
use Rattle.texts.specs.SavedRuns.{Report}

-- our text from policies
abbrev pub rules_from_report : LoadedRules → ℕ → Report
rules_from_report read room = list_report Text.Policies read room

-- policies from our text: what has no policy is 56 of the rules, with the rule
abbrev pub unless_lacking : Option ℕ → List ℕ → ℕ → Report
unless_lacking None text room = output_report text room
unless_lacking (Some n) text room = refused_report Text.Rules 56 n

unfoldable pub policies_from_report : LoadedRules → ℕ → Report
policies_from_report read room =
    cond (eqb read.number 0) (unless_lacking (without_policy read.list) (policies_text read.list) room) (refused_report Text.Rules read.number read.line)

-- what a refusal of the writer is about
abbrev pub refused_text : ℕ → Text
refused_text number = cond (eqb number 18) Text.OutputSpace Text.Rules
