use mathlib.Core.Path.{◌≡◌, refl}
use mathlib.Core.List.{List}
use Rattle.std.proofs.Common.{sym, ◌∙◌, arith, ℕ}
use Rattle.std.specs.Prelude.{Some}
use Rattle.forms.specs.Tables.{found_form, found}
use Rattle.forms.specs.declared.tables.Found.{Found}
use Rattle.forms.proofs.Finding.{answered-some, answered-none}
use Rattle.policy_text.specs.Lines.{policy_forms, policy_count}
use Rattle.policy_text.proofs.Table.{table-length, table-distinct}
use Rattle.policy_text.proofs.FoundPolicies.{is-no-policy, is-out-of-range, is-not-next, is-rule}
use Rattle.policy_text.proofs.reading.read_policy.Goals as goal

there : (text : List ℕ) {f : Found} → Some f ≡ found_form (found policy_forms text) → f ≡ found policy_forms text
there text some = (answered-some policy_forms text table-distinct some).0

known : (text : List ℕ) {f : Found} → Some f ≡ found_form (found policy_forms text) → f.form ≡ policy_count → ⊥
known text some none = let below = (answered-some policy_forms text table-distinct some).1 in omega (arith, none, below, table-length)

pub returns-in_default : goal.returns-in_default
unfolding policy_forms
returns-in_default c = is-no-policy _ _ _ refl (answered-none policy_forms c.args.text.now table-distinct c.in_default.ensures ∙ table-length)

pub returns-then-not-line_in_range : goal.returns-then-not-line_in_range
unfolding policy_forms
returns-then-not-line_in_range c = is-out-of-range _ _ _ (there _ c.in-Some.ensures) (known _ c.in-Some.ensures) (sym c.line_in_range.ensures ∙ c.if-not-line_in_range.true)

pub returns-then-found-number : goal.returns-then-found-number
unfolding policy_forms
returns-then-found-number c = is-not-next _ _ _ (there _ c.in-Some.ensures) (known _ c.in-Some.ensures) (sym c.line_in_range.ensures ∙ c.if-not-line_in_range.false) c.if-found-number.true

pub returns : goal.returns
unfolding policy_forms
returns c =
    rw c.rule_of.ensures at c.rule_read.ensures
    ∙ is-rule _ _ _ (there _ c.in-Some.ensures) (known _ c.in-Some.ensures) (sym c.line_in_range.ensures ∙ c.if-not-line_in_range.false) c.if-found-number.false
