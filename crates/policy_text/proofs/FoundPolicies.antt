-- What is read of a line, by what was found there.
-- Assumes nothing.
use mathlib.Core.Path.{◌≡◌}
use mathlib.Core.Bool.{Bool, true, false}
use mathlib.Core.List.{List}
use Prim.Native.Nat.{ℕ}
use lib.ListN.{get_or}
use borrow.Author.Tests.{eq-eqb, ne_eqb}
use Rattle.std.specs.Prelude.{Err}
use Rattle.forms.specs.Forms.{all_in_range}
use Rattle.forms.specs.Tables.{form_at, line_at, found}
use Rattle.forms.specs.declared.tables.Found.{Found}
use Rattle.forms.proofs.Index.{index-line}
use Rattle.rule_text.specs.Reading.{rule_read}
use Rattle.policy_text.specs.Lines.{policy_forms, policy_count, rule_of_policy}
use Rattle.policy_text.specs.Reading.{policy_after, read_policy}
use Rattle.policy_text.proofs.Table.{policy_starts, index-right}

module _ (n : ℕ) (text : List ℕ) (f : Found) (there : f ≡ found policy_forms text) where
  pub is-no-policy : f.form ≡ policy_count → Err 55 ≡ read_policy n text
  unfolding read_policy policy_after
  is-no-policy none = rw (← there, eq-eqb f.form policy_count none)

  ranged : {b : Bool} → all_in_range (line_at policy_forms policy_starts f.form) f.values ≡ b → all_in_range (form_at policy_forms f.form) f.values ≡ b
  ranged e = rw (index-line policy_forms policy_starts index-right f.form) at e

  module _ (some : f.form ≡ policy_count → ⊥) where
    pub is-out-of-range : all_in_range (line_at policy_forms policy_starts f.form) f.values ≡ false → Err 11 ≡ read_policy n text
    unfolding read_policy policy_after
    is-out-of-range outside = rw (← there, ne_eqb f.form policy_count some, ranged outside)

    module _ (inside : all_in_range (line_at policy_forms policy_starts f.form) f.values ≡ true) where
      pub is-not-next : (get_or f.values 0 0 ≡ n → ⊥) → Err 12 ≡ read_policy n text
      unfolding read_policy policy_after
      is-not-next other = rw (← there, ne_eqb f.form policy_count some, ranged inside, ne_eqb (get_or f.values 0 0) n other)

      pub is-rule : get_or f.values 0 0 ≡ n → rule_read (rule_of_policy f.form f.values) f.length ≡ read_policy n text
      unfolding read_policy policy_after
      is-rule next = rw (← there, ne_eqb f.form policy_count some, ranged inside, eq-eqb (get_or f.values 0 0) n next)
