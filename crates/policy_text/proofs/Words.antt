-- The text of a rule is the policy that the request prints for it.
-- Assumes nothing.
use mathlib.Core.Path.{◌≡◌}
use mathlib.Core.List.{append_assoc}
use Prim.Native.Nat.{ℕ}
use Rattle.forms.specs.Kinds.{kind_of, lookup, is_slot}
use Rattle.forms.specs.Forms.{text_by, item_text, fill}
use Rattle.forms.specs.Tables.{lines_in, form_at}
use Rattle.rules.specs.declared.families.Rule.{Rule}
use Rattle.policy_text.specs.Lines.{policy_forms, policy_of, policy_text}
use Rattle.policy_text.specs.Causes.{OfFiveKinds, before, max_users, max_roles, max_active, needs}
use Rattle.policy_text.specs.Words.{policy_words}

pub policy-reads : (n : ℕ) {rule : Rule} (kind : OfFiveKinds rule) → policy_text n rule ≡ policy_words n kind
unfolding policy_text policy_of fill item_text text_by is_slot kind_of lookup form_at lines_in policy_forms
policy-reads n (before r q) = simp append_assoc
policy-reads n (max_users r limit) = simp append_assoc
policy-reads n (max_roles limit) = simp append_assoc
policy-reads n (max_active limit) = simp append_assoc
policy-reads n (needs r q) = simp append_assoc
