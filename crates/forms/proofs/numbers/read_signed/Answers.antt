use mathlib.Core.Path.{◌≡◌, refl, sym, ap, ◌∙◌}
use mathlib.Core.List.{List, [], ◌∷◌}
use Prim.Native.Nat.{ℕ, ◌<◌}
use native.Mathlib.Omega.{arith}
use lib.ListN.{length, drop}
use borrow.Author.Tests.{ltb-true}
use Rattle.forms.specs.Numbers.{read_number, read_signed, found_number}
use Rattle.forms.proofs.Reading.{signed-plain}
use Rattle.forms.proofs.Turns.{rest, tail-length, signed-minus, negated-some, negated-none, amount-fits}
use Rattle.forms.proofs.numbers.read_signed.Goals as goal
use Rattle.forms.proofs.numbers.read_signed.Goals.{in_default-via-then-text-lt1, in_default-via-else-text-lt1+in_default-1}

signed-empty : (s : List ℕ) → length s < 1 → read_signed s ≡ read_number s
unfolding read_signed read_number
signed-empty [] h = refl
signed-empty (c ∷ s) h = absurd (omega arith)

pub returns-in_default : goal.returns-in_default
returns-in_default c =
    c.read_number.ensures
    ∙ ap found_number (sym (elim c.in_default.branch [
      | in_default-via-then-text-lt1 w ↦ signed-empty c.args.text.now (omega (arith, ltb-true))
      | in_default-via-else-text-lt1+in_default-1 w ↦ signed-plain c.args.text.now (λ e. omega arith)
    ]))

pub returns-in_err-amount : goal.returns-in_err-amount
returns-in_err-amount c =
    let text = c.args.text.now in
    c.from_residual.ensures ∙ rw (signed-minus text (omega arith) (omega arith)) (negated-none (drop 1 text) (rw (rest text 1) at c.in_err-amount.ensures))

pub overflow_add-result : goal.overflow_add-result
overflow_add-result c = omega (arith, amount-fits _ c.in_ok-amount.ensures)

pub overflow_add-result-2 : goal.overflow_add-result-2
overflow_add-result-2 c = omega (arith, amount-fits _ c.in_ok-amount.ensures, tail-length c.args.text.now)

pub returns : goal.returns
returns c =
    let text = c.args.text.now in
    rw (signed-minus text (omega arith) (omega arith)) (negated-some (drop 1 text) (rw (rest text 1) at c.in_ok-amount.ensures))
