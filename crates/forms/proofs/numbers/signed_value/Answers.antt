use Rattle.forms.proofs.Signs.{plain_value, negated_fits, negated-value, no_value}
use Rattle.forms.proofs.numbers.signed_value.Goals as goal

pub returns-then-value-lt-MINUS : goal.returns-then-value-lt-MINUS
returns-then-value-lt-MINUS c = plain_value _ c.if-value-lt-MINUS.true

pub overflow_sub-result-then-value : goal.overflow_sub-result-then-value
overflow_sub-result-then-value c = negated_fits _ c.if-value.true c.if-value-lt-MINUS.false

pub returns-then-value : goal.returns-then-value
returns-then-value c = negated-value _ c.if-value.true c.if-value-lt-MINUS.false

pub returns : goal.returns
returns c = no_value _ c.if-value.false
