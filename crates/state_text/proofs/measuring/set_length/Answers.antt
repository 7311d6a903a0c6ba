use native.Mathlib.Omega.{arith}
use Rattle.state_text.proofs.Measures.{product-most, short-most, set-measured}
use Rattle.state_text.proofs.measuring.set_length.Goals as goal

pub overflow_mul-result : goal.overflow_mul-result
overflow_mul-result c = omega (arith, product-most c.args.bytes c.args.set c.count-members.ensures c.count-short.ensures c.requires)

pub overflow_sub-result : goal.overflow_sub-result
overflow_sub-result c = short-most c.args.bytes c.args.set c.count-members.ensures c.count-short.ensures

pub returns : goal.returns
returns c = set-measured c.args.bytes c.args.set c.count-members.ensures c.count-short.ensures c.requires
