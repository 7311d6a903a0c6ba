use mathlib.Core.Path.{refl, sym, ◌∙◌}
use mathlib.Core.List.{List}
use Prim.Native.Nat.{ℕ, ◌-◌, ◌≤◌}
use native.Mathlib.Omega.{arith}
use lib.ListN.{length, take, drop, length-drop}
use borrow.Author.Tests.{not-true, not-false}
use Rattle.forms.proofs.Puts.{like}
use Rattle.forms.proofs.Turns.{rest}
use Rattle.rule_text.specs.Reading.{prefix_told}
use Rattle.texts.proofs.Responding.{starts-room, line-most, prefix-line, prefix-within, response-without, response-with}
use Rattle.texts.proofs.responses.put_response.Goals as goal

-- what is left of a short input is short
short : (input : List ℕ) (n : ℕ) → length input ≤ 65536
    → length (take (length (take (length input - n) (drop n input)) - 8) (drop 8 (take (length input - n) (drop n input)))) ≤ 65536
short input n h =
    rw (rest (take (length input - n) (drop n input)) 8, rest input n)
    (omega (arith, length-drop 8 (drop n input), length-drop n input))

pub slice_bounds-rest-count : goal.slice_bounds-rest-count
slice_bounds-rest-count c = omega (arith, prefix-within c.args.input.now (prefix_told c.read_prefix-prefix.result) c.read_prefix-prefix.ensures)

pub slice_bounds-rest-start : goal.slice_bounds-rest-start
slice_bounds-rest-start c = omega (arith, prefix-within c.args.input.now (prefix_told c.read_prefix-prefix.result) c.read_prefix-prefix.ensures)

pub returns-then-not-starts_steps : goal.returns-then-not-starts_steps
returns-then-not-starts_steps c =
    let input = c.args.input.now in
    let prefix = c.read_prefix-prefix in
    like
    (response-without input (omega arith) (prefix_told prefix.result) prefix.ensures _ refl _ c.number_without_steps.ensures
    (sym c.starts_steps.ensures ∙ not-true _ c.if-not-starts_steps.true-raw))
    c.put_bad-then-not-starts_steps.ensures

pub slice_bounds-put_steps-count : goal.slice_bounds-put_steps-count
slice_bounds-put_steps-count c =
    let room = starts-room _ (sym c.starts_steps.ensures ∙ not-false _ c.if-not-starts_steps.false-raw) in
    omega (arith, room)

pub slice_bounds-put_steps-start : goal.slice_bounds-put_steps-start
slice_bounds-put_steps-start c =
    let room = starts-room _ (sym c.starts_steps.ensures ∙ not-false _ c.if-not-starts_steps.false-raw) in
    omega (arith, room)

pub put_steps-requires : goal.put_steps-requires
put_steps-requires c =
    let input = c.args.input.now in
    let prefix = c.read_prefix-prefix in (
      omega (arith, prefix-line input (prefix_told prefix.result) prefix.ensures, line-most input),
      short input prefix.result.length (omega arith),
    )

pub returns : goal.returns
returns c =
    let input = c.args.input.now in
    let prefix = c.read_prefix-prefix in
    like
    (response-with input (omega arith) (prefix_told prefix.result) prefix.ensures _ refl _ refl (sym c.starts_steps.ensures ∙ not-false _ c.if-not-starts_steps.false-raw))
    c.put_steps.ensures
