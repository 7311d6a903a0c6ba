use mathlib.Core.Path.{sym}
use native.Mathlib.Omega.{arith}
use lib.Seq.{length-take-le}
use Rattle.forms.proofs.Puts.{like}
use Rattle.texts.proofs.saved_runs.write_answers.Goals as goal

pub slice_bounds-copy_text-end : goal.slice_bounds-copy_text-end
slice_bounds-copy_text-end c =
    let start = c.args in
    sym (length-take-le start.size start.kept.now (omega arith))

pub copy_text-requires : goal.copy_text-requires
copy_text-requires c =
    omega (arith, length-take-le c.args.size c.args.kept.now (omega arith), c.requires.0)

pub returns-then-size-kept : goal.returns-then-size-kept
returns-then-size-kept c =
    like (sym (c.requires.1 (omega arith))) c.copy_text.ensures
