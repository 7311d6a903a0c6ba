use native.Mathlib.Omega.{arith}
use mir.Syntax.{w32}
use mir.Val.{SFits}
use Rattle.state_text.proofs.Measures.{place-measured, none-measured}
use borrow.Author.Rules.{rules}
use Rattle.state_text.proofs.measuring.place_length.Goals as goal

pub returns-in-Unknown : goal.returns-in-Unknown
returns-in-Unknown c = rw c.in-Unknown.is (none-measured 100)

pub returns-in-Known : goal.returns-in-Known
returns-in-Known c =
    let point = c.in-Known.point in
    let fx : SFits w32 point.x = search rules in
    let fy : SFits w32 point.y = search rules in
    rw c.in-Known.is
    (place-measured _ point (omega arith) fx fy (omega arith) (rw c.place_line.ensures at c.line_length.ensures))
