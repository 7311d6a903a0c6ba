use mathlib.Core.Path.{◌≡◌, refl, ◌∙◌}
use Prim.Native.Nat.{ℕ}
use native.Mathlib.Omega.{arith}
use lib.ListN.{length, length-replicate}
use mir.Syntax.{w32}
use mir.Val.{Fits}
use Rattle.rules.specs.Families.{word_at, session_at}
use Rattle.selection.proofs.Parts.{length-sifted}
use Rattle.selection.proofs.Settling.{filled_next, filled-all, held_word}
use borrow.Author.Rules.{rules}
use Rattle.selection.proofs.rounds.held_active.Invariants.{held_active}
use Rattle.selection.proofs.rounds.held_active.Goals as goal

pub loop-i-init : goal.loop-i-init
loop-i-init c = (length-replicate {A = ℕ} 32 0, refl)

pub loop-i-preserved : goal.loop-i-preserved
loop-i-preserved c =
    let now = c.loop-i in
    let a = c.args in
    let long : length (held_active a.held.now a.sessions.now a.active.now) ≡ 32 = length-sifted 0 _ a.active.now ∙ c.told-active in
    let fits : Fits w32 (word_at a.active.now now.i) = search rules in (
      search rules,
      filled_next _ _ now.i _ (omega arith) (omega arith) now.invariant.1
          (c.intersection.ensures ∙ rw c.roles_of.ensures (held_word a.held.now a.active.now (λ i. (session_at a.sessions.now i).user) now.i fits.fits)),
    )

pub returns : goal.returns
returns c =
    let now = c.loop-i in
    let end : now.i ≡ 32 = omega arith in
    filled-all _ _ 32 now.invariant.0 (length-sifted 0 _ c.args.active.now ∙ c.told-active) (rw end at now.invariant.1)
