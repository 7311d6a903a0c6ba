use mathlib.Core.Path.{◌≡◌, ap, ◌∙◌}
use mathlib.Core.List.{List}
use Prim.Native.Nat.{ℕ, ◌+◌, ◌-◌, ◌*◌}
use native.Mathlib.Omega.{arith}
use lib.ListN.{length, take, drop, replicate, length-take, length-drop}
use Rattle.std.proofs.lemmas.Slice.{put_mid-paste}
use Rattle.enforcement.specs.Steps.{with_history}
use Rattle.enforcement.specs.Deciding.{plain_next}
use Rattle.enforcement.proofs.RequestLaws.{emptied-part, finish-granted}
use Rattle.enforcement.proofs.states.State.finish_object.Goals as goal

pub returns : goal.returns
returns c =
    let s = c.args.self.now in
    let start = c.args.object * 32 in
    let few : length (take (start + 32 - start) (drop start s.history)) ≡ 32 = omega (arith, length-take (start + 32 - start) (drop start s.history), length-drop start s.history) in
    let filled : c.fill.new.self ≡ replicate 32 0 = c.fill.ensures.after (λ y e. e) ∙ ap (λ (n : ℕ). replicate n 0) few in
    λ rules.
    rw c.granted.ensures
    (ap (λ (h : List ℕ). plain_next (with_history s h)) (put_mid-paste _ _ _ _ (replicate 32 0) 32 filled (omega arith) (omega arith) ∙ emptied-part 32 s.history start (omega arith))
    ∙ finish-granted rules s c.args.object)
