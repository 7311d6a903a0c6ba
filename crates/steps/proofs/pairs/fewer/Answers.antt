use mathlib.Core.Path.{ap, ◌∙◌}
use Prim.Native.Nat.{ℕ}
use Rattle.sets.specs.Sets.{member, count}
use Rattle.sets.proofs.Counting.{count-le}
use Rattle.steps.proofs.pairs.fewer.Goals as goal

pub returns : goal.returns
returns c =
    record {
      number = c.count.ensures ∙ ap (λ (n : ℕ). count 32 (member n)) c.difference.ensures;
      small = rw c.count.ensures (count-le 32 _);
    }
