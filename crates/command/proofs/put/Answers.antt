-- `command::put` meets its contract. Assumes nothing.
use Rattle.std.proofs.Common.{◌≡◌, ℕ, ◌+◌, ◌<◌, List, [], ◌∷◌, length, get_or, take, rules, arith}
use Rattle.std.proofs.lemmas.List.{take_more, length-take-le}
use Rattle.std.proofs.lemmas.List.Edits.{sets}
use Rattle.std.proofs.Math.ListN.{set}
use Rattle.std.specs.Prelude.{Float}
use Rattle.command.proofs.Buffers.{sets_append}
use Rattle.command.proofs.put.Goals as goal

-- the first k values stand in their places
placed_more : (l l' values : List Float) (at k : ℕ) (d : Float) → l' ≡ sets l at (take k values) → k < length values
    → set l' (at + k) (get_or values k d) ≡ sets l at (take (k + 1) values)
placed_more l l' values at k d is h =
    let e : length (take k values) ≡ k = length-take-le k values (omega arith) in
    rw (take_more values k d h, sets_append (take k values) (get_or values k d ∷ []) l at, e, is)

pub loop-k-preserved : goal.loop-k-preserved
loop-k-preserved g c = placed_more _ _ _ _ _ _ c.loop-k.invariant (search rules)
