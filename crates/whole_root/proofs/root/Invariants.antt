-- The loops of `whole_root::root`.
use Prim.Native.Nat.{◌≤◌, ◌<◌, ◌*◌, ◌-◌, ◌^◌}
use Rattle.whole_root.proofs.root.Given as goal

abbrev pub invariant-loop-s : goal.invariant-loop-s
invariant-loop-s l = l.s < 2 ^ 26

abbrev pub decreases-loop-s : goal.decreases-loop-s
decreases-loop-s l = l.s

abbrev pub invariant-loop-s-2 : goal.invariant-loop-s-2
invariant-loop-s-2 l = (l.s < 2 ^ 26) × (l.s * l.s ≤ l.t)

abbrev pub decreases-loop-s-2 : goal.decreases-loop-s-2
decreases-loop-s-2 l = 2 ^ 26 - l.s
