-- The loops of `copies::Order::put`.
use mathlib.Core.Path.{◌≡◌}
use Prim.Native.Nat.{◌-◌}
use lib.ListN.{drop}
use lib.Seq.{sets}
use Rattle.copies.specs.Order.{order_of}
use Rattle.copies.proofs.Order.put.Given as goal

-- what is still to be written, put down on the list as it is, gives what the whole gives on the list as it was
abbrev pub invariant-loop-place : goal.invariant-loop-place
invariant-loop-place l =
    let order = order_of l.self.mode l.self.count in
    sets l.order l.place (drop l.place order) ≡ sets l.initial.order 0 order

abbrev pub decreases-loop-place : goal.decreases-loop-place
decreases-loop-place l = l.self.count - l.place
