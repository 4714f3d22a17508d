-- `flatten::is_level` meets its contract. Assumes nothing.
use Prim.Native.Nat.{ℕ, ◌-◌, ◌/◌, ◌^◌}
use lib.Ieee.{Float}
use borrow.Author.Rules.{rules}
use Rattle.std.proofs.lemmas.Iterator.{YieldsList-from_slice, cases_from_all}
use Rattle.flatten.specs.Level.{Near}
use Rattle.flatten.proofs.Near.{all_near}
use Rattle.flatten.proofs.is_level.Goals as goal

pub returns-then-top-le1249902592 : goal.returns-then-top-le1249902592
returns-then-top-le1249902592 g c =
    let q : ℕ = 163 - c.fold-top.result / 2 ^ 23 in
    all_near g.row.N c.fold-top.result c.args.numbers.now _ c.all.result (search rules) c.if-top-le1249902592.true.0
    (cases_from_all _ _ _ (Near q) (λ (x : Float). Unit {0}) c.all.ensures.ran (YieldsList-from_slice c.args.numbers.now cc) (λ x r k. search rules) (λ x r k. search rules))
