-- What a decision that joins has passed: every check on the rows, so there are at most 256 of them. Assumes nothing.
use Rattle.std.specs.Prelude.{Ok}
use mathlib.Core.Path.{◌≡◌}
use mathlib.Core.List.{List}
use Prim.Native.Nat.{ℕ, ◌≤◌}
use native.Mathlib.Omega.{arith}
use borrow.Author.Tests.{ltb-false}
use Rattle.command.proofs.Outcomes.{checks_passed}
use Rattle.merge.specs.Decision.{ruling, row_checks, decision}

pub decision_passed : (rows : List ℕ) (n : ℕ) (numbers : List ℕ) → decision rows n ≡ Ok numbers → (n ≤ 256) × (ruling rows n ≡ Ok numbers)
unfolding decision
decision_passed rows n numbers e =
    let p = checks_passed (row_checks rows n) (ruling rows n) numbers e in
    (omega (arith, ltb-false, p.0), p.1)
