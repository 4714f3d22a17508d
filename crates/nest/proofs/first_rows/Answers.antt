-- `nest::first_rows` meets its contract. Assumes nothing.
use Rattle.std.proofs.Common.{◌≡◌, ℕ, ◌+◌, ◌≤◌, List, length, map, ap, ◌∙◌, IfSome, MatchOption, Option, None, Some, Bor}
use Rattle.std.specs.List.{slice_range}
use Rattle.std.specs.Simd.{first_chunks}
use Rattle.item.specs.Rows.{row_of}
use Rattle.nest.specs.Lists.{rows_from}
use Rattle.nest.proofs.Rows.{rows_first}
use Rattle.nest.proofs.first_rows.Goals as goal

-- what `get` gives of the rows is the first of them
given_first : (entries : List ℕ) (n k : ℕ) (rows : List (List ℕ)) → rows ≡ first_chunks 6 k entries → (given : Option (Bor (List (List ℕ)))) (P : Type 0)
    → MatchOption given P (λ x. (0 ≤ n) × (n ≤ length rows) × (x.now ≡ slice_range rows 0 n) × (length x.now + 0 ≡ n))
    → IfSome given (λ x. map row_of x.now ≡ rows_from entries 0 n)
given_first entries n k rows is None P h = tt
given_first entries n k rows is (Some x) P h = ap (map row_of) h.2 ∙ rw is (rows_first entries n k (rw is at h.1))

pub returns-clause-some : goal.returns-clause-some
returns-clause-some c = given_first c.args.entries.now c.args.n _ _ c.as_chunks.ensures.front c.get.result _ c.get.ensures.lookup.0
