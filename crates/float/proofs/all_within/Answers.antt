-- `float::all_within` meets its contract. Assumes nothing.
use mathlib.Core.Path.{◌≡◌, ◌∙◌}
use mathlib.Core.Bool.{◌&&◌}
use borrow.Author.Rules.{rules}
use Rattle.std.proofs.iter.Yields.{fronts}
use Rattle.std.proofs.lemmas.Fn.{fold_over}
use Rattle.std.proofs.lemmas.Iterator.{YieldsList-from_slice}
use Rattle.ieee.specs.Limit.{within, all_within}
use Rattle.float.proofs.Ways.{all_none, all_more}
use Rattle.float.proofs.all_within.Goals as goal

pub returns : goal.returns
returns c =
    let limit = c.args.limit in
    fold_over fronts (λ y. y.now) _ (λ xs b. b ≡ all_within limit xs) _
    (λ xs a x b q e k. let is : b ≡ (a && within limit x.now) = search rules in (is ∙ all_more limit xs x.now a e, search rules))
    c.iter.result c.args.numbers.now _ c.fold.result (YieldsList-from_slice c.args.numbers.now cc).runs (all_none limit) c.fold.ensures.ran
