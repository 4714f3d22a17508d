-- `plate_read::read_lines` meets its contract. Assumes nothing.
use Rattle.std.proofs.Common.{rules, arith, ◌≡◌, ◌∙◌, ap, ◌*◌, length}
use Rattle.std.proofs.lemmas.List.Edits.{sets}
use Rattle.std.specs.Slice.Iter.{chunks_rest}
use Rattle.plate_read.proofs.Fills.{fill_bad, fill_next, mapped_is}
use Rattle.plate_read.proofs.read_lines.Goals as goal

pub returns-in_err-patterns-clause-told : goal.returns-in_err-patterns-clause-told
returns-in_err-patterns-clause-told c =
    let f = fill_bad _ _ _ _ _ _ c.loop-line.invariant.3 _ c.loop-line.invariant.2 (search rules) c.if-count-eq256.false c.in-Some.line.now (chunks_rest c.next.new.self)
    (search rules) (search rules) (search rules) in
    search rules

pub loop-line-preserved : goal.loop-line-preserved
loop-line-preserved c =
    let six : length c.in_ok-patterns.patterns ≡ 6 = search rules in
    let m = mapped_is _ _ _ _ 6 (λ p q x y k. search rules) c.map-vertex.ensures.items six in (
      omega arith,
      tt,
      search rules,
      fill_next _ _ _ _ _ _ c.loop-line.invariant.3 _ c.loop-line.invariant.2 (search rules) c.if-count-eq256.false c.in-Some.line.now _ (search rules) (search rules)
          c.in_ok-patterns.patterns _ (search rules) (c.put.ensures.1 ∙ ap (sets c.loop-line.numbers (6 * c.loop-line.count)) m),
    )
