-- `merge::decide` meets its contract. Assumes nothing.
use Rattle.std.proofs.Common.{sym, ◌∙◌, ◌*◌, ◌<◌, length, true≢false, map, arith}
use Rattle.item.specs.Rows.{row_of}
use Rattle.merge.proofs.Ways.{decided}
use Rattle.merge.proofs.decide.Goals as goal

pub returns : goal.returns
returns c =
    let given = c.in_ok-rows.ensures.ok_part in
    let long : length c.args.rows.now < 6 * c.args.n → ⊥ = λ h. true≢false (rw given at (c.first_rows.ensures.none.1 h)) in
    let d = decided c.args.rows.now c.args.n c.if-n-eq0.false (omega arith) (omega (arith, long)) (map row_of c.in_ok-rows.rows.now) (rw given at c.first_rows.ensures.some)
    (sym c.each_shallow.ensures ∙ c.if-not-each_shallow.false) (sym c.each_listed.ensures ∙ c.if-not-each_listed.false)
    (sym c.is_nested.ensures ∙ c.if-not-is_nested.false) _ c.rule.ensures in
    record { sources = d.0; first = d.1 }
