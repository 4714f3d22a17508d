-- `remainder::rem_parts` meets its contract. Assumes nothing.
use Rattle.remainder.proofs.Ways.{parts_whole}
use Rattle.remainder.proofs.rem_parts.Goals as goal

pub returns-then-p-ge149 : goal.returns-then-p-ge149
returns-then-p-ge149 c =
    parts_whole c.args.x c.in-Some.p c.in-Some.ensures c.whole_rem.result c.from_whole.result c.if-p-ge149.true c.whole_rem.ensures c.from_whole.ensures
