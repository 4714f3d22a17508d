-- `whole_root::hypot_exact` meets its contract. Assumes nothing.
use Rattle.whole_root.proofs.Ways.{parts_hypot, swapped_hypot}
use Rattle.whole_root.proofs.hypot_exact.Goals as goal

pub returns-then-p-q : goal.returns-then-p-q
returns-then-p-q c =
    let h = c.in-Some-Some in
    swapped_hypot c.args.x c.args.y _ h.p h.q (rw h.is-0 at c.split.ensures) (rw h.is-1 at c.split-2.ensures) c.of_parts.ensures

pub returns-else-p-q : goal.returns-else-p-q
returns-else-p-q c =
    let h = c.in-Some-Some in
    parts_hypot c.args.x c.args.y _ h.p h.q (rw h.is-0 at c.split.ensures) (rw h.is-1 at c.split-2.ensures) c.of_parts-else-p-q.ensures
