-- `fused::mul_add_exact` meets its contract. Assumes nothing.
use Rattle.fused.proofs.Ways.{all_finite_lem}
use Rattle.fused.proofs.mul_add_exact.Goals as goal

pub returns : goal.returns
returns c = let h = c.in-Some-Some in all_finite_lem c.args.a c.args.b c.args.c h.x h.y c.in-Some.z (rw h.is-0 at c.split.ensures) (rw h.is-1 at c.split-2.ensures) c.in-Some.ensures _ c.plus.ensures
