-- `pattern_text::run_text` meets its contract: what answers a line comes before what answers those after it. Assumes nothing.
use Rattle.std.proofs.Common.{of_calls, refl, rules}
use Rattle.pattern_text.proofs.Ways.{went_well, one_more}
use Rattle.pattern_text.proofs.run_text.Goals as goal

pub loop-line-preserved : goal.loop-line-preserved
loop-line-preserved g c =
    let line = c.in-Some.line.now in
    let form = c.args.form in
    let first = went_well (goal.F-step g) _ _ _ _ _ c.answer.ensures c.in_ok-answer.was c.args.rt.now form _ line refl refl (search rules) (search rules) in
    (search of_calls, search rules, λ h rest. c.loop-line.invariant.2 h (one_more _ _ _ _ _ _ _ c.in-Some.ensures.line first rest))
