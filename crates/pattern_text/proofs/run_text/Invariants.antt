-- `pattern_text::run_text`: where the lines that are left are answered from here on, those of the text are from the start. Each turn leaves less of it.
use Rattle.std.proofs.Common.{length, ◌≡◌}
use Rattle.pattern_text.specs.Text.{GoesWell, Answered}
use Rattle.pattern_text.proofs.run_text.Given as goal

abbrev pub invariant-loop-line : goal.invariant-loop-line
invariant-loop-line g l =
    let turn = GoesWell (goal.F-step g) l.fn.rt l.fn.form (length l.fn.patterns) in
    goal.F-IsAlwaysCallable g l.answer
    × (length l.patterns ≡ length l.fn.patterns)
    × ((h : g.row.F.Denot) → Answered turn l.answer l.rest h → Answered turn l.fn.answer l.fn.text h)

abbrev pub decreases-loop-line : goal.decreases-loop-line
decreases-loop-line g l = length l.rest
