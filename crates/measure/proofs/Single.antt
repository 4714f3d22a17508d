-- A length is an f32: 0, or a sum. Assumes nothing.
use mathlib.Core.List.{List, [], ◌∷◌}
use lib.Ieee.{Float}
use lib.ListN.{length}
use Rattle.command.specs.declared.PathCommand.{PathCommand}
use Rattle.command.specs.declared.PathCommand.TheVariants.{Move, Line, Cubic, Close, Quad}
use Rattle.point.specs.declared.Point.{Point}
use Rattle.std.specs.Prelude.{Option, Some, None}
use Rattle.measure.specs.declared.Pen.{Pen}
use Rattle.ieee.specs.Single.{Single}
use Rattle.ieee.proofs.Single.{add_single, zero_single}
use Rattle.measure.specs.Length as measure

added_single : (length : Float) (place : Option Point) (segment : Point → Float) → Single length → Single (measure.added length place segment)
unfolding measure.added
added_single length None segment L = L
added_single length (Some p) segment L = add_single length (segment p)

closing_single : (length : Float) (point start : Option Point) → Single length → Single (measure.closing length point start)
unfolding measure.closing
closing_single length point None L = L
closing_single length point (Some s) L = added_single length point _ L

step_single : (pen : Pen) (c : PathCommand) → Single pen.length → Single (measure.step pen c).length
unfolding measure.step measure.move_to measure.line_to measure.quad_to measure.cubic_to measure.close measure.arrive
step_single pen (Move x y) L = L
step_single pen (Line x y) L = added_single pen.length pen.point _ L
step_single pen (Cubic ax ay bx by x y) L = added_single pen.length pen.point _ L
step_single pen Close L = closing_single pen.length pen.point pen.start L
step_single pen (Quad ax ay x y) L = added_single pen.length pen.point _ L

steps_single : (pen : Pen) (cs : List PathCommand) → Single pen.length → Single (measure.steps pen cs).length
unfolding measure.steps
steps_single pen [] L = L
steps_single pen (c ∷ cs) L = steps_single (measure.step pen c) cs (step_single pen c L)

pub length_single : (cs : List PathCommand) → Single (measure.path_length cs)
unfolding measure.path_length measure.length_after measure.start_pen
length_single cs = steps_single measure.start_pen cs zero_single
