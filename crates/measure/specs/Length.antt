-- The length of a path: `approx_path_length` of drawing_paths.rs. Definitions only.
use Rattle.std.specs.Prelude.{List, [], ◌∷◌, Option, Some, None, Float}
use Rattle.ieee.specs.Literal.{zero32}
use Rattle.command.specs.declared.PathCommand.{PathCommand}
use Rattle.command.specs.declared.PathCommand.TheVariants.{Move, Line, Cubic, Close, Quad}
use Rattle.point.specs.declared.Point.{Point}
use Rattle.ieee.specs.Operators.{◌⊕◌}
use Rattle.curve.specs.Curve.{distance, quad_length, cubic_length}
use Rattle.measure.specs.declared.Pen.{Pen}

-- before the first command: no length, no point, no contour
unfoldable pub start_pen : Pen
start_pen = record { length = zero32; point = None; start = None }

-- The length after a segment that is this long from each point. Without a point it adds nothing.
unfoldable pub added : Float → Option Point → (Point → Float) → Float
added length None segment = length
added length (Some p) segment = length ⊕ segment p

-- a move starts a contour
unfoldable pub move_to : Pen → Point → Pen
move_to pen next = record { length = pen.length; point = Some next; start = Some next }

-- Lines and curves end at a point and leave the contour's start, if it has one.
unfoldable pub arrive : Pen → Point → Float → Pen
arrive pen next length = record { length = length; point = Some next; start = pen.start }

unfoldable pub line_to : Pen → Point → Pen
unfolding arrive added
line_to pen next = arrive pen next (added pen.length pen.point (λ p. distance p next))

unfoldable pub quad_to : Pen → Point → Point → Pen
unfolding arrive added
quad_to pen control next = arrive pen next (added pen.length pen.point (λ p. quad_length p control next))

unfoldable pub cubic_to : Pen → Point → Point → Point → Pen
unfolding arrive added
cubic_to pen control1 control2 next = arrive pen next (added pen.length pen.point (λ p. cubic_length p control1 control2 next))

-- A close adds the way back to the contour's start, if there is one, and goes there. Without a start it adds nothing, and clears the point.
unfoldable pub closing : Float → Option Point → Option Point → Float
unfolding added
closing length point None = length
closing length point (Some s) = added length point (λ p. distance p s)

unfoldable pub close : Pen → Pen
unfolding closing
close pen = record { length = closing pen.length pen.point pen.start; point = pen.start; start = pen.start }

unfoldable pub step : Pen → PathCommand → Pen
step pen (Move x y) = move_to pen (record { x = x; y = y })
step pen (Line x y) = line_to pen (record { x = x; y = y })
step pen (Cubic ax ay bx by x y) = cubic_to pen (record { x = ax; y = ay }) (record { x = bx; y = by }) (record { x = x; y = y })
step pen Close = close pen
step pen (Quad ax ay x y) = quad_to pen (record { x = ax; y = ay }) (record { x = x; y = y })

-- the commands one after another
unfoldable pub steps : Pen → List PathCommand → Pen
steps pen [] = pen
steps pen (c ∷ cs) = steps (step pen c) cs

unfoldable pub length_after : List PathCommand → Pen
length_after cs = steps start_pen cs

unfoldable pub path_length : List PathCommand → Float
path_length cs = (length_after cs).length
