-- The marks of polystars: '1 star, 2 polygon, plus 4 for direction 3'. Definitions only.
use Rattle.std.specs.Prelude.{ℕ, cond}
use Rattle.polystar.specs.declared.Mark.{Mark}
use Rattle.polystar.specs.declared.Mark.TheVariants.{Star, Polygon, ReversedStar, ReversedPolygon}
use Rattle.polystar.specs.Polystar.{is_star, is_reversed}

abbrev pub number_of : Mark → ℕ
number_of Star = 1
number_of Polygon = 2
number_of ReversedStar = 5
number_of ReversedPolygon = 6

-- what any number says of a polystar, as the rule reads it
abbrev pub mark_of : ℕ → Mark
mark_of number = cond (is_reversed number) (cond (is_star number) ReversedStar ReversedPolygon) (cond (is_star number) Star Polygon)
