-- A float as a count: the whole number below it, and above it, as Rust's `floor` and `ceil` followed by `as usize` give it. A negative number counts as 0. Definitions only.
use Rattle.std.specs.Prelude.{ℕ, ◌*◌, cond, Float}
use Rattle.std.specs.Float.{nan, inf, fin}
use Rattle.std.specs.Float.Ieee.{up, down}
use Rattle.ieee.specs.Literal.{number_limit}
use Rattle.ieee.specs.Whole.{whole_down, whole_up}

-- An infinity has no count; callers have refused it.
abbrev pub count_down : Float → ℕ
count_down nan = 0
count_down (inf s) = 0
count_down (fin s m e) = cond s 0 (whole_down (m * up e) (down e))

abbrev pub count_up : Float → ℕ
count_up nan = 0
count_up (inf s) = 0
count_up (fin s m e) = cond s 0 (whole_up (m * up e) (down e))

-- 1,048,576: a larger number is not counted
abbrev pub count_limit : Float
count_limit = number_limit
