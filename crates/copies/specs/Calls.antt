-- What the two calls of a repeater answer, whatever they are given. Definitions only.
use Rattle.std.specs.Prelude.{ℕ, Bool, not, ◌||◌, List, [], ◌∷◌, ltb, Float, get_or, Ok}
use Rattle.std.specs.List.{list_all}
use Rattle.std.specs.Float.{nan}
use Rattle.std.specs.Float.Ieee.{lt}
use Rattle.std.specs.Float.Ieee.Scale.{finite}
use Rattle.ieee.specs.Literal.{number_limit}
use Rattle.ieee.specs.Sign.{abs}
use Rattle.ieee.specs.Limit.{all_within}
use Rattle.command.specs.declared.Refusal.TheVariants.{TooMany, OutOfRange, NoSuchCopy, NotFinite}
use Rattle.command.specs.Outcomes.{Outcome, Check, ◌gives◌, checked}
use Rattle.matrix.specs.declared.Matrix.{Matrix}
use Rattle.repeater.specs.declared.RepeaterStyle.{RepeaterStyle}
use Rattle.repeater.specs.Repeater.{most_copies, most_offset, copy_count, copy_transform, copy_opacity}
use Rattle.copies.specs.Order.{copy_order}

-- the eleven numbers that C lends: copies, offset, anchor, position, scale in per cent, rotation in degrees, start and end opacity
abbrev pub repeater_of : List Float → ℕ → RepeaterStyle
repeater_of v mode = record {
  copies = get_or v 0 nan;
  offset = get_or v 1 nan;
  mode = mode;
  anchor = record { x = get_or v 2 nan; y = get_or v 3 nan };
  position = record { x = get_or v 4 nan; y = get_or v 5 nan };
  scale = record { x = get_or v 6 nan; y = get_or v 7 nan };
  rotation = get_or v 8 nan;
  start_opacity = get_or v 9 nan;
  end_opacity = get_or v 10 nan;
}

abbrev pub repeater_numbers : RepeaterStyle → List Float
repeater_numbers r =
    r.copies ∷ r.offset ∷ r.anchor.x ∷ r.anchor.y ∷ r.position.x ∷ r.position.y ∷ r.scale.x ∷ r.scale.y
    ∷ r.rotation ∷ r.start_opacity ∷ r.end_opacity ∷ []

-- Over 4,096 copies, which is the same of their number and of its ceiling, or an absolute offset over 4,096.
-- An infinity meets this before 3, but copies of minus infinity do not.
unfoldable pub has_too_many : RepeaterStyle → Bool
has_too_many r = lt most_copies r.copies || lt most_offset (abs r.offset)

-- 1,048,576
abbrev pub repeater_limit : Float
repeater_limit = number_limit

-- the checks 2 and 3; the mode may be any, and a rotation is a number like the others
unfoldable pub repeater_checks : RepeaterStyle → List Check
repeater_checks r = (has_too_many r gives TooMany) ∷ (not (all_within repeater_limit (repeater_numbers r)) gives OutOfRange) ∷ []

-- the copy order has no 9 and no 10
unfoldable pub order_answer : RepeaterStyle → Outcome (List ℕ)
order_answer r = checked (repeater_checks r) (Ok (copy_order r))

-- a copy's matrix and opacity
unfoldable pub copy_numbers : Matrix → Float → List Float
copy_numbers m opacity = m.a ∷ m.b ∷ m.c ∷ m.d ∷ m.e ∷ m.f ∷ opacity ∷ []

abbrev pub all_finite : List Float → Bool
all_finite xs = list_all finite xs

-- a copy index that is not below the copy count is 9, and numbers of which one is not finite are 10
unfoldable pub copy_answer : RepeaterStyle → ℕ → Outcome (List Float)
copy_answer r copy =
    let numbers = copy_numbers (copy_transform r copy) (copy_opacity r copy) in
    checked ((not (ltb copy (copy_count r)) gives NoSuchCopy) ∷ (not (all_finite numbers) gives NotFinite) ∷ []) (Ok numbers)

unfoldable pub transform_answer : RepeaterStyle → ℕ → Outcome (List Float)
transform_answer r copy = checked (repeater_checks r) (copy_answer r copy)
