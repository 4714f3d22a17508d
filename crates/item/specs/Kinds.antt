-- Which number stands for which kind of item in a row that C lends, and the questions about a kind. Definitions only.
use Rattle.std.specs.Prelude.{ℕ, Bool, true, false, cond, eqb}
use Rattle.item.specs.declared.Kind.{Kind}
use Rattle.item.specs.declared.Kind.TheVariants.{Path, Rect, Ellipse, Star, Group, Transform, Fill, Stroke, GradientFill, GradientStroke, Trim, Repeater, Merge, Other, Unlisted}

-- 1 to 14: sh, rc, el, sr, gr, tr, fl, st, gf, gs, tm, rp, mm, other
unfoldable pub kind_of : ℕ → Kind
kind_of number =
    cond (eqb number 1) Path
    (cond (eqb number 2) Rect
    (cond (eqb number 3) Ellipse
    (cond (eqb number 4) Star
    (cond (eqb number 5) Group
    (cond (eqb number 6) Transform
    (cond (eqb number 7) Fill
    (cond (eqb number 8) Stroke
    (cond (eqb number 9) GradientFill
    (cond (eqb number 10) GradientStroke
    (cond (eqb number 11) Trim
    (cond (eqb number 12) Repeater
    (cond (eqb number 13) Merge
    (cond (eqb number 14) Other
    Unlisted)))))))))))))

-- its number is listed
abbrev pub is_listed_kind : Kind → Bool
is_listed_kind Unlisted = false
is_listed_kind _ = true

-- what can be drawn: sh, rc, el, sr
abbrev pub is_source_kind : Kind → Bool
is_source_kind Path = true
is_source_kind Rect = true
is_source_kind Ellipse = true
is_source_kind Star = true
is_source_kind _ = false

-- what colours or alters a drawing: fl, st, gf, gs, tm, rp
abbrev pub is_style_kind : Kind → Bool
is_style_kind Fill = true
is_style_kind Stroke = true
is_style_kind GradientFill = true
is_style_kind GradientStroke = true
is_style_kind Trim = true
is_style_kind Repeater = true
is_style_kind _ = false
