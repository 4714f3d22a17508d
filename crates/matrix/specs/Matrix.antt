-- Matrices and their products, by document 01's stand-ins: each product and sum is rounded, left to right. Definitions only.
use Rattle.std.specs.Prelude.{cond, eqb, Float}
use Rattle.std.specs.Float.Ieee.{neg}
use Rattle.ieee.specs.Literal.{zero32, one32}
use Rattle.ieee.specs.Operators.{◌⊕◌, ◌⊗◌}
use Rattle.angle.specs.declared.Direction.{Direction}
use Rattle.angle.specs.Sixteenths.{turn_of}
use Rattle.angle.specs.Direction.{direction_of}
use Rattle.matrix.specs.declared.Matrix.{Matrix}

-- A matrix sends (p, q) to (a·p + c·q + e, b·p + d·q + f).
abbrev pub identity : Matrix
identity = record { a = one32; b = zero32; c = zero32; d = one32; e = zero32; f = zero32 }

-- the transform so far on the left and the step on the right, so the step acts first on a point
unfoldable pub concat : Matrix → Matrix → Matrix
concat m n = record {
  a = m.a ⊗ n.a ⊕ m.c ⊗ n.b;
  b = m.b ⊗ n.a ⊕ m.d ⊗ n.b;
  c = m.a ⊗ n.c ⊕ m.c ⊗ n.d;
  d = m.b ⊗ n.c ⊕ m.d ⊗ n.d;
  e = m.a ⊗ n.e ⊕ m.c ⊗ n.f ⊕ m.e;
  f = m.b ⊗ n.e ⊕ m.d ⊗ n.f ⊕ m.f;
}

-- products with a translation and with a scaling, without the constant 0 and 1 terms of the right factor
unfoldable pub pre_translate : Matrix → Float → Float → Matrix
pre_translate m x y = record {
  a = m.a;
  b = m.b;
  c = m.c;
  d = m.d;
  e = m.a ⊗ x ⊕ m.c ⊗ y ⊕ m.e;
  f = m.b ⊗ x ⊕ m.d ⊗ y ⊕ m.f;
}

unfoldable pub pre_scale : Matrix → Float → Float → Matrix
pre_scale m x y = record { a = m.a ⊗ x; b = m.b ⊗ x; c = m.c ⊗ y; d = m.d ⊗ y; e = m.e; f = m.f }

-- the product with (cos, sin, -sin, cos, 0, 0), without the constant 0 and 1 terms of it; the minus is a negation, so of a sine of +0 it is -0
unfoldable pub rotated : Matrix → Direction → Matrix
rotated m w = record {
  a = m.a ⊗ w.cosine ⊕ m.c ⊗ w.sine;
  b = m.b ⊗ w.cosine ⊕ m.d ⊗ w.sine;
  c = m.a ⊗ neg w.sine ⊕ m.c ⊗ w.cosine;
  d = m.b ⊗ neg w.sine ⊕ m.d ⊗ w.cosine;
  e = m.e;
  f = m.f;
}

-- `pre_rotate`, by degrees: 'a zero angle then leaves the matrix as it is'
unfoldable pub pre_rotate : Matrix → Float → Matrix
pre_rotate m degrees = cond (eqb (turn_of degrees) 0) m (rotated m (direction_of (turn_of degrees)))
