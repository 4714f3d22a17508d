-- Products of matrices that neither turn nor mirror, without the terms of b and c: what the quick way through the steps of a repeater computes. Definitions only.
use Rattle.std.specs.Prelude.{ℕ, zero, suc, Bool, ◌&&◌}
use Rattle.std.specs.Float.Ieee.{eq, lt}
use Rattle.ieee.specs.Literal.{zero32}
use Rattle.ieee.specs.Operators.{◌⊕◌, ◌⊗◌}
use Rattle.matrix.specs.declared.Matrix.{Matrix}
use Rattle.matrix.specs.Matrix.{identity}

-- b and c are zeros, of either sign, and a and d are above zero
unfoldable pub is_upright : Matrix → Bool
is_upright m = eq m.b zero32 && (eq m.c zero32 && (lt zero32 m.a && lt zero32 m.d))

-- A zero times the shift stays in: it is -0 where the shift is negative, and NaN where it is not finite.
unfoldable pub upright_concat : Matrix → Matrix → Matrix
upright_concat m n = record {
  a = m.a ⊗ n.a;
  b = zero32;
  c = zero32;
  d = m.d ⊗ n.d;
  e = m.a ⊗ n.e ⊕ zero32 ⊗ n.f ⊕ m.e;
  f = zero32 ⊗ n.e ⊕ m.d ⊗ n.f ⊕ m.f;
}

-- so many steps, one after another
unfoldable pub upright_steps : ℕ → Matrix → Matrix
upright_steps zero step = identity
upright_steps (suc n) step = upright_concat (upright_steps n step) step
