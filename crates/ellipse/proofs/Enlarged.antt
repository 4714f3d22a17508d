-- The path of an ellipse on the grid of 1 / 1024, enlarged by a power of two: the same commands, with every number multiplied. Assumes nothing.
use Prim.Native.Nat.{ℕ, ◌≤◌}
use lib.Dec.{lit≤}
use lib.Ieee.{Float}
use Rattle.ieee.specs.Grid.{Twin}
use Rattle.ieee.proofs.Twins.{finer, twin_abs}
use Rattle.command.specs.Enlarged.{Twins}
use Rattle.command.proofs.Enlarged.{twin_close, twin_move, twin_cubic, twins_none, twins_cons}
use Rattle.rect.proofs.Box.{bounds_twin}
use Rattle.rect.proofs.Tangent.{half_twin, tangent_twin, number_twin, plus_tangent, less_tangent}
use Rattle.ellipse.specs.Ellipse.{tangent_on, ellipse_path}

module _ {k : ℕ} (K : k ≤ 6) where
  on_twin : {side side' : Float} → Twin k 10 13 side side' → Twin k 35 15 (tangent_on side) (tangent_on side')
  unfolding tangent_on
  on_twin {side} {side'} S = tangent_twin K (half_twin K (twin_abs k 10 13 side side' S))

  pub ellipse_twins : {cx cx' cy cy' w w' h h' : Float} → Twin k 10 13 cx cx' → Twin k 10 13 cy cy' → Twin k 10 13 w w' → Twin k 10 13 h h'
      → Twins k 35 16 (ellipse_path cx cy w h) (ellipse_path cx' cy' w' h')
  unfolding ellipse_path
  ellipse_twins CX CY W H =
      let B = bounds_twin K CX CY W H in
      let l = number_twin B.left_twin tt in
      let t = number_twin B.top_twin tt in
      let r = number_twin B.right_twin tt in
      let b = number_twin B.bottom_twin tt in
      let cx = finer 11 15 (lit≤ tt) (lit≤ tt) CX in
      let cy = finer 11 15 (lit≤ tt) (lit≤ tt) CY in
      let x = number_twin cx tt in
      let y = number_twin cy tt in
      let tx = on_twin W in
      let ty = on_twin H in
      let lc = less_tangent K cx tx in
      let rc = plus_tangent K cx tx in
      let tc = less_tangent K cy ty in
      let bc = plus_tangent K cy ty in
      twins_cons (twin_move x t)
      (twins_cons (twin_cubic rc t r tc r y)
      (twins_cons (twin_cubic r bc rc b x b)
      (twins_cons (twin_cubic lc b l bc l y)
      (twins_cons (twin_cubic l tc lc t x t)
      (twins_cons twin_close twins_none)))))
