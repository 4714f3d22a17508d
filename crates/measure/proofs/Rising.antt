-- The running length of a command list whose numbers are within the limit, 2 ^ 22, with any number of commands: it is finite, it is not negative, and it never falls, from command
-- to command and inside a curve. Assumes nothing.
use mathlib.Core.Path.{◌≡◌, refl, ap, ◌∙◌, subst}
use mathlib.Core.Bool.{true}
use mathlib.Core.List.{List, [], ◌∷◌, ◌++◌}
use Prim.Native.Nat.{ℕ, zero, suc, ◌^◌, ◌≤◌, ◌<◌}
use native.Mathlib.Nat.{le_refl, le_trans, not-suc-le-zero, le_of_suc-le-suc}
use lib.Dec.{T, lit≤, lit<}
use lib.ListN.{length, get_or, take}
use lib.Seq.{take-suc}
use lib.Ieee.{Float, le, fits, of_bits, of_fields, odd, binary32}
use lib.Ieee.Fits.{add-fits}
use lib.Ieee.Scale.{finite}
use Rattle.ieee.specs.Literal.{zero32}
use Rattle.ieee.specs.Operators.{◌⊕◌}
use Rattle.ieee.specs.Limit.{all_within, Bounded, AllBounded}
use Rattle.ieee.proofs.Order as Order
use Rattle.ieee.proofs.Monotone.{add_ge, add_le_right}
use Rattle.ieee.proofs.Bounds.{reach_absorb, zero_bounded, bounded_finite, bounded_number, bounded_weaken, add_bounded}
use Rattle.ieee.proofs.Each.{each_split}
use Rattle.command.specs.declared.PathCommand.{PathCommand}
use Rattle.command.specs.declared.PathCommand.TheVariants.{Move, Line, Cubic, Close, Quad}
use Rattle.command.specs.Commands.{coordinates_of, numbers_of, command_limit}
use Rattle.command.proofs.Bounds.{bounded_take, bounded_command, within→commands}
use Rattle.point.specs.declared.Point.{Point}
use Rattle.curve.specs.Curve.{distance, quad_length_after, cubic_length_after, quad_length, cubic_length}
use Rattle.curve.proofs.Rising.{Inside, distance_bounded, distance_plus}
use Rattle.curve.proofs.Lengths.{quad_bounded, quad_plus, quad_rise, cubic_bounded, cubic_plus, cubic_rise}
use Rattle.std.specs.Prelude.{Option, Some, None}
use Rattle.measure.specs.declared.Pen.{Pen}
use Rattle.measure.specs.Length.{start_pen, added, move_to, arrive, line_to, quad_to, cubic_to, closing, close, step, steps, length_after, path_length}

-- ---- a running length: at most 2 ^ 81, where a segment is at most 2 ^ 56 and so is absorbed
pub record Running (length : Float) : Type 0 where
  pub bounded : Bounded (2 ^ 81) length
  pub held : T (fits binary32 length)
  pub plus : T (le zero32 length)

-- a segment's length
record Segment (length : Float) : Type 0 where
  bounded : Bounded (2 ^ 56) length
  plus : T (le zero32 length)

-- a running length and a later one
record Grown (before after : Float) : Type 0 where
  running : Running after
  rise : T (le before after)

still : (length : Float) → Running length → Grown length length
still length R = record { running = R; rise = Order.le_refl length (bounded_number (2 ^ 81) length R.bounded) }

longer : (length s : Float) → Running length → Segment s → Grown length (length ⊕ s)
longer length s R S =
    let g : T (le length (length ⊕ s)) = add_ge binary32 length s R.held (bounded_finite (2 ^ 81) length R.bounded) S.plus in
    record {
      running = record {
        bounded = add_bounded binary32 (2 ^ 81) (2 ^ 56) (2 ^ 81) length s (reach_absorb binary32 81 56 (lit< tt) (lit≤ tt)) R.bounded S.bounded;
        held = add-fits binary32 length s;
        plus = Order.le_trans zero32 length (length ⊕ s) R.plus g;
      };
      rise = g;
    }

-- ---- places and segments between points at most 2 ^ 22
abbrev pub PlaceInside : Option Point → Type 0
PlaceInside None = Unit {0}
PlaceInside (Some p) = Inside (2 ^ 22) p

line_segment : (p q : Point) → Inside (2 ^ 22) p → Inside (2 ^ 22) q → Segment (distance p q)
line_segment p q P Q = record {
  bounded = bounded_weaken (2 ^ 24) (2 ^ 56) (distance p q) (lit≤ tt) (distance_bounded 22 (lit≤ tt) p q P Q);
  plus = distance_plus 22 (lit≤ tt) p q P Q;
}

quad_segment : (p c q : Point) → Inside (2 ^ 22) p → Inside (2 ^ 22) c → Inside (2 ^ 22) q → Segment (quad_length p c q)
quad_segment p c q P C Q = record {
  bounded = quad_bounded 22 (lit≤ tt) p c q P C Q 24 (le_refl 24);
  plus = quad_plus 22 (lit≤ tt) p c q P C Q 24 (le_refl 24);
}

cubic_segment : (p c d q : Point) → Inside (2 ^ 22) p → Inside (2 ^ 22) c → Inside (2 ^ 22) d → Inside (2 ^ 22) q → Segment (cubic_length p c d q)
cubic_segment p c d q P C D Q = record {
  bounded = cubic_bounded 22 (lit≤ tt) p c d q P C D Q 32 (le_refl 32);
  plus = cubic_plus 22 (lit≤ tt) p c d q P C D Q 32 (le_refl 32);
}

added_grown : (length : Float) (place : Option Point) (segment : Point → Float) → Running length → PlaceInside place → ((p : Point) → Inside (2 ^ 22) p → Segment (segment p)) → Grown length (added length place segment)
unfolding added
added_grown length None segment R P S = still length R
added_grown length (Some p) segment R P S = longer length (segment p) R (S p P)

-- ---- the pen
pub record SoundPen (pen : Pen) : Type 0 where
  pub running : Running pen.length
  pub point_inside : PlaceInside pen.point
  pub start_inside : PlaceInside pen.start

record After (pen after : Pen) : Type 0 where
  sound : SoundPen after
  rise : T (le pen.length after.length)

start_sound : SoundPen start_pen
unfolding start_pen
start_sound = record { running = record { bounded = zero_bounded (2 ^ 81); held = zero_fits; plus = zero_plus }; point_inside = tt; start_inside = tt }
  where
    zero_fits : T (fits binary32 zero32)
    zero_fits = unfold fits of_bits of_fields odd in tt

    zero_plus : T (le zero32 zero32)
    zero_plus = Order.le_refl zero32 (bounded_number 1 zero32 (zero_bounded 1))

arrived : (pen : Pen) (next : Point) (length : Float) → SoundPen pen → Inside (2 ^ 22) next → Grown pen.length length → After pen (arrive pen next length)
unfolding arrive
arrived pen next length P N G = record { sound = record { running = G.running; point_inside = N; start_inside = P.start_inside }; rise = G.rise }

inside : (x y : Float) → Bounded (2 ^ 22) x → Bounded (2 ^ 22) y → Inside (2 ^ 22) (record { x = x; y = y })
inside x y X Y = record { x_bounded = X; y_bounded = Y }

close_after : (pen : Pen) → SoundPen pen → After pen (close pen)
unfolding close
close_after pen P = let g = go pen.start P.start_inside in record { sound = record { running = g.running; point_inside = P.start_inside; start_inside = P.start_inside }; rise = g.rise }
  where
    go : (s : Option Point) → PlaceInside s → Grown pen.length (closing pen.length pen.point s)
    go None S = unfold closing in still pen.length P.running
    go (Some s) S = unfold closing in added_grown pen.length pen.point (λ (p : Point). distance p s) P.running P.point_inside (λ (p : Point) (I : Inside (2 ^ 22) p). line_segment p s I S)

step_after : (pen : Pen) (c : PathCommand) → SoundPen pen → AllBounded (2 ^ 22) (coordinates_of c) → After pen (step pen c)
unfolding step move_to line_to quad_to cubic_to
step_after pen (Move x y) P C =
    let n = inside x y C.0 C.1.0 in
    record { sound = record { running = P.running; point_inside = n; start_inside = n }; rise = (still pen.length P.running).rise }
step_after pen (Line x y) P C =
    let next : Point = record { x = x; y = y } in
    let n = inside x y C.0 C.1.0 in
    arrived pen next (added pen.length pen.point (λ (p : Point). distance p next)) P n
    (added_grown pen.length pen.point (λ (p : Point). distance p next) P.running P.point_inside (λ (p : Point) (I : Inside (2 ^ 22) p). line_segment p next I n))
step_after pen (Cubic ax ay bx by x y) P C =
    let a : Point = record { x = ax; y = ay } in
    let b : Point = record { x = bx; y = by } in
    let next : Point = record { x = x; y = y } in
    let i = inside ax ay C.0 C.1.0 in
    let j = inside bx by C.1.1.0 C.1.1.1.0 in
    let n = inside x y C.1.1.1.1.0 C.1.1.1.1.1.0 in
    arrived pen next (added pen.length pen.point (λ (p : Point). cubic_length p a b next)) P n
    (added_grown pen.length pen.point (λ (p : Point). cubic_length p a b next) P.running P.point_inside (λ (p : Point) (I : Inside (2 ^ 22) p). cubic_segment p a b next I i j n))
step_after pen Close P C = close_after pen P
step_after pen (Quad ax ay x y) P C =
    let a : Point = record { x = ax; y = ay } in
    let next : Point = record { x = x; y = y } in
    let i = inside ax ay C.0 C.1.0 in
    let n = inside x y C.1.1.0 C.1.1.1.0 in
    arrived pen next (added pen.length pen.point (λ (p : Point). quad_length p a next)) P n
    (added_grown pen.length pen.point (λ (p : Point). quad_length p a next) P.running P.point_inside (λ (p : Point) (I : Inside (2 ^ 22) p). quad_segment p a next I i n))

-- ---- lists of commands
steps_after : (pen : Pen) (cs : List PathCommand) → SoundPen pen → AllBounded (2 ^ 22) (numbers_of cs) → After pen (steps pen cs)
unfolding steps
steps_after pen [] P C = record { sound = P; rise = (still pen.length P.running).rise }
steps_after pen (c ∷ cs) P C =
    let t = each_split (Bounded (2 ^ 22)) (coordinates_of c) (numbers_of cs) C in
    let a = step_after pen c P t.0 in
    let b = steps_after (step pen c) cs a.sound t.1 in
    record { sound = b.sound; rise = Order.le_trans pen.length (step pen c).length (steps (step pen c) cs).length a.rise b.rise }

steps_rise : (pen : Pen) (cs : List PathCommand) (i j : ℕ) → i ≤ j → SoundPen pen → AllBounded (2 ^ 22) (numbers_of cs) → T (le (steps pen (take i cs)).length (steps pen (take j cs)).length)
unfolding steps
steps_rise pen cs zero j h P C = (steps_after pen (take j cs) P (bounded_take (2 ^ 22) j cs C)).rise
steps_rise pen cs (suc i) zero h P C = absurd (not-suc-le-zero h)
steps_rise pen [] (suc i) (suc j) h P C = (still pen.length P.running).rise
steps_rise pen (c ∷ cs) (suc i) (suc j) h P C =
    let t = each_split (Bounded (2 ^ 22)) (coordinates_of c) (numbers_of cs) C in
    steps_rise (step pen c) cs i j (le_of_suc-le-suc h) (step_after pen c P t.0).sound t.1

-- ---- one command more
steps_append : (pen : Pen) (cs ds : List PathCommand) → steps pen (cs ++ ds) ≡ steps (steps pen cs) ds
unfolding steps
steps_append pen [] ds = refl
steps_append pen (c ∷ cs) ds = steps_append (step pen c) cs ds

take_step : (cs : List PathCommand) (i : ℕ) → i < length cs → length_after (take (suc i) cs) ≡ step (length_after (take i cs)) (get_or cs i Close)
unfolding length_after steps
take_step cs i h = ap (steps start_pen) (take-suc cs i Close h) ∙ steps_append start_pen (take i cs) (get_or cs i Close ∷ [])

added_at : (length : Float) (place : Option Point) (p : Point) (segment : Point → Float) → place ≡ Some p → added length place segment ≡ length ⊕ segment p
unfolding added
added_at length place p segment e = ap (λ (z : Option Point). added length z segment) e

-- ---- inside a curve: the length before it and the first n of its chords
module _ (length : Float) (R : Running length) where
  run_rise : (s t : Float) → Segment s → Segment t → T (le s t) → T (le (length ⊕ s) (length ⊕ t))
  run_rise s t S X h = add_le_right binary32 length s t (bounded_finite (2 ^ 81) length R.bounded) (bounded_finite (2 ^ 56) s S.bounded) (bounded_finite (2 ^ 56) t X.bounded) h

  module _ (p c q : Point) (P : Inside (2 ^ 22) p) (C : Inside (2 ^ 22) c) (Q : Inside (2 ^ 22) q) where
    quad_part : (n : ℕ) → n ≤ 24 → Segment (quad_length_after n p c q)
    quad_part n h = record { bounded = quad_bounded 22 (lit≤ tt) p c q P C Q n h; plus = quad_plus 22 (lit≤ tt) p c q P C Q n h }

    quad_run_rise : (n m : ℕ) → n ≤ m → m ≤ 24 → T (le (length ⊕ quad_length_after n p c q) (length ⊕ quad_length_after m p c q))
    quad_run_rise n m h M = run_rise (quad_length_after n p c q) (quad_length_after m p c q) (quad_part n (le_trans h M)) (quad_part m M) (quad_rise 22 (lit≤ tt) p c q P C Q n m h M)

    quad_run_from : (n : ℕ) → n ≤ 24 → T (le length (length ⊕ quad_length_after n p c q))
    quad_run_from n h = (longer length (quad_length_after n p c q) R (quad_part n h)).rise

  module _ (p c d q : Point) (P : Inside (2 ^ 22) p) (C : Inside (2 ^ 22) c) (D : Inside (2 ^ 22) d) (Q : Inside (2 ^ 22) q) where
    cubic_part : (n : ℕ) → n ≤ 32 → Segment (cubic_length_after n p c d q)
    cubic_part n h = record { bounded = cubic_bounded 22 (lit≤ tt) p c d q P C D Q n h; plus = cubic_plus 22 (lit≤ tt) p c d q P C D Q n h }

    cubic_run_rise : (n m : ℕ) → n ≤ m → m ≤ 32 → T (le (length ⊕ cubic_length_after n p c d q) (length ⊕ cubic_length_after m p c d q))
    cubic_run_rise n m h M = run_rise (cubic_length_after n p c d q) (cubic_length_after m p c d q) (cubic_part n (le_trans h M)) (cubic_part m M) (cubic_rise 22 (lit≤ tt) p c d q P C D Q n m h M)

    cubic_run_from : (n : ℕ) → n ≤ 32 → T (le length (length ⊕ cubic_length_after n p c d q))
    cubic_run_from n h = (longer length (cubic_length_after n p c d q) R (cubic_part n h)).rise

-- ---- a list whose numbers are within the limit
module _ (cs : List PathCommand) (W : all_within command_limit (numbers_of cs) ≡ true) where
  -- the pen after the first i commands: its length, its point and its contour's start
  pub take_sound : (i : ℕ) → SoundPen (length_after (take i cs))
  unfolding length_after
  take_sound i = (steps_after start_pen (take i cs) start_sound (bounded_take (2 ^ 22) i cs (within→commands cs W))).sound

  -- the length is finite and bounded, the format holds it, and it is not negative
  pub length_running : Running (path_length cs)
  unfolding path_length length_after
  length_running = (steps_after start_pen cs start_sound (within→commands cs W)).sound.running

  pub length_finite : T (finite (path_length cs))
  length_finite = bounded_finite (2 ^ 81) (path_length cs) length_running.bounded

  pub length_fits : T (fits binary32 (path_length cs))
  length_fits = length_running.held

  pub length_plus : T (le zero32 (path_length cs))
  length_plus = length_running.plus

  -- from command to command it never falls
  pub length_rise : (i j : ℕ) → i ≤ j → T (le (path_length (take i cs)) (path_length (take j cs)))
  unfolding path_length length_after
  length_rise i j h = steps_rise start_pen cs i j h start_sound (within→commands cs W)

  -- at the command of place i, which starts at the point p
  module _ (i : ℕ) (p : Point) (here : (length_after (take i cs)).point ≡ Some p) where
    here_running : Running (path_length (take i cs))
    unfolding path_length
    here_running = (take_sound i).running

    here_inside : Inside (2 ^ 22) p
    here_inside = subst PlaceInside here (take_sound i).point_inside

    here_bounded : (c : PathCommand) → get_or cs i Close ≡ c → AllBounded (2 ^ 22) (coordinates_of c)
    here_bounded c e = subst (λ (z : PathCommand). AllBounded (2 ^ 22) (coordinates_of z)) e (bounded_command (2 ^ 22) cs i (within→commands cs W))

    -- a quad: its running length starts at the length before it or above, never falls, and ends as the length after it
    module _ (ax ay x y : Float) (is : get_or cs i Close ≡ Quad ax ay x y) where
      abbrev quad_run : ℕ → Float
      quad_run n = path_length (take i cs) ⊕ quad_length_after n p (record { x = ax; y = ay }) (record { x = x; y = y })

      pub quad_inside_from : (n : ℕ) → n ≤ 24 → T (le (path_length (take i cs)) (quad_run n))
      quad_inside_from n h =
          let C = here_bounded (Quad ax ay x y) is in
          quad_run_from (path_length (take i cs)) here_running p (record { x = ax; y = ay }) (record { x = x; y = y }) here_inside (inside ax ay C.0 C.1.0) (inside x y C.1.1.0 C.1.1.1.0) n h

      pub quad_inside_rise : (n m : ℕ) → n ≤ m → m ≤ 24 → T (le (quad_run n) (quad_run m))
      quad_inside_rise n m h M =
          let C = here_bounded (Quad ax ay x y) is in
          quad_run_rise (path_length (take i cs)) here_running p (record { x = ax; y = ay }) (record { x = x; y = y }) here_inside (inside ax ay C.0 C.1.0) (inside x y C.1.1.0 C.1.1.1.0) n m h M

      pub quad_inside_whole : i < length cs → path_length (take (suc i) cs) ≡ quad_run 24
      unfolding step quad_to arrive path_length
      quad_inside_whole h = ap (λ (pen : Pen). pen.length) (take_step cs i h ∙ ap (step (length_after (take i cs))) is) ∙ added_at (length_after (take i cs)).length (length_after (take i cs)).point p (λ (o : Point). quad_length o (record { x = ax; y = ay }) (record { x = x; y = y })) here

    -- a cubic, the same
    module _ (ax ay bx by x y : Float) (is : get_or cs i Close ≡ Cubic ax ay bx by x y) where
      abbrev cubic_run : ℕ → Float
      cubic_run n = path_length (take i cs) ⊕ cubic_length_after n p (record { x = ax; y = ay }) (record { x = bx; y = by }) (record { x = x; y = y })

      pub cubic_inside_from : (n : ℕ) → n ≤ 32 → T (le (path_length (take i cs)) (cubic_run n))
      cubic_inside_from n h =
          let C = here_bounded (Cubic ax ay bx by x y) is in
          cubic_run_from (path_length (take i cs)) here_running p (record { x = ax; y = ay }) (record { x = bx; y = by }) (record { x = x; y = y }) here_inside
          (inside ax ay C.0 C.1.0) (inside bx by C.1.1.0 C.1.1.1.0) (inside x y C.1.1.1.1.0 C.1.1.1.1.1.0) n h

      pub cubic_inside_rise : (n m : ℕ) → n ≤ m → m ≤ 32 → T (le (cubic_run n) (cubic_run m))
      cubic_inside_rise n m h M =
          let C = here_bounded (Cubic ax ay bx by x y) is in
          cubic_run_rise (path_length (take i cs)) here_running p (record { x = ax; y = ay }) (record { x = bx; y = by }) (record { x = x; y = y }) here_inside
          (inside ax ay C.0 C.1.0) (inside bx by C.1.1.0 C.1.1.1.0) (inside x y C.1.1.1.1.0 C.1.1.1.1.1.0) n m h M

      pub cubic_inside_whole : i < length cs → path_length (take (suc i) cs) ≡ cubic_run 32
      unfolding step cubic_to arrive path_length
      cubic_inside_whole h = ap (λ (pen : Pen). pen.length) (take_step cs i h ∙ ap (step (length_after (take i cs))) is) ∙ added_at (length_after (take i cs)).length (length_after (take i cs)).point p (λ (o : Point). cubic_length o (record { x = ax; y = ay }) (record { x = bx; y = by }) (record { x = x; y = y })) here
