-- Laws of enlarged command lists: the codes stay, the numbers are multiplied, and all are within the limit; and how such lists are built, and outcomes
-- that have them. Assumes nothing.
use Rattle.std.specs.Prelude.{Ok, Err}
use mathlib.Core.Path.{◌≡◌, refl, sym, ap, ap₂, ◌∙◌, subst}
use mathlib.Core.Bool.{Bool, true, false, cond}
use mathlib.Core.List.{List, [], ◌∷◌, ◌++◌, map, map-append}
use Prim.Native.Nat.{ℕ, zero, suc, ◌+◌, ◌≤◌}
use native.Mathlib.Nat.{zero-lt-suc, le_refl}
use lib.Dec.{lit≤}
use lib.ListN.{length, take, length-map}
use lib.Ieee.{Float, of_bits}
use lib.Ieee.Bits.{is_true}
use lib.Ieee.Exact.{HasValue}
use Rattle.ieee.specs.Limit.{within}
use Rattle.ieee.specs.Grid.{scale, On, Twin}
use Rattle.ieee.proofs.Grid.{weaken, scale_on}
use Rattle.ieee.proofs.Each.{each_append, each_split}
use Rattle.ieee.proofs.Limits as Limits
use Rattle.command.specs.declared.PathCommand.{PathCommand}
use Rattle.command.specs.declared.PathCommand.TheVariants.{Move, Line, Cubic, Close, Quad}
use Rattle.command.specs.declared.Refusal.{Refusal}
use Rattle.command.specs.Commands.{code_of, coordinates_of, codes_of, numbers_of, command_limit}
use Rattle.command.specs.Outcomes.{Outcome, Check, checked, AllPass}
use Rattle.command.specs.Buffers.{size_of, need_of}
use Rattle.command.specs.Enlarged.{enlarged, AllOn, CommandTwin, Twins, enlarged_drawing, DrawingTwin}
use Rattle.command.proofs.Outcomes.{checks_relate}
use Rattle.command.proofs.Lists.{numbers_append}

-- ---- numbers on a grid
pub all_weaken : (q b q' b' : ℕ) (xs : List Float) → q ≤ q' → b ≤ b' → AllOn q b xs → AllOn q' b' xs
all_weaken q b q' b' [] Q B X = tt
all_weaken q b q' b' (x ∷ xs) Q B X = (weaken q b q' b' x Q B X.0, all_weaken q b q' b' xs Q B X.1)

pub all_scale : (k q b : ℕ) (xs : List Float) → AllOn q b xs → AllOn q (b + k) (map (scale k) xs)
all_scale k q b [] X = tt
all_scale k q b (x ∷ xs) X = (scale_on k q b x X.0, all_scale k q b xs X.1)

-- ---- the codes and the numbers of an enlarged list
enlarged_code : (k : ℕ) (c : PathCommand) → code_of (enlarged k c) ≡ code_of c
enlarged_code k (Move x y) = refl
enlarged_code k (Line x y) = refl
enlarged_code k (Cubic ax ay bx by x y) = refl
enlarged_code k Close = refl
enlarged_code k (Quad ax ay x y) = refl

enlarged_coordinates : (k : ℕ) (c : PathCommand) → coordinates_of (enlarged k c) ≡ map (scale k) (coordinates_of c)
enlarged_coordinates k (Move x y) = refl
enlarged_coordinates k (Line x y) = refl
enlarged_coordinates k (Cubic ax ay bx by x y) = refl
enlarged_coordinates k Close = refl
enlarged_coordinates k (Quad ax ay x y) = refl

pub enlarged_codes : (k : ℕ) (cs : List PathCommand) → codes_of (map (enlarged k) cs) ≡ codes_of cs
enlarged_codes k [] = refl
enlarged_codes k (c ∷ cs) = ap₂ (λ (n : ℕ) (ns : List ℕ). n ∷ ns) (enlarged_code k c) (enlarged_codes k cs)

pub enlarged_numbers : (k : ℕ) (cs : List PathCommand) → numbers_of (map (enlarged k) cs) ≡ map (scale k) (numbers_of cs)
enlarged_numbers k [] = refl
enlarged_numbers k (c ∷ cs) =
    ap₂ (λ (xs ys : List Float). xs ++ ys) (enlarged_coordinates k c) (enlarged_numbers k cs) ∙ sym (map-append (scale k) (coordinates_of c) (numbers_of cs))

-- ---- so enlarging changes no need
pub enlarged_size : (k : ℕ) (cs : List PathCommand) → size_of (map (enlarged k) cs) ≡ size_of cs
enlarged_size k cs = λ i. (length (enlarged_codes k cs i), (ap length (enlarged_numbers k cs) ∙ length-map (numbers_of cs) (scale k)) i)

pub enlarged_need : (k : ℕ) (o o' : Outcome (List PathCommand)) → o' ≡ enlarged_drawing k o → need_of o' ≡ need_of o
enlarged_need k o o' e = ap need_of e ∙ go o
  where
    go : (p : Outcome (List PathCommand)) → need_of (enlarged_drawing k p) ≡ need_of p
    go (Err r) = refl
    go (Ok cs) = ap Ok (enlarged_size k cs)

-- ---- the limit, which no number of a grid up to 2 ^ 22 passes
pub limit_value : HasValue command_limit false 4194304 1
unfolding of_bits
limit_value = (refl, refl)

pub grid_within : (q b : ℕ) (x : Float) → b ≤ 22 → On q b x → within command_limit x ≡ true
grid_within q b x B X = is_true (within command_limit x) (Limits.within q 22 x command_limit 4194304 1 (weaken q b q 22 x (le_refl q) B X) (zero-lt-suc 0) limit_value (lit≤ tt))

-- ---- what two lists that differ by the factor share
module _ {k q b : ℕ} {cs cs' : List PathCommand} (t : Twins k q b cs cs') where
  pub twins_codes : codes_of cs' ≡ codes_of cs
  twins_codes = ap codes_of t.commands ∙ enlarged_codes k cs

  pub twins_numbers : numbers_of cs' ≡ map (scale k) (numbers_of cs)
  twins_numbers = ap numbers_of t.commands ∙ enlarged_numbers k cs

  pub twins_length : length cs' ≡ length cs
  twins_length = ap length t.commands ∙ length-map cs (enlarged k)

  pub twins_grid : AllOn q (b + k) (numbers_of cs')
  twins_grid = subst (λ (xs : List Float). AllOn q (b + k) xs) (sym twins_numbers) (all_scale k q b (numbers_of cs) t.grid)

-- ---- one command
module _ {k q b : ℕ} where
  pub twin_close : CommandTwin k q b Close Close
  twin_close = record { command = refl; grid = tt }

  module _ {x x' y y' : Float} (X : Twin k q b x x') (Y : Twin k q b y y') where
    pub twin_move : CommandTwin k q b (Move x y) (Move x' y')
    twin_move = record { command = λ i. Move (X.is i) (Y.is i); grid = (X.grid, (Y.grid, tt)) }

    pub twin_line : CommandTwin k q b (Line x y) (Line x' y')
    twin_line = record { command = λ i. Line (X.is i) (Y.is i); grid = (X.grid, (Y.grid, tt)) }

  pub twin_cubic : {ax ax' ay ay' bx bx' by by' x x' y y' : Float} → Twin k q b ax ax' → Twin k q b ay ay' → Twin k q b bx bx' → Twin k q b by by' → Twin k q b x x' → Twin k q b y y' → CommandTwin k q b (Cubic ax ay bx by x y) (Cubic ax' ay' bx' by' x' y')
  twin_cubic AX AY BX BY X Y = record {
    command = λ i. Cubic (AX.is i) (AY.is i) (BX.is i) (BY.is i) (X.is i) (Y.is i);
    grid = (AX.grid, (AY.grid, (BX.grid, (BY.grid, (X.grid, (Y.grid, tt))))));
  }

  -- one of two, by a test that is the same
  pub twin_choice : {t t' : Bool} {c c' d d' : PathCommand} → t' ≡ t → CommandTwin k q b c c' → CommandTwin k q b d d' → CommandTwin k q b (cond t c d) (cond t' c' d')
  twin_choice {t = t} {c = c} {c' = c'} {d = d} {d' = d'} e C D = subst (λ (z : Bool). CommandTwin k q b (cond t c d) (cond z c' d')) (sym e) (go t)
    where
      go : (t : Bool) → CommandTwin k q b (cond t c d) (cond t c' d')
      go true = C
      go false = D

  -- ---- a list, command by command
  pub twins_none : Twins k q b [] []
  twins_none = record { commands = refl; grid = tt }

  pub twins_cons : {c c' : PathCommand} {cs cs' : List PathCommand} → CommandTwin k q b c c' → Twins k q b cs cs' → Twins k q b (c ∷ cs) (c' ∷ cs')
  twins_cons {c} {c'} {cs} {cs'} C Cs = record {
    commands = λ i. C.command i ∷ Cs.commands i;
    grid = each_append (On q b) (coordinates_of c) (numbers_of cs) C.grid Cs.grid;
  }

  pub twins_append : {cs cs' ds ds' : List PathCommand} → Twins k q b cs cs' → Twins k q b ds ds' → Twins k q b (cs ++ ds) (cs' ++ ds')
  twins_append {cs} {cs'} {ds} {ds'} Cs Ds = record {
    commands = ap₂ (λ (xs ys : List PathCommand). xs ++ ys) Cs.commands Ds.commands ∙ sym (map-append (enlarged k) cs ds);
    grid = subst (λ (xs : List Float). AllOn q b xs) (sym (numbers_append cs ds)) (each_append (On q b) (numbers_of cs) (numbers_of ds) Cs.grid Ds.grid);
  }

  -- one of two lists, by a test that is the same
  pub twins_choice : {t t' : Bool} {cs cs' ds ds' : List PathCommand} → t' ≡ t → Twins k q b cs cs' → Twins k q b ds ds' → Twins k q b (cond t cs ds) (cond t' cs' ds')
  twins_choice {t = t} {cs = cs} {cs' = cs'} {ds = ds} {ds' = ds'} e C D = subst (λ (z : Bool). Twins k q b (cond t cs ds) (cond z cs' ds')) (sym e) (go t)
    where
      go : (t : Bool) → Twins k q b (cond t cs ds) (cond t cs' ds')
      go true = C
      go false = D

pub twins_weaken : (k q b q' b' : ℕ) (cs cs' : List PathCommand) → q ≤ q' → b ≤ b' → Twins k q b cs cs' → Twins k q' b' cs cs'
twins_weaken k q b q' b' cs cs' Q B t = record { commands = t.commands; grid = all_weaken q b q' b' (numbers_of cs) Q B t.grid }

-- ---- parts of a list
pub twins_take : {k q b : ℕ} {cs cs' : List PathCommand} (n : ℕ) → Twins k q b cs cs' → Twins k q b (take n cs) (take n cs')
twins_take {k} {q} {b} {cs} {cs'} n t = subst (λ (ds : List PathCommand). Twins k q b (take n cs) (take n ds)) (sym t.commands) (go n cs t.grid)
  where
    go : (n : ℕ) (cs : List PathCommand) → AllOn q b (numbers_of cs) → Twins k q b (take n cs) (take n (map (enlarged k) cs))
    go zero cs A = twins_none
    go (suc n) [] A = twins_none
    go (suc n) (c ∷ cs) A =
        let s = each_split (On q b) (coordinates_of c) (numbers_of cs) A in
        twins_cons (record { command = refl; grid = s.0 }) (go n cs s.1)

-- ---- what is drawn
module _ {k q b : ℕ} where
  pub drawing_refused : (r : Refusal) → DrawingTwin k q b (Err r) (Err r)
  drawing_refused r = record { outcome = refl; grid = tt }

  pub drawing_accepted : {cs cs' : List PathCommand} → Twins k q b cs cs' → DrawingTwin k q b (Ok cs) (Ok cs')
  drawing_accepted t = record { outcome = ap Ok t.commands; grid = t.grid }

  -- behind the same checks
  pub drawing_checked : (cs : List Check) {o o' : Outcome (List PathCommand)} → (AllPass cs → DrawingTwin k q b o o') → DrawingTwin k q b (checked cs o) (checked cs o')
  drawing_checked cs {o} {o'} last = checks_relate (DrawingTwin k q b) drawing_refused cs o o' last
