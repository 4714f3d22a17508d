-- What is so of every kind is so of a row's shape: a premise a kind, with how many numbers it has. Assumes nothing.
use Rattle.std.specs.Prelude.{Ok, Err}
use mathlib.Core.Path.{◌≡◌, refl}
use mathlib.Core.Bool.{Bool, true, false, cond}
use mathlib.Core.List.{List}
use Prim.Native.Nat.{◌*◌}
use lib.Ieee.{Float}
use Rattle.command.specs.declared.Refusal.{Refusal}
use Rattle.command.specs.declared.Refusal.TheVariants.{Unsupported}
use Rattle.command.specs.Outcomes.{Outcome}
use Rattle.shape.specs.declared.Shape.{Shape}
use Rattle.shape.specs.declared.Shape.TheVariants.{Path, Ellipse}
use Rattle.item.specs.declared.ItemRow.{ItemRow}
use Rattle.item.specs.Rows.{is_path, is_rect, is_ellipse, entries_of}
use Rattle.item.proofs.Entries.{entries_path, entries_rect, entries_ellipse}
use Rattle.draw.specs.Items.{rect_of, item_shape}

-- what holds of both answers to a test holds of the choice between them
either : {A B : Type 0} (R : A → B → Type 0) (b : Bool) {x y : A} {x' y' : B} → (b ≡ true → R x x') → (b ≡ false → R y y') → R (cond b x y) (cond b x' y')
either R true f g = f refl
either R false f g = g refl

-- the shapes of one row over two lists of numbers
pub kinds_relate : (R : Outcome Shape → Outcome Shape → Type 0) (row : ItemRow) (v v' : List Float)
    → (is_path row ≡ true → entries_of row ≡ 6 * row.count → R (Ok (Path row.mark row.count)) (Ok (Path row.mark row.count)))
    → (is_path row ≡ false → entries_of row ≡ 5 → R (Ok (rect_of v)) (Ok (rect_of v')))
    → (is_path row ≡ false → entries_of row ≡ 4 → R (Ok Ellipse) (Ok Ellipse))
    → ((r : Refusal) → R (Err r) (Err r))
    → R (item_shape row v) (item_shape row v')
unfolding item_shape
kinds_relate R row v v' path rectangle ellipse none =
    either R (is_path row) (λ p. path p (entries_path row p))
    (λ p. either R (is_rect row) (λ r. rectangle p (entries_rect row p r))
    (λ r. either R (is_ellipse row) (λ e. ellipse p (entries_ellipse row p r e))
    (λ e. none Unsupported)))

-- the shape of one
pub kinds_hold : (P : Outcome Shape → Type 0) (row : ItemRow) (v : List Float)
    → (is_path row ≡ true → entries_of row ≡ 6 * row.count → P (Ok (Path row.mark row.count)))
    → (is_path row ≡ false → entries_of row ≡ 5 → P (Ok (rect_of v)))
    → (is_path row ≡ false → entries_of row ≡ 4 → P (Ok Ellipse))
    → ((r : Refusal) → P (Err r))
    → P (item_shape row v)
kinds_hold P row v path rectangle ellipse none = kinds_relate (λ (o o' : Outcome Shape). P o) row v v path rectangle ellipse none
