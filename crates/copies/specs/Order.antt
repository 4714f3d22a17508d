-- The order in which copies are drawn: `repeater_copy_order` of drawing_paths.rs. Definitions only.
use Rattle.std.specs.Prelude.{ℕ, zero, suc, cond, List, [], ◌∷◌, eqb}
use Rattle.repeater.specs.declared.RepeaterStyle.{RepeaterStyle}
use Rattle.repeater.specs.Repeater.{copy_count}

-- n numbers from i on, and the numbers below n from the last on
unfoldable pub rising : ℕ → ℕ → List ℕ
rising i zero = []
rising i (suc n) = i ∷ rising (suc i) n

unfoldable pub falling : ℕ → List ℕ
falling zero = []
falling (suc n) = n ∷ falling n

-- 0, 1, .. in mode 1, else the other way round
unfoldable pub order_of : ℕ → ℕ → List ℕ
order_of mode n = cond (eqb mode 1) (rising 0 n) (falling n)

unfoldable pub copy_order : RepeaterStyle → List ℕ
copy_order r = order_of r.mode (copy_count r)
