-- Laws of what a sheet writes: one list of commands after another, in room for both. Assumes nothing.
use mathlib.Core.Path.{◌≡◌, refl, sym, ◌∙◌}
use mathlib.Core.List.{List, [], ◌∷◌, ◌++◌}
use Prim.Native.Nat.{ℕ, ◌+◌, ◌<◌}
use native.Mathlib.Nat.{add-zero}
use native.Mathlib.Omega.{arith}
use lib.ListN.{length, get_or, take, drop, length-append}
use lib.Seq.{length-sets}
use Rattle.std.proofs.lemmas.List.{take_more, take-append-drop}
use Rattle.command.specs.declared.PathCommand.{PathCommand}
use Rattle.command.specs.Commands.{codes_of, numbers_of}
use Rattle.command.proofs.Buffers.{sets_append}
use Rattle.command.proofs.Lists.{codes_append, numbers_append}
use Rattle.sheet.specs.declared.Sheet.{Sheet}
use Rattle.sheet.specs.Sheets.{HasRoom, Wrote}

pub codes_both : (cs ds : List PathCommand) → length (codes_of (cs ++ ds)) ≡ length (codes_of cs) + length (codes_of ds)
codes_both cs ds = rw (codes_append, length-append) refl

pub numbers_both : (cs ds : List PathCommand) → length (numbers_of (cs ++ ds)) ≡ length (numbers_of cs) + length (numbers_of ds)
numbers_both cs ds = rw (numbers_append, length-append) refl

module _ (p : Sheet) where
  pub wrote_none : Wrote [] p p
  wrote_none = record {
    same_codes = refl;
    same_numbers = refl;
    codes_at = sym (add-zero p.at.codes);
    numbers_at = sym (add-zero p.at.numbers);
    codes_are = refl;
    numbers_are = refl;
  }

module _ (all cs ds : List PathCommand) (is : all ≡ cs ++ ds) (p q : Sheet) where
  pub room_first : HasRoom all p → HasRoom cs p
  room_first h = let r = rw is at h in record {
    codes_fit = omega (arith, codes_both cs ds, r.codes_fit);
    numbers_fit = omega (arith, numbers_both cs ds, r.numbers_fit);
  }

  pub room_next : HasRoom all p → Wrote cs p q → HasRoom ds q
  room_next h w = let r = rw is at h in record {
    codes_fit = rw (w.codes_are, length-sets p.codes.now p.at.codes (codes_of cs)) (omega (arith, codes_both cs ds, r.codes_fit, w.codes_at));
    numbers_fit = rw (w.numbers_are, length-sets p.numbers.now p.at.numbers (numbers_of cs)) (omega (arith, numbers_both cs ds, r.numbers_fit, w.numbers_at));
  }

  pub wrote_both : (r : Sheet) → Wrote cs p q → Wrote ds q r → Wrote all p r
  wrote_both r v w = rw is (record {
    same_codes = w.same_codes ∙ v.same_codes;
    same_numbers = w.same_numbers ∙ v.same_numbers;
    codes_at = omega (arith, codes_both cs ds, v.codes_at, w.codes_at);
    numbers_at = omega (arith, numbers_both cs ds, v.numbers_at, w.numbers_at);
    codes_are = rw (codes_append cs ds, sets_append (codes_of cs) (codes_of ds) p.codes.now p.at.codes) (rw (v.codes_are, v.codes_at) at w.codes_are);
    numbers_are = rw (numbers_append cs ds, sets_append (numbers_of cs) (numbers_of ds) p.numbers.now p.at.numbers) (rw (v.numbers_are, v.numbers_at) at w.numbers_are);
  })

-- ---- commands one after another, of which k are written
module _ (cs : List PathCommand) (k : ℕ) (p q : Sheet) (w : Wrote (take k cs) p q) where
  module _ (d : PathCommand) (h : k < length cs) where
    pub room_more : HasRoom cs p → HasRoom (get_or cs k d ∷ []) q
    room_more room =
        room_next (take (k + 1) cs) (take k cs) (get_or cs k d ∷ []) (take_more cs k d h) p q
        (room_first cs (take (k + 1) cs) (drop (k + 1) cs) (sym (take-append-drop (k + 1) cs)) p p room) w

    pub wrote_more : (r : Sheet) → Wrote (get_or cs k d ∷ []) q r → Wrote (take (k + 1) cs) p r
    wrote_more r v = wrote_both (take (k + 1) cs) (take k cs) (get_or cs k d ∷ []) (take_more cs k d h) p q r w v
