-- What a merge answers is a sound command list: every number of it is within the limit of command lists, and it is no longer than such a list may be. Assumes nothing.
use Rattle.std.specs.Prelude.{Ok, Err}
use mathlib.Core.Path.{◌≡◌, refl, sym, ap, subst}
use mathlib.Core.Bool.{true}
use mathlib.Core.List.{List, [], ◌∷◌, ◌++◌, map}
use Prim.Native.Nat.{ℕ, ◌+◌, ◌*◌, ◌≤◌}
use native.Mathlib.Omega.{arith}
use lib.Ieee.{Float}
use lib.ListN.{length, length-append, length-map}
use Rattle.ieee.specs.Limit.{all_within}
use Rattle.ieee.proofs.Each.{within_append}
use Rattle.command.specs.declared.PathCommand.{PathCommand}
use Rattle.command.specs.Commands.{numbers_of, command_limit}
use Rattle.command.specs.Outcomes.{Outcome, and_then, list_of}
use Rattle.command.proofs.Outcomes.{refused_accepted}
use Rattle.command.proofs.Lists.{numbers_append}
use Rattle.item.specs.declared.ItemRow.{ItemRow}
use Rattle.item.specs.Rows.{item_row}
use Rattle.draw.specs.Items.{draw_source}
use Rattle.draw.proofs.Sources.{source_few}
use Rattle.draw.proofs.Sound.{SoundOutcome, refusal_sound, source_sound}
use Rattle.merge.specs.Decision.{decision}
use Rattle.join.specs.Merge.{followed_by, draw_sources, draw_joined, draw_merge}
use Rattle.join.proofs.Joined.{joined_few}

-- ---- the numbers
followed_sound : (o p : Outcome (List PathCommand)) → SoundOutcome o → SoundOutcome p → SoundOutcome (followed_by o p)
unfolding followed_by
followed_sound (Err r) p O P = refusal_sound
followed_sound (Ok cs) (Err r) O P = refusal_sound
followed_sound (Ok cs) (Ok ds) O P = rw (numbers_append cs ds, within_append command_limit (numbers_of cs) (numbers_of ds), O, P)

sources_sound : (rs : List ItemRow) (items : List Float) → SoundOutcome (draw_sources rs items)
unfolding draw_sources
sources_sound [] items = refusal_sound
sources_sound (r ∷ rs) items = followed_sound (draw_source r items) (draw_sources rs items) (source_sound r items) (sources_sound rs items)

pub draw_merge_sound : (rows : List ℕ) (n : ℕ) (items : List Float) → SoundOutcome (draw_merge rows n items)
unfolding draw_merge draw_joined
draw_merge_sound rows n items = go (decision rows n)
  where
    go : (d : Outcome (List ℕ)) → SoundOutcome (and_then d (draw_joined rows items))
    go (Err r) = refusal_sound
    go (Ok numbers) = sources_sound (map (item_row rows) numbers) items

pub drawn_merge_sound : (rows : List ℕ) (n : ℕ) (items : List Float) (cs : List PathCommand) → draw_merge rows n items ≡ Ok cs → all_within command_limit (numbers_of cs) ≡ true
drawn_merge_sound rows n items cs e = subst SoundOutcome e (draw_merge_sound rows n items)

-- ---- the length: at most 255 sources of at most 1,026 commands
followed_few : (o p : Outcome (List PathCommand)) (a b : ℕ) (es : List PathCommand) → ((cs : List PathCommand) → o ≡ Ok cs → length cs ≤ a) → ((ds : List PathCommand) → p ≡ Ok ds → length ds ≤ b)
    → followed_by o p ≡ Ok es → length es ≤ a + b
unfolding followed_by
followed_few (Err r) p a b es O P e = refused_accepted r es e
followed_few (Ok cs) (Err r) a b es O P e = refused_accepted r es e
followed_few (Ok cs) (Ok ds) a b es O P e =
    let f : es ≡ cs ++ ds = sym (ap list_of e) in
    omega (arith, ap length f, length-append cs ds, O cs refl, P ds refl)

sources_few : (rs : List ItemRow) (items : List Float) (cs : List PathCommand) → draw_sources rs items ≡ Ok cs → length cs ≤ 1026 * length rs
unfolding draw_sources
sources_few [] items cs e = let f : cs ≡ [] = sym (ap list_of e) in omega (arith, ap length f)
sources_few (r ∷ rs) items cs e =
    let l : length cs ≤ 1026 + 1026 * length rs = followed_few (draw_source r items) (draw_sources rs items) 1026 (1026 * length rs) cs (source_few r items) (sources_few rs items) e in
    omega arith

pub drawn_merge_few : (rows : List ℕ) (n : ℕ) (items : List Float) (cs : List PathCommand) → draw_merge rows n items ≡ Ok cs → length cs ≤ 262144
unfolding draw_merge draw_joined
drawn_merge_few rows n items cs e = go (decision rows n) refl e
  where
    go : (d : Outcome (List ℕ)) → decision rows n ≡ d → and_then d (draw_joined rows items) ≡ Ok cs → length cs ≤ 262144
    go (Err r) f g = refused_accepted r cs g
    go (Ok numbers) f g = omega (arith, sources_few (map (item_row rows) numbers) items cs g, length-map numbers (item_row rows), joined_few rows n numbers f)
