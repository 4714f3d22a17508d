-- What each way out of a function of this crate owes, as the code meets it: a premise for each test and for each call's result.
-- Assumes nothing.
use Rattle.command.specs.declared.Size.{Size}
use Rattle.std.specs.Prelude.{Ok, Err}
use mathlib.Core.Path.{◌≡◌, refl, sym, ap, ◌∙◌}
use mathlib.Core.Bool.{Bool, true, false, cond}
use mathlib.Core.List.{List, [], ◌∷◌, ◌++◌, map, append_assoc, append-nil}
use Prim.Native.Nat.{ℕ, zero, suc, ◌+◌, ◌*◌, ◌≤◌, ◌<◌, zero-le}
use native.Mathlib.Nat.{zero-add, add-zero}
use native.Mathlib.Omega.{arith}
use mir.Val.{Fits}
use mir.Syntax.{w64}
use lib.Ieee.{Float}
use lib.ListN.{length, get_or, drop, length-append}
use lib.Seq.{sets}
use borrow.Author.Tests.{lt-leb, le-leb}
use Rattle.command.specs.declared.PathCommand.{PathCommand}
use Rattle.command.specs.declared.Refusal.{Refusal}
use Rattle.command.specs.declared.Refusal.TheVariants.{BufferTooSmall}
use Rattle.command.specs.Commands.{codes_of, numbers_of}
use Rattle.command.specs.Outcomes.{Outcome, list_of, mapped}
use Rattle.command.specs.Buffers.{in_buffers, fitted, FilledBoth, size_of, need_of, pair_of}
use Rattle.command.proofs.Outcomes.{refused_accepted}
use Rattle.command.proofs.Lists.{codes_length, codes_append, numbers_append}
use Rattle.command.proofs.Buffers.{fitted_accepted, fitted_refused, filled, both_unfilled}
use Rattle.sheet.specs.declared.Sheet.{Sheet}
use Rattle.sheet.specs.Sheets.{HasRoom, Wrote}
use Rattle.sheet.proofs.Written.{room_first, room_next, wrote_none, wrote_both}
use Rattle.shape.specs.declared.Drawing.{Drawing}
use Rattle.shape.specs.Drawings.{commands_of}
use Rattle.item.specs.declared.ItemRow.{ItemRow}
use Rattle.item.specs.Rows.{item_row, row_of, entries_of}
use Rattle.draw.specs.Items.{has_no_vertices, shape_drawn, draw_source}
use Rattle.draw.proofs.Sources.{DrawnSource, drawn_source, source_few, source_numbers_few}
use Rattle.need.proofs.Enough.{drawn_needs}
use Rattle.nest.specs.Lists.{rows_from}
use Rattle.std.proofs.Common.{drop-cons, Bor}
use Rattle.std.proofs.lemmas.List.{drop_all, length-map}
use Rattle.merge.specs.Flat.{is_source_row, sources_from}
use Rattle.merge.specs.Decision.{said, decision, Settled}
use Rattle.join.specs.Merge.{followed_by, draw_sources, draw_joined, draw_merge}
use Rattle.join.specs.Sources.{is_accepted, draw_row, draw_rows, need_after}

-- ---- row_need
module _ (row : ItemRow) (items : List Float) (t : Bool) (is : t ≡ is_source_row row) where
  pub row_source : t ≡ true → draw_row row items ≡ draw_source row items
  unfolding draw_row
  row_source h = rw (← is, h)

  pub row_other : t ≡ false → draw_row row items ≡ Ok []
  unfolding draw_row
  row_other h = rw (← is, h)

  pub need_of_source : (r : Outcome Size) → t ≡ true → mapped pair_of r ≡ need_of (draw_source row items) → mapped pair_of r ≡ need_of (draw_row row items)
  need_of_source r h e = e ∙ ap need_of (sym (row_source h))

  pub need_of_other : t ≡ false → Ok (0, 0) ≡ need_of (draw_row row items)
  need_of_other h = rw (row_other h)

pub ruleset row_needs = (need_of_source, need_of_other)

-- ---- one drawing after another
abbrev pub codes_in : Outcome (List PathCommand) → List ℕ
codes_in o = codes_of (list_of o)

abbrev pub numbers_in : Outcome (List PathCommand) → List Float
numbers_in o = numbers_of (list_of o)

need_refused : (o p : Outcome (List PathCommand)) (r : Refusal) → Err r ≡ need_of o → need_of (followed_by o p) ≡ Err r
unfolding followed_by
need_refused (Err q) p r e = sym e
need_refused (Ok cs) p r e = refused_accepted r (size_of cs) e

-- what a need that is told says of the drawing
need_told : (o : Outcome (List PathCommand)) (c n : ℕ) → Ok (c, n) ≡ need_of o → (o ≡ Ok (list_of o)) × (c ≡ length (codes_in o)) × (n ≡ length (numbers_in o))
need_told o c n e =
    let d = drawn_needs o (c, n) (sym e) in
    (d.0, sym (ap (λ (k : ℕ × ℕ). k.0) d.1), sym (ap (λ (k : ℕ × ℕ). k.1) d.1))

pub need_room : (o p : Outcome (List PathCommand)) (c n : ℕ) → Ok (c, n) ≡ need_of o → need_of (followed_by o p) ≡ need_after c n (need_of p)
unfolding followed_by need_after
need_room (Err q) p c n e = refused_accepted q (c, n) (sym e)
need_room (Ok cs) (Err r) c n e = refl
need_room (Ok cs) (Ok ds) c n e =
    let s = need_told (Ok cs) c n e in
    let a : length (codes_of (cs ++ ds)) ≡ c + length (codes_of ds) =
    ap length (codes_append cs ds) ∙ length-append (codes_of cs) (codes_of ds) ∙ ap (λ (k : ℕ). k + length (codes_of ds)) (sym s.1) in
    let b : length (numbers_of (cs ++ ds)) ≡ n + length (numbers_of ds) =
    ap length (numbers_append cs ds) ∙ length-append (numbers_of cs) (numbers_of ds) ∙ ap (λ (k : ℕ). k + length (numbers_of ds)) (sym s.2) in
    (λ i. Ok (a i, b i))

after_after : (a b c d : ℕ) (x : Outcome (ℕ × ℕ)) → need_after a b (need_after c d x) ≡ need_after (a + c) (b + d) x
unfolding need_after
after_after a b c d (Err r) = refl
after_after a b c d (Ok m) =
    let e : a + (c + m.0) ≡ a + c + m.0 = omega arith in
    let f : b + (d + m.1) ≡ b + d + m.1 = omega arith in
    (λ i. Ok (e i, f i))

after_none : (x : Outcome (ℕ × ℕ)) → need_after 0 0 x ≡ x
unfolding need_after
after_none (Err r) = refl
after_none (Ok m) = λ i. Ok (zero-add m.0 i, zero-add m.1 i)

-- ---- rows_need

-- a row has at most 1,026 commands of at most 6 numbers
row_few : (row : ItemRow) (items : List Float) (c n : ℕ) → Ok (c, n) ≡ need_of (draw_row row items) → (c ≤ 1026) × (n ≤ 6156)
unfolding draw_row
row_few row items c n = go (is_source_row row)
  where
    go : (b : Bool) → Ok (c, n) ≡ need_of (cond b (draw_source row items) (Ok [])) → (c ≤ 1026) × (n ≤ 6156)
    go true f =
        let s = need_told (draw_source row items) c n f in
        let cs = list_of (draw_source row items) in
        (omega (arith, s.1, codes_length cs, source_few row items cs s.0), omega (arith, s.2, source_numbers_few row items cs s.0))
    go false f =
        let s = need_told (Ok []) c n f in
        (omega (arith, s.1), omega (arith, s.2))

-- the need of the rows from i on, after that of the rows before
pub record Needing (rows : List (List ℕ)) (items : List Float) (codes numbers i : ℕ) : Type 0 where
  pub inside : i ≤ length rows
  pub rest : need_after codes numbers (need_of (draw_rows (map row_of (drop i rows)) items)) ≡ need_of (draw_rows (map row_of rows) items)
  pub few_codes : codes ≤ 1026 * i
  pub few_numbers : numbers ≤ 6156 * i

module _ (rows : List (List ℕ)) (items : List Float) where
  pub needing_start : Needing rows items 0 0 0
  needing_start = record {
    inside = zero-le;
    rest = after_none _;
    few_codes = zero-le;
    few_numbers = zero-le;
  }

  rows_split : (i : ℕ) → i < length rows → draw_rows (map row_of (drop i rows)) items ≡ followed_by (draw_row (row_of (get_or rows i [])) items) (draw_rows (map row_of (drop (i + 1) rows)) items)
  unfolding draw_rows
  rows_split i h =
      let next : suc i ≡ i + 1 = omega arith in
      let cut : drop i rows ≡ get_or rows i [] ∷ drop (i + 1) rows = drop-cons rows i [] h ∙ ap (λ (k : ℕ). get_or rows i [] ∷ drop k rows) next in
      rw cut

  rows_over : (i : ℕ) → length rows ≤ i → draw_rows (map row_of (drop i rows)) items ≡ Ok []
  unfolding draw_rows
  rows_over i h = rw (drop_all i rows h)

  module _ (codes numbers i : ℕ) (w : Needing rows items codes numbers i) where
    module _ (h : i < length rows) (row : ItemRow) (row_is : row ≡ row_of (get_or rows i [])) (need : Outcome Size) (need_is : mapped pair_of need ≡ need_of (draw_row row items)) where
      abbrev here : Outcome (List PathCommand)
      here = draw_row (row_of (get_or rows i [])) items

      abbrev later : Outcome (List PathCommand)
      later = draw_rows (map row_of (drop (i + 1) rows)) items

      need_at : mapped pair_of need ≡ need_of here
      need_at = need_is ∙ ap (λ (r : ItemRow). need_of (draw_row r items)) row_is

      split_need : need_after codes numbers (need_of (followed_by here later)) ≡ need_of (draw_rows (map row_of rows) items)
      split_need = ap (λ (o : Outcome (List PathCommand)). need_after codes numbers (need_of o)) (sym (rows_split i h)) ∙ w.rest

      pub needing_refused : (r : Refusal) → need ≡ Err r → Err r ≡ need_of (draw_rows (map row_of rows) items)
      unfolding need_after
      needing_refused r e = sym (ap (need_after codes numbers) (need_refused here later r (ap (mapped pair_of) (sym e) ∙ need_at))) ∙ split_need

      module _ (size : Size) (e : need ≡ Ok size) where
        abbrev c : ℕ
        c = size.codes

        abbrev n : ℕ
        n = size.numbers

        told : Ok (c, n) ≡ need_of here
        told = ap (mapped pair_of) (sym e) ∙ need_at

        few : (c ≤ 1026) × (n ≤ 6156)
        few = row_few (row_of (get_or rows i [])) items c n told

        pub codes_fit : length rows ≤ 256 → Fits w64 (codes + c)
        codes_fit small = record { fits = omega (arith, few.0) }

        pub numbers_fit : length rows ≤ 256 → Fits w64 (numbers + n)
        numbers_fit small = record { fits = omega (arith, few.1) }

        pub needing_more : Needing rows items (codes + c) (numbers + n) (i + 1)
        needing_more = record {
          inside = omega arith;
          rest = sym (after_after codes numbers c n _) ∙ ap (need_after codes numbers) (sym (need_room here later c n told)) ∙ split_need;
          few_codes = omega (arith, few.0);
          few_numbers = omega (arith, few.1);
        }

    pub needing_end : length rows ≤ i → Ok (codes, numbers) ≡ need_of (draw_rows (map row_of rows) items)
    unfolding need_after
    needing_end h =
        sym (λ k. Ok (add-zero codes k, add-zero numbers k))
        ∙ ap (λ (o : Outcome (List PathCommand)). need_after codes numbers (need_of o)) (sym (rows_over i h))
        ∙ w.rest

pub ruleset rows_needs = (needing_start, needing_refused, codes_fit, numbers_fit, needing_more, needing_end)

-- ---- write_row
drawn_is : (o : Outcome (List PathCommand)) → is_accepted o ≡ true → o ≡ Ok (list_of o)
drawn_is (Err r) e = let z : ◌≡◌ {A = ℕ} 0 1 = cc in absurd (omega arith)
drawn_is (Ok cs) e = refl

module _ (row : ItemRow) (items : List Float) (t : Bool) (is : t ≡ is_source_row row) (drawn_row : is_accepted (draw_row row items) ≡ true) where
  module _ (h : t ≡ true) where
    row_met : DrawnSource row items (list_of (draw_row row items))
    row_met = drawn_source row items (list_of (draw_row row items)) (sym (row_source row items t is h) ∙ drawn_is (draw_row row items) drawn_row)

    pub row_some : has_no_vertices row ≡ false
    row_some = row_met.passed.some

    pub row_count : row.count ≤ 1024
    row_count = row_met.passed.few

    pub row_entries : row.place + entries_of row ≤ length items
    row_entries = row_met.passed.inside

    -- the drawing that is made has the row's commands
    module _ (k : Outcome Drawing) (k_is : mapped commands_of k ≡ shape_drawn row (drop row.place items)) where
      row_drawn_as : mapped commands_of k ≡ Ok (list_of (draw_row row items))
      row_drawn_as = k_is ∙ row_met.drawn

      -- it is made, since the row's checks have passed
      pub row_made : (r : Refusal) → k ≡ Err r → (p : Sheet) → Wrote (list_of (draw_row row items)) p p
      row_made r e p = refused_accepted r (list_of (draw_row row items)) (ap (mapped commands_of) (sym e) ∙ row_drawn_as)

      module _ (d : Drawing) (e : k ≡ Ok d) where
        pub row_commands : commands_of d ≡ list_of (draw_row row items)
        row_commands = ap list_of (ap (mapped commands_of) (sym e) ∙ row_drawn_as)

  module _ (h : t ≡ false) where
    pub no_commands : list_of (draw_row row items) ≡ []
    no_commands = rw (row_other row items t is h)

pub ruleset row_writes = (row_some, row_count, row_entries, row_made, row_commands, no_commands, wrote_none)

-- ---- write_rows

-- what is drawn in two parts
record Parts (o p : Outcome (List PathCommand)) : Type 0 where
  first : is_accepted o ≡ true
  second : is_accepted p ≡ true
  both : list_of (followed_by o p) ≡ list_of o ++ list_of p

parts : (o p : Outcome (List PathCommand)) → is_accepted (followed_by o p) ≡ true → Parts o p
unfolding followed_by
parts (Err r) p e = let z : ◌≡◌ {A = ℕ} 0 1 = cc in absurd (omega arith)
parts (Ok cs) (Err r) e = let z : ◌≡◌ {A = ℕ} 0 1 = cc in absurd (omega arith)
parts (Ok cs) (Ok ds) e = record { first = refl; second = refl; both = refl }

-- The commands of the rows before i are written, and those of the rows from i on are to come.
pub record Joining (rows : List (List ℕ)) (items : List Float) (p q : Sheet) (i : ℕ) : Type 0 where
  pub before : List PathCommand
  pub drawn_rest : is_accepted (draw_rows (map row_of (drop i rows)) items) ≡ true
  pub whole : list_of (draw_rows (map row_of rows) items) ≡ before ++ list_of (draw_rows (map row_of (drop i rows)) items)
  pub written : Wrote before p q

module _ (rows : List (List ℕ)) (items : List Float) (p : Sheet) where
  abbrev all : List PathCommand
  all = list_of (draw_rows (map row_of rows) items)

  pub joining_start : is_accepted (draw_rows (map row_of rows) items) ≡ true → Joining rows items p p 0
  joining_start e = record { before = []; drawn_rest = e; whole = refl; written = wrote_none p }

  module _ (q : Sheet) (i : ℕ) (w : Joining rows items p q i) where
    pub all_joined : length rows ≤ i → Wrote all p q
    all_joined h = let is : all ≡ w.before = rw (rows_over rows items i h, append-nil) at w.whole in rw is w.written

    module _ (h : i < length rows) (row : ItemRow) (row_is : row ≡ row_of (get_or rows i [])) where
      abbrev drawn : List PathCommand
      drawn = list_of (draw_row row items)

      abbrev rest : Outcome (List PathCommand)
      rest = draw_rows (map row_of (drop (i + 1) rows)) items

      rest_is : draw_rows (map row_of (drop i rows)) items ≡ followed_by (draw_row row items) rest
      rest_is = rows_split rows items i h ∙ ap (λ (r : ItemRow). followed_by (draw_row r items) rest) (sym row_is)

      two : Parts (draw_row row items) rest
      two = parts (draw_row row items) rest (rw rest_is at w.drawn_rest)

      whole_is : all ≡ w.before ++ (drawn ++ list_of rest)
      whole_is = w.whole ∙ ap (λ (o : Outcome (List PathCommand)). w.before ++ list_of o) rest_is ∙ ap (λ (cs : List PathCommand). w.before ++ cs) two.both

      pub row_drawn : is_accepted (draw_row row items) ≡ true
      row_drawn = two.first

      pub row_fits : HasRoom all p → HasRoom drawn q
      row_fits room = room_first (drawn ++ list_of rest) drawn (list_of rest) refl q q (room_next all w.before (drawn ++ list_of rest) whole_is p q room w.written)

      pub joining_more : (r : Sheet) → Wrote drawn q r → Joining rows items p r (i + 1)
      joining_more r v = record {
        before = w.before ++ drawn;
        drawn_rest = two.second;
        whole = whole_is ∙ sym (append_assoc w.before drawn (list_of rest));
        written = wrote_both (w.before ++ drawn) w.before drawn refl p q r w.written v;
      }

pub ruleset rows_writes = (joining_start, all_joined, row_drawn, row_fits, joining_more)

-- ---- join_rows
pub need_fault : (o : Outcome (List PathCommand)) (need : Outcome Size) → mapped pair_of need ≡ need_of o → (r : Refusal) → need ≡ Err r → o ≡ Err r
need_fault (Err q) need is r e = let told : ◌≡◌ {A = Outcome (ℕ × ℕ)} (Err r) (Err q) = ap (mapped pair_of) (sym e) ∙ is in let same : q ≡ r = cc in rw same
need_fault (Ok cs) need is r e = refused_accepted r (size_of cs) (ap (mapped pair_of) (sym e) ∙ is)

module _ (o : Outcome (List PathCommand)) (need : Outcome Size) (is : mapped pair_of need ≡ need_of o) (codes : List ℕ) (numbers : List Float) where
  abbrev fits : List PathCommand → Bool
  fits = in_buffers (length codes) (length numbers)

  module _ (size : Size) (e : need ≡ Ok size) where
    told_here : (o ≡ Ok (list_of o)) × (size.codes ≡ length (codes_in o)) × (size.numbers ≡ length (numbers_in o))
    told_here = need_told o size.codes size.numbers (ap (mapped pair_of) (sym e) ∙ is)

    pub need_drawn : is_accepted o ≡ true
    need_drawn = rw told_here.0

    refused_by : fits (list_of o) ≡ false → FilledBoth (fitted fits o) 11 0 0 codes codes numbers numbers
    refused_by e = rw told_here.0 (rw (fitted_refused fits (list_of o) e) (both_unfilled BufferTooSmall codes numbers))

    pub need_codes_short : length codes < size.codes → FilledBoth (fitted fits o) 11 0 0 codes codes numbers numbers
    need_codes_short h = refused_by (rw (lt-leb (length (codes_in o)) (length codes) (omega (arith, told_here.1))))

    module _ (h : size.codes ≤ length codes) where
      pub need_codes_room : length (codes_in o) ≤ length codes
      need_codes_room = omega (arith, told_here.1)

      pub need_numbers_short : length numbers < size.numbers → FilledBoth (fitted fits o) 11 0 0 codes codes numbers numbers
      need_numbers_short g =
          refused_by (rw (le-leb (length (codes_in o)) (length codes) need_codes_room, lt-leb (length (numbers_in o)) (length numbers) (omega (arith, told_here.2))))

      module _ (g : size.numbers ≤ length numbers) where
        pub need_numbers_room : length (numbers_in o) ≤ length numbers
        need_numbers_room = omega (arith, told_here.2)

        fits_both : fits (list_of o) ≡ true
        fits_both = rw (le-leb (length (codes_in o)) (length codes) need_codes_room, le-leb (length (numbers_in o)) (length numbers) need_numbers_room)

        pub need_written : (codes' : List ℕ) (numbers' : List Float) → codes' ≡ sets codes 0 (codes_in o) → numbers' ≡ sets numbers 0 (numbers_in o)
            → FilledBoth (fitted fits o) 0 size.codes size.numbers codes codes' numbers numbers'
        need_written codes' numbers' p q =
            rw told_here.0
            (rw (fitted_accepted fits (list_of o) fits_both)
            (record {
              codes_filled = filled (codes_in o) codes codes' size.codes need_codes_room told_here.1 p;
              numbers_filled = filled (numbers_in o) numbers numbers' size.numbers need_numbers_room told_here.2 q;
            }))

pub ruleset joins = (need_drawn, need_codes_room, need_numbers_room)

-- ---- draw_merge and merge_need

nothing_first : (o : Outcome (List PathCommand)) → followed_by (Ok []) o ≡ o
unfolding followed_by
nothing_first (Err r) = refl
nothing_first (Ok cs) = refl

-- the sources that the rows name are drawn as the rows are
pub sources_drawn : (rows : List ℕ) (items : List Float) (i left : ℕ)
    → draw_sources (map (item_row rows) (sources_from i (rows_from rows i left))) items ≡ draw_rows (rows_from rows i left) items
unfolding draw_sources draw_rows draw_row sources_from rows_from
sources_drawn rows items i zero = refl
sources_drawn rows items i (suc left) = go (is_source_row (item_row rows i)) (sources_drawn rows items (i + 1) left)
  where
    go : (b : Bool) → draw_sources (map (item_row rows) (sources_from (i + 1) (rows_from rows (i + 1) left))) items ≡ draw_rows (rows_from rows (i + 1) left) items
        → draw_sources (map (item_row rows) (cond b (i ∷ sources_from (i + 1) (rows_from rows (i + 1) left)) (sources_from (i + 1) (rows_from rows (i + 1) left)))) items
        ≡ followed_by (cond b (draw_source (item_row rows i) items) (Ok [])) (draw_rows (rows_from rows (i + 1) left) items)
    go true e = ap (followed_by (draw_source (item_row rows i) items)) e
    go false e = e ∙ sym (nothing_first (draw_rows (rows_from rows (i + 1) left) items))

-- the rows that `decide` hands on
abbrev handed : Outcome (Bor (List (List ℕ))) → Outcome (List ItemRow)
handed k = mapped (λ (before : Bor (List (List ℕ))). map row_of before.now) k

module _ (rows : List ℕ) (n : ℕ) (items : List Float) (k : Outcome (Bor (List (List ℕ)))) (is : said (handed k) ≡ decision rows n) where
  abbrev merged : Outcome (List PathCommand)
  merged = draw_merge rows n items

  pub merge_fault : (r : Refusal) → k ≡ Err r → merged ≡ Err r
  unfolding draw_merge said
  merge_fault r e = rw (← is, e)

  module _ (before : Bor (List (List ℕ))) (e : k ≡ Ok before) (s : Settled rows (handed k)) where
    abbrev first : List ItemRow
    first = map row_of before.now

    first_settled : Settled rows (Ok first)
    first_settled = rw e at s

    pub merge_few : length before.now ≤ 256
    merge_few = rw (← length-map before.now row_of) first_settled.0

    pub joined_is : draw_rows first items ≡ merged
    unfolding draw_merge draw_joined said
    joined_is =
        let f : first ≡ rows_from rows 0 (length first) = first_settled.2 in
        rw (← is, e)
        (ap (λ (rs : List ItemRow). draw_rows rs items) f
        ∙ sym (sources_drawn rows items 0 (length first))
        ∙ ap (λ (rs : List ItemRow). draw_sources (map (item_row rows) (sources_from 0 rs)) items) (sym f))

pub ruleset merges = (merge_fault, merge_few, joined_is)
