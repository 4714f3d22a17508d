-- The worked examples that document 01 stars, in its order ('Plates from the drawer'), as one list of inputs and outputs. Definitions only.
use Rattle.std.specs.Prelude.{ℕ, List, [], ◌∷◌, ◌++◌, map, Float, Ok}
use Rattle.std.specs.Float.{binary32}
use Rattle.std.specs.Float.Ieee.{of_bits}
use Rattle.ieee.specs.Literal.{zero32, one32, hundred32}
use Rattle.command.specs.Outcomes.{Outcome}
use Rattle.copies.specs.Order.{rising}
use Rattle.plates.specs.Calls.{Input, trim, rectangle, path, order, copy, Output, ranges, of_length, commands, ordered, copied}

-- what is asked, and what is to be answered: none of them is refused
pub record Example : Type 0 where
  pub input : Input
  pub output : Outcome Output

infix 10 ◌yields◌
abbrev pub ◌yields◌ : Input → Output → Example
i yields o = record { input = i; output = Ok o }

-- The numbers of the list, each as the bit pattern of the f32 nearest to its decimal. This one is -0.0000001.
abbrev pub tiny_back : Float
tiny_back = of_bits binary32 0xb3d6_bf95

-- 0.01
abbrev pub hundredth : Float
hundredth = of_bits binary32 0x3c23_d70a

-- 0.25, 0.5 and 0.75
abbrev pub quarter : Float
quarter = of_bits binary32 0x3e80_0000

abbrev pub half : Float
half = of_bits binary32 0x3f00_0000

abbrev pub three_quarters : Float
three_quarters = of_bits binary32 0x3f40_0000

-- -10.0 and -1.0
abbrev pub minus_ten : Float
minus_ten = of_bits binary32 0xc120_0000

abbrev pub minus_one : Float
minus_one = of_bits binary32 0xbf80_0000

-- 2.5
abbrev pub two_and_a_half : Float
two_and_a_half = of_bits binary32 0x4020_0000

-- 3.0, 4.0, 10.0, 12.0 and 14.0
abbrev pub three : Float
three = of_bits binary32 0x4040_0000

abbrev pub four : Float
four = of_bits binary32 0x4080_0000

abbrev pub ten : Float
ten = of_bits binary32 0x4120_0000

abbrev pub twelve : Float
twelve = of_bits binary32 0x4140_0000

abbrev pub fourteen : Float
fourteen = of_bits binary32 0x4160_0000

-- 25.0, 75.0, 90.0, 100.0 and 180.0
abbrev pub n25 : Float
n25 = of_bits binary32 0x41c8_0000

abbrev pub n75 : Float
n75 = of_bits binary32 0x4296_0000

abbrev pub n90 : Float
n90 = of_bits binary32 0x42b4_0000

abbrev pub n180 : Float
n180 = of_bits binary32 0x4334_0000

-- the mark of ranges
abbrev pub whole : ℕ
whole = 1

abbrev pub not_whole : ℕ
not_whole = 0

-- Trim (start, end, offset)
abbrev pub trims : List Example
trims =
    -- 0, 100, 0 whole
    (trim zero32 hundred32 zero32 yields ranges 1 (zero32 ∷ one32 ∷ []) whole)
    -- 25, 75, 0 gives (0.25, 0.75)
    ∷ (trim n25 n75 zero32 yields ranges 1 (quarter ∷ three_quarters ∷ []) not_whole)
    -- 0, 100, 90 gives (0.25, 1), (0, 0.25)
    ∷ (trim zero32 hundred32 n90 yields ranges 2 (quarter ∷ one32 ∷ zero32 ∷ quarter ∷ []) not_whole)
    -- 0, 100, 180 gives (0.5, 1), (0, 0.5), not whole
    ∷ (trim zero32 hundred32 n180 yields ranges 2 (half ∷ one32 ∷ zero32 ∷ half ∷ []) not_whole)
    -- 25, 75, -0.0000001 gives (0.25, 0.75)
    ∷ (trim n25 n75 tiny_back yields ranges 1 (quarter ∷ three_quarters ∷ []) not_whole)
    -- 0, 0.01, 0 nothing
    ∷ (trim zero32 hundredth zero32 yields ranges 0 [] not_whole)
    ∷ []

-- a vertex without tangents
abbrev pub corner : Float → Float → List Float
corner x y = x ∷ y ∷ zero32 ∷ zero32 ∷ zero32 ∷ zero32 ∷ []

abbrev pub shapes : List Example
shapes =
    -- Rectangle 3 by 4 at 0, no roundness: length 14
    (rectangle zero32 zero32 three four zero32 yields of_length fourteen)
    -- Closed (0,0), (3,0), (3,4), no tangents: five commands, length 12
    ∷ (path 1 (corner zero32 zero32 ++ corner three zero32 ++ corner three four) 3 yields commands 5 twelve)
    ∷ []

-- A repeater that does not scale or turn and whose anchor is 0: so many copies from an offset on, each moved on by a position, of opacity 1.
abbrev pub repeater : Float → Float → Float → Float → List Float
repeater copies offset x y = copies ∷ offset ∷ zero32 ∷ zero32 ∷ x ∷ y ∷ hundred32 ∷ hundred32 ∷ zero32 ∷ one32 ∷ one32 ∷ []

-- Copies 2.5: order 0, 1, 2 in mode 1, else 2, 1, 0. A mode is any of 0 to 255.
abbrev pub two_and_a_half_copies : List Float
two_and_a_half_copies = repeater two_and_a_half zero32 zero32 zero32

abbrev pub reversed_in : ℕ → Example
reversed_in mode = order two_and_a_half_copies mode yields ordered (2 ∷ 1 ∷ 0 ∷ [])

abbrev pub orders : List Example
orders = (order two_and_a_half_copies 1 yields ordered (0 ∷ 1 ∷ 2 ∷ [])) ∷ map reversed_in (0 ∷ rising 2 254)

-- the numbers of a copy that is shifted only, and of opacity 1
abbrev pub shifted : Float → Float → Output
shifted x y = copied (one32 ∷ zero32 ∷ zero32 ∷ one32 ∷ x ∷ y ∷ one32 ∷ [])

-- Position (10, 0), scale 100, offset -1: copies 0, 1, 2 shift by -10, 0, 10
abbrev pub three_copies : List Float
three_copies = repeater three minus_one ten zero32

abbrev pub shifts : List Example
shifts =
    (copy three_copies 1 0 yields shifted minus_ten zero32)
    ∷ (copy three_copies 1 1 yields shifted zero32 zero32)
    ∷ (copy three_copies 1 2 yields shifted ten zero32)
    ∷ []

-- all of them
abbrev pub starred : List Example
starred = trims ++ shapes ++ orders ++ shifts
