-- Closed cases of what the code computes, each computed. Assumes nothing.
use mathlib.Core.Path.{◌≡◌, refl}
use mathlib.Core.Bool.{true, false}
use lib.IntN.{pos, negsuc}
use lib.Ieee.{fin, binary32, binary64, add, sub, mul, of_bits, to_bits}
use Rattle.narrow.proofs.Result.{result}

-- 2^24 + 1 and 2^24 + 3 lie halfway between two numbers of 24 digits: the even one
tie_down : result (fin false 16777217 (pos 0)) ≡ fin false 1 (pos 24)
unfolding sub add mul of_bits to_bits
tie_down = refl

tie_up : result (fin true 16777219 (pos 0)) ≡ fin true 4194305 (pos 2)
unfolding sub add mul of_bits to_bits
tie_up = refl

-- the carry: 2^24 - 1/4 is 2^24
carry : result (fin false 67108863 (negsuc 1)) ≡ fin false 1 (pos 24)
unfolding sub add mul of_bits to_bits
carry = refl

-- the binary64 nearest to 0.1 gives the binary32 nearest to 0.1
tenth : result (of_bits binary64 0x3fb9_9999_9999_999a) ≡ of_bits binary32 0x3dcc_cccd
unfolding sub add mul of_bits to_bits
tenth = refl
