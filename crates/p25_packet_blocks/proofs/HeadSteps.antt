-- The needs of the calls that make headers: a flag before seven bits, and an LLID as three octets. By remainders.
use Rattle.std.proofs.Common.{◌≡◌, ℕ, ◌+◌, ◌*◌, ◌/◌, ◌<◌, Bool, true, false, cond, eqb, arith}
use Rattle.p25_bits.specs.Numbers.{triple_at}
use Rattle.p25_packet_blocks.specs.Heads.{llid_octets}

-- a flag as the highest bit of an octet
pub flag_bit : (number : ℕ) (flag : Bool) → number ≡ mir.Val.bool_byte flag → 128 * number ≡ cond flag 128 0
flag_bit number true is = simp is
flag_bit number false is = simp is

-- the flag before seven bits
pub flag_back : (number low : ℕ) (flag : Bool) → number ≡ mir.Val.bool_byte flag → low < 128 → eqb ((128 * number + low) / 128) 1 ≡ flag
flag_back number low true is small = let one : (128 * number + low) / 128 ≡ 1 = omega (arith, is, small) in simp one
flag_back number low false is small = let none : (128 * number + low) / 128 ≡ 0 = omega (arith, is, small) in simp none

-- a flag that is 0 before four other bits
pub no_flag : (number : ℕ) → number < 8 → eqb ((16 * number + 8) / 128) 1 ≡ false
no_flag number small = let none : (16 * number + 8) / 128 ≡ 0 = omega (arith, small) in simp none

-- a flag that is 1 before four other bits
pub some_flag : (number : ℕ) → number < 8 → eqb ((136 + 16 * number) / 128) 1 ≡ true
some_flag number small = let one : (136 + 16 * number) / 128 ≡ 1 = omega (arith, small) in simp one

-- the three octets of an LLID write it
pub octets_back : (llid : ℕ) → triple_at (llid_octets llid) 0 ≡ llid
octets_back llid = omega arith
