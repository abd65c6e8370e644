-- Blocks in octets.
use Rattle.std.specs.Prelude.{ℕ, Bool, List, take}
use Rattle.p25_bits.specs.Bits.{octet_bits}

-- the 196 bits of a block that 25 octets hold: all but the last four of the last octet
abbrev pub block_bits : List ℕ → List Bool
block_bits octets = take 196 (octet_bits octets)
