-- Flags as the octets of a selective retry (PDU).
use Rattle.std.specs.Prelude.{ℕ, ◌/◌, Bool, ◌==◌, List, [], ◌∷◌, ◌++◌, length, take, Option, Some, None, if◌then◌else◌}
use Rattle.p25_bits.specs.{Bits.{octet_bits}, Numbers.{octets_from}}

-- the octets of 64 or of 128 flags: the first flag is the most significant bit of the first octet, and four octets of 0 follow 128 flags
unfoldable pub flag_octets : List Bool → List ℕ
flag_octets flags = octets_from (length flags / 8) flags ++ (if length flags == 128 then 0 ∷ 0 ∷ 0 ∷ 0 ∷ [] else [])

-- the flags of octets: 64 of 8 octets, 128 of the first 16 of 20 octets, and none of any other number
unfoldable pub flags_of_octets : List ℕ → Option (List Bool)
flags_of_octets octets =
    if length octets == 8 then Some (octet_bits octets) else if length octets == 20 then Some (octet_bits (take 16 octets)) else None
