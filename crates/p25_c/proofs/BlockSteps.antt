-- Bits in whole octets.
use Rattle.std.proofs.Common.{◌≡◌, ℕ, Bool, List, length, ap, sym, ◌∙◌, arith}
use Rattle.p25_bits.specs.{Bits.{octet_bits}, Numbers.{number_bits, numbers_from}}
use Rattle.p25_bits.proofs.{NumbersLaws.{number_bits-octets, number_bits-numbers_from}, PartLaws.{part_whole}}

-- octets that 200 bits write have those bits
pub octets_written : (octets : List ℕ) (bits : List Bool) → length bits ≡ 200 → octets ≡ numbers_from 8 25 bits → octet_bits octets ≡ bits
octets_written octets bits long are =
    sym (number_bits-octets octets) ∙ ap (number_bits 8) are ∙ number_bits-numbers_from 8 25 bits (omega arith) ∙ part_whole 200 bits long
