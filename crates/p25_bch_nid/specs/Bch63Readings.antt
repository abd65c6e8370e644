-- The decoding of the BCH code (63,16) as a function.
use Rattle.std.specs.{Prelude.{Bool, List, Option}, Bool.{beq}}
use Rattle.p25_code.specs.Readings.{Tested, bits_searched, reading_of, IsReadAs, IsReadAs-reading_of}
use Rattle.std.proofs.Common.{inl, inr}
use Rattle.p25_reed_solomon.specs.RsReadings.{IsWord-tested}
use Rattle.p25_bch_nid.specs.{Bch63.{IsBch63, symbols_of}, Bch63Laws.{bch63_is_code}, Bch63SymbolLaws.{IsWord-symbols_of, IsBch63-from_symbols}}

-- whether a list of bits is a codeword can be decided by its symbols
IsBch63-tested : Tested IsBch63
IsBch63-tested word =
    elim (IsWord-tested 63 41 (symbols_of word)) [
      | inl is ↦ inl (IsBch63-from_symbols word is)
      | inr other ↦ inr (λ is. other (IsWord-symbols_of word is))
    ]

-- the codeword within 11 bits of the received word, or none
pub bch63_reading_of : List Bool → Option (List Bool)
bch63_reading_of = reading_of bits_searched beq IsBch63 IsBch63-tested 63 11

-- it is the decoding
pub bch63_reads_as : (received : List Bool) → IsReadAs beq IsBch63 11 received (bch63_reading_of received)
unfolding bch63_reading_of
bch63_reads_as = IsReadAs-reading_of bits_searched beq IsBch63 IsBch63-tested 63 11 bch63_is_code.long
