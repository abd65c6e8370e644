-- The decoding of a network identifier (NID) up to the correction radius 11, as a function of its 64 bits, and its law.
use Rattle.std.specs.{Prelude.{◌≡◌, ℕ, ◌≤◌, Bool, List, take, Option, Some, None, option_map}, Bool.{beq}}
use Rattle.p25_bits.specs.{Bits.{field_of, part}, Distance.{distance_of}}
use Rattle.p25_code.specs.Words.{NoneWithin}
use Rattle.p25_bch_nid.specs.{Bch63.{IsBch63}, Bch63Readings.{bch63_reading_of}}

-- the NAC and the DUID with which a codeword begins
abbrev pub identifier_of_word : List Bool → ℕ × ℕ
identifier_of_word word = (field_of (take 12 word), field_of (part 12 4 word))

-- the network identifier (NID) that 64 bits decode to: the NAC and the DUID of the codeword within 11 bits of the first 63, or none
unfoldable pub nid_reading_of : List Bool → Option (ℕ × ℕ)
nid_reading_of bits = option_map identifier_of_word (bch63_reading_of (take 63 bits))

-- a codeword lies within 11 bits of the received word, and begins with the NAC and the DUID
pub record IsNidFound (received : List Bool) (nid : ℕ × ℕ) : Type 0 where
  pub word : List Bool
  pub word_of_set : IsBch63 word
  pub within : distance_of received word ≤ 11
  pub begins : nid ≡ identifier_of_word word

-- no identifier if and only if no codeword lies within 11 bits of the first 63 received bits, otherwise that of the codeword there
unfoldable pub IsNidReading : List Bool → Option (ℕ × ℕ) → Type 0
IsNidReading bits None = NoneWithin beq IsBch63 11 (take 63 bits)
IsNidReading bits (Some nid) = IsNidFound (take 63 bits) nid
