-- The first bits of a data unit: its frame sync and its network identifier (NID).
use Rattle.std.specs.Prelude.{◌≡◌, ◌==◌, ℕ, Bool, List, [], ◌∷◌, ◌++◌, length, take, Option}
use Rattle.p25_bits.specs.{Bits.{bits_of, part}, Distance.{distance_of}}
use Rattle.p25_code.specs.Words.{IsEncoding}
use Rattle.p25_status.specs.Sync.{sync_bits}
use Rattle.p25_bch_nid.specs.{Bch63.{IsBch63}, Nid.{parity_of}, NidReading.{nid_reading_of}, NidWord.{nid_word}}

-- the first 112 bits of a data unit: the sync and the network identifier (NID)
unfoldable pub unit_front : ℕ → ℕ → List Bool
unit_front nac duid = sync_bits ++ nid_word nac duid

-- sync and NID of a data unit by positions: bits 0 to 47 are the sync, bits 48 to 110 the BCH codeword that begins with NAC and DUID, and bit 111 is
-- P
pub record IsFront (nac duid : ℕ) (bits : List Bool) : Type 0 where
  pub long : length bits ≡ 112
  pub sync : take 48 bits ≡ sync_bits
  pub word : IsEncoding IsBch63 16 (bits_of 12 nac ++ bits_of 4 duid) (part 48 63 bits)
  pub parity : part 111 1 bits ≡ (parity_of duid == 1) ∷ []

-- the 64 bits of the network identifier (NID) of a transmitted data unit: those after the sync, without the status symbol at 70 and 71
unfoldable pub identifier_bits : List Bool → List Bool
identifier_bits sent = part 48 22 sent ++ part 72 42 sent

-- the network identifier (NID) that these bits decode to: NAC and DUID
unfoldable pub identifier_of : List Bool → Option (ℕ × ℕ)
identifier_of sent = nid_reading_of (identifier_bits sent)

-- sync and NID of a transmitted data unit, without the status symbol
unfoldable pub front_of : List Bool → List Bool
front_of sent = take 48 sent ++ identifier_bits sent

-- the fixes of sync and NID: the number of their bits, without the last, P, that differ from those transmitted for a NAC and a DUID
unfoldable pub front_fixes_of : ℕ × ℕ → List Bool → ℕ
front_fixes_of nid sent = distance_of (take 111 (front_of sent)) (take 111 (unit_front nid.0 nid.1))
