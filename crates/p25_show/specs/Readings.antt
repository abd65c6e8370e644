-- The decodings in the lines of `show`: of data units, of codewords, of blocks of packets, and their checks.
use Rattle.std.specs.Prelude.{◌≡◌, ℕ, ◌-◌, ◌≤◌, Bool, List, ◌++◌, length, take, Option, option_map, Ok, Err}
use Rattle.p25_bits.specs.{Bits.{field_of, octet_bits, part}, Distance.{distance_of}, Numbers.{number_bits}}
use Rattle.p25_code.specs.{Erasures.{erased_cost}, Readings.{IsWordWithin}}
use Rattle.p25_gf64.specs.declared.symbol.Sym.{Sym}
use Rattle.p25_hamming.specs.{Hamming10.{IsHamming10}, Hamming10Laws.{hamming10_reading_of}, Lsd16.{IsLsd16}, Lsd16Laws.{lsd16_reading_of}}
use Rattle.p25_golay.specs.{Golay18.{IsGolay18}, Golay18Laws.{golay18_reading_of}, Golay24.{IsGolay24}, Golay24Laws.{golay24_reading_of}}
use Rattle.p25_reed_solomon.specs.{Words.{IsWord, same_symbols}, RsReadings.{rs_erased_reading_of}}
use Rattle.p25_bch_nid.specs.{Bch63.{IsBch63}, Bch63Readings.{bch63_reading_of}}
use Rattle.p25_trellis.specs.{Nearest.{half_octets, three_quarter_octets}, Tables.{half_point, three_quarter_point}, Trellis.{IsNotAfter, IsPath, sent_bits}}
use Rattle.p25_crc.specs.{Checks.{IsCheck, block_divisor, block_message, header_divisor, packet_divisor}, Values.{crc16_of, crc32_of, crc9_of}}
use Rattle.p25_status.specs.{Woven.{bare_of, statuses_of}, declared.fields.Field.{Field}}
use Rattle.p25_units.specs.{Fixes.{fixes_of}, Items.{unit_item_of}, Readings.{body_reading_of}, declared.frame.Frame.{Frame}}
use Rattle.p25_units.specs.declared.item.Item.TheVariants.{Whole, Broken}

-- the NID of a data unit's bits: NAC and DUID, the first 16 bits of the codeword that the bits after the sync decode to, without the status symbol
-- among them and the last bit
abbrev pub identifier_read : List Bool → Option (ℕ × ℕ)
identifier_read sent =
    option_map (λ word. (field_of (take 12 word), field_of (part 12 4 word))) (bch63_reading_of (take 63 (part 48 22 sent ++ part 72 42 sent)))

-- the item of the bits of a data unit whose NID is decoded: broken if fields of it fail; otherwise whole, with the decoded NAC and body, and the
-- received status symbols
pub record IsUnitRead (place : ℕ) (sent : List Bool) (nac duid : ℕ) : Type 0 where
  pub broken : (fields : List Field) → body_reading_of duid (bare_of sent) ≡ Err fields → unit_item_of place sent ≡ Broken place (length sent) nac duid fields
  pub whole : (frame : Frame) → frame.unit.nac ≡ nac → body_reading_of duid (bare_of sent) ≡ Ok frame.unit.body → frame.statuses ≡ statuses_of sent
      → unit_item_of place sent ≡ Whole place frame (fixes_of frame sent)

-- the decoding of each code: the codeword of its set within the correction radius; for a Reed-Solomon code the codeword that costs at most as much as
-- there are check symbols
pub record CodesAreRead : Type 0 where
  pub bch63 : (bits : List Bool) → IsWordWithin IsBch63 (distance_of bits) 11 (bch63_reading_of bits)
  pub golay24 : (bits : List Bool) → IsWordWithin IsGolay24 (distance_of bits) 3 (golay24_reading_of bits)
  pub golay18 : (bits : List Bool) → IsWordWithin IsGolay18 (distance_of bits) 3 (golay18_reading_of bits)
  pub hamming10 : (bits : List Bool) → IsWordWithin IsHamming10 (distance_of bits) 1 (hamming10_reading_of bits)
  pub lsd16 : (bits : List Bool) → IsWordWithin IsLsd16 (distance_of bits) 2 (lsd16_reading_of bits)
  pub rs : (n k : ℕ) (list : List (Option Sym)) → IsWordWithin (IsWord n k) (erased_cost same_symbols list) (n - k) (rs_erased_reading_of n k list)

-- octets are those that the first of the nearest paths carries: no path is nearer to the received bits, and none that is as near is before it in
-- dictionary order
pub record IsNearestBlock (states width : ℕ) (point : ℕ → ℕ → ℕ) (received : List Bool) (octets : List ℕ) : Type 0 where
  pub path : List ℕ
  pub is_path : IsPath states path
  pub carried : number_bits width (take 48 path) ≡ octet_bits octets
  pub nearest : (other : List ℕ) → IsPath states other → distance_of (sent_bits point path) received ≤ distance_of (sent_bits point other) received
  pub first : (other : List ℕ) → IsPath states other → distance_of (sent_bits point other) received ≡ distance_of (sent_bits point path) received
      → IsNotAfter path other

-- the decoding of a block, at half rate and at three-quarter rate
pub record BlocksAreRead : Type 0 where
  pub half : (received : List Bool) → IsNearestBlock 4 2 half_point received (half_octets received)
  pub three_quarter : (received : List Bool) → IsNearestBlock 8 3 three_quarter_point received (three_quarter_octets received)

-- the checks of a confirmed block, of a header and of a whole packet
pub record ChecksAreMade : Type 0 where
  pub block : (serial : ℕ) (octets : List ℕ) → IsCheck block_divisor 9 (block_message serial octets) (crc9_of serial octets)
  pub header : (octets : List ℕ) → IsCheck header_divisor 16 (octet_bits octets) (crc16_of octets)
  pub packet : (octets : List ℕ) → IsCheck packet_divisor 32 (octet_bits octets) (crc32_of octets)
