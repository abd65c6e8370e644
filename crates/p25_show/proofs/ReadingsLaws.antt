-- The decodings of data units, codes, blocks and checks, as in the definitions.
use Rattle.std.proofs.Common.{◌≡◌, ℕ, ◌-◌, Bool, List, length, Option, Some, None, Result, Ok, Err, refl, ap, sym, ◌∙◌}
use Rattle.std.specs.Bool.{beq}
use Rattle.p25_bits.specs.{Bits.{octet_bits}, Distance.{distance_by}}
use Rattle.p25_code.specs.{Erasures.{erased_cost}, ErasedReadings.{IsErasedReadAs}, Readings.{IsReadAs, IsWordWithin}}
use Rattle.p25_hamming.specs.{Hamming10.{IsHamming10}, Hamming10Laws.{hamming10_code, hamming10_reading_of}, Lsd16.{IsLsd16}, Lsd16Laws.{lsd16_code, lsd16_reading_of}}
use Rattle.p25_golay.specs.{Golay18.{IsGolay18}, Golay18Laws.{golay18_code, golay18_reading_of}, Golay24.{IsGolay24}, Golay24Laws.{golay24_code, golay24_reading_of}}
use Rattle.p25_reed_solomon.specs.{Words.{IsWord, same_symbols}, RsReadings.{rs_erased_reading_of, rs_erased_reads_as}}
use Rattle.p25_bch_nid.specs.{Bch63.{IsBch63}, Bch63Readings.{bch63_reading_of, bch63_reads_as}, NidReading.{nid_reading_of}}
use Rattle.p25_trellis.specs.Trellis.{IsFirstLeastReading, distance_from}
use Rattle.p25_crc.specs.Checks.{IsCheck, IsCrc16, IsCrc32, IsCrc9, block_divisor, block_message, header_divisor, packet_divisor}
use Rattle.p25_crc.specs.Values.{IsCrc16-crc16_of, IsCrc32-crc32_of, IsCrc9-crc9_of, crc16_of, crc32_of, crc9_of}
use Rattle.p25_status.specs.{Woven.{bare_of, statuses_of}, declared.fields.Field.{Field}, declared.symbols.Status.{Status}}
use Rattle.p25_unit_front.specs.Front.{identifier_bits, identifier_of}
use Rattle.p25_units.specs.{Fixes.{fixes_of}, Items.{identified_item, item_from, unit_item_of}, Readings.{body_reading_of, frame_from, reading_from}, declared.frame.Frame.{Frame}}
use Rattle.p25_units.specs.{declared.item.Item.TheVariants.{Whole, Broken}, declared.unit.Body.{Body}}
use Rattle.p25_show.specs.Readings.{ChecksAreMade, CodesAreRead, IsNearestBlock, IsUnitRead, identifier_read}

pub identifier-read : (sent : List Bool) → identifier_of sent ≡ identifier_read sent
unfolding identifier_of identifier_bits nid_reading_of
identifier-read sent = refl

unit-broken : (place : ℕ) (sent : List Bool) (nac duid : ℕ) → identifier_of sent ≡ Some (nac, duid) → (fields : List Field) → body_reading_of duid (bare_of sent) ≡ Err fields
    → unit_item_of place sent ≡ Broken place (length sent) nac duid fields
unfolding unit_item_of reading_from
unit-broken place sent nac duid some fields fails =
    ap (identified_item place sent) some ∙ ap (λ (read : Result Body (List Field)). item_from place (nac, duid) sent (frame_from nac (statuses_of sent) read)) fails

unit-whole : (place : ℕ) (sent : List Bool) (duid : ℕ) (frame : Frame) → identifier_of sent ≡ Some (frame.unit.nac, duid) → body_reading_of duid (bare_of sent) ≡ Ok frame.unit.body
    → frame.statuses ≡ statuses_of sent → unit_item_of place sent ≡ Whole place frame (fixes_of frame sent)
unfolding unit_item_of reading_from
unit-whole place sent duid frame some reads statuses =
    ap (identified_item place sent) some
    ∙ ap (λ (read : Result Body (List Field)). item_from place (frame.unit.nac, duid) sent (frame_from frame.unit.nac (statuses_of sent) read)) reads
    ∙ ap (λ (symbols : List Status). item_from place (frame.unit.nac, duid) sent (frame_from frame.unit.nac symbols (Ok frame.unit.body))) (sym statuses)

pub unit-read : (place : ℕ) (sent : List Bool) (nac duid : ℕ) → identifier_of sent ≡ Some (nac, duid) → IsUnitRead place sent nac duid
unit-read place sent nac duid some = record {
  broken = unit-broken place sent nac duid some;
  whole = λ frame same. unit-whole place sent duid frame (some ∙ ap (λ (n : ℕ). Some (n, duid)) (sym same));
}

within-read : {L : Type 0} (same : L → L → Bool) (IsOfSet : List L → Type 0) (radius : ℕ) (received : List L) (answer : Option (List L))
    → IsReadAs same IsOfSet radius received answer → IsWordWithin IsOfSet (distance_by same received) radius answer
unfolding IsReadAs IsWordWithin
within-read same IsOfSet radius received (Some word) is = (is.word_of_set, is.within)
within-read same IsOfSet radius received None is = is.farther

within-erased : {L : Type 0} (same : L → L → Bool) (IsOfSet : List L → Type 0) (most : ℕ) (list : List (Option L)) (answer : Option (List L))
    → IsErasedReadAs same IsOfSet most list answer → IsWordWithin IsOfSet (erased_cost same list) most answer
unfolding IsErasedReadAs IsWordWithin
within-erased same IsOfSet most list (Some word) is = (is.word_of_set, is.within)
within-erased same IsOfSet most list None is = is.dearer

pub codes-read : CodesAreRead
codes-read = record {
  bch63 = λ bits. within-read beq IsBch63 11 bits (bch63_reading_of bits) (bch63_reads_as bits);
  golay24 = λ bits. within-read beq IsGolay24 3 bits (golay24_reading_of bits) (golay24_code.is.reads bits);
  golay18 = λ bits. within-read beq IsGolay18 3 bits (golay18_reading_of bits) (golay18_code.is.reads bits);
  hamming10 = λ bits. within-read beq IsHamming10 1 bits (hamming10_reading_of bits) (hamming10_code.is.reads bits);
  lsd16 = λ bits. within-read beq IsLsd16 2 bits (lsd16_reading_of bits) (lsd16_code.is.reads bits);
  rs = λ n k list. within-erased same_symbols (IsWord n k) (n - k) list (rs_erased_reading_of n k list) (rs_erased_reads_as n k list);
}

pub block-read : (states width : ℕ) (point : ℕ → ℕ → ℕ) (received : List Bool) (octets : List ℕ) (distance : ℕ)
    → IsFirstLeastReading states width (distance_from point received) octets distance → IsNearestBlock states width point received octets
block-read states width point received octets distance is = record {
  path = is.path;
  is_path = is.first_least.is_path;
  carried = is.carries.information;
  nearest = is.first_least.least;
  first = is.first_least.first;
}

check9 : (serial : ℕ) (octets : List ℕ) → IsCheck block_divisor 9 (block_message serial octets) (crc9_of serial octets)
unfolding IsCrc9
check9 serial octets = IsCrc9-crc9_of serial octets

check16 : (octets : List ℕ) → IsCheck header_divisor 16 (octet_bits octets) (crc16_of octets)
unfolding IsCrc16
check16 octets = IsCrc16-crc16_of octets

check32 : (octets : List ℕ) → IsCheck packet_divisor 32 (octet_bits octets) (crc32_of octets)
unfolding IsCrc32
check32 octets = IsCrc32-crc32_of octets

pub checks-made : ChecksAreMade
checks-made = record { block = check9; header = check16; packet = check32 }
