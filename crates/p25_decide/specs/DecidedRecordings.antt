-- A recording of soft symbols, with the coded fields of its units decoded from the soft symbols.
use Rattle.std.specs.Prelude.{◌/◌, ◌%◌, ◌==◌, if◌then◌else◌, Bool, List, ℤ}
use Rattle.p25_bits.specs.Bits.{part}
use Rattle.p25_bch_nid.specs.Duids.{duid_pdu}
use Rattle.p25_units.specs.{Items.{covered, place_of}, Units.{body_duid}, declared.item.Item.{Item}, declared.item.Item.TheVariants.{Whole, Broken}}
use Rattle.p25_stream.specs.{Items.{items_of}, Written.{written}}
use Rattle.p25_follow.specs.Followed.{follow_of}
use Rattle.p25_soft.specs.{Levels.{hard_bits}, Softened.{softened}}
use Rattle.p25_decide.specs.DecidedUnits.{decided_sent}

-- the bits of an item, by its own soft symbols: the coded fields of a voice unit as they are decoded, and the failing blocks of a broken packet
-- (PDU) as `softened` has them
unfoldable pub unit_decided : List ℤ → Item → List Bool → List Bool
unit_decided levels (Whole place frame fixes) sent = decided_sent (body_duid frame.unit.body) levels sent
unit_decided levels (Broken place count nac duid fields) sent =
    if duid == duid_pdu then softened (Broken place count nac duid fields) levels sent else decided_sent duid levels sent
unit_decided levels item sent = sent

-- the bits of an item, by the soft symbols of the recording: an item that starts at an odd bit shares its dibits with others, and stays
unfoldable pub item_decided : List ℤ → Item → List Bool → List Bool
item_decided levels item sent =
    if place_of item % 2 == 0 then unit_decided (part (place_of item / 2) (covered item / 2) levels) item sent else sent

-- bits with the fields of their units decoded from soft symbols, one for each two bits
unfoldable pub decided_of : List Bool → List ℤ → List Bool
decided_of bits levels = written (item_decided levels) (items_of 0 bits) bits

-- soft symbols decided: the bits to which they are nearest, followed, with the fields of their units decoded from the soft symbols
unfoldable pub decide_of : List ℤ → List Bool
decide_of levels = decided_of (follow_of (hard_bits levels)) levels
