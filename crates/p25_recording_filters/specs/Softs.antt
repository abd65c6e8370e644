-- The work of `soft`: its remaining output, for any levels that may still come.
use Rattle.std.specs.Prelude.{◌≡◌, ℕ, ◌+◌, ◌-◌, ◌*◌, ◌/◌, ◌%◌, ◌≤◌, Bool, true, false, ◌&&◌, if◌then◌else◌, ◌==◌, List, [], ◌++◌, length, drop, map, ℤ, Some, None}
use Rattle.p25_bits.specs.Bits.{part}
use Rattle.p25_bch_nid.specs.Duids.{duid_pdu}
use Rattle.p25_units.specs.{Items.{covered, place_of}, declared.item.Item.{Item}, declared.item.Item.TheVariants.{Broken}, Units.{whole_octets}}
use Rattle.p25_stream.specs.{Items.{items_by}, Scan.{Scan, Gave}}
use Rattle.p25_soft.specs.{Levels.{hard_bits}, Softened.{IsHeard}}
use Rattle.p25_filter.specs.{Futures.{Future}, declared.ending.Ending.TheVariants.{Done}}
use Rattle.p25_recording_filters.specs.{Commands.{unfilled}, ItemOutputs.{changed_bits}, SoftLevels.{grouped, item_softened, octet_level, scanned}}

-- the bits that a scanner holds, the levels from that of a whole group before them on, and the bits that are kept back
pub record SoftParts : Type 0 where
  pub scan : Scan
  pub levels : List ℤ
  pub kept : List Bool

-- before the first octet
abbrev pub fresh_soft : SoftParts
fresh_soft = record { scan = record { place = 0; held = []; finished = false }; levels = []; kept = [] }

-- the first level that is held, if a scanner holds the bits from a position on: that of the group of four of the position
abbrev pub first_level : ℕ → ℕ
first_level place = 4 * (place / 8)

-- the output for levels from the first one on, if the bits from a position on are not written yet
abbrev pub soft_written : Bool → ℕ → List ℤ → List Bool → List ℕ
soft_written ended place levels kept =
    let all = scanned ended levels in
    let bits = drop (place % 8) (hard_bits all) in
    whole_octets (kept ++ changed_bits (item_softened (first_level place) all) (items_by ended place bits) bits)

abbrev pub soft_future_by : Bool → SoftParts → Future
soft_future_by false work = record {
  writes = λ ended more. soft_written ended work.scan.place (work.levels ++ map octet_level more) work.kept;
  ends = λ ended more. if ended then Some Done else None;
  pauses = λ ended more. [];
}
soft_future_by true work = record {
  writes = λ ended more. soft_written true work.scan.place work.levels work.kept;
  ends = λ ended more. Some Done;
  pauses = λ ended more. [];
}

unfoldable pub soft_future : SoftParts → Future
soft_future work = soft_future_by work.scan.finished work

-- a scanner holds the bits of whole groups of levels after so many first ones, and once the input has ended there are no other levels
pub record IsHoldingAfter (ahead : ℕ) (scan : Scan) (levels : List ℤ) : Type 0 where
  pub held : scan.held ≡ drop ahead (hard_bits (grouped levels))
  pub placed : ahead ≤ 2 * length (grouped levels)
  pub full : scan.finished ≡ true → length levels % 4 ≡ 0

-- the levels are those from the group of the scanner's position on
abbrev pub IsHolding : Scan → List ℤ → Type 0
IsHolding scan levels = IsHoldingAfter (scan.place % 8) scan levels

-- an item is a broken packet (PDU) that begins at an even position
abbrev pub is_even_packet : Item → Bool
is_even_packet (Broken place count nac duid fields) = duid == duid_pdu && place % 2 == 0
is_even_packet item = false

-- the levels of an item among those from the group of its position on
abbrev pub item_levels : Item → List ℤ → List ℤ
item_levels item levels = part (place_of item % 8 / 2) (covered item / 2) levels

-- a broken packet (PDU) at an even position is decided from its levels
pub record IsHeardAmong (item : Item) (levels : List ℤ) (raw : List Bool) : Type 0 where
  pub there : place_of item % 8 / 2 + covered item / 2 ≤ length levels
  pub heard : IsHeard item (item_levels item levels) raw

-- the next item was returned, its bits, softened, were appended to those kept back, and the levels before those still held are dropped
pub record PutSoftItem (before : SoftParts) (out : List ℕ) (now : SoftParts) : Type 0 where
  pub item : Item
  pub raw : List Bool
  pub gave : Gave before.scan item raw now.scan
  pub piece : out ≡ whole_octets (before.kept ++ item_softened (first_level before.scan.place) before.levels item raw)
  pub behind : now.kept ≡ unfilled (before.kept ++ item_softened (first_level before.scan.place) before.levels item raw)
  pub left : now.levels ≡ drop (first_level now.scan.place - first_level before.scan.place) before.levels
