-- The items into which a stream is divided.
use Rattle.std.specs.Prelude.{ℕ, ◌<◌, Bool, List, Option, Some, None, Result, Ok, Err, length}
use Rattle.p25_status.specs.{declared.fields.Field.{Field}, declared.fields.Field.TheVariants.{Nid}}
use Rattle.p25_unit_front.specs.Front.{identifier_of}
use Rattle.p25_units.specs.{Fixes.{fixes_of}, Readings.{reading_from}, Units.{IsSoundFrame, frame_length_of}, declared.frame.Frame.{Frame}}
use Rattle.p25_units.specs.{declared.item.Item.{Item}, declared.item.Item.TheVariants.{Whole, Broken, NoUnit, Gap, Cut}}

-- the number of bits that an item covers
abbrev pub covered : Item → ℕ
covered (Whole place frame fixes) = frame_length_of frame.unit
covered (Broken place count nac duid fields) = count
covered (NoUnit place field) = 1
covered (Gap place count) = count
covered (Cut place have) = have

-- the position at which an item begins
abbrev pub place_of : Item → ℕ
place_of (Whole place frame fixes) = place
place_of (Broken place count nac duid fields) = place
place_of (NoUnit place field) = place
place_of (Gap place count) = place
place_of (Cut place have) = place

-- a broken data unit has a network identifier (NID): a NAC of 12 bits and a DUID of 4
pub record HasIdentifier (nac duid : ℕ) : Type 0 where
  pub nac_fits : nac < 4096
  pub duid_fits : duid < 16

-- an item is sound: the frame of a whole data unit is, and the NID of a broken one
abbrev pub IsSoundItem : Item → Type 0
IsSoundItem (Whole place frame fixes) = IsSoundFrame frame
IsSoundItem (Broken place count nac duid fields) = HasIdentifier nac duid
IsSoundItem (NoUnit place field) = Unit {0}
IsSoundItem (Gap place count) = Unit {0}
IsSoundItem (Cut place have) = Unit {0}

-- the item of transmitted bits by their decoding
abbrev pub item_from : ℕ → ℕ × ℕ → List Bool → Result Frame (List Field) → Item
item_from place nid sent (Ok frame) = Whole place frame (fixes_of frame sent)
item_from place nid sent (Err fields) = Broken place (length sent) nid.0 nid.1 fields

-- the item of transmitted bits by their network identifier (NID)
abbrev pub identified_item : ℕ → List Bool → Option (ℕ × ℕ) → Item
identified_item place sent None = NoUnit place Nid
identified_item place sent (Some nid) = item_from place nid sent (reading_from (Some nid) sent)

-- the item of a data unit by its transmitted bits
unfoldable pub unit_item_of : ℕ → List Bool → Item
unit_item_of place sent = identified_item place sent (identifier_of sent)
