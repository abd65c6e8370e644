-- The report of a recording under another network access code.
use Rattle.std.specs.Prelude.{ℕ, Bool, List, [], ◌++◌}
use Rattle.p25_units.specs.{Units.{frame_as, image_of, whole_octets}, declared.item.Item.{Item}, declared.item.Item.TheVariants.{Whole, Broken, NoUnit, Gap, Cut}}
use Rattle.p25_filter.specs.declared.ending.Ending.TheVariants.{Done}
use Rattle.p25_recording_filters.specs.{Commands.{unfilled}, Reports.{Reporting}}

-- the network access code (NAC) of the data units that are written
abbrev pub network : ℕ
network = 0x2A1

-- the image of a whole data unit under that code, with its own status symbols; the bits of every other item
abbrev pub repeated : Item → List Bool → List Bool
repeated (Whole place frame fixes) raw = image_of (frame_as network frame.statuses frame)
repeated (Broken place count nac duid fields) raw = raw
repeated (NoUnit place field) raw = raw
repeated (Gap place count) raw = raw
repeated (Cut place have) raw = raw

-- the octets that the bits fill, with those that were left before; the bits that fill no octet are left
abbrev pub repeating : Reporting (List Bool)
repeating = record {
  piece = λ left item raw. whole_octets (left ++ repeated item raw);
  behind = λ left item raw. unfilled (left ++ repeated item raw);
  closing = λ left. [];
  ending = λ left. Done;
}
