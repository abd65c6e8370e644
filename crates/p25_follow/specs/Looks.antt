-- The detection by sync and NID before the NID is decoded.
use Rattle.std.specs.{Prelude.{Bool, true, false, ◌&&◌, if◌then◌else◌, nat_le, List, length}, Option.{is_some}}
use Rattle.p25_unit_front.specs.Front.{identifier_of}
use Rattle.p25_follow.specs.{declared.told.Look.{Look}, declared.told.Told.{Told}, declared.told.Told.TheVariants.{Other}}

-- the NID with which bits begin is correctable
unfoldable pub is_read : List Bool → Bool
is_read bits = nat_le 114 (length bits) && is_some (identifier_of bits)

-- the detection from that before decoding and whether the NID is correctable: that before decoding, but if a NID is correctable that was not
-- expected, that no data unit is there that may follow
unfoldable pub told_by_look : Look → Bool → Told
told_by_look look false = look.told
told_by_look look true = if look.clear then look.told else Other
