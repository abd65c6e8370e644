-- The data units of a list of items, as a call sees them, and the breaks between them.
use Rattle.std.specs.Prelude.{ℕ, ◌+◌, Bool, true, false, not, ◌||◌, ◌==◌, nat_lt, List, filter_map, Option, Some, None}
use Rattle.p25_bch_nid.specs.Duids.{duid_hdu, duid_ldu1, duid_ldu2, duid_tdu, duid_tdulc, duid_pdu}
use Rattle.p25_link.specs.declared.link_control.LinkControl.{LinkControl}
use Rattle.p25_voice_units.specs.declared.unit.VoiceUnit.TheVariants.{Header, Link1, Link2, End, EndLink}
use Rattle.p25_units.specs.{Units.{body_duid, frame_length_of}, declared.unit.Body.{Body}, declared.unit.Body.TheVariants.{Voice, Packet}}
use Rattle.p25_units.specs.{declared.frame.Frame.{Frame}, declared.item.Item.{Item}, declared.item.Item.TheVariants.{Whole, Broken, NoUnit, Gap, Cut}}
use Rattle.p25_calls.specs.declared.seen.UnitSeen.{UnitSeen}

-- the link control (LC) of a data unit: voice with link control (LDU1) and a terminator with link control (TDULC) have one
abbrev pub link_in : Body → Option LinkControl
link_in (Voice (Header word)) = None
link_in (Voice (Link1 link low frames)) = Some link
link_in (Voice (Link2 sync low frames)) = None
link_in (Voice End) = None
link_in (Voice (EndLink link)) = Some link
link_in (Packet packet) = None

-- the algorithm of a data unit: a header (HDU) and voice with encryption sync (LDU2) have one
abbrev pub algid_in : Body → Option ℕ
algid_in (Voice (Header word)) = Some word.algid
algid_in (Voice (Link1 link low frames)) = None
algid_in (Voice (Link2 sync low frames)) = Some sync.algid
algid_in (Voice End) = None
algid_in (Voice (EndLink link)) = None
algid_in (Packet packet) = None

-- a whole data unit, with the values that it carries
abbrev pub whole_unit : ℕ → Frame → UnitSeen
whole_unit place frame = record {
  place = place;
  bits = frame_length_of frame.unit;
  nac = frame.unit.nac;
  duid = body_duid frame.unit.body;
  broken = false;
  link = link_in frame.unit.body;
  algid = algid_in frame.unit.body;
}

-- a broken data unit, of which only the position, the length and the network identifier (NID) are known
abbrev pub broken_unit : ℕ → ℕ → ℕ → ℕ → UnitSeen
broken_unit place count nac duid = record { place = place; bits = count; nac = nac; duid = duid; broken = true; link = None; algid = None }

-- the data unit of an item, if it is one
abbrev pub unit_of : Item → Option UnitSeen
unit_of (Whole place frame fixes) = Some (whole_unit place frame)
unit_of (Broken place count nac duid fields) = Some (broken_unit place count nac duid)
unit_of (NoUnit place field) = None
unit_of (Gap place count) = None
unit_of (Cut place have) = None

-- the data units of a list of items, in order
abbrev pub units_of : List Item → List UnitSeen
units_of items = filter_map unit_of items

-- a voice data unit is each data unit but a packet (PDU), whose data unit identifier (DUID) is C hex
abbrev pub is_voice : UnitSeen → Bool
is_voice unit = not (unit.duid == duid_pdu)

-- a header (HDU) has the data unit identifier (DUID) 0
abbrev pub is_header : UnitSeen → Bool
is_header unit = unit.duid == duid_hdu

-- a link data unit has the DUID 5 (LDU1) or A hex (LDU2)
abbrev pub is_link_unit : UnitSeen → Bool
is_link_unit unit = unit.duid == duid_ldu1 || unit.duid == duid_ldu2

-- a terminator has the DUID 3 (TDU) or F hex (TDULC)
abbrev pub is_terminator : UnitSeen → Bool
is_terminator unit = unit.duid == duid_tdu || unit.duid == duid_tdulc

-- the end of a data unit: the position after its last bit
abbrev pub unit_end : UnitSeen → ℕ
unit_end unit = unit.place + unit.bits

-- there is a break between a data unit and the next one if one of them is no voice data unit, their network access codes (NAC) differ, the first is a
-- terminator (TDU or TDULC), the second is a header (HDU), or the second begins more than 3,456 bits after the end of the first
unfoldable pub is_break : UnitSeen → UnitSeen → Bool
is_break unit next =
    not (is_voice unit)
    || not (is_voice next)
    || not (unit.nac == next.nac)
    || is_terminator unit
    || is_header next
    || nat_lt (unit_end unit + 3456) next.place
