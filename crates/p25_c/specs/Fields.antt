-- The fields of a unit as numbers and octets, without a text, and the unit that such fields are of.
use Rattle.std.specs.Prelude.{ℕ, ℤ, pos, negsuc, ◌==◌, Bool, true, if◌then◌else◌, List, [], ◌∷◌, drop, map, replicate, Option, Some, None, Result, Ok, Err}
use Rattle.p25_bch_nid.specs.Duids.{duid_hdu, duid_ldu1, duid_ldu2, duid_pdu, duid_tdu, duid_tdulc}
use Rattle.p25_link.specs.{declared.link_control.LinkKind.{LinkKind}, declared.link_control.LinkKind.TheVariants.{Group, Individual, Other}}
use Rattle.p25_status.specs.declared.symbols.Status.{Status}
use Rattle.p25_units.specs.{UnitParts.{UnitParts}, Units.{image_octets}, declared.item.Item.{Item}}
use Rattle.p25_units.specs.{declared.item.Item.TheVariants.{Whole, Broken, NoUnit, Gap, Cut}, declared.unit.Body.{Body}}
use Rattle.p25_units.specs.declared.unit.Body.TheVariants.{Voice, Packet}
use Rattle.p25_voice_units.specs.{declared.unit.VoiceUnit.{VoiceUnit}, declared.unit.VoiceUnit.TheVariants.{Header, Link1, Link2, End, EndLink}}
use Rattle.p25_voice_units.specs.declared.voice.VoiceFrame.{VoiceFrame}
use Rattle.p25_c.specs.{Building.{no_unit}, Values.{flag}, declared.fields.FieldParts.{FieldParts}, declared.links.LinkParts.{LinkParts}}

-- ---- link control

-- what link control (LC) states of a call: kind 1 to a group, 2 from unit to unit, 0 another, which is not interpreted
abbrev pub link_told : LinkKind → LinkParts
link_told (Group mfid emergency group source) = record { source = source; destination = 0; group = group; kind = 1; mfid = mfid; emergency = flag emergency }
link_told (Individual mfid destination source) = record { source = source; destination = destination; group = 0; kind = 2; mfid = mfid; emergency = 0 }
link_told Other = record { source = 0; destination = 0; group = 0; kind = 0; mfid = 0; emergency = 0 }

-- ---- fields of a unit

-- fields of which none is there
abbrev pub no_fields : ℕ → ℕ → FieldParts
no_fields nac duid = record {
  nac = nac;
  kid = 0;
  tgid = 0;
  duid = duid;
  mfid = 0;
  algid = 0;
  has_lc = 0;
  has_mi = 0;
  has_tgid = 0;
  has_voice = 0;
  lc = replicate 9 0;
  mi = replicate 9 0;
  lsd = replicate 2 0;
  voice = replicate 9 (replicate 18 0);
}

-- the octets of voice frames
abbrev pub frame_octets : List VoiceFrame → List (List ℕ)
frame_octets frames = map (λ frame. frame.0) frames

-- the fields of a voice unit by its kind: those that it has, and 0 in place of the others
abbrev pub voice_fields : ℕ → VoiceUnit → FieldParts
voice_fields nac (Header word) = record (no_fields nac duid_hdu) {
  has_mi = 1;
  has_tgid = 1;
  mi = word.mi;
  mfid = word.mfid;
  algid = word.algid;
  kid = word.kid;
  tgid = word.tgid;
}
voice_fields nac (Link1 link low frames) = record (no_fields nac duid_ldu1) { has_lc = 1; has_voice = 1; lc = link.0; lsd = low; voice = frame_octets frames }
voice_fields nac (Link2 sync low frames) = record (no_fields nac duid_ldu2) {
  has_mi = 1;
  has_voice = 1;
  mi = sync.mi;
  algid = sync.algid;
  kid = sync.kid;
  lsd = low;
  voice = frame_octets frames;
}
voice_fields nac End = no_fields nac duid_tdu
voice_fields nac (EndLink link) = record (no_fields nac duid_tdulc) { has_lc = 1; lc = link.0 }

-- the fields of a unit; a packet (PDU) has none
abbrev pub body_fields : ℕ → Body → FieldParts
body_fields nac (Voice voice) = voice_fields nac voice
body_fields nac (Packet packet) = no_fields nac duid_pdu

abbrev pub unit_fields : UnitParts → FieldParts
unit_fields unit = body_fields unit.nac unit.body

-- the unit that an item is, if it is a whole one
abbrev pub item_unit : Item → Option UnitParts
item_unit (Whole place frame fixes) = Some frame.unit
item_unit item = None

abbrev pub first_unit : List Item → Option UnitParts
first_unit [] = None
first_unit (item ∷ items) = item_unit item

-- the number that a call returns by the items that it finds: 1 if the first is a whole unit, -3 if it is none or there is none, and -1
-- if the call may not look for one
abbrev pub unit_answer : Option UnitParts → ℤ
unit_answer None = no_unit
unit_answer (Some unit) = pos 1

abbrev pub fields_answer : Option (List Item) → ℤ
fields_answer None = negsuc 0
fields_answer (Some items) = unit_answer (first_unit items)

-- the fields after the call: those of the unit, if there is one
abbrev pub unit_left : Option UnitParts → FieldParts → FieldParts
unit_left None before = before
unit_left (Some unit) before = unit_fields unit

abbrev pub fields_left : Option (List Item) → FieldParts → FieldParts
fields_left None before = before
fields_left (Some items) before = unit_left (first_unit items) before

-- ---- units of fields

-- -8: no voice unit has this data unit identifier (DUID)
abbrev pub wrong_duid : ℤ
wrong_duid = negsuc 7

-- voice frames of octets
abbrev pub frames_held : List (List ℕ) → List VoiceFrame
frames_held octets = map (λ frame. record { 0 = frame }) octets

-- the voice unit of fields by their data unit identifier (DUID), which states which of them the call looks at
abbrev pub voice_held : FieldParts → Option VoiceUnit
voice_held fields =
    if fields.duid == duid_hdu then Some (Header (record { mi = fields.mi; mfid = fields.mfid; algid = fields.algid; kid = fields.kid; tgid = fields.tgid }))
    else if fields.duid == duid_ldu1 then Some (Link1 (record { 0 = fields.lc }) fields.lsd (frames_held fields.voice))
    else if fields.duid == duid_ldu2 then Some (Link2 (record { mi = fields.mi; algid = fields.algid; kid = fields.kid }) fields.lsd (frames_held fields.voice))
    else if fields.duid == duid_tdu then Some End
    else if fields.duid == duid_tdulc then Some (EndLink (record { 0 = fields.lc })) else None

-- the octets of a voice unit under a network access code (NAC) with one status symbol everywhere, or why there are none
abbrev pub voice_built : Status → ℕ → Option VoiceUnit → Result (List ℕ) ℤ
voice_built status nac None = Err wrong_duid
voice_built status nac (Some voice) = Ok (image_octets status (record { nac = nac; body = Voice voice }))

abbrev pub fields_built : Status → FieldParts → Result (List ℕ) ℤ
fields_built status fields = voice_built status fields.nac (voice_held fields)
