-- The radio that transmits and the group that it calls.
use Rattle.std.specs.Prelude.{ℕ, List, ◌++◌, Option, Some, None, codes, decimal}
use Rattle.p25_link.specs.{Kinds.{link_kind_of}, declared.link_control.LinkKind.{LinkKind}}
use Rattle.p25_link.specs.declared.link_control.LinkKind.TheVariants.{Group, Individual, Other}
use Rattle.p25_voice_units.specs.{declared.unit.VoiceUnit.{VoiceUnit}, declared.unit.VoiceUnit.TheVariants.{Link1}}
use Rattle.p25_units.specs.{declared.unit.Body.{Body}, declared.unit.Body.TheVariants.{Voice, Packet}, declared.item.Item.{Item}}
use Rattle.p25_units.specs.declared.item.Item.TheVariants.{Whole, Broken, NoUnit, Gap, Cut}
use Rattle.p25_example_groups.specs.declared.Talk.{Talk}

-- the text of a talk
abbrev pub talk_text : Talk → List ℕ
talk_text talk = codes "group " ++ decimal talk.group ++ codes " radio " ++ decimal talk.radio

-- the talk of link control (LC), if it is that of a call to a group
abbrev pub link_talk : LinkKind → Option Talk
link_talk (Group mfid emergency group source) = Some (record { group = group; radio = source })
link_talk (Individual mfid destination source) = None
link_talk Other = None

-- the talk of an LDU1, voice with link control (LC); no other data unit has one
abbrev pub voice_talk : VoiceUnit → Option Talk
voice_talk (Link1 link low voice) = link_talk (link_kind_of link)
voice_talk unit = None

abbrev pub body_talk : Body → Option Talk
body_talk (Voice unit) = voice_talk unit
body_talk (Packet packet) = None

-- the talk of an item: only a whole data unit can have one
abbrev pub talk_of : Item → Option Talk
talk_of (Whole place frame fixes) = body_talk frame.unit.body
talk_of (Broken place count nac duid fields) = None
talk_of (NoUnit place field) = None
talk_of (Gap place count) = None
talk_of (Cut place have) = None
