use Rattle.std.proofs.Common.{[], ◌∷◌, refl, ap₂, ◌∙◌}
use Rattle.hex.specs.Hex.{encode_lower}
use Rattle.p25_line.specs.{CommaLists.{list_text}, Octets.{octets_text}}
use Rattle.p25_packet_blocks.specs.declared.head.PacketHead.{PacketHead}
use Rattle.p25_text.specs.Packets.{slot_text}
use Rattle.p25_text.proofs.WriteLaws.{packet-put}
use Rattle.p25_text.proofs.packet_texts.put_packet.Goals as goal

pub returns-in-Confirmed-clause-text : goal.returns-in-Confirmed-clause-text
returns-in-Confirmed-clause-text c =
    rw c.in-Confirmed.is (packet-put c.args.nac _ _ _ _ c.args.out.now c.put_start.new.out c.put_value.new.out c.put_key.new.out c.put_slots.new.out refl
    (ap₂ (λ (h : PacketHead) s. encode_lower h.0 ∷ list_text slot_text s ∷ []) c.head.ensures.value c.slots.ensures.value)
    c.put_start.ensures.text c.put_value.ensures.text c.put_key.ensures.text c.put_slots.ensures.text)

pub returns-in-Plain-clause-text : goal.returns-in-Plain-clause-text
returns-in-Plain-clause-text c =
    rw c.in-Plain.is (packet-put c.args.nac _ _ _ _ c.args.out.now c.put_start-in-Plain.new.out c.put_value-in-Plain.new.out c.put_key-in-Plain.new.out c.put_octets.new.self
    c.plain_kind-kind.ensures.kind
    (ap₂ (λ (h : PacketHead) o. encode_lower h.0 ∷ octets_text o ∷ []) c.head-in-Plain.ensures.value (c.octets-in-Plain.ensures.value ∙ c.octets.ensures.value))
    c.put_start-in-Plain.ensures.text c.put_value-in-Plain.ensures.text c.put_key-in-Plain.ensures.text c.put_octets.ensures.text)
