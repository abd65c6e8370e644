use Rattle.std.proofs.Common.{◌+◌, ◌*◌, Some, ap, sym, ◌∙◌}
use Rattle.p25_bits.specs.{Bits.{part}, Distance.{distance_of}}
use Rattle.p25_packet_blocks.specs.{Heads.{head_blocks}, Whole.{packet_head}}
use Rattle.p25_voice_units.specs.Fixes.{voice_fixes_of}
use Rattle.p25_units.specs.{Fixes.{body_fixes_of}, UnitParts.{UnitParts}, Units.{body_length, unit_image_of}, declared.unit.Body.{Body}}
use Rattle.p25_units.proofs.{FixesLaws.{body_fixes_of-packet, body_fixes_of-voice}, UnitsLaws.{body_length-known}}
use Rattle.p25_units.proofs.fixing.body_fixes.Goals as goal

pub voice_fixes-requires-clause-received : goal.voice_fixes-requires-clause-received
voice_fixes-requires-clause-received c =
    body_length-known c.in-Voice.voice ∙ ap Some (sym (c.requires.long ∙ c.requires.whole ∙ ap body_length (sym c.body.ensures ∙ c.in-Voice.is)))

pub voice_fixes-requires-clause-image : goal.voice_fixes-requires-clause-image
voice_fixes-requires-clause-image c = body_length-known c.in-Voice.voice ∙ ap Some (sym (c.requires.whole ∙ ap body_length (sym c.body.ensures ∙ c.in-Voice.is)))

pub returns-in-Voice-clause-value : goal.returns-in-Voice-clause-value
unfolding unit_image_of
returns-in-Voice-clause-value c =
    let nac = c.args.unit.now.nac in
    let make : Body → UnitParts = λ body. record { nac = nac; body = body } in
    let is = sym c.body.ensures ∙ c.in-Voice.is in
    c.voice_fixes.ensures.value
    ∙ ap (voice_fixes_of c.in-Voice.voice c.args.bare.now) (c.requires.image ∙ ap (λ body. unit_image_of (make body)) is)
    ∙ sym (ap (λ body. body_fixes_of (make body) c.args.bare.now) is ∙ body_fixes_of-voice nac c.in-Voice.voice c.args.bare.now)

pub returns-in-Packet-clause-value : goal.returns-in-Packet-clause-value
unfolding unit_image_of
returns-in-Packet-clause-value c =
    let nac = c.args.unit.now.nac in
    let packet = c.in-Packet.packet in
    let bare = c.args.bare.now in
    let n = head_blocks (packet_head packet) in
    let make : Body → UnitParts = λ body. record { nac = nac; body = body } in
    let is = sym c.body.ensures ∙ c.in-Packet.is in
    let blocks = c.from.ensures ∙ c.blocks-in-Packet.ensures.value ∙ ap head_blocks c.head.ensures in
    c.part_distance.ensures.value
    ∙ ap (λ k. distance_of (part 112 (196 * (1 + k)) bare) (part 112 (196 * (1 + k)) c.args.image.now)) blocks
    ∙ ap (λ xs. distance_of (part 112 (196 * (1 + n)) bare) (part 112 (196 * (1 + n)) xs)) (c.requires.image ∙ ap (λ body. unit_image_of (make body)) is)
    ∙ sym (ap (λ body. body_fixes_of (make body) bare) is ∙ body_fixes_of-packet nac packet bare)
