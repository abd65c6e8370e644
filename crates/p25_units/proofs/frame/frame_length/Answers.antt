use Rattle.std.proofs.Common.{ap, sym, ◌∙◌}
use Rattle.p25_packet_blocks.specs.{Heads.{head_blocks}, Lengths.{packet_sent_length}}
use Rattle.p25_units.specs.Units.{body_length, sent_length, frame_length_of}
use Rattle.p25_units.proofs.UnitsLaws.{body_length-voice, sent_length-packet}
use Rattle.p25_units.proofs.frame.frame_length.Goals as goal

pub returns-in-Voice-clause-value : goal.returns-in-Voice-clause-value
unfolding frame_length_of
returns-in-Voice-clause-value c =
    ap sent_length (sym (body_length-voice c.in-Voice.voice c.length.result c.length.ensures.value) ∙ ap body_length (sym c.in-Voice.is ∙ c.body.ensures))

pub returns-in-Packet-clause-value : goal.returns-in-Packet-clause-value
unfolding frame_length_of
returns-in-Packet-clause-value c =
    c.packet_length.ensures.value ∙ ap (λ head. packet_sent_length (head_blocks head)) c.head.ensures
    ∙ sym (sent_length-packet _) ∙ ap (λ body. sent_length (body_length body)) (sym c.in-Packet.is ∙ c.body.ensures)
