use Rattle.std.proofs.Common.{ap, sym, ◌∙◌}
use Rattle.p25_vectors.specs.Bodies.{body_next, link_of}
use Rattle.p25_vectors.proofs.BodiesLaws.{ldu1-drawn, ldu2-drawn}
use Rattle.p25_vectors.proofs.bodies.draw_body.Goals as goal

pub returns-in-Link1-clause-body : goal.returns-in-Link1-clause-body
returns-in-Link1-clause-body c = (ldu1-drawn c.args.draws.now c.octets-in-Link1.new.self c.octets-in-Link1-2.new.self c.draw_voice.new.draws
    (link_of c.octets-in-Link1.result) c.octets-in-Link1-2.result
    c.draw_voice.result (ap link_of c.octets-in-Link1.ensures.octets) c.octets-in-Link1.ensures.state c.octets-in-Link1-2.ensures.octets c.octets-in-Link1-2.ensures.state
    c.draw_voice.ensures.voice c.draw_voice.ensures.state).0 ∙ sym (ap (λ k. (body_next k c.args.draws.now).0) c.in-Link1.is)

pub returns-in-Link1-clause-state : goal.returns-in-Link1-clause-state
returns-in-Link1-clause-state c = (ldu1-drawn c.args.draws.now c.octets-in-Link1.new.self c.octets-in-Link1-2.new.self c.draw_voice.new.draws
    (link_of c.octets-in-Link1.result) c.octets-in-Link1-2.result
    c.draw_voice.result (ap link_of c.octets-in-Link1.ensures.octets) c.octets-in-Link1.ensures.state c.octets-in-Link1-2.ensures.octets c.octets-in-Link1-2.ensures.state
    c.draw_voice.ensures.voice c.draw_voice.ensures.state).1 ∙ sym (ap (λ k. (body_next k c.args.draws.now).1) c.in-Link1.is)

pub returns-in-Link2-clause-body : goal.returns-in-Link2-clause-body
returns-in-Link2-clause-body c = (ldu2-drawn c.args.draws.now c.draw_sync.new.draws c.octets-in-Link2.new.self c.draw_voice-in-Link2.new.draws c.draw_sync.result c.octets-in-Link2.result
    c.draw_voice-in-Link2.result c.draw_sync.ensures.sync c.draw_sync.ensures.state c.octets-in-Link2.ensures.octets c.octets-in-Link2.ensures.state
    c.draw_voice-in-Link2.ensures.voice c.draw_voice-in-Link2.ensures.state).0 ∙ sym (ap (λ k. (body_next k c.args.draws.now).0) c.in-Link2.is)

pub returns-in-Link2-clause-state : goal.returns-in-Link2-clause-state
returns-in-Link2-clause-state c = (ldu2-drawn c.args.draws.now c.draw_sync.new.draws c.octets-in-Link2.new.self c.draw_voice-in-Link2.new.draws c.draw_sync.result c.octets-in-Link2.result
    c.draw_voice-in-Link2.result c.draw_sync.ensures.sync c.draw_sync.ensures.state c.octets-in-Link2.ensures.octets c.octets-in-Link2.ensures.state
    c.draw_voice-in-Link2.ensures.voice c.draw_voice-in-Link2.ensures.state).1 ∙ sym (ap (λ k. (body_next k c.args.draws.now).1) c.in-Link2.is)
