use Rattle.std.proofs.Common.{sym, ◌∙◌}
use Rattle.p25_vectors.proofs.BodiesLaws.{confirmed-drawn}
use Rattle.p25_vectors.proofs.bodies.draw_confirmed.Goals as goal

pub new-requires : goal.new-requires
new-requires c = record { format = c.confirmed-head.ensures.format; count = c.draw_slots.ensures.len ∙ sym c.confirmed-head.ensures.blocks }

pub returns-clause-packet : goal.returns-clause-packet
returns-clause-packet c = (confirmed-drawn c.args.draws.now c.draw_blocks-blocks.new.draws c.draw_llid.new.draws c.draw_slots.new.draws c.draw_blocks-blocks.result c.draw_llid.result
    c.confirmed-head.result c.draw_slots.result c.new.result c.draw_blocks-blocks.ensures.value c.draw_blocks-blocks.ensures.state c.draw_llid.ensures.value
    c.draw_llid.ensures.state c.confirmed-head.ensures.octets c.draw_slots.ensures.slots c.draw_slots.ensures.state c.new.ensures).0

pub returns-clause-state : goal.returns-clause-state
returns-clause-state c = (confirmed-drawn c.args.draws.now c.draw_blocks-blocks.new.draws c.draw_llid.new.draws c.draw_slots.new.draws c.draw_blocks-blocks.result c.draw_llid.result
    c.confirmed-head.result c.draw_slots.result c.new.result c.draw_blocks-blocks.ensures.value c.draw_blocks-blocks.ensures.state c.draw_llid.ensures.value
    c.draw_llid.ensures.state c.confirmed-head.ensures.octets c.draw_slots.ensures.slots c.draw_slots.ensures.state c.new.ensures).1
