use Rattle.std.proofs.Common.{◌-◌, ◌*◌, ap, inl, sym, ◌∙◌}
use Rattle.p25_vectors.specs.Draws.{octets_drawn, state_after}
use Rattle.p25_vectors.proofs.BodiesLaws.{plain-drawn}
use Rattle.p25_vectors.proofs.bodies.draw_plain.Goals as goal

pub new-requires : goal.new-requires
new-requires c = record {
  format = inl c.plain-head.ensures.format;
  count = c.draw_octets-octets.ensures.len ∙ ap (λ n. 12 * n - 4) (c.from.ensures ∙ sym c.plain-head.ensures.blocks);
}

pub returns-clause-packet : goal.returns-clause-packet
returns-clause-packet c = (plain-drawn c.args.draws.now c.draw_blocks-blocks.new.draws c.draw_llid.new.draws c.draw_octets-octets.new.draws c.draw_blocks-blocks.result c.draw_llid.result
    c.plain-head.result c.draw_octets-octets.result c.new.result c.draw_blocks-blocks.ensures.value c.draw_blocks-blocks.ensures.state c.draw_llid.ensures.value
    c.draw_llid.ensures.state c.plain-head.ensures.octets
    (c.draw_octets-octets.ensures.octets ∙ ap (λ n. octets_drawn (12 * n - 4) c.draw_llid.new.draws) c.from.ensures)
    (c.draw_octets-octets.ensures.state ∙ ap (λ n. state_after (12 * n - 4) c.draw_llid.new.draws) c.from.ensures) c.new.ensures).0

pub returns-clause-state : goal.returns-clause-state
returns-clause-state c = (plain-drawn c.args.draws.now c.draw_blocks-blocks.new.draws c.draw_llid.new.draws c.draw_octets-octets.new.draws c.draw_blocks-blocks.result c.draw_llid.result
    c.plain-head.result c.draw_octets-octets.result c.new.result c.draw_blocks-blocks.ensures.value c.draw_blocks-blocks.ensures.state c.draw_llid.ensures.value
    c.draw_llid.ensures.state c.plain-head.ensures.octets
    (c.draw_octets-octets.ensures.octets ∙ ap (λ n. octets_drawn (12 * n - 4) c.draw_llid.new.draws) c.from.ensures)
    (c.draw_octets-octets.ensures.state ∙ ap (λ n. state_after (12 * n - 4) c.draw_llid.new.draws) c.from.ensures) c.new.ensures).1
