use Rattle.std.proofs.Common.{◌≡◌, [], ◌∷◌, ap, ◌∙◌}
use Rattle.p25_coded_fields.specs.Layouts.{places_from}
use Rattle.p25_packet_blocks.specs.{Heads.{head_blocks}, Whole.{packet_head}, Within.{block_radius}}
use Rattle.p25_vectors.specs.Damage.{body_hits, word_hits}
use Rattle.p25_vectors.proofs.HitsLaws.{damage-both, damage-one}
use Rattle.p25_vectors.proofs.damage.damage_packet.Goals as goal

same_count : (c : goal.After-damage_blocks) → c.from-count.result ≡ head_blocks (packet_head c.args.packet.now)
same_count c = c.from-count.ensures ∙ c.blocks-2.ensures.value ∙ ap head_blocks c.head.ensures

pub returns-clause-damage : goal.returns-clause-damage
unfolding body_hits
returns-clause-damage c =
    let state = c.args.draws.now in
    let header = c.damage_word-header in
    let blocks = c.damage_blocks in
    damage-both (word_hits 196 2 0 (112 ∷ [])) (word_hits 196 (block_radius c.args.packet.now) 0 (places_from 308 196 (head_blocks (packet_head c.args.packet.now))))
    state header.new.draws blocks.new.draws header.result blocks.result c.args.bits.now header.new.bits blocks.new.bits
    (damage-one 112 196 2 state header.new.draws header.result c.args.bits.now header.new.bits header.ensures.list header.ensures.count header.ensures.state)
    (rw (same_count c, c.radius_of.ensures.value) at blocks.ensures.damage)
