use Rattle.std.proofs.Common.{◌≡◌, ◌*◌, length, ap, sym, ◌∙◌}
use Rattle.p25_bits.proofs.PartLaws.{part_whole}
use Rattle.p25_packet_blocks.specs.Lengths.{packet_sent_length, packet_parts}
use Rattle.p25_soft.specs.Softened.{blocks_replaced, blocks_to_follow}
use Rattle.p25_soft.proofs.SoftenedLaws.{sent_dibit-inside, softened_bare-from, softened_packet-from, softened_packet-kept}
use Rattle.p25_soft.proofs.softening.soften_packet.Goals as goal

pub append_blocks-count-requires-clause-levels : goal.append_blocks-count-requires-clause-levels
append_blocks-count-requires-clause-levels c =
    let n = c.told_blocks-blocks.result in
    sent_dibit-inside n (length c.args.levels.now) (ap packet_sent_length c.told_blocks-blocks.ensures.value ∙ sym c.requires.long ∙ c.requires.levels)

pub returns-clause-bits : goal.returns-clause-bits
returns-clause-bits c =
    let fields = c.args.fields.now in
    let levels = c.args.levels.now in
    let sent = c.args.raw.now in
    let n = c.told_blocks-blocks.result in
    let bare = c.unweave.new.out in
    softened_packet-from fields levels sent _ bare c.append-2.new.self c.weave.new.out c.unweave.new.statuses n
    (part_whole c.len.result sent (sym c.len.ensures.value))
    c.unweave.ensures.bare
    c.unweave.ensures.statuses
    c.told_blocks-blocks.ensures.value
    (softened_bare-from fields levels n c.len-2.result bare c.new-softened.result c.append.new.self c.append_blocks-count.new.out c.append-2.new.self
    c.new-softened.ensures c.append.ensures.list c.append_blocks-count.ensures.list c.len-2.ensures.value c.append-2.ensures.list)
    c.weave.ensures.list

pub returns-clause-kept : goal.returns-clause-kept
returns-clause-kept c =
    λ none.
    let sent = c.args.raw.now in
    let parts = packet_parts (blocks_to_follow sent) in
    let long : length sent ≡ 72 * parts = c.requires.long in
    let replaced = sym (c.append_blocks-count.ensures.count ∙ ap (λ k. blocks_replaced c.args.fields.now k) c.told_blocks-blocks.ensures.value) ∙ none in
    returns-clause-bits c ∙ softened_packet-kept c.args.fields.now c.args.levels.now sent parts long replaced
