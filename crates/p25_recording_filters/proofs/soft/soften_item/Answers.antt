use Rattle.std.proofs.Common.{rules, ◌≡◌, ◌/◌, ◌%◌, true, false, ap, ap₂, sym, ◌∙◌, arith, List, ℤ}
use Rattle.p25_bits.specs.Bits.{part}
use Rattle.p25_units.specs.Items.{place_of}
use Rattle.p25_soft.specs.Softened.{softened}
use Rattle.p25_recording_filters.specs.Softs.{first_level, is_even_packet}
use Rattle.p25_recording_filters.proofs.SoftItemLaws.{softened-even, softened-uneven}
use Rattle.p25_recording_filters.proofs.soft.soften_item.Goals as goal

pub returns-then-not-is_even_packet-clause-list : goal.returns-then-not-is_even_packet-clause-list
returns-then-not-is_even_packet-clause-list c =
    let uneven : is_even_packet c.args.item.now ≡ false = first_of (cc, search rules, grind arith) in
    sym (softened-uneven c.args.item.now (first_level (place_of c.args.item.now)) c.args.levels.now c.args.raw.now uneven)

pub returns-clause-list : goal.returns-clause-list
returns-clause-list c =
    let item = c.args.item.now in
    let levels = c.args.levels.now in
    let even : is_even_packet item ≡ true = first_of (cc, search rules, grind arith) in
    c.soften.ensures.bits
    ∙ ap (λ (ls : List ℤ). softened item ls c.args.raw.now) (c.part.ensures.list ∙ ap₂ (λ p n. part (p % 8 / 2) (n / 2) levels) c.place.ensures c.covered.ensures.value)
    ∙ sym (softened-even item levels c.args.raw.now even)
