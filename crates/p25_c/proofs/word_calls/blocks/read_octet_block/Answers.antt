use Rattle.std.proofs.Common.{◌≡◌, ◌++◌, Bool, List, take, ap, ◌∙◌}
use Rattle.p25_bits.specs.{Bits.{octet_bits}, Numbers.{number_bits}}
use Rattle.p25_bits.proofs.NumbersLaws.{number_bits-octets}
use Rattle.p25_trellis.specs.Nearest.{nearest_distance, nearest_octets}
use Rattle.p25_c.proofs.word_calls.blocks.read_octet_block.Goals as goal

pub returns-clause-octets : goal.returns-clause-octets
returns-clause-octets g c =
    let bits = c.args.bits.now in
    let held : c.put_numbers.new.self ≡ octet_bits bits = c.put_numbers.ensures.list ∙ ap (λ (xs : List Bool). xs ++ number_bits 8 bits) c.new-received.ensures ∙ number_bits-octets bits in
    c.read_block.ensures.octets ∙ ap (λ (xs : List Bool). nearest_octets g.R.Rate.STATES g.R.Rate.BITS_PER_SYMBOL g.R.Rate.point_of (take 196 xs)) held

pub returns-clause-distance : goal.returns-clause-distance
returns-clause-distance g c =
    let bits = c.args.bits.now in
    let held : c.put_numbers.new.self ≡ octet_bits bits = c.put_numbers.ensures.list ∙ ap (λ (xs : List Bool). xs ++ number_bits 8 bits) c.new-received.ensures ∙ number_bits-octets bits in
    c.read_block.ensures.distance ∙ ap (λ (xs : List Bool). nearest_distance g.R.Rate.STATES g.R.Rate.point_of (take 196 xs)) held
