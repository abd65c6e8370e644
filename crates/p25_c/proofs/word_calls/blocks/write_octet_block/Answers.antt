use Rattle.std.proofs.Common.{◌≡◌, ◌++◌, Bool, List, length, ap, ◌∙◌, arith}
use Rattle.p25_bits.specs.{Bits.{bits_of}, Numbers.{numbers_from}}
use Rattle.p25_trellis.specs.Nearest.{block_from}
use Rattle.p25_c.proofs.BlockSteps.{octets_written}
use Rattle.p25_c.proofs.word_calls.blocks.write_octet_block.Goals as goal

pub returns : goal.returns
returns g c =
    let block = block_from g.R.Rate.BITS_PER_SYMBOL g.R.Rate.point_of c.args.octets.now in
    let sent = c.put_field.new.self in
    let long : length sent ≡ 200 = omega (arith, ap length c.new-block.ensures) in
    let are = c.take_numbers.ensures ∙ ap (λ n. numbers_from 8 n sent) c.requires.bits in
    let held
    = c.put_field.ensures.list ∙ ap (λ (xs : List Bool). xs ++ bits_of 4 0) (c.encode_block.ensures.value ∙ ap (λ (xs : List Bool). xs ++ block) c.new-block.ensures) in
    octets_written c.take_numbers.new.numbers sent long are ∙ held
