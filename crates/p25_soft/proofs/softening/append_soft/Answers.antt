use Rattle.std.proofs.Common.{◌++◌, List, Bool, ℕ, ap, sym, ◌∙◌}
use Rattle.p25_trellis.specs.Nearest.{block_from}
use Rattle.p25_trellis.proofs.PathLaws.{power-pos}
use Rattle.p25_soft.proofs.SoftLaws.{soft_block-is}
use Rattle.p25_soft.proofs.softening.append_soft.Goals as goal

pub returns-clause-list : goal.returns-clause-list
returns-clause-list g c =
    let states = g.R.Rate.STATES in
    let width = g.R.Rate.BITS_PER_SYMBOL in
    let point = g.R.Rate.point_of in
    c.encode_block.ensures.value
    ∙ ap (λ (bits : List Bool). c.args.out.now ++ bits)
    (
    ap (λ (octets : List ℕ). block_from width point octets) c.read_soft.ensures.octets
    ∙ sym (soft_block-is states width point c.args.levels.now g.met.R.Rate.table.states_of_bits (power-pos width states g.met.R.Rate.table.states_of_bits))
    )
