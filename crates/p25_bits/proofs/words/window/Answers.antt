use Rattle.std.proofs.Common.{◌+◌, ◌/◌, ◌%◌, get_or, sym, ◌∙◌, arith}
use Rattle.p25_bits.proofs.WordsLaws.{across_is, part_window}
use Rattle.p25_bits.proofs.words.window.Goals as goal

pub returns : goal.returns
returns c =
    let words = c.args.words.now in
    let at = c.args.at in
    across_is (get_or words (at / 64) 0) (get_or words (at / 64 + 1) 0) (at % 64) (omega arith) (omega (arith, c.type_inv.words)) ∙ sym (part_window words at c.requires)
