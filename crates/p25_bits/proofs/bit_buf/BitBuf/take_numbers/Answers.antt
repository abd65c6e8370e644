use Rattle.std.proofs.Common.{take, drop, ap, ap₂, sym, ◌∙◌}
use Rattle.p25_bits.specs.Numbers.{numbers_from}
use Rattle.p25_bits.proofs.{NumbersLaws.{numbers_from-zero}, bit_buf.BitBuf.take_numbers.Goals.{then-width-eq8, else-width-eq8}}
use Rattle.p25_bits.proofs.bit_buf.BitBuf.take_numbers.Goals as goal

pub take_from-requires-clause-before : goal.take_from-requires-clause-before
take_from-requires-clause-before c =
    let bits = drop c.args.at c.args.self.now in
    elim c.if-width-eq8.branch [
      | then-width-eq8 w ↦
          ap₂ take w.first-is w.numbers-is ∙ w.take_eights-first.ensures.taken ∙ ap₂ (λ width n. numbers_from width n bits) (sym w.if-width-eq8.true) (sym w.first-is)
      | else-width-eq8 w ↦
          ap (λ n. take n c.if-width-eq8.numbers) w.first-is ∙ sym (numbers_from-zero c.args.width bits) ∙ ap (λ n. numbers_from c.args.width n bits) (sym w.first-is)
    ]
